use Prim.Native.Nat.{ℕ, zero, suc, ◌+◌, ◌*◌, ◌<◌}
use mathlib.Core.Path.{◌≡◌, refl, ap, ◌∙◌}
use mathlib.Core.Bool.{Bool, not}
use native.Mathlib.Omega.{arith}
use lib.Dec.{eqb}
use lib.ListN.{get_or}
use mir.Val.{bool_byte}
use borrow.Author.Tests.{ne_eqb}
use Rattle.read_syntax.specs.steps.Numbers.{next_of, deep}
use Rattle.read_syntax.proofs.laws.Automaton.{next_le}
use Rattle.read_syntax.proofs.syntax.next.Goals as goal

open_is : (d : ℕ) → bool_byte (not (eqb d 0)) ≡ deep d
open_is zero = refl
open_is (suc d) = ap (λ (b : Bool). bool_byte (not b)) (ne_eqb (suc d) 0 (λ z. omega arith))

deep-small : (d : ℕ) → deep d < 2
deep-small zero = omega arith
deep-small (suc d) = omega arith

pub returns-else-n-eq-DEAD : goal.returns-else-n-eq-DEAD
returns-else-n-eq-DEAD c =
    let z : c.from-open.result ≡ deep c.args.d = c.from-open.ensures ∙ open_is c.args.d in
    let i : (c.from-open.result * 7 + c.from.result) * 9 + c.from-2.result ≡ (deep c.args.d * 7 + c.args.c) * 9 + c.args.k = omega (arith, z, c.from.ensures, c.from-2.ensures) in
    let e : get_or c.args.moves.now ((c.from-open.result * 7 + c.from.result) * 9 + c.from-2.result) 0 ≡ next_of c.args.c (deep c.args.d) c.args.k =
    ap (λ (n : ℕ). get_or c.args.moves.now n 0) i ∙ c.requires.2 (deep c.args.d) c.args.c c.args.k (deep-small c.args.d) c.requires.0 c.requires.1
    in
    (e, omega (arith, e, next_le c.args.c (deep c.args.d) c.args.k, c.if-n-eq-DEAD.false))
