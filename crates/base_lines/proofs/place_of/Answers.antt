use Rattle.std.proofs.Common.{arith, rules, ◌≡◌, ℕ, suc, ◌≤◌, min, length, List, take}
use Rattle.std.proofs.lemmas.List.{get_or-take, length-take}
use Rattle.base_lines.specs.laws.Counting.{counting-begins, counting-small, counting-goes-on, counting-ends}
use Rattle.base_lines.proofs.place_of.Goals as goal

long : (s : List ℕ) (p m : ℕ) → m ≡ min p (length s) → length (take m s) ≡ min p (length s)
long s p m e = omega (arith, e, length-take m s)

pub loop-byte-init : goal.loop-byte-init
loop-byte-init c = counting-begins _ _ _ (long _ _ _ c.min.ensures)

pub behind-at-requires : goal.behind-at-requires
behind-at-requires c =
    let small : (c.loop-byte.at.line ≤ suc c.loop-byte.byte-index) × (c.loop-byte.at.column ≤ suc c.loop-byte.byte-index) =
    counting-small _ _ _ _ c.loop-byte.invariant in
    search rules

pub loop-byte-preserved : goal.loop-byte-preserved
loop-byte-preserved c =
    counting-goes-on _ _ _ _ c.loop-byte.invariant _ _
    (get_or-take c.min.result c.args.text.now c.loop-byte.byte-index 0 (omega (arith, c.loop-byte-test.true, length-take c.min.result c.args.text.now)))
    c.behind-at.ensures c.loop-byte-test.true

pub returns : goal.returns
returns c = counting-ends _ _ _ _ c.loop-byte.invariant _ (long _ _ _ c.min.ensures) c.loop-byte-test.false
