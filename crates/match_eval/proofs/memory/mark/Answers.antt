use native.Mathlib.Omega.{arith}
use native.Mathlib.Nat.{zero-mul}
use mathlib.Core.Path.{◌≡◌, sym, ap, ◌∙◌}
use mathlib.Core.List.{List}
use Prim.Native.Nat.{ℕ, ◌*◌, ◌%◌, ◌^◌, ◌<◌}
use lib.ListN.{get_or, set}
use lib.Dec.{lit<}
use lib.Seq.{set_out, set-get_or}
use lib.Pow.{shl_exact}
use lib.Bits.{bit_or, or_zero_r}
use Rattle.match_eval.proofs.memory.mark.Goals as goal
use Rattle.match_eval.proofs.memory.mark.Goals.{else-d-ne0-via-then-d-ne0+else-i-mem, else-d-ne0-via-else-d-ne0}

-- `1 << k` does not wrap below 32
one_bit : (d k : ℕ) → k < 32 → d ≡ 1 → (1 * 2 ^ k) % 2 ^ 32 ≡ d * 2 ^ k
one_bit d k l e = shl_exact 1 k 32 (lit< tt) (omega arith) ∙ ap (λ (u : ℕ). u * 2 ^ k) (sym e)

no-bit : (mem : List ℕ) (i d k : ℕ) → d ≡ 0 → set mem i (bit_or (get_or mem i 0) (d * 2 ^ k)) ≡ mem
no-bit mem i d k e =
    ap (λ (u : ℕ). set mem i (bit_or (get_or mem i 0) u)) (ap (λ (u : ℕ). u * 2 ^ k) e ∙ zero-mul (2 ^ k)) ∙ ap (set mem i) (or_zero_r (get_or mem i 0)) ∙ set-get_or mem i 0

pub returns-then-i-mem : goal.returns-then-i-mem
returns-then-i-mem c = ap (λ (u : ℕ). set c.args.mem.now c.args.i
    (bit_or (get_or c.args.mem.now c.args.i 0) u))
    (one_bit c.args.d c.args.k c.requires.0
    (omega (arith, c.if-d-ne0.true, c.requires.1)))

pub returns-else-d-ne0 : goal.returns-else-d-ne0
returns-else-d-ne0 c =
    elim c.else-d-ne0.branch [
      | else-d-ne0-via-then-d-ne0+else-i-mem w ↦
          sym (set_out c.args.mem.now c.args.i (bit_or (get_or c.args.mem.now c.args.i 0) (c.args.d * 2 ^ c.args.k)) (omega arith))
      | else-d-ne0-via-else-d-ne0 w ↦ sym (no-bit c.args.mem.now c.args.i c.args.d c.args.k (omega arith))
    ]
