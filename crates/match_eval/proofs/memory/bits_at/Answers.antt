use mathlib.Core.Path.{ap, ◌∙◌}
use Prim.Native.Nat.{ℕ, ◌+◌, ◌*◌, ◌/◌, ◌^◌}
use lib.Bits.{and_mask}
use Rattle.base_words.specs.Set.{bit}
use Rattle.match_eval.proofs.laws.Said.{two-bits}
use Rattle.match_eval.proofs.memory.bits_at.Goals as goal

pub returns : goal.returns
returns c = and_mask (c.word.result / 2 ^ c.args.k) 2 ∙ two-bits c.word.result c.args.k ∙ ap
    (λ (u : ℕ). bit u c.args.k + 2 * bit u (c.args.k + 1)) c.word.ensures.0
