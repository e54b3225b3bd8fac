-- Refusal 7 from the counts that steps 1 and 2 answer (01: "translation over 1,024 expressions"). Assumes nothing.
use Rattle.std.specs.Prelude.{ℕ, suc, ◌≤◌, ◌<◌, min, ◌≡◌, refl, Bool, true, false, List, length, ltb}
use Rattle.std.proofs.Common.{sym, ap, ◌∙◌, arith, lt-ltb, le-ltb}
use Rattle.std.proofs.Math.Option.{Option, none, some}
use Rattle.read_tokens.specs.Bounds.{plain_bound}
use Rattle.grammar.specs.Exp.{Exp}
use Rattle.grammar.specs.Numbers.{Grammar}
use Rattle.grammar.specs.Refusal.{refusal}
use Rattle.grammar_table.specs.Holds.{present}
use Rattle.lake_step_one.specs.Intermediate.{intermediate}
use Rattle.lake_rules.specs.Analysis.{Analysis}
use Rattle.grammar_table.specs.laws.Parts.{total}
use Rattle.lake_plain.specs.Plain.{sizes, plain_bodies, too_large}
use Rattle.lake_step_two.proofs.laws.Bodies.{sizes-total, plain-larger}

module _ (bodies : List (Exp ℕ)) (k : ℕ) (count : k ≡ min 1025 (total bodies)) where
  pub refused : 1024 < k → too_large bodies ≡ some (refusal 7 1025)
  unfolding plain_bound
  refused h = rw (lt-ltb 1024 (sizes bodies) (omega (arith, count, sizes-total bodies)))

  pub let_through : k ≤ 1024 → (too_large bodies ≡ none) × (total bodies ≤ 1024)
  unfolding plain_bound
  let_through h = (rw (le-ltb 1024 (sizes bodies) (omega (arith, count, sizes-total bodies))), omega (arith, count))

-- where step 1 is too large already
pub refused-early : (g : Grammar) (a : Analysis) (k : ℕ) → length g.names ≡ length (intermediate g) → k ≡ min 1025 (total (present (intermediate g))) → 1024 < k → too_large (plain_bodies g a) ≡
    some (refusal 7 1025)
unfolding plain_bound
refused-early g a k long count h = rw (lt-ltb 1024 (sizes (plain_bodies g a)) (omega (arith, count, sizes-total (plain_bodies g a), plain-larger g a long)))
