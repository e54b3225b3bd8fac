-- What a match, the lake question and the writing calls answer where the first row of their list is found, with all lent memory untouched, and what is known
-- where none is (01, Refusal numbers: "A refusal that is checked no later than 10 leaves all lent memory untouched"). Assumes nothing.
use Rattle.std.specs.Prelude.{ℕ, ◌≤◌, ◌≡◌, not, ◌&&◌, List, length, ltb}
use Rattle.std.proofs.Math.Path.{refl, ap}
use Rattle.std.proofs.Math.Option.{Option, none, some}
use Rattle.std.proofs.Math.Dec.{leb}
use Rattle.std.proofs.Common.{ltb-false}
use Rattle.read_tokens.specs.declared.Mode.{Mode}
use Rattle.read_tokens.specs.Bounds.{input_bound}
use Rattle.grammar.specs.Refusal.{Refusal, refusal, refuse_if, ◌▸◌}
use Rattle.prepare.specs.Prepare.{prepared, refuses}
use Rattle.prepare.specs.laws.Reads.{split}
use Rattle.gurkenmond.specs.Answers.{refused as OutcomeRefused}
use Rattle.gurkenmond.specs.laws.Verdicts.{if_none}
use Rattle.gurkenmond.specs.Calls.{cells_needed, refuses_input, matching, match_after, match_of, is_lake_at, lake_answer, lake_after, lake_of}
use Rattle.demands.specs.Checks.{FirstRow, NoRow, input_checks, lake_checks}
use Rattle.demands.proofs.laws.Chain.{accepts}
use Rattle.demands.proofs.laws.Refusals.{input-chain, lake-chain}

module _ (m : Mode) (t s cs : List ℕ) where
  -- ── match: 1 to 10 ──
  pub match-refused : (ws : List ℕ) {k p : ℕ} → FirstRow (input_checks m t s cs) k p → match_of m t s cs ws ≡ matching 0 (OutcomeRefused k p) cs ws
  unfolding match_of
  match-refused ws f = ap (λ (o : Option Refusal). match_after o (prepared m t) s cs ws) ((input-chain m t s cs).first f)

  -- no row to 10: what the laws of a match ask for
  pub match-passes : NoRow (input_checks m t s cs) → (refuses m t ≡ none) × (length s ≤ input_bound) × (cells_needed (prepared m t) s ≤ length cs)
  match-passes f =
      let w = split (refuses m t) (refuses_input (prepared m t) s cs) (accepts (input-chain m t s cs) f) in
      let need : ℕ = cells_needed (prepared m t) s in
      let v = split (refuse_if (ltb input_bound (length s)) 9 input_bound) (refuse_if (ltb (length cs) need) 10 need) w.1 in
      (w.0, ltb-false input_bound (length s) (if_none (ltb input_bound (length s)) 9 input_bound v.0), ltb-false (length cs) need (if_none (ltb (length cs) need) 10 need v.1))

  -- ── the lake question ──
  pub lake-refused : (l q : ℕ) {k p : ℕ} → FirstRow (lake_checks m t s cs l q) k p → lake_of m t s cs l q ≡ lake_answer 0 (some (refusal k p)) cs
  unfolding lake_of
  lake-refused l q f = ap (λ (o : Option Refusal). lake_after o (prepared m t) s cs l q) ((lake-chain m t s cs l q).first f)

  pub lake-verdict : (l q : ℕ)
      → (lake_of m t s cs l q).verdict ≡ (refuses m t ▸ (refuses_input (prepared m t) s cs ▸ refuse_if (not (is_lake_at (prepared m t) l && leb q (length s))) 14 0))
  unfolding lake_of
  lake-verdict l q = by-check (refuses m t ▸ (refuses_input (prepared m t) s cs ▸ refuse_if (not (is_lake_at (prepared m t) l && leb q (length s))) 14 0))
    where
      by-check : (o : Option Refusal) → (lake_after o (prepared m t) s cs l q).verdict ≡ o
      by-check none = refl
      by-check (some r) = refl
