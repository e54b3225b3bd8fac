-- A literal of a table against a text, as code compares them. Assumes nothing.
use Rattle.std.specs.Prelude.{ℕ, zero, suc, ◌+◌, ◌-◌, ◌≤◌, ◌<◌, ◌≡◌, refl, true, false, List, ◌∷◌, length, get_or}
use Rattle.std.proofs.Common.{sym, ap, ◌∙◌, arith}
use Rattle.grammar_table.specs.Table.{words_from}
use Rattle.grammar_table.specs.laws.Leaves.{words_more}
use Rattle.match_eval.specs.Eval.{stands}
use Rattle.match_eval.proofs.laws.EvalSteps.{stands-ends, stands-differs, stands-more}

module _ (s t : List ℕ) (q i k : ℕ) (more : 0 < k) where
  at_words : stands s q (words_from t i k) ≡ stands s q (get_or t i 0 ∷ words_from t (i + 1) (k - 1))
  at_words = ap (stands s q) (words_more t i k more)

  pub lit-ends : length s ≤ q → false ≡ stands s q (words_from t i k)
  lit-ends h = stands-ends s q (get_or t i 0) (words_from t (i + 1) (k - 1)) h ∙ sym at_words

  pub lit-differs : (b c : ℕ) → q < length s → b ≡ get_or s q 0 → c ≡ get_or t i 0 → (b ≡ c → ⊥) → false ≡ stands s q (words_from t i k)
  lit-differs b c h x y f = stands-differs s q (get_or t i 0) (words_from t (i + 1) (k - 1)) h (λ z. f (x ∙ z ∙ sym y)) ∙ sym at_words

  pub lit-goes : (b c : ℕ) → q < length s → b ≡ get_or s q 0 → c ≡ get_or t i 0 → b ≡ c → stands s (q + 1) (words_from t (i + 1) (k - 1)) ≡ stands s q (words_from t i k)
  lit-goes b c h x y f = stands-more s q (get_or t i 0) (words_from t (i + 1) (k - 1)) h (sym x ∙ f ∙ y) ∙ sym at_words

pub lit-done : (s t : List ℕ) (q i k : ℕ) → k ≤ 0 → true ≡ stands s q (words_from t i k)
unfolding stands words_from
lit-done s t q i zero h = refl
lit-done s t q i (suc k) h = absurd (omega arith)
