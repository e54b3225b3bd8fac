-- One round more of the ε marks. Assumes nothing.
use Rattle.std.specs.Prelude.{ℕ, ◌+◌, ◌≤◌, ◌<◌, ◌≡◌, refl, Bool, false, List, length, get_or, replicate}
use Rattle.std.proofs.Common.{sym, ap, ◌∙◌, subst, add-one}
use Rattle.base_rounds.specs.Rounds.{iter}
use Rattle.lake_calls.specs.steps.Marks.{empty_round, SoundIn, Round, After}

pub round-more : (t : List ℕ) (n m k : ℕ) (ms next out : List Bool) → m ≡ n → Round t m ms next → out ≡ next → After t n k ms → After t n (k + 1) out
round-more t n m k ms next out e a o h number r x l s =
    o ∙ (subst (λ (j : ℕ). Round t j ms next) e a).are number r x l s
    ∙ ap (empty_round t n) (h number r x l s) ∙ ap (iter (empty_round t n) (replicate n false)) (sym (add-one k))
