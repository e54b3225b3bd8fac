-- What was put and what is answered, one beside the other. Assumes nothing.
use Rattle.std.specs.Prelude.{ℕ, ◌≡◌, true, false, List, Result, Ok, Err, MatchResult}
use Rattle.write_text.specs.steps.Texts.{Paged}
use Rattle.write_put.specs.declared.Written.{Written}
use Rattle.write_put.specs.steps.Puts.{answer_by, Put}

pub was_put : {w old new : List ℕ} {a : Written} (r : Result ℕ ℕ) → MatchResult r (λ n. Paged w old new n true) (λ n. Paged w old new n false)
    → MatchResult r (λ n. a ≡ answer_by true n) (λ n. a ≡ answer_by false n) → Put w old new a
was_put (Ok n) p a = record { bytes = n; fits = true; paged = p; answer = a }
was_put (Err n) p a = record { bytes = n; fits = false; paged = p; answer = a }
