use mathlib.Core.List.{[]}
use mathlib.Core.Path.{◌≡◌}
use mathlib.Core.List.{List, ◌∷◌}
use mathlib.Core.Bool.{Bool}
use Prim.Native.Nat.{ℕ, ◌+◌, ◌*◌, ◌<◌}
use lib.Dec.{eqb, eqb→eq}
use lib.ListN.{get_or}
use Rattle.read_syntax.specs.Machine.{step, after, close, new_rule}
use Rattle.read_tokens.specs.laws.All.{all, all-at}
use Rattle.read_syntax.specs.steps.Numbers.{next_of, code, state_of, tok_of}
use Rattle.read_syntax.proofs.syntax.laid_moves.Goals as goal

table : List ℕ
table = 1 ∷ 7 ∷ 7 ∷ 7 ∷ 7 ∷ 7 ∷ 7 ∷ 7 ∷ 7 ∷ 7 ∷ 7 ∷ 7 ∷ 7 ∷ 2 ∷ 7 ∷ 7 ∷ 7 ∷ 7 ∷ 4 ∷ 4 ∷ 3 ∷ 7 ∷ 7 ∷ 7 ∷ 2 ∷ 7 ∷ 7 ∷ 4 ∷ 4 ∷ 7 ∷ 7 ∷ 7 ∷ 7 ∷ 2 ∷ 7 ∷ 7 ∷ 6 ∷ 4 ∷ 3 ∷ 5 ∷ 7 ∷ 2 ∷ 2 ∷
    7 ∷ 7 ∷ 6 ∷ 4 ∷ 3 ∷ 7 ∷ 7 ∷ 2 ∷ 2 ∷ 7 ∷ 7 ∷ 6 ∷ 4 ∷ 3 ∷ 5 ∷ 2 ∷ 2 ∷ 2 ∷ 7 ∷ 7 ∷ 1 ∷ 7 ∷ 7 ∷ 7 ∷ 7 ∷ 7 ∷ 7 ∷ 7 ∷ 7 ∷ 7 ∷ 7 ∷ 7 ∷ 7 ∷ 2 ∷ 7 ∷ 7 ∷ 7 ∷ 7 ∷ 4 ∷ 4 ∷ 3 ∷ 7 ∷ 7 ∷ 7 ∷
    2 ∷ 7 ∷ 7 ∷ 4 ∷ 4 ∷ 7 ∷ 7 ∷ 7 ∷ 7 ∷ 2 ∷ 7 ∷ 7 ∷ 6 ∷ 4 ∷ 3 ∷ 5 ∷ 7 ∷ 2 ∷ 2 ∷ 4 ∷ 7 ∷ 6 ∷ 4 ∷ 3 ∷ 7 ∷ 7 ∷ 2 ∷ 2 ∷ 4 ∷ 7 ∷ 6 ∷ 4 ∷ 3 ∷ 5 ∷ 7 ∷ 2 ∷ 2 ∷ 4 ∷ 7 ∷ []

cell : ℕ → ℕ → ℕ → Bool
cell z c k = eqb (get_or table ((z * 7 + c) * 9 + k) 0) (next_of c z k)

right : (z c k : ℕ) → z < 2 → c < 7 → k < 9 → get_or table ((z * 7 + c) * 9 + k) 0 ≡ next_of c z k
unfolding table cell next_of code state_of tok_of step after close new_rule
right z c k a b d =
    eqb→eq (get_or table ((z * 7 + c) * 9 + k) 0) (next_of c z k)
    (all-at 9 (λ k. cell z c k) (all-at 7 (λ c. all 9 (λ k. cell z c k)) (all-at 2 (λ z. all 7 (λ c. all 9 (λ k. cell z c k))) tt z a) c b) k d)

pub returns : goal.returns
unfolding table
returns c = right
