-- The tasks that wait behind an expression and on the levels above, by the words of the desk. Assumes nothing: these are definitions.
use Rattle.std.specs.Prelude.{ℕ, zero, suc, ◌+◌, ◌-◌, ◌*◌, cond, List, [], ◌∷◌, ◌++◌, eqb}
use Rattle.match_desk.specs.steps.Desk.{return_of, parent_of, kind_of, left_part, right_part}
use Rattle.match_walks.specs.steps.Tasks.{Task, walk, again}

-- behind part x of an expression of this kind over y and z: of a sequence the right part behind the left one, of rounds a further one
unfoldable pub rest_by : ℕ → ℕ → ℕ → ℕ → ℕ → List Task
rest_by zero d x y z = []
rest_by (suc zero) d x y z = []
rest_by (suc (suc zero)) d x y z = cond (eqb x y) (walk z d ∷ []) []
rest_by (suc (suc (suc zero))) d x y z = []
rest_by (suc (suc (suc (suc zero)))) d x y z = []
rest_by (suc (suc (suc (suc (suc zero))))) d x y z = again x d ∷ []
rest_by (suc (suc (suc (suc (suc (suc zero)))))) d x y z = again x d ∷ []
rest_by (suc (suc (suc (suc (suc (suc (suc k))))))) d x y z = []

abbrev pub rest : List ℕ → ℕ → ℕ → ℕ → List Task
rest t d x e = rest_by (kind_of t e) d x (left_part t e) (right_part t e)

abbrev pub if_some : ℕ → (ℕ → List Task) → List Task
if_some zero f = []
if_some (suc e) f = f (suc e)

-- behind x on its level, up to the body: a parent's number is greater, so that so many steps are enough
unfoldable pub going_in : ℕ → List ℕ → List ℕ → ℕ → ℕ → List Task
going_in zero t k d x = []
going_in (suc f) t k d x = if_some (parent_of k x) (λ e. rest t d x e ++ going_in f t k d e)

abbrev pub going : List ℕ → List ℕ → ℕ → ℕ → List Task
going t k d x = going_in 1025 t k d x

-- on the levels above
unfoldable pub waiting : List ℕ → List ℕ → ℕ → List Task
waiting t k zero = []
waiting t k (suc d) = going t k d (return_of k d) ++ waiting t k d

-- a pass that is over (0), or that stands on level d at expression x, which is done (1) or to be walked
abbrev pub tasks_of : List ℕ → List ℕ → ℕ → ℕ → ℕ → List Task
tasks_of t k zero d x = []
tasks_of t k (suc zero) d x = going t k d x ++ waiting t k d
tasks_of t k (suc (suc m)) d x = walk x d ∷ (going t k d x ++ waiting t k d)

-- how often a pass can go up before it walks again
unfoldable pub climb : ℕ → ℕ → ℕ → ℕ
climb zero d x = 0
climb (suc zero) d x = d * 2048 + (2047 - x) + 1
climb (suc (suc m)) d x = 0
