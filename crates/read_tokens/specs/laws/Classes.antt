-- A class has 256 marks, also a bad one. Assumes nothing.
use Rattle.std.specs.Prelude.{ℕ, suc, ◌≡◌, Bool, true, false, List, [], ◌∷◌, eqb, length, replicate, drop}
use Rattle.std.proofs.lemmas.List.{length-replicate}
use Rattle.read_tokens.specs.declared.Mode.{Mode}
use Rattle.read_tokens.specs.declared.Mode.TheVariants.{Lake, Plain}
use Rattle.read_tokens.specs.Chars.{Range, Body, shut, broken, listed, body}
use Rattle.read_tokens.specs.Tokens.{among, turned, some_true, class_marks, class_token, class_by, bracket}
use Rattle.read_tokens.specs.laws.Marks.{table-length}
use Rattle.read_tokens.specs.steps.Code.{class_is, class_at}

pub marks-length : (c : Bool) (rs : List Range) → length (class_marks c rs) ≡ 256
unfolding class_marks
marks-length c rs = table-length (λ b. turned c (among b rs)) 0 256

none-length : length {A = Bool} (replicate 256 false) ≡ 256
none-length = length-replicate 256 false

marked-256 : (x : Bool) (l : List Bool) (i e : ℕ) → length l ≡ 256 → length (class_is (class_token x l i e)).marks ≡ 256
marked-256 true l i e h = h
marked-256 false l i e h = none-length

class-256 : (c : Bool) (i : ℕ) (o : Body) → length (class_is (class_by c i o)).marks ≡ 256
unfolding class_by
class-256 c i broken = none-length
class-256 c i (shut [] e) = none-length
class-256 c i (shut (r ∷ rs) e) = marked-256 (some_true (class_marks c (r ∷ rs))) (class_marks c (r ∷ rs)) i e (marks-length c (r ∷ rs))

bracket-256 : (m : Mode) (i : ℕ) (l : List ℕ) → length (class_is (bracket m i l)).marks ≡ 256
unfolding bracket
bracket-256 Plain i [] = none-length
bracket-256 Lake i [] = none-length
bracket-256 Plain i (b ∷ l) = class-256 false i (body 93 listed 0 (suc i) (b ∷ l))
bracket-256 Lake i (b ∷ l) = by (eqb b 94)
  where
    by : (x : Bool) → length (class_is (elim x [ true ↦ class_by true i (body 93 listed 0 (suc (suc i)) l) | false ↦ class_by false i (body 93 listed 0 (suc i) (b ∷ l)) ])).marks ≡ 256
    by true = class-256 true i (body 93 listed 0 (suc (suc i)) l)
    by false = class-256 false i (body 93 listed 0 (suc i) (b ∷ l))

pub at-256 : (m : Mode) (s : List ℕ) (at : ℕ) → length (class_at m s at).marks ≡ 256
unfolding class_at
at-256 m s at = bracket-256 m at (drop (suc at) s)
