-- Marks by place: turned one after the other, all are turned; looked at one after the other, one is set or none. Assumes nothing.
use Rattle.std.specs.Prelude.{ℕ, zero, suc, ◌+◌, ◌≤◌, ◌<◌, ◌≡◌, refl, Bool, true, false, not, ◌||◌, List, [], ◌∷◌, ◌++◌, ◌⊎◌, length, get_or, set}
use Rattle.std.proofs.Common.{sym, ap, ◌∙◌, append_assoc, inl, inr, arith, eq-or-lt_of_le, length-append}
use Rattle.std.proofs.Math.Seq.{get_or-append_seam, set-append_seam}
use Rattle.read_tokens.specs.laws.Marks.{turn_all}
use Rattle.read_tokens.specs.Tokens.{some_true}

-- n marks from i on
unfoldable pub turn_from : ℕ → ℕ → List Bool → List Bool
turn_from i zero l = l
turn_from i (suc n) l = turn_from (suc i) n (set l i (not (get_or l i false)))

behind : (p l : List Bool) (n : ℕ) → length p ≡ n → turn_from n (length l) (p ++ l) ≡ p ++ turn_all l
unfolding turn_from turn_all
behind p [] n e = refl
behind p (x ∷ l) n e =
    ap (λ (k : ℕ). turn_from (suc n) (length l) (set (p ++ x ∷ l) k (not (get_or (p ++ x ∷ l) k false)))) (sym e)
    ∙ ap (λ (y : Bool). turn_from (suc n) (length l) (set (p ++ x ∷ l) (length p) (not y))) (get_or-append_seam p x l false)
    ∙ ap (λ (y : List Bool). turn_from (suc n) (length l) y) (set-append_seam p x l (not x) ∙ sym (append_assoc p (not x ∷ []) l))
    ∙ behind (p ++ (not x ∷ [])) l (suc n) (omega (arith, length-append p (not x ∷ [])))
    ∙ append_assoc p (not x ∷ []) (turn_all l)

pub turns : (l : List Bool) → turn_from 0 (length l) l ≡ turn_all l
turns l = behind [] l 0 refl

-- whether one of n marks from i on is set
unfoldable pub some_from : ℕ → ℕ → List Bool → Bool
some_from i zero l = false
some_from i (suc n) l = get_or l i false || some_from (suc i) n l

some-behind : (p l : List Bool) (n : ℕ) → length p ≡ n → some_from n (length l) (p ++ l) ≡ some_true l
unfolding some_from some_true
some-behind p [] n e = refl
some-behind p (x ∷ l) n e =
    ap (λ (k : ℕ). get_or (p ++ x ∷ l) k false || some_from (suc n) (length l) (p ++ x ∷ l)) (sym e)
    ∙ ap (λ (y : Bool). y || some_from (suc n) (length l) (p ++ x ∷ l)) (get_or-append_seam p x l false)
    ∙ ap (λ (y : List Bool). x || some_from (suc n) (length l) y) (sym (append_assoc p (x ∷ []) l))
    ∙ ap (λ (y : Bool). x || y) (some-behind (p ++ (x ∷ [])) l (suc n) (omega (arith, length-append p (x ∷ []))))

pub somes : (l : List Bool) → some_from 0 (length l) l ≡ some_true l
somes l = some-behind [] l 0 refl

-- a mark that is set among them
or-true : (x : Bool) → (x || true) ≡ true
or-true true = refl
or-true false = refl

pub some_at : (n i h : ℕ) (l : List Bool) → i ≤ h → h < i + n → get_or l h false ≡ true → some_from i n l ≡ true
unfolding some_from
some_at zero i h l a b e = absurd (omega arith)
some_at (suc n) i h l a b e = go (eq-or-lt_of_le a) (λ g. some_at n (suc i) h l (omega arith) (omega arith) e)
  where
    go : (i ≡ h) ⊎ (i < h) → (i < h → some_from (suc i) n l ≡ true) → (get_or l i false || some_from (suc i) n l) ≡ true
    go (inl g) f = ap (λ (y : Bool). y || some_from (suc i) n l) (ap (λ (k : ℕ). get_or l k false) g ∙ e)
    go (inr g) f = ap (λ (y : Bool). get_or l i false || y) (f g) ∙ or-true (get_or l i false)
