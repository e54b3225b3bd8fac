-- A class as code reads it: 256 marks, all false, set range by range, complemented for a leading caret. The same marks as the definition's. Assumes nothing.
use Rattle.std.specs.Prelude.{ℕ, zero, suc, ◌+◌, ◌-◌, ◌≤◌, ◌<◌, ◌≡◌, refl, Bool, true, false, not, ◌&&◌, ◌||◌, ◌⊎◌, List, [], ◌∷◌, leb, length, get_or, set, replicate}
use Rattle.std.proofs.Common.{sym, ap, ◌∙◌, inl, inr, arith, zero-add, eq-or-lt_of_le, length-set, leb-true, leb-false, get_or-set_same, get_or-set_other, ext_get_or}
use Rattle.std.proofs.Math.Bool.{or-false}
use Rattle.std.proofs.lemmas.List.{length-replicate, get_or-replicate}
use Rattle.base_facts.specs.laws.Bools.{or_turn}
use Rattle.read_tokens.specs.Chars.{Range}
use Rattle.read_tokens.specs.Tokens.{within, among, table, class_marks}

-- n marks from lo on
unfoldable pub paint : ℕ → ℕ → List Bool → List Bool
paint lo zero l = l
paint lo (suc n) l = paint (suc lo) n (set l lo true)

unfoldable pub paint_all : List Range → List Bool → List Bool
paint_all [] l = l
paint_all (r ∷ rs) l = paint_all rs (paint r.lo (suc r.hi - r.lo) l)

unfoldable pub turn_all : List Bool → List Bool
turn_all [] = []
turn_all (x ∷ l) = not x ∷ turn_all l

pub paint-length : (lo n : ℕ) (l : List Bool) → length (paint lo n l) ≡ length l
unfolding paint
paint-length lo zero l = refl
paint-length lo (suc n) l = paint-length (suc lo) n (set l lo true) ∙ length-set l lo true

paint-out : (lo n : ℕ) (l : List Bool) (b : ℕ) → (b < lo) ⊎ (lo + n ≤ b) → get_or (paint lo n l) b false ≡ get_or l b false
unfolding paint
paint-out lo zero l b h = refl
paint-out lo (suc n) l b (inl h) = paint-out (suc lo) n (set l lo true) b (inl (omega arith)) ∙ get_or-set_other l lo b true false (omega arith)
paint-out lo (suc n) l b (inr h) = paint-out (suc lo) n (set l lo true) b (inr (omega arith)) ∙ get_or-set_other l lo b true false (omega arith)

paint-in : (lo n : ℕ) (l : List Bool) (b : ℕ) → lo ≤ b → b < lo + n → b < length l → get_or (paint lo n l) b false ≡ true
unfolding paint
paint-in lo zero l b h k s = absurd (omega arith)
paint-in lo (suc n) l b h k s = go (eq-or-lt_of_le h) (λ i. paint-in (suc lo) n (set l lo true) b i (omega arith) (rw (length-set l lo true) s))
  where
    go : (lo ≡ b) ⊎ (lo < b) → (lo < b → get_or (paint (suc lo) n (set l lo true)) b false ≡ true) → get_or (paint (suc lo) n (set l lo true)) b false ≡ true
    go (inl e) r =
        paint-out (suc lo) n (set l lo true) b (inl (omega arith)) ∙ ap (λ (x : ℕ). get_or (set l lo true) x false) (sym e) ∙ get_or-set_same l lo true false (omega arith)
    go (inr i) r = r i

pub paints-length : (rs : List Range) (l : List Bool) → length (paint_all rs l) ≡ length l
unfolding paint_all
paints-length [] l = refl
paints-length (r ∷ rs) l = paints-length rs (paint r.lo (suc r.hi - r.lo) l) ∙ paint-length r.lo (suc r.hi - r.lo) l

-- one range, for every byte in reach; nothing is asked of the range
paint-at : (r : Range) (l : List Bool) (b : ℕ) → b < length l → get_or (paint r.lo (suc r.hi - r.lo) l) b false ≡ (within b r || get_or l b false)
paint-at r l b s = go (leb r.lo b) (leb b r.hi) refl refl
  where
    go : (x y : Bool) → leb r.lo b ≡ x → leb b r.hi ≡ y → get_or (paint r.lo (suc r.hi - r.lo) l) b false ≡ ((x && y) || get_or l b false)
    go true true e f = paint-in r.lo (suc r.hi - r.lo) l b (leb-true r.lo b e) (omega (arith, leb-true r.lo b e, leb-true b r.hi f)) s
    go false y e f = paint-out r.lo (suc r.hi - r.lo) l b (inl (leb-false r.lo b e))
    go true false e f = paint-out r.lo (suc r.hi - r.lo) l b (inr (omega (arith, leb-true r.lo b e, leb-false b r.hi f)))

paints-at : (rs : List Range) (l : List Bool) (b : ℕ) → b < length l → get_or (paint_all rs l) b false ≡ (among b rs || get_or l b false)
unfolding paint_all among
paints-at [] l b s = refl
paints-at (r ∷ rs) l b s =
    paints-at rs (paint r.lo (suc r.hi - r.lo) l) b (rw (paint-length r.lo (suc r.hi - r.lo) l) s)
    ∙ ap (λ (x : Bool). among b rs || x) (paint-at r l b s)
    ∙ or_turn (among b rs) (within b r) (get_or l b false)

pub table_at : (f : ℕ → Bool) (i n k : ℕ) → k < n → get_or (table f i n) k false ≡ f (i + k)
unfolding table
table_at f i zero k h = absurd (omega arith)
table_at f i (suc n) zero h = ap f (omega arith)
table_at f i (suc n) (suc k) h = table_at f (suc i) n k (omega arith) ∙ ap f (omega arith)

pub table-length : (f : ℕ → Bool) (i n : ℕ) → length (table f i n) ≡ n
unfolding table
table-length f i zero = refl
table-length f i (suc n) = ap suc (table-length f (suc i) n)

pub painted : (rs : List Range) → paint_all rs (replicate 256 false) ≡ class_marks false rs
unfolding class_marks
painted rs =
    ext_get_or false _ _ (paints-length rs (replicate 256 false) ∙ length-replicate 256 false ∙ sym (table-length (λ b. among b rs) 0 256))
    (λ i h.
    let k : i < 256 = omega (arith, h, paints-length rs (replicate 256 false), length-replicate 256 false) in
    paints-at rs (replicate 256 false) i (omega (arith, length-replicate 256 false))
    ∙ ap (λ (x : Bool). among i rs || x) (get_or-replicate 256 i false false k)
    ∙ or-false (among i rs)
    ∙ sym (table_at (λ b. among b rs) 0 256 i k ∙ ap (λ (x : ℕ). among x rs) (zero-add i)))

turn-table : (f : ℕ → Bool) (i n : ℕ) → turn_all (table f i n) ≡ table (λ b. not (f b)) i n
unfolding turn_all table
turn-table f i zero = refl
turn-table f i (suc n) = ap (λ (l : List Bool). not (f i) ∷ l) (turn-table f (suc i) n)

pub painted-turned : (rs : List Range) → turn_all (paint_all rs (replicate 256 false)) ≡ class_marks true rs
unfolding class_marks
painted-turned rs = ap turn_all (painted rs) ∙ turn-table (λ b. among b rs) 0 256
