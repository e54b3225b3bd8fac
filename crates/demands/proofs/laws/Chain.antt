-- Checks one after the other: the first that refuses is the answer, and it is the first row that holds of the list (01, Refusal numbers, in order of check).
-- Assumes nothing.
use Rattle.std.specs.Prelude.{ℕ, ◌<◌, ◌≡◌, refl, Bool, true, false, not, List, [], ◌∷◌, ◌++◌, ◌⊎◌, ltb}
use Rattle.std.proofs.Common.{sym, ap, ◌∙◌, subst, true≢false, inl, inr, ltb-true, lt-ltb}
use Rattle.std.proofs.Math.Option.{Option, none, some, some-injective}
use Rattle.grammar.specs.Refusal.{Refusal, refusal, refuse_if, refuse_at, ◌▸◌}
use Rattle.prepare.specs.laws.Loads.{some-none}
use Rattle.demands.specs.Rows.{Row, Over, Missing}
use Rattle.demands.specs.Checks.{Never, FirstRow, NoRow}

pub same-refusal : {r q : Refusal} → some r ≡ some q → r ≡ q
same-refusal {r} {q} e = some-injective r q e

-- ── lists of rows ──
pub first-not-none : (l : List Row) (k p : ℕ) → FirstRow l k p → NoRow l → ⊥
first-not-none [] k p x n = x
first-not-none (R ∷ l) k p (inl x) n = n.0 p x.1
first-not-none (R ∷ l) k p (inr x) n = first-not-none l k p x.1 n.1

none_first : (l : List Row) → ((k p : ℕ) → FirstRow l k p → ⊥) → NoRow l
none_first [] f = tt
none_first (R ∷ l) f =
    let here : Never R = λ p h. f R.number p (inl (refl, h)) in
    (here, none_first l (λ k p x. f k p (inr (here, x))))

front : (l r : List Row) (k p : ℕ) → FirstRow l k p → FirstRow (l ++ r) k p
front [] r k p x = absurd x
front (R ∷ l) r k p (inl x) = inl x
front (R ∷ l) r k p (inr x) = inr (x.0, front l r k p x.1)

behind : (l r : List Row) (k p : ℕ) → NoRow l → FirstRow r k p → FirstRow (l ++ r) k p
behind [] r k p n x = x
behind (R ∷ l) r k p n x = inr (n.0, behind l r k p n.1 x)

parted : (l r : List Row) (k p : ℕ) → FirstRow (l ++ r) k p → FirstRow l k p ⊎ (NoRow l × FirstRow r k p)
parted [] r k p x = inr (tt, x)
parted (R ∷ l) r k p (inl x) = inl (inl x)
parted (R ∷ l) r k p (inr x) = go (parted l r k p x.1)
  where
    go : FirstRow l k p ⊎ (NoRow l × FirstRow r k p) → FirstRow (R ∷ l) k p ⊎ (NoRow (R ∷ l) × FirstRow r k p)
    go (inl y) = inl (inr (x.0, y))
    go (inr y) = inr ((x.0, y.0), y.1)

pub none-of-both : (l r : List Row) → NoRow (l ++ r) → NoRow l × NoRow r
none-of-both [] r n = (tt, n)
none-of-both (R ∷ l) r n = let w = none-of-both l r n.1 in ((n.0, w.0), w.1)

-- ── what an answer tells of a list ──
pub record Tells (l : List Row) (o : Option Refusal) : Type 0 where
  pub says : (r : Refusal) → o ≡ some r → FirstRow l r.number r.place
  pub first : {k p : ℕ} → FirstRow l k p → o ≡ some (refusal k p)

module _ {l : List Row} {o : Option Refusal} (t : Tells l o) where
  pub silent : o ≡ none → NoRow l
  silent e = none_first l (λ k p x. some-none (refusal k p) (sym (t.first x) ∙ e))

  pub accepts : NoRow l → o ≡ none
  accepts n = go o refl
    where
      go : (c : Option Refusal) → o ≡ c → o ≡ none
      go none e = e
      go (some r) e = absurd (first-not-none l r.number r.place (t.says r e) n)

-- a check, and the next ones where it lets through
pub join : {l r : List Row} (a b : Option Refusal) → Tells l a → (a ≡ none → Tells r b) → Tells (l ++ r) (a ▸ b)
join {l} {r} a b t u = go a refl
  where
    by-none : a ≡ none → (x : Tells r b) → Tells (l ++ r) b
    by-none e x = record { says = λ c h. behind l r c.number c.place (silent t e) (x.says c h); first = last }
      where
        later : (k p : ℕ) → FirstRow l k p ⊎ (NoRow l × FirstRow r k p) → b ≡ some (refusal k p)
        later k p (inl y) = absurd (some-none (refusal k p) (sym (t.first y) ∙ e))
        later k p (inr y) = x.first y.1

        last : {k p : ℕ} → FirstRow (l ++ r) k p → b ≡ some (refusal k p)
        last {k} {p} y = later k p (parted l r k p y)

    by-some : (c : Refusal) → a ≡ some c → Tells (l ++ r) (some c)
    by-some c e = record { says = λ d h. front l r d.number d.place (t.says d (e ∙ h)); first = already }
      where
        earlier : (k p : ℕ) → FirstRow l k p ⊎ (NoRow l × FirstRow r k p) → a ≡ some (refusal k p)
        earlier k p (inl y) = t.first y
        earlier k p (inr y) = absurd (some-none c (sym e ∙ accepts t y.0))

        already : {k p : ℕ} → FirstRow (l ++ r) k p → some c ≡ some (refusal k p)
        already {k} {p} y = sym e ∙ earlier k p (parted l r k p y)

    go : (c : Option Refusal) → a ≡ c → Tells (l ++ r) (c ▸ b)
    go none e = by-none e (u e)
    go (some c) e = by-some c e

-- ── one check ──
module _ (R : Row) (o : Option Refusal) where
  pub row-tells : ((r : Refusal) → o ≡ some r → (R.number ≡ r.number) × R.holds r.place) → ((p : ℕ) → R.holds p → o ≡ some (refusal R.number p)) → Tells (R ∷ []) o
  row-tells f g = record { says = λ r e. inl (f r e); first = only }
    where
      only : {k p : ℕ} → FirstRow (R ∷ []) k p → o ≡ some (refusal k p)
      only {k} {p} (inl x) = g p x.1 ∙ ap (λ (i : ℕ). some (refusal i p)) x.0
      only (inr x) = absurd x.1

-- the same row in other words
pub as_row : (number : ℕ) {F G : ℕ → Type 0} {o : Option Refusal} → ((p : ℕ) → F p → G p) → ((p : ℕ) → G p → F p)
    → Tells (record { number = number; holds = F } ∷ []) o → Tells (record { number = number; holds = G } ∷ []) o
as_row number {F} {G} {o} f g t = record { says = λ r e. there (t.says r e); first = λ x. t.first (back x) }
  where
    there : {k p : ℕ} → FirstRow (record { number = number; holds = F } ∷ []) k p → FirstRow (record { number = number; holds = G } ∷ []) k p
    there {p = p} (inl x) = inl (x.0, f p x.1)
    there (inr x) = absurd x.1

    back : {k p : ℕ} → FirstRow (record { number = number; holds = G } ∷ []) k p → FirstRow (record { number = number; holds = F } ∷ []) k p
    back {p = p} (inl x) = inl (x.0, g p x.1)
    back (inr x) = absurd x.1

-- a number over its bound
pub over-told : (number place bound n : ℕ) → Tells (Over number place bound n ∷ []) (refuse_if (ltb bound n) number place)
over-told number place bound n = row-tells (Over number place bound n) (refuse_if (ltb bound n) number place) (λ r e. sound (ltb bound n) refl r e) full
  where
    sound : (b : Bool) → ltb bound n ≡ b → (r : Refusal) → refuse_if b number place ≡ some r → (number ≡ r.number) × ((r.place ≡ place) × (bound < n))
    sound true h r e =
        let z : refusal number place ≡ r = same-refusal e in
        (ap (λ (x : Refusal). x.number) z, (sym (ap (λ (x : Refusal). x.place) z), ltb-true bound n h))
    sound false h r e = absurd (some-none r (sym e))

    full : (p : ℕ) → (p ≡ place) × (bound < n) → refuse_if (ltb bound n) number place ≡ some (refusal number p)
    full p h = ap (λ (b : Bool). refuse_if b number place) (lt-ltb bound n h.1) ∙ ap (λ (i : ℕ). some (refusal number i)) (sym h.0)

-- a place that is found
pub found_at : (number : ℕ) (F : ℕ → Type 0) (o : Option ℕ) → ((p : ℕ) → o ≡ some p → F p) → ((p : ℕ) → F p → o ≡ some p)
    → Tells (record { number = number; holds = F } ∷ []) (refuse_at number o)
found_at number F o f g = row-tells (record { number = number; holds = F }) (refuse_at number o) (λ r e. sound o refl r e) (λ p h. ap (refuse_at number) (g p h))
  where
    sound : (c : Option ℕ) → o ≡ c → (r : Refusal) → refuse_at number c ≡ some r → (number ≡ r.number) × F r.place
    sound none h r e = absurd (some-none r (sym e))
    sound (some p) h r e =
        let z : refusal number p ≡ r = same-refusal e in
        (ap (λ (x : Refusal). x.number) z, subst F (ap (λ (x : Refusal). x.place) z) (f p h))

-- what there is not
pub missing : (number : ℕ) (b : Bool) (A : Type 0) → (b ≡ true → A) → (A → b ≡ true) → Tells (Missing number A ∷ []) (refuse_if (not b) number 0)
missing number b A f g = row-tells (Missing number A) (refuse_if (not b) number 0) (λ r e. sound b refl r e) (λ p h. full b refl p h)
  where
    sound : (c : Bool) → b ≡ c → (r : Refusal) → refuse_if (not c) number 0 ≡ some r → (number ≡ r.number) × ((r.place ≡ 0) × (A → ⊥))
    sound true h r e = absurd (some-none r (sym e))
    sound false h r e =
        let z : refusal number 0 ≡ r = same-refusal e in
        (ap (λ (x : Refusal). x.number) z, (sym (ap (λ (x : Refusal). x.place) z), λ a. true≢false (sym (g a) ∙ h)))

    full : (c : Bool) → b ≡ c → (p : ℕ) → (p ≡ 0) × (A → ⊥) → refuse_if (not c) number 0 ≡ some (refusal number p)
    full true e p h = absurd (h.1 (f e))
    full false e p h = ap (λ (i : ℕ). some (refusal number i)) (sym h.0)
