-- A run moved: its parts are those of the same expression at the other place. Assumes nothing.
use Rattle.std.specs.Prelude.{ℕ, zero, suc, ◌+◌, ◌-◌, ◌*◌, ◌≤◌, ◌<◌, ◌≡◌, ◌⊎◌, List, [], ◌∷◌, ◌++◌, map, length, get_or}
use Rattle.std.proofs.Math.Path.{refl}
use Rattle.std.proofs.Common.{sym, ap, ap₂, ◌∙◌, subst, inl, inr, ⊎_elim, arith, length-append, add-one}
use Rattle.std.proofs.lemmas.List.{length-map}
use Rattle.std.proofs.Math.ListN.{get_or-map}
use Rattle.read_tokens.specs.Token.{Leaf}
use Rattle.grammar.specs.Exp.{Exp, sym as uses, ter, seq, alt, opt, star, plus, ahead, never, size}
use Rattle.grammar.specs.Parts.{Part, terminal, occurs, sequence, choice, option, repeat, repeat1, affirms, denies, last, parts_of}
use Rattle.grammar_table.specs.Table.{part_by, part_in, table_words}
use Rattle.grammar_table.specs.laws.Parts.{size-pos, parts-long}
use Rattle.lake_step_one.specs.steps.Runs.{renamed, moved, shift, Near, Above, nil, PartsRun, Grew, CopiedOne}
use Rattle.lake_step_one.proofs.laws.Stores.{grew_none, grew-two, grew-as}
use Rattle.grammar_table.specs.Table.{up_to}
use Rattle.grammar_table.specs.laws.Places.{is-up_to}

map-append : (f : Part → Part) (xs ys : List Part) → map f (xs ++ ys) ≡ map f xs ++ map f ys
map-append f [] ys = refl
map-append f (x ∷ xs) ys = ap (λ (l : List Part). f x ∷ l) (map-append f xs ys)

two-map : (f : Part → Part) (xs ys us vs : List Part) (p q : Part) → map f xs ≡ us → map f ys ≡ vs → f p ≡ q → map f (xs ++ (ys ++ (p ∷ []))) ≡ us ++ (vs ++ (q ∷ []))
two-map f xs ys us vs p q a b c =
    map-append f xs (ys ++ (p ∷ [])) ∙ ap₂ ◌++◌ a (map-append f ys (p ∷ []) ∙ ap₂ (λ (l : List Part) (y : Part). l ++ (y ∷ [])) b c)

one_map : (f : Part → Part) (xs us : List Part) (p q : Part) → map f xs ≡ us → f p ≡ q → map f (xs ++ (p ∷ [])) ≡ us ++ (q ∷ [])
one_map f xs us p q a c = map-append f xs (p ∷ []) ∙ ap₂ (λ (l : List Part) (y : Part). l ++ (y ∷ [])) a c

-- w numbers from i on become those from j on
abbrev pub Moves : (ℕ → ℕ) → ℕ → ℕ → ℕ → Type 0
Moves to i j w = (k : ℕ) → k < w → to (i + k) ≡ j + k

module _ (to : ℕ → ℕ) where
  fewer : (i j w v : ℕ) → v ≤ w → Moves to i j w → Moves to i j v
  fewer i j w v l h k q = h k (omega arith)

  later : (i j w u v : ℕ) → u + v ≤ w → Moves to i j w → Moves to (i + u) (j + u) v
  later i j w u v l h k q = ap to (let z : i + u + k ≡ i + (u + k) = omega arith in z) ∙ h (u + k) (omega arith) ∙ (let z : j + (u + k) ≡ j + u + k = omega arith in z)

  pub last-moves : (e : Exp ℕ) (i j : ℕ) → Moves to i j (size e) → to (last i e) ≡ last j e
  last-moves e i j h =
      ap to (let z : i + size e - 1 ≡ i + (size e - 1) = omega (arith, size-pos e) in z) ∙ h (size e - 1) (omega (arith, size-pos e))
      ∙ (let z : j + (size e - 1) ≡ j + size e - 1 = omega (arith, size-pos e) in z)

  pub run-renamed : (t : Leaf → ℕ) (e : Exp ℕ) (i j : ℕ) → Moves to i j (size e) → map (renamed to) (parts_of t i e) ≡ parts_of t j e
  unfolding parts_of size
  run-renamed t (uses s) i j h = refl
  run-renamed t (ter y) i j h = refl
  run-renamed t (seq a b) i j h =
      let ha : Moves to i j (size a) = fewer i j (suc (size a + size b)) (size a) (omega arith) h in
      let hb : Moves to (i + size a) (j + size a) (size b) = later i j (suc (size a + size b)) (size a) (size b) (omega arith) h in
      two-map (renamed to) (parts_of t i a) (parts_of t (i + size a) b) (parts_of t j a) (parts_of t (j + size a) b) (sequence (last i a) (last (i + size a) b)) (sequence (last j a) (last (j + size a) b))
      (run-renamed t a i j ha) (run-renamed t b (i + size a) (j + size a) hb) (ap₂ sequence (last-moves a i j ha) (last-moves b (i + size a) (j + size a) hb))
  run-renamed t (alt a b) i j h =
      let ha : Moves to i j (size a) = fewer i j (suc (size a + size b)) (size a) (omega arith) h in
      let hb : Moves to (i + size a) (j + size a) (size b) = later i j (suc (size a + size b)) (size a) (size b) (omega arith) h in
      two-map (renamed to) (parts_of t i a) (parts_of t (i + size a) b) (parts_of t j a) (parts_of t (j + size a) b) (choice (last i a) (last (i + size a) b)) (choice (last j a) (last (j + size a) b))
      (run-renamed t a i j ha) (run-renamed t b (i + size a) (j + size a) hb) (ap₂ choice (last-moves a i j ha) (last-moves b (i + size a) (j + size a) hb))
  run-renamed t (opt a) i j h =
      let ha : Moves to i j (size a) = fewer i j (suc (size a)) (size a) (omega arith) h in
      one_map (renamed to) (parts_of t i a) (parts_of t j a) (option (last i a)) (option (last j a)) (run-renamed t a i j ha) (ap option (last-moves a i j ha))
  run-renamed t (star a) i j h =
      let ha : Moves to i j (size a) = fewer i j (suc (size a)) (size a) (omega arith) h in
      one_map (renamed to) (parts_of t i a) (parts_of t j a) (repeat (last i a)) (repeat (last j a)) (run-renamed t a i j ha) (ap repeat (last-moves a i j ha))
  run-renamed t (plus a) i j h =
      let ha : Moves to i j (size a) = fewer i j (suc (size a)) (size a) (omega arith) h in
      one_map (renamed to) (parts_of t i a) (parts_of t j a) (repeat1 (last i a)) (repeat1 (last j a)) (run-renamed t a i j ha) (ap repeat1 (last-moves a i j ha))
  run-renamed t (ahead a) i j h =
      let ha : Moves to i j (size a) = fewer i j (suc (size a)) (size a) (omega arith) h in
      one_map (renamed to) (parts_of t i a) (parts_of t j a) (affirms (last i a)) (affirms (last j a)) (run-renamed t a i j ha) (ap affirms (last-moves a i j ha))
  run-renamed t (never a) i j h =
      let ha : Moves to i j (size a) = fewer i j (suc (size a)) (size a) (omega arith) h in
      one_map (renamed to) (parts_of t i a) (parts_of t j a) (denies (last i a)) (denies (last j a)) (run-renamed t a i j ha) (ap denies (last-moves a i j ha))

shifted : (t : Leaf → ℕ) (o m : ℕ) (e : Exp ℕ) (i j : ℕ) → i + m ≡ j + o → o ≤ i → map (shift o m) (parts_of t i e) ≡ parts_of t j e
shifted t o m e i j h l = run-renamed (moved o m) t e i j (λ k q. omega arith)

-- each lies above the run's begin
abbrev AboveAll : ℕ → List Part → Type 0
AboveAll o [] = Unit {0}
AboveAll o (p ∷ ps) = Above o p × AboveAll o ps

above-both : (o : ℕ) (ps qs : List Part) → AboveAll o ps → AboveAll o qs → AboveAll o (ps ++ qs)
above-both o [] qs p q = q
above-both o (x ∷ ps) qs p q = (p.0, above-both o ps qs p.1 q)

above_at : (o : ℕ) (ps : List Part) → AboveAll o ps → (j : ℕ) → j < length ps → Above o (get_or ps j nil)
above_at o [] h j l = let z : ⊥ = omega arith in absurd z
above_at o (p ∷ ps) h zero l = h.0
above_at o (p ∷ ps) h (suc j) l = above_at o ps h.1 j (omega arith)

module _ (t : Leaf → ℕ) (o : ℕ) where
  near : (a : Exp ℕ) (i : ℕ) → o ≤ i → i + size a ≤ 1024 → Near o (last i a)
  near a i l h = (omega (arith, size-pos a), omega (arith, size-pos a))

  above : (e : Exp ℕ) (i : ℕ) → o ≤ i → i + size e ≤ 1024 → AboveAll o (parts_of t i e)
  unfolding parts_of size
  above (uses s) i l h = (tt, tt)
  above (ter y) i l h = (tt, tt)
  above (seq a b) i l h =
      above-both o (parts_of t i a) (parts_of t (i + size a) b ++ (sequence (last i a) (last (i + size a) b) ∷ [])) (above a i l (omega arith))
      (above-both o (parts_of t (i + size a) b) (sequence (last i a) (last (i + size a) b) ∷ []) (above b (i + size a) (omega arith) (omega arith))
      ((near a i l (omega arith), near b (i + size a) (omega arith) (omega arith)), tt))
  above (alt a b) i l h =
      above-both o (parts_of t i a) (parts_of t (i + size a) b ++ (choice (last i a) (last (i + size a) b) ∷ [])) (above a i l (omega arith))
      (above-both o (parts_of t (i + size a) b) (choice (last i a) (last (i + size a) b) ∷ []) (above b (i + size a) (omega arith) (omega arith))
      ((near a i l (omega arith), near b (i + size a) (omega arith) (omega arith)), tt))
  above (opt a) i l h = above-both o (parts_of t i a) (option (last i a) ∷ []) (above a i l (omega arith)) (near a i l (omega arith), tt)
  above (star a) i l h = above-both o (parts_of t i a) (repeat (last i a) ∷ []) (above a i l (omega arith)) (near a i l (omega arith), tt)
  above (plus a) i l h = above-both o (parts_of t i a) (repeat1 (last i a) ∷ []) (above a i l (omega arith)) (near a i l (omega arith), tt)
  above (ahead a) i l h = above-both o (parts_of t i a) (affirms (last i a) ∷ []) (above a i l (omega arith)) (near a i l (omega arith), tt)
  above (never a) i l h = above-both o (parts_of t i a) (denies (last i a) ∷ []) (above a i l (omega arith)) (near a i l (omega arith), tt)

-- what a run's record is, and what it is at m
module _ (number : Leaf → ℕ) (t : List ℕ) (a m : ℕ) (e : Exp ℕ) (h : PartsRun number t a e) where
  pub run-above : (j : ℕ) → j < size e → Above a (part_in t (a + j))
  run-above j l =
      let q : j < length (parts_of number a e) = rw (parts-long number e a) l in
      rw (h.1 j q) (above_at a (parts_of number a e) (above number a e a (omega arith) h.0) j q)

  pub run-shift : (j : ℕ) → j < size e → shift a m (part_in t (a + j)) ≡ get_or (parts_of number m e) j nil
  run-shift j l =
      ap (shift a m) (h.1 j (rw (parts-long number e a) l)) ∙ sym (get_or-map (shift a m) (parts_of number a e) j nil)
      ∙ ap (λ (ps : List Part). get_or ps j nil) (shifted number a m e a m (omega arith) (omega arith))

-- the words of a record moved
pub shift-below : (o m k l r : ℕ) → k < 2 → part_by k l r ≡ shift o m (part_by k l r)
unfolding part_by
shift-below o m zero l r h = refl
shift-below o m (suc zero) l r h = refl
shift-below o m (suc (suc k)) l r h = let z : ⊥ = omega arith in absurd z

pub shift-part : (o m k l r u v : ℕ) → 2 ≤ k → Above o (part_by k l r) → (Near o l → u ≡ moved o m l) → (Near o r → v ≡ moved o m r) → part_by k u v ≡ shift o m (part_by k l r)
unfolding part_by
shift-part o m zero l r u v h a p q = let z : ⊥ = omega arith in absurd z
shift-part o m (suc zero) l r u v h a p q = let z : ⊥ = omega arith in absurd z
shift-part o m (suc (suc zero)) l r u v h a p q = ap₂ sequence (p a.0) (q a.1)
shift-part o m (suc (suc (suc zero))) l r u v h a p q = ap₂ choice (p a.0) (q a.1)
shift-part o m (suc (suc (suc (suc zero)))) l r u v h a p q = ap option (p a)
shift-part o m (suc (suc (suc (suc (suc zero))))) l r u v h a p q = ap repeat (p a)
shift-part o m (suc (suc (suc (suc (suc (suc zero)))))) l r u v h a p q = ap repeat1 (p a)
shift-part o m (suc (suc (suc (suc (suc (suc (suc zero))))))) l r u v h a p q = ap affirms (p a)
shift-part o m (suc (suc (suc (suc (suc (suc (suc (suc k)))))))) l r u v h a p q = ap denies (p a)

-- ---- a run copied record by record
abbrev pub front : (Leaf → ℕ) → ℕ → Exp ℕ → ℕ → List Part
front number m e j = up_to (λ i. get_or (parts_of number m e) i nil) j

pub front-none : (number : Leaf → ℕ) (m : ℕ) (e : Exp ℕ) (mid : List ℕ) → Grew mid m (front number m e 0) mid (m + 0)
unfolding up_to
front-none number m e mid = grew-as (grew_none mid m) refl (let q : m ≡ m + 0 = omega arith in q)

front-next : (number : Leaf → ℕ) (m : ℕ) (e : Exp ℕ) (j : ℕ) → front number m e j ++ (get_or (parts_of number m e) j nil ∷ []) ≡ front number m e (j + 1)
unfolding up_to
front-next number m e j = ap (up_to (λ i. get_or (parts_of number m e) i nil)) (sym (add-one j))

pub front-all : (number : Leaf → ℕ) (m : ℕ) (e : Exp ℕ) → front number m e (size e) ≡ parts_of number m e
front-all number m e = sym (is-up_to nil (λ i. get_or (parts_of number m e) i nil) (parts_of number m e) (size e) (parts-long number e m) (λ i l. refl))

pub run_more : (number : Leaf → ℕ) (t mid b c : List ℕ) (a m : ℕ) (e : Exp ℕ) (j : ℕ) → j < size e → length b ≡ table_words → PartsRun number t a e
    → CopiedOne t (a + j) a b (m + j) m c → Grew mid m (front number m e j) b (m + j) → Grew mid m (front number m e (j + 1)) c (m + (j + 1))
run_more number t mid b c a m e j l w h one g =
    grew-as (grew-two mid b c m (m + j) (m + j + 1) (front number m e j) (shift a m (part_in t (a + j)) ∷ []) g (one w (omega arith) (run-above number t a m e h j l)))
    (ap (λ (p : Part). front number m e j ++ (p ∷ [])) (run-shift number t a m e h j l) ∙ front-next number m e j) (omega arith)
