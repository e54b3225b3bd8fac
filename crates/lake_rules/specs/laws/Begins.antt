-- BEGINNING of all expressions, parts before wholes, solves its rules. Assumes nothing.
use Prim.Native.Nat.{ℕ, zero, suc, ◌≤◌, ◌<◌}
use Rattle.std.specs.Prelude.{◌≡◌, Bool, true, ◌&&◌, ◌||◌}
use Rattle.std.proofs.Math.Path.{refl, ap}
use Rattle.std.proofs.Common.{sym, ap₂, ◌∙◌, ⊎_elim, arith}
use mathlib.Core.List.{List, [], ◌∷◌, ◌++◌}
use Rattle.std.proofs.Math.ListN.{length, get_or, length-append, get_or-append}
use Rattle.std.proofs.lemmas.List.{get_or_at}
use Rattle.base_facts.specs.laws.Numbers.{lt-or-ge}
use Rattle.grammar.specs.Parts.{Part, terminal, occurs, sequence, choice, option, repeat, repeat1, affirms, denies}
use Rattle.grammar_table.specs.Table.{up_to}
use Rattle.lake_rules.specs.Beginning.{Beginning, begin, nothing, begin_sequence, begin_choice, begin_by, beginnings_from, beginnings}
use Rattle.lake_rules.specs.laws.Wholes.{Ok}

-- the expressions' sets do not hang on the marks of the symbols
pub set-any : (m k : ℕ → Bool) (at : ℕ → Beginning) (p : Part) → (begin_by m at p).set ≡ (begin_by k at p).set
set-any m k at (terminal t) = refl
set-any m k at (occurs r) = refl
set-any m k at (sequence a b) = refl
set-any m k at (choice a b) = refl
set-any m k at (option a) = refl
set-any m k at (repeat a) = refl
set-any m k at (repeat1 a) = refl
set-any m k at (affirms a) = refl
set-any m k at (denies a) = refl

-- nor a mark on the sets
pub eps-any : (m : ℕ → Bool) (at to : ℕ → Beginning) → ((i : ℕ) → (at i).eps ≡ (to i).eps) → (p : Part) → (begin_by m at p).eps ≡ (begin_by m to p).eps
eps-any m at to h (terminal t) = refl
eps-any m at to h (occurs r) = refl
eps-any m at to h (sequence a b) = ap₂ ◌&&◌ (h a) (h b)
eps-any m at to h (choice a b) = ap₂ ◌||◌ (h a) (h b)
eps-any m at to h (option a) = refl
eps-any m at to h (repeat a) = refl
eps-any m at to h (repeat1 a) = h a
eps-any m at to h (affirms a) = refl
eps-any m at to h (denies a) = refl

module _ (m : ℕ → Bool) where
  -- only the parts' count
  pub begin-agree : (r x i : ℕ) (at to : ℕ → Beginning) → ((j : ℕ) → j < i → at j ≡ to j) → (p : Part) → Ok r x i p → begin_by m at p ≡ begin_by m to p
  begin-agree r x i at to h (terminal y) k = refl
  begin-agree r x i at to h (occurs s) k = refl
  begin-agree r x i at to h (sequence a b) k = ap₂ begin_sequence (h a k.0) (h b k.1)
  begin-agree r x i at to h (choice a b) k = ap₂ begin_choice (h a k.0) (h b k.1)
  begin-agree r x i at to h (option a) k = ap (λ (z : Beginning). begin z.set true) (h a k)
  begin-agree r x i at to h (repeat a) k = ap (λ (z : Beginning). begin z.set true) (h a k)
  begin-agree r x i at to h (repeat1 a) k = h a k
  begin-agree r x i at to h (affirms a) k = refl
  begin-agree r x i at to h (denies a) k = refl

  begins-more : (done : List Beginning) (ps : List Part) (p : Part)
      → beginnings_from m done (ps ++ (p ∷ [])) ≡ beginnings_from m done ps ++ (begin_by m (λ i. get_or (beginnings_from m done ps) i nothing) p ∷ [])
  unfolding beginnings_from
  begins-more done [] p = refl
  begins-more done (q ∷ ps) p = begins-more (done ++ (begin_by m (λ i. get_or done i nothing) q ∷ [])) ps p

  module _ (f : ℕ → Part) where
    abbrev pub up_begins : ℕ → List Beginning
    up_begins n = beginnings m (up_to f n)

    pub begins-next : (n : ℕ) → up_begins (suc n) ≡ up_begins n ++ (begin_by m (λ i. get_or (up_begins n) i nothing) (f n) ∷ [])
    unfolding beginnings up_to
    begins-next n = begins-more [] (up_to f n) (f n)

    pub begins-long : (n : ℕ) → length (up_begins n) ≡ n
    unfolding beginnings beginnings_from up_to
    begins-long zero = refl
    begins-long (suc n) = ap length (begins-next n) ∙ length-append (up_begins n) (begin_by m (λ i. get_or (up_begins n) i nothing) (f n) ∷ []) ∙ (let h : length (up_begins n) ≡ n = begins-long n in omega arith)

    -- what is there stays
    pub begins-keep : (k n i : ℕ) → k ≤ n → i < k → get_or (up_begins n) i nothing ≡ get_or (up_begins k) i nothing
    begins-keep k zero i h l = let z : ⊥ = omega arith in absurd z
    begins-keep k (suc n) i h l =
        ⊎_elim
        (λ p. ap (λ (b : List Beginning). get_or b i nothing) (begins-next n)
        ∙ get_or-append (up_begins n) (begin_by m (λ j. get_or (up_begins n) j nothing) (f n) ∷ []) nothing i (let e : length (up_begins n) ≡ n = begins-long n in omega arith)
        ∙ begins-keep k n i (omega arith) l)
        (λ p. let q : suc n ≡ k = omega arith in ap (λ (j : ℕ). get_or (up_begins j) i nothing) q)
        (lt-or-ge k (suc n))

    -- each expression's is what its rule says of its parts'
    pub begins-rule : (r x n i : ℕ) → i < n → Ok r x i (f i) → get_or (up_begins n) i nothing ≡ begin_by m (λ j. get_or (up_begins n) j nothing) (f i)
    begins-rule r x n i h ok =
        begins-keep (suc i) n i h (omega arith)
        ∙ ap (λ (b : List Beginning). get_or b i nothing) (begins-next i)
        ∙ get_or_at (up_begins i) (begin_by m (λ j. get_or (up_begins i) j nothing) (f i)) [] nothing i (begins-long i)
        ∙ begin-agree r x i (λ j. get_or (up_begins i) j nothing) (λ j. get_or (up_begins n) j nothing) (λ j p. sym (begins-keep i n j (omega arith) p)) (f i) ok
