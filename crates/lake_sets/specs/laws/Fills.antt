-- What the loops over lent runs keep. Assumes nothing.
use Rattle.std.specs.Prelude.{ℕ, zero, suc, ◌+◌, ◌≤◌, ◌<◌, ◌≡◌, refl, ◌⊎◌, Bool, true, false, List, [], ◌∷◌, ◌++◌, length, get_or, set, replicate}
use Rattle.std.proofs.Common.{sym, ap, ap₂, ◌∙◌, subst, inl, inr, ⊎_elim, arith, ext_get_or, get_or-set_same, get_or-set_other, add-one}
use Rattle.std.proofs.lemmas.List.{length-replicate, get_or-replicate}
use Rattle.std.proofs.Math.ListN.{get_or-eq_default}
use Rattle.base_facts.specs.laws.Numbers.{lt-or-ge, same?}
use Rattle.base_words.specs.Set.{empty}
use Rattle.grammar_table.specs.Table.{part_in, up_to}
use Rattle.lake_rules.specs.Beginning.{Beginning, nothing, begin, marked, begin_by, beginnings}
use Rattle.lake_sets.specs.steps.Steps.{pair_at, Tame, Small, Begun, begins_in, mark_next, marks_in}
use Rattle.lake_rules.specs.laws.Begins.{begin-agree, begins-rule, begins-long}
use Rattle.lake_sets.specs.laws.Begins.{small}

pub is-replicate : {A : Type 0} (d a : A) (l : List A) (n : ℕ) → length l ≡ n → ((i : ℕ) → i < n → get_or l i d ≡ a) → l ≡ replicate n a
is-replicate d a l n e h =
    ext_get_or d l (replicate n a) (e ∙ sym (length-replicate n a))
    (λ i p. let q : i < n = omega arith in h i q ∙ sym (get_or-replicate n i a d q))

module _ (t : List ℕ) (ms : List Bool) (n : ℕ) where
  -- one more expression
  pub begun_more : (e : ℕ) (sets : List (List ℕ)) (eps : List Bool) (sets' : List (List ℕ)) (eps' : List Bool) → e < n → length sets ≡ n → length eps ≡ n
      → Begun t ms e sets eps sets' eps' → (r x : ℕ) → Tame t n r x → ((j : ℕ) → j < e → pair_at sets eps j ≡ get_or (begins_in t ms n) j nothing)
      → (j : ℕ) → j < e + 1 → pair_at sets' eps' j ≡ get_or (begins_in t ms n) j nothing
  begun_more e sets eps sets' eps' p q w b r x h old j l =
      let ok = h.parts e p in
      let here : begin_by (marked ms) (pair_at sets eps) (part_in t e) ≡ get_or (begins_in t ms n) e nothing
      = begin-agree (marked ms) r x e (pair_at sets eps) (λ i. get_or (begins_in t ms n) i nothing) old (part_in t e) ok
      ∙ sym (begins-rule (marked ms) (part_in t) r x n e p ok) in
      let ss : sets' ≡ set sets e (begin_by (marked ms) (pair_at sets eps) (part_in t e)).set = b.set_is (small r x e h.symbols h.terminals (part_in t e) ok) in
      ⊎_elim
      (λ s. subst (λ (i : ℕ). pair_at sets' eps' i ≡ get_or (begins_in t ms n) i nothing) (sym s)
      (ap₂ begin
      (ap (λ (y : List (List ℕ)). get_or y e empty) ss ∙ get_or-set_same sets e (begin_by (marked ms) (pair_at sets eps) (part_in t e)).set empty (omega arith))
      (ap (λ (y : List Bool). get_or y e false) b.eps-is ∙ get_or-set_same eps e (begin_by (marked ms) (pair_at sets eps) (part_in t e)).eps false (omega arith))
      ∙ here))
      (λ s. ap₂ begin
      (ap (λ (y : List (List ℕ)). get_or y j empty) ss ∙ get_or-set_other sets e j (begin_by (marked ms) (pair_at sets eps) (part_in t e)).set empty s)
      (ap (λ (y : List Bool). get_or y j false) b.eps-is ∙ get_or-set_other eps e j (begin_by (marked ms) (pair_at sets eps) (part_in t e)).eps false s)
      ∙ old j (let s' : j ≡ e → ⊥ = s in omega arith))
      (same? j e)

  -- all of them; past the end nothing on both sides
  pub begun-done : (sets : List (List ℕ)) (eps : List Bool) → length sets ≡ n → length eps ≡ n
      → ((j : ℕ) → j < n → pair_at sets eps j ≡ get_or (begins_in t ms n) j nothing) → (i : ℕ) → pair_at sets eps i ≡ get_or (begins_in t ms n) i nothing
  begun-done sets eps p q h i =
      ⊎_elim (λ l. h i l)
      (λ l. ap₂ begin (get_or-eq_default sets empty {n = i} (omega arith)) (get_or-eq_default eps false {n = i} (omega arith))
      ∙ sym (get_or-eq_default (begins_in t ms n) nothing {n = i} (let e : length (begins_in t ms n) ≡ n = begins-long (marked ms) (part_in t) n in omega arith)))
      (lt-or-ge i n)

-- one more round of the marks
pub marks-next : (t : List ℕ) (n m r k : ℕ) (ms : List Bool) → m ≡ n → ms ≡ marks_in t n r k → mark_next t m ms ≡ marks_in t n r (k + 1)
marks-next t n m r k ms e h = rw (e, h, add-one)
