-- A symbol's name in a text, both ways. Names need no escape and differ, so no other name with the quote behind it can stand there.
-- Assumes nothing.
use Prim.Native.Nat.{ℕ, zero, suc, ◌+◌, ◌≤◌, ◌<◌}
use Rattle.std.specs.Prelude.{◌≡◌, Bool, true, false, List, [], ◌∷◌, ◌++◌, leb, length, drop}
use Rattle.std.proofs.Math.Path.{refl}
use Rattle.std.proofs.Common.{sym, subst, ◌∙◌, append_assoc, arith, leb-true, leb-false}
use Rattle.read_tokens.specs.Token.{Symbol}
use Rattle.write_rules.specs.Writing.{symbol_text}
use Rattle.tree_json.specs.Json.{quote}
use Rattle.tree_json.specs.Reading.{ate, Took, took, named_at, Quoteless, Plainly}
use Rattle.tree_json.proofs.laws.Places.{Stands, Ate, ate-only, ate-back}

-- ── what was read is a name ──
pub name-only : (f : ℕ → Symbol) (c r : ℕ) (js : List ℕ) (at : ℕ) → (named_at f c r js at).place ≤ length js
    → Ate (symbol_text (f (named_at f c r js at).value) ++ quote) js at (named_at f c r js at).place
unfolding named_at
name-only f zero r js at h = absurd (omega arith)
name-only f (suc c) r js at h = go (leb a (length js)) (name-only f c (suc r) js at) h
  where
    a : ℕ
    a = ate (symbol_text (f r) ++ quote) js at

    by : Bool → Took
    by x = elim x [ true ↦ took r a | false ↦ named_at f c (suc r) js at ]

    Read : Took → Type 0
    Read t = t.place ≤ length js → Ate (symbol_text (f t.value) ++ quote) js at t.place

    go : (x : Bool) → Read (named_at f c (suc r) js at) → Read (by x)
    go true k h = ate-only (symbol_text (f r) ++ quote) js at h
    go false k h = k h

-- ── a name that stands there is read ──
quote-first : (w v y z : List ℕ) → Quoteless w → Quoteless v → w ++ (34 ∷ y) ≡ v ++ (34 ∷ z) → w ≡ v
quote-first [] [] y z p q e = refl
quote-first [] (c ∷ v) y z p q e = absurd (q.0 (cc))
quote-first (b ∷ w) [] y z p q e = absurd (p.0 (cc))
quote-first (b ∷ w) (c ∷ v) y z p q e =
    let h : b ≡ c = cc in
    let t : w ++ (34 ∷ y) ≡ v ++ (34 ∷ z) = cc in
    rw (h, quote-first w v y z p.1 q.1 t)

-- symbol r was read, and z stands behind it
pub record Found (js : List ℕ) (r : ℕ) (z : List ℕ) (t : Took) : Type 0 where
  pub number : t.value ≡ r
  pub behind : Stands js t.place z

module _ (f : ℕ → Symbol) (R : ℕ) (g : Plainly f R) (js : List ℕ) (at : ℕ) where
  one_name : (r r' : ℕ) (y z : List ℕ) → r < R → r' < R → drop at js ≡ (symbol_text (f r) ++ quote) ++ y → drop at js ≡ symbol_text (f r') ++ (quote ++ z) → r ≡ r'
  one_name r r' y z l l' e e' =
      g.differ r r' l l'
      (quote-first (symbol_text (f r)) (symbol_text (f r')) y z (g.quoteless r l) (g.quoteless r' l') (sym (append_assoc (symbol_text (f r)) quote y) ∙ sym e ∙ e'))

  pub name_back : (c r r' : ℕ) (z : List ℕ) → r ≤ r' → r' < r + c → r + c ≤ R → Stands js at (symbol_text (f r') ++ (quote ++ z)) → Found js r' z (named_at f c r js at)
  unfolding named_at
  name_back zero r r' z l m n t = absurd (omega arith)
  name_back (suc c) r r' z l m n t = go (leb a (length js)) refl (name_back c (suc r) r' z)
    where
      a : ℕ
      a = ate (symbol_text (f r) ++ quote) js at

      -- where it is this one
      this : r ≡ r' → Stands js a z
      this e =
          let u : Stands js at (symbol_text (f r) ++ (quote ++ z)) = subst (λ (i : ℕ). Stands js at (symbol_text (f i) ++ (quote ++ z))) (sym e) t in
          ate-back (symbol_text (f r) ++ quote) (subst (λ (w : List ℕ). Stands js at w) (sym (append_assoc (symbol_text (f r)) quote z)) u)

      go : (x : Bool) → leb a (length js) ≡ x
          → (suc r ≤ r' → r' < suc r + c → suc r + c ≤ R → Stands js at (symbol_text (f r') ++ (quote ++ z)) → Found js r' z (named_at f c (suc r) js at))
          → Found js r' z (elim x [ true ↦ took r a | false ↦ named_at f c (suc r) js at ])
      go true e k =
          let o : Ate (symbol_text (f r) ++ quote) js at a = ate-only (symbol_text (f r) ++ quote) js at (leb-true a (length js) e) in
          let h : r ≡ r' = one_name r r' (drop a js) z (omega arith) (omega arith) o.bytes t.rest in
          record { number = h; behind = this h }
      go false e k =
          let b : length js < a = leb-false a (length js) e in
          let h : r ≡ r' → ⊥ = λ i. let u : Stands js a z = this i in omega arith in
          k (omega arith) (omega arith) (omega arith) t
