-- In a table that holds a grammar no expression is a part twice: parts are numbered before wholes, rule after rule. Assumes nothing.
use Prim.Native.Nat.{ℕ, zero, suc, ◌+◌, ◌-◌, ◌≤◌, ◌<◌}
use Rattle.std.specs.Prelude.{◌≡◌, Bool, true, false, ltb}
use Rattle.std.proofs.Math.Path.{refl, ap, subst, sym as flip}
use Rattle.std.proofs.Common.{◌∙◌, ltb-true, ltb-false, lt-ltb, le-ltb}
use Rattle.std.proofs.Math.Bool.{cond}
use mathlib.Core.List.{List, [], ◌∷◌, ◌++◌}
use Rattle.std.proofs.Math.Option.{Option, none, some}
use native.Mathlib.Omega.{arith}
use Rattle.std.proofs.Math.ListN.{length, get_or}
use Rattle.read_tokens.specs.Token.{Leaf}
use Rattle.grammar.specs.Exp.{Exp, sym, ter, seq, alt, opt, star, plus, ahead, never, size}
use Rattle.grammar.specs.Numbers.{Grammar, terminal_in}
use Rattle.grammar.specs.Parts.{Part, terminal, occurs, sequence, choice, option, repeat, repeat1, affirms, denies, last, parts_of, parts_all}
use Rattle.grammar_table.specs.Table.{op_of, left_of, right_of, part_by, part_in, parts_in, symbol_word, symbol_count, expression_count}
use Rattle.grammar_table.specs.Holds.{Holds, present, roots_from}
use Rattle.grammar_table.specs.Trees.{below}
use Rattle.grammar_table.specs.laws.Places.{up_to-long, up_to-at}
use Rattle.grammar_table.specs.laws.Parts.{parts-long, size-pos, root-le, total, Seg, seg-left, seg-right, seg-one}
use Rattle.lake_step_one.proofs.laws.Held.{rights-long, expressions-are}
use Rattle.lake_calls.specs.laws.Rights.{root-at}
use Rattle.match_desk.specs.steps.Desk.{kind_of, left_part, right_part, Parted, Forest}

-- ── the parent of number i: 1 + its number, top for the root of the tree. The tree's numbers begin at o ──
unfoldable parent_in : ℕ → Exp ℕ → ℕ → ℕ → ℕ
parent_in o (sym r) top i = top
parent_in o (ter x) top i = top
parent_in o (seq a b) top i =
    cond (ltb i (o + size a)) (parent_in o a (suc (o + size a + size b)) i) (cond (ltb i (o + size a + size b)) (parent_in (o + size a) b (suc (o + size a + size b)) i) top)
parent_in o (alt a b) top i =
    cond (ltb i (o + size a)) (parent_in o a (suc (o + size a + size b)) i) (cond (ltb i (o + size a + size b)) (parent_in (o + size a) b (suc (o + size a + size b)) i) top)
parent_in o (opt a) top i = cond (ltb i (o + size a)) (parent_in o a (suc (o + size a)) i) top
parent_in o (star a) top i = cond (ltb i (o + size a)) (parent_in o a (suc (o + size a)) i) top
parent_in o (plus a) top i = cond (ltb i (o + size a)) (parent_in o a (suc (o + size a)) i) top
parent_in o (ahead a) top i = cond (ltb i (o + size a)) (parent_in o a (suc (o + size a)) i) top
parent_in o (never a) top i = cond (ltb i (o + size a)) (parent_in o a (suc (o + size a)) i) top

unfoldable parent_all : ℕ → List (Exp ℕ) → ℕ → ℕ
parent_all o [] i = 0
parent_all o (e ∷ es) i = cond (ltb i (o + size e)) (parent_in o e 0 i) (parent_all (o + size e) es i)

-- the root of a tree
one-top : (o n i : ℕ) (a top : ℕ) → o + n ≤ i → cond (ltb i (o + n)) a top ≡ top
one-top o n i a top h = ap (λ (b : Bool). cond b a top) (le-ltb i (o + n) h)

two-top : (o n m i : ℕ) (a b top : ℕ) → o + n + m ≤ i → cond (ltb i (o + n)) a (cond (ltb i (o + n + m)) b top) ≡ top
two-top o n m i a b top h =
    ap (λ (c : Bool). cond c a (cond (ltb i (o + n + m)) b top)) (le-ltb i (o + n) (omega (arith, h))) ∙ ap (λ (c : Bool). cond c b top) (le-ltb i (o + n + m) h)

parent-top : (e : Exp ℕ) (o top i : ℕ) → suc i ≡ o + size e → parent_in o e top i ≡ top
unfolding parent_in size
parent-top (sym r) o top i h = refl
parent-top (ter x) o top i h = refl
parent-top (seq a b) o top i h = two-top o (size a) (size b) i (parent_in o a (suc (o + size a + size b)) i) (parent_in (o + size a) b (suc (o + size a + size b)) i) top (omega (arith, h))
parent-top (alt a b) o top i h = two-top o (size a) (size b) i (parent_in o a (suc (o + size a + size b)) i) (parent_in (o + size a) b (suc (o + size a + size b)) i) top (omega (arith, h))
parent-top (opt a) o top i h = one-top o (size a) i (parent_in o a (suc (o + size a)) i) top (omega (arith, h))
parent-top (star a) o top i h = one-top o (size a) i (parent_in o a (suc (o + size a)) i) top (omega (arith, h))
parent-top (plus a) o top i h = one-top o (size a) i (parent_in o a (suc (o + size a)) i) top (omega (arith, h))
parent-top (ahead a) o top i h = one-top o (size a) i (parent_in o a (suc (o + size a)) i) top (omega (arith, h))
parent-top (never a) o top i h = one-top o (size a) i (parent_in o a (suc (o + size a)) i) top (omega (arith, h))

-- by 1 + a number, and 0 has none
abbrev above : (ℕ → ℕ) → ℕ → ℕ
above f zero = 0
above f (suc i) = f i

-- ── a part with number j is the parent of its own parts ──
abbrev Good : (ℕ → ℕ) → ℕ → Part → Type 0
Good f j (terminal x) = Unit
Good f j (occurs x) = Unit
Good f j (sequence l r) = (f l ≡ suc j) × (f r ≡ suc j) × (l < r) × (r < j)
Good f j (choice l r) = (f l ≡ suc j) × (f r ≡ suc j) × (l < r) × (r < j)
Good f j (option l) = (f l ≡ suc j) × (l < j)
Good f j (repeat l) = (f l ≡ suc j) × (l < j)
Good f j (repeat1 l) = (f l ≡ suc j) × (l < j)
Good f j (affirms l) = Unit
Good f j (denies l) = Unit

module _ (t : List ℕ) (number : Leaf → ℕ) (f : ℕ → ℕ) where
  abbrev Run : ℕ → List Part → Type 0
  Run o xs = Seg number (part_in t) (terminal 0) o xs

  -- f is the parent that the tree says
  abbrev Says : ℕ → Exp ℕ → ℕ → Type 0
  Says o e top = (i : ℕ) → o ≤ i → i < o + size e → f i ≡ parent_in o e top i

  abbrev Told : ℕ → ℕ → Type 0
  Told o n = (j : ℕ) → o ≤ j → j < o + n → Good f j (part_in t j)

  -- of a whole over one part, whose own parts are told
  module _ (o n : ℕ) (q : Part) (inner : Told o n) (at : part_in t (o + n) ≡ q) (good : Good f (o + n) q) where
    tell-one : Told o (suc n)
    tell-one j h l = go (ltb j (o + n)) refl
      where
        go : (b : Bool) → ltb j (o + n) ≡ b → Good f j (part_in t j)
        go true e = inner j h (ltb-true j (o + n) e)
        go false e = let u : o + n ≡ j = omega (arith, ltb-false j (o + n) e, l) in subst (λ (i : ℕ). Good f i (part_in t i)) u (subst (Good f (o + n)) (flip at) good)

  -- and over two
  module _ (o n m : ℕ) (left : Told o n) (right : Told (o + n) m) where
    tell-two : Told o (n + m)
    tell-two j h l = go (ltb j (o + n)) refl
      where
        go : (b : Bool) → ltb j (o + n) ≡ b → Good f j (part_in t j)
        go true e = left j h (ltb-true j (o + n) e)
        go false e = right j (ltb-false j (o + n) e) (omega (arith, l))

  -- what the tree of a part says
  says-one : (o : ℕ) (a : Exp ℕ) (top : ℕ) → ((i : ℕ) → o ≤ i → i < o + suc (size a) → f i ≡ cond (ltb i (o + size a)) (parent_in o a (suc (o + size a)) i) top) → Says o a (suc (o + size a))
  says-one o a top h i k l = h i k (omega (arith, l)) ∙ ap (λ (b : Bool). cond b (parent_in o a (suc (o + size a)) i) top) (lt-ltb i (o + size a) l)

  module _ (o : ℕ) (a b : Exp ℕ) (top : ℕ)
      (h : (i : ℕ) → o ≤ i → i < o + suc (size a + size b)
      → f i ≡ cond (ltb i (o + size a)) (parent_in o a (suc (o + size a + size b)) i) (cond (ltb i (o + size a + size b)) (parent_in (o + size a) b (suc (o + size a + size b)) i) top)) where
    says-left : Says o a (suc (o + size a + size b))
    says-left i k l =
        h i k (omega (arith, l))
        ∙ ap (λ (c : Bool). cond c (parent_in o a (suc (o + size a + size b)) i) (cond (ltb i (o + size a + size b)) (parent_in (o + size a) b (suc (o + size a + size b)) i) top))
        (lt-ltb i (o + size a) l)

    says-right : Says (o + size a) b (suc (o + size a + size b))
    says-right i k l =
        h i (omega (arith, k)) (omega (arith, l))
        ∙ ap (λ (c : Bool). cond c (parent_in o a (suc (o + size a + size b)) i) (cond (ltb i (o + size a + size b)) (parent_in (o + size a) b (suc (o + size a + size b)) i) top))
        (le-ltb i (o + size a) k)
        ∙ ap (λ (c : Bool). cond c (parent_in (o + size a) b (suc (o + size a + size b)) i) top) (lt-ltb i (o + size a + size b) l)

  -- the parent of a root
  root-says : (o : ℕ) (a : Exp ℕ) (top : ℕ) → Says o a top → (f (last o a) ≡ top) × (suc (last o a) ≡ o + size a)
  root-says o a top h =
      let p : suc (last o a) ≡ o + size a = omega (arith, size-pos a) in
      (h (last o a) (omega (arith, size-pos a)) (omega (arith, size-pos a)) ∙ parent-top a o top (last o a) p, p)

  one-good : (o : ℕ) (a : Exp ℕ) → Says o a (suc (o + size a)) → (f (last o a) ≡ suc (o + size a)) × (last o a < o + size a)
  one-good o a h = let u : (f (last o a) ≡ suc (o + size a)) × (suc (last o a) ≡ o + size a) = root-says o a (suc (o + size a)) h in (u.0, omega (arith, u.1))

  two_good : (o : ℕ) (a b : Exp ℕ) → Says o a (suc (o + size a + size b)) → Says (o + size a) b (suc (o + size a + size b))
      → (f (last o a) ≡ suc (o + size a + size b)) × (f (last (o + size a) b) ≡ suc (o + size a + size b)) × (last o a < last (o + size a) b) × (last (o + size a) b < o + size a + size b)
  two_good o a b h g =
      let u : (f (last o a) ≡ suc (o + size a + size b)) × (suc (last o a) ≡ o + size a) = root-says o a (suc (o + size a + size b)) h in
      let v : (f (last (o + size a) b) ≡ suc (o + size a + size b)) × (suc (last (o + size a) b) ≡ o + size a + size b) = root-says (o + size a) b (suc (o + size a + size b)) g in
      (u.0, v.0, omega (arith, u.1, v.1, size-pos b), omega (arith, v.1))

  -- the last of a run
  at_one : (o n : ℕ) (xs : List Part) (q : Part) → length xs ≡ n → Run o (xs ++ (q ∷ [])) → part_in t (o + n) ≡ q
  at_one o n xs q e h = seg-one number (part_in t) (terminal 0) (o + n) (o + n) q (seg-right number (part_in t) (terminal 0) o n xs (q ∷ []) e h) refl

  one_told : (a : Exp ℕ) (o top : ℕ) (q : Part) → (Run o (parts_of number o a) → Says o a (suc (o + size a)) → Told o (size a)) → Run o (parts_of number o a ++ (q ∷ []))
      → ((i : ℕ) → o ≤ i → i < o + suc (size a) → f i ≡ cond (ltb i (o + size a)) (parent_in o a (suc (o + size a)) i) top)
      → ((f (last o a) ≡ suc (o + size a)) × (last o a < o + size a) → Good f (o + size a) q) → Told o (suc (size a))
  one_told a o top q ih r h g =
      let u : Says o a (suc (o + size a)) = says-one o a top h in
      tell-one o (size a) q (ih (seg-left number (part_in t) (terminal 0) o (parts_of number o a) (q ∷ []) r) u)
      (at_one o (size a) (parts_of number o a) q (parts-long number a o) r) (g (one-good o a u))

  two-told : (a b : Exp ℕ) (o top : ℕ) (q : Part) → (Run o (parts_of number o a) → Says o a (suc (o + size a + size b)) → Told o (size a))
      → (Run (o + size a) (parts_of number (o + size a) b) → Says (o + size a) b (suc (o + size a + size b)) → Told (o + size a) (size b))
      → Run o (parts_of number o a ++ (parts_of number (o + size a) b ++ (q ∷ [])))
      → ((i : ℕ) → o ≤ i → i < o + suc (size a + size b)
      → f i ≡ cond (ltb i (o + size a)) (parent_in o a (suc (o + size a + size b)) i) (cond (ltb i (o + size a + size b)) (parent_in (o + size a) b (suc (o + size a + size b)) i) top))
      → ((f (last o a) ≡ suc (o + size a + size b)) × (f (last (o + size a) b) ≡ suc (o + size a + size b)) × (last o a < last (o + size a) b) × (last (o + size a) b < o + size a + size b)
      → Good f (o + size a + size b) q)
      → Told o (suc (size a + size b))
  two-told a b o top q ih ik r h g =
      let u : Says o a (suc (o + size a + size b)) = says-left o a b top h in
      let v : Says (o + size a) b (suc (o + size a + size b)) = says-right o a b top h in
      let w : Run (o + size a) (parts_of number (o + size a) b ++ (q ∷ [])) =
      seg-right number (part_in t) (terminal 0) o (size a) (parts_of number o a) (parts_of number (o + size a) b ++ (q ∷ [])) (parts-long number a o) r in
      let y : part_in t (o + size a + size b) ≡ q = at_one (o + size a) (size b) (parts_of number (o + size a) b) q (parts-long number b (o + size a)) w in
      let z : o + size a + size b ≡ o + (size a + size b) = omega arith in
      tell-one o (size a + size b) q
      (tell-two o (size a) (size b) (ih (seg-left number (part_in t) (terminal 0) o (parts_of number o a) (parts_of number (o + size a) b ++ (q ∷ [])) r) u)
      (ik (seg-left number (part_in t) (terminal 0) (o + size a) (parts_of number (o + size a) b) (q ∷ []) w) v))
      (subst (λ (i : ℕ). part_in t i ≡ q) z y) (subst (λ (i : ℕ). Good f i q) z (g (two_good o a b u v)))

  tell : (e : Exp ℕ) (o top : ℕ) → Run o (parts_of number o e) → Says o e top → Told o (size e)
  unfolding parts_of parent_in size
  tell (sym r) o top h g =
      λ j l k. subst (Good f j) (flip (seg-one number (part_in t) (terminal 0) o j (occurs r) h (omega (arith, l, k)))) tt
  tell (ter x) o top h g =
      λ j l k. subst (Good f j) (flip (seg-one number (part_in t) (terminal 0) o j (terminal (number x)) h (omega (arith, l, k)))) tt
  tell (seq a b) o top h g =
      two-told a b o top (sequence (last o a) (last (o + size a) b)) (tell a o (suc (o + size a + size b))) (tell b (o + size a) (suc (o + size a + size b))) h g (λ u. u)
  tell (alt a b) o top h g =
      two-told a b o top (choice (last o a) (last (o + size a) b)) (tell a o (suc (o + size a + size b))) (tell b (o + size a) (suc (o + size a + size b))) h g (λ u. u)
  tell (opt a) o top h g = one_told a o top (option (last o a)) (tell a o (suc (o + size a))) h g (λ u. u)
  tell (star a) o top h g = one_told a o top (repeat (last o a)) (tell a o (suc (o + size a))) h g (λ u. u)
  tell (plus a) o top h g = one_told a o top (repeat1 (last o a)) (tell a o (suc (o + size a))) h g (λ u. u)
  tell (ahead a) o top h g = one_told a o top (affirms (last o a)) (tell a o (suc (o + size a))) h g (λ u. tt)
  tell (never a) o top h g = one_told a o top (denies (last o a)) (tell a o (suc (o + size a))) h g (λ u. tt)

  -- of all bodies
  abbrev SaysAll : ℕ → List (Exp ℕ) → Type 0
  SaysAll o es = (i : ℕ) → o ≤ i → i < o + total es → f i ≡ parent_all o es i

  says_first : (o : ℕ) (e : Exp ℕ) (es : List (Exp ℕ)) → SaysAll o (e ∷ es) → Says o e 0
  unfolding parent_all total
  says_first o e es h i k l = h i k (omega (arith, l)) ∙ ap (λ (b : Bool). cond b (parent_in o e 0 i) (parent_all (o + size e) es i)) (lt-ltb i (o + size e) l)

  says-later : (o : ℕ) (e : Exp ℕ) (es : List (Exp ℕ)) → SaysAll o (e ∷ es) → SaysAll (o + size e) es
  unfolding parent_all total
  says-later o e es h i k l = h i (omega (arith, k)) (omega (arith, l)) ∙ ap (λ (b : Bool). cond b (parent_in o e 0 i) (parent_all (o + size e) es i)) (le-ltb i (o + size e) k)

  tell-all : (es : List (Exp ℕ)) (o : ℕ) → Run o (parts_all number o es) → SaysAll o es → Told o (total es)
  unfolding parts_all total
  tell-all [] o h g = λ j l k. absurd (omega (arith, l, k))
  tell-all (e ∷ es) o h g =
      tell-two o (size e) (total es) (tell e o 0 (seg-left number (part_in t) (terminal 0) o (parts_of number o e) (parts_all number (o + size e) es) h) (says_first o e es g))
      (tell-all es (o + size e) (seg-right number (part_in t) (terminal 0) o (size e) (parts_of number o e) (parts_all number (o + size e) es) (parts-long number e o) h) (says-later o e es g))

  -- a body is no part
  tell-roots : (os : List (Option (Exp ℕ))) (o s : ℕ) → SaysAll o (present os) → above f (get_or (roots_from o os) s 0) ≡ 0
  unfolding present roots_from
  tell-roots [] o s h = refl
  tell-roots (none ∷ os) o zero h = refl
  tell-roots (none ∷ os) o (suc s) h = tell-roots os o s h
  tell-roots (some e ∷ os) o zero h = (root-says o e 0 (says_first o e (present os) h)).0
  tell-roots (some e ∷ os) o (suc s) h = tell-roots os (o + size e) s (says-later o e (present os) h)

-- ── of a table ──
-- a part in the table's words, its numbers from 1 on
module _ (t : List ℕ) (f : ℕ → ℕ) (j : ℕ) where
  inside : (l : ℕ) → l < j → suc l ≡ below l j
  inside l h = rw (lt-ltb l j h)

  by_kind : (op l r : ℕ) → Good f j (part_by op l r) → Parted op (λ i. above f i) (suc j) (below l j) (below r j)
  unfolding part_by
  by_kind zero l r h = tt
  by_kind (suc zero) l r h = tt
  by_kind (suc (suc zero)) l r h = two l r h
    where
      two : (l r : ℕ) → (f l ≡ suc j) × (f r ≡ suc j) × (l < r) × (r < j) → Parted 2 (λ i. above f i) (suc j) (below l j) (below r j)
      two l r h =
          subst (λ (a : ℕ). Parted 2 (λ i. above f i) (suc j) a (below r j)) (inside l (omega (arith, h.2, h.3)))
          (subst (λ (a : ℕ). Parted 2 (λ i. above f i) (suc j) (suc l) a) (inside r h.3) (h.0, h.1, λ e. omega (arith, e, h.2)))
  by_kind (suc (suc (suc zero))) l r h = two l r h
    where
      two : (l r : ℕ) → (f l ≡ suc j) × (f r ≡ suc j) × (l < r) × (r < j) → Parted 3 (λ i. above f i) (suc j) (below l j) (below r j)
      two l r h =
          subst (λ (a : ℕ). Parted 3 (λ i. above f i) (suc j) a (below r j)) (inside l (omega (arith, h.2, h.3)))
          (subst (λ (a : ℕ). Parted 3 (λ i. above f i) (suc j) (suc l) a) (inside r h.3) (h.0, h.1, λ e. omega (arith, e, h.2)))
  by_kind (suc (suc (suc (suc zero)))) l r h = subst (λ (a : ℕ). above f a ≡ suc j) (inside l h.1) h.0
  by_kind (suc (suc (suc (suc (suc zero))))) l r h = subst (λ (a : ℕ). above f a ≡ suc j) (inside l h.1) h.0
  by_kind (suc (suc (suc (suc (suc (suc zero)))))) l r h = subst (λ (a : ℕ). above f a ≡ suc j) (inside l h.1) h.0
  by_kind (suc (suc (suc (suc (suc (suc (suc k))))))) l r h = tt

module _ (t : List ℕ) (g : Grammar) (h : Holds t g) where
  -- a body is one of the expressions
  pub body-in : (r : ℕ) → r < symbol_count t → symbol_word t r 1 ≤ expression_count t
  body-in r l = omega (arith, root-at t g h r (omega (arith, l, rights-long t g h)), root-le g.rights 0 r, expressions-are t g h)

  abbrev bodies : List (Exp ℕ)
  bodies = present g.rights

  abbrev parents : ℕ → ℕ
  parents i = parent_all 0 bodies i

  whole : (k : ℕ) → k < length (parts_all (terminal_in g) 0 bodies) → part_in t (0 + k) ≡ get_or (parts_all (terminal_in g) 0 bodies) k (terminal 0)
  unfolding parts_in
  whole k l =
      ap (part_in t) (let q : 0 + k ≡ k = omega arith in q)
      ∙ flip (up_to-at (part_in t) (expression_count t) k (terminal 0) (omega (arith, l, flip (up_to-long (part_in t) (expression_count t)) ∙ ap length h.parts)))
      ∙ ap (λ (ps : List Part). get_or ps k (terminal 0)) h.parts

  told : (j : ℕ) → j < expression_count t → Good parents j (part_in t j)
  told j l = tell-all t (terminal_in g) parents bodies 0 whole (λ i k l. refl) j (omega arith) (omega (arith, l, expressions-are t g h))

  parts-of : (x : ℕ) → 0 < x → x ≤ expression_count t → Parted (kind_of t x) (λ i. above parents i) x (left_part t x) (right_part t x)
  unfolding part_in
  parts-of zero l k = absurd (omega (arith, l))
  parts-of (suc j) l k =
      let z : suc j - 1 ≡ j = omega arith in
      rw z (by_kind t parents j (op_of t j) (left_of t j) (right_of t j) (told j (omega (arith, k))))

  -- no expression is a part twice
  pub forest-of : Forest t
  forest-of =
      record {
        parent = above parents;
        parts = parts-of;
        roots = λ r l.
            ap (above parents) (root-at t g h r (omega (arith, l, rights-long t g h))) ∙ tell-roots t (terminal_in g) parents g.rights 0 r (λ i k l. refl);
      }
