-- What is laid of rules: terminals by first appearance, expressions by number, bodies. Assumes nothing.
use Prim.Native.Nat.{ℕ, zero, suc, ◌+◌, ◌-◌, ◌≤◌}
use Rattle.std.specs.Prelude.{◌≡◌, Bool, true, false, ◌||◌}
use Rattle.std.proofs.Math.Path.{refl, sym, ap}
use Rattle.std.proofs.Common.{◌∙◌, arith, length-append}
use mathlib.Core.List.{List, [], ◌∷◌, ◌++◌, map, append_assoc, append-nil}
use Rattle.std.proofs.Math.Option.{none}
use Rattle.std.proofs.Math.ListN.{length, replicate}
use Rattle.base_facts.specs.laws.Bools.{or-true}
use Rattle.read_tokens.specs.Token.{Symbol, Leaf}
use Rattle.grammar.specs.Exp.{Exp, Rule, sym as symb, ter, seq, alt, opt, star, plus, ahead, never, size, rename, leaves_in}
use Rattle.grammar.specs.Parts.{Part, terminal, occurs, sequence, choice, option, repeat, repeat1, affirms, denies, last, parts_of, parts_all}
use Rattle.grammar.specs.Same.{same_symbol, same_leaf, is_in, index_of, new_in}
use Rattle.grammar.specs.Numbers.{leaves_of, expressions_of, right_by}
use Rattle.grammar_table.specs.Holds.{present, roots_from}
use Rattle.grammar_table.specs.laws.Rows.{also, adds, also-in, also-new, index_stays, in-append}
use Rattle.grammar_table.specs.laws.Firsts.{adds-front}
use Rattle.read_grammar.specs.steps.Lay.{St, last_of, lay, headed, lay_rules}
use Rattle.grammar.specs.laws.Same.{leaf-refl}
use Rattle.read_grammar.specs.laws.Grows.{Grows, lay-grows}

-- ── terminals ──
adds-append : {A : Type 0} (same : A → A → Bool) (l xs ys : List A) → adds same l (xs ++ ys) ≡ adds same (adds same l xs) ys
unfolding adds
adds-append same l [] ys = refl
adds-append same l (x ∷ xs) ys = adds-append same (also same x l) xs ys

pub lay-terms : (e : Exp Symbol) (s : St) → (lay e s).terms ≡ adds same_leaf s.terms (leaves_in e)
unfolding lay adds leaves_in
lay-terms (symb h) s = refl
lay-terms (ter x) s = refl
lay-terms (seq a b) s = lay-terms b (lay a s) ∙ ap (λ (l : List Leaf). adds same_leaf l (leaves_in b)) (lay-terms a s) ∙ sym (adds-append same_leaf s.terms (leaves_in a) (leaves_in b))
lay-terms (alt a b) s = lay-terms b (lay a s) ∙ ap (λ (l : List Leaf). adds same_leaf l (leaves_in b)) (lay-terms a s) ∙ sym (adds-append same_leaf s.terms (leaves_in a) (leaves_in b))
lay-terms (opt a) s = lay-terms a s
lay-terms (star a) s = lay-terms a s
lay-terms (plus a) s = lay-terms a s
lay-terms (ahead a) s = lay-terms a s
lay-terms (never a) s = lay-terms a s

pub rules-terms : (rs : List Rule) (s : St) → (lay_rules rs s).terms ≡ adds same_leaf s.terms (leaves_of rs)
unfolding lay_rules adds leaves_of
rules-terms [] s = refl
rules-terms (r ∷ rs) s =
    rules-terms rs (headed (lay r.right s)) ∙ ap (λ (l : List Leaf). adds same_leaf l (leaves_of rs)) (lay-terms r.right s)
    ∙ sym (adds-append same_leaf s.terms (leaves_in r.right) (leaves_of rs))

pub rules-names : (rs : List Rule) (s : St) → (lay_rules rs s).names ≡ s.names
unfolding lay_rules
rules-names [] s = refl
rules-names (r ∷ rs) s = rules-names rs (headed (lay r.right s)) ∙ (lay-grows r.right s).names

-- ── how many ──
pub push-length : (l : List Part) (p : Part) → length (l ++ (p ∷ [])) ≡ suc (length l)
push-length l p = length-append l (p ∷ []) ∙ omega arith

pub lay-length : (e : Exp Symbol) (s : St) → length (lay e s).parts ≡ length s.parts + size e
unfolding lay size
lay-length (symb h) s = push-length s.parts _ ∙ omega arith
lay-length (ter x) s = push-length s.parts _ ∙ omega arith
lay-length (seq a b) s = push-length (lay b (lay a s)).parts _ ∙ omega (arith, lay-length b (lay a s), lay-length a s)
lay-length (alt a b) s = push-length (lay b (lay a s)).parts _ ∙ omega (arith, lay-length b (lay a s), lay-length a s)
lay-length (opt a) s = push-length (lay a s).parts _ ∙ omega (arith, lay-length a s)
lay-length (star a) s = push-length (lay a s).parts _ ∙ omega (arith, lay-length a s)
lay-length (plus a) s = push-length (lay a s).parts _ ∙ omega (arith, lay-length a s)
lay-length (ahead a) s = push-length (lay a s).parts _ ∙ omega (arith, lay-length a s)
lay-length (never a) s = push-length (lay a s).parts _ ∙ omega (arith, lay-length a s)

pub rules-length : (rs : List Rule) (s : St) → length (lay_rules rs s).parts ≡ length s.parts + expressions_of rs
unfolding lay_rules expressions_of
rules-length [] s = omega arith
rules-length (r ∷ rs) s = rules-length rs (headed (lay r.right s)) ∙ omega (arith, lay-length r.right s)

pub size-rename : {S T : Type 0} (f : S → T) (e : Exp S) → size (rename f e) ≡ size e
unfolding size rename
size-rename f (symb h) = refl
size-rename f (ter x) = refl
size-rename f (seq a b) = omega (arith, size-rename f a, size-rename f b)
size-rename f (alt a b) = omega (arith, size-rename f a, size-rename f b)
size-rename f (opt a) = ap suc (size-rename f a)
size-rename f (star a) = ap suc (size-rename f a)
size-rename f (plus a) = ap suc (size-rename f a)
size-rename f (ahead a) = ap suc (size-rename f a)
size-rename f (never a) = ap suc (size-rename f a)

pub size-some : {S : Type 0} (e : Exp S) → 1 ≤ size e
unfolding size
size-some (symb h) = omega arith
size-some (ter x) = omega arith
size-some (seq a b) = omega arith
size-some (alt a b) = omega arith
size-some (opt a) = omega arith
size-some (star a) = omega arith
size-some (plus a) = omega arith
size-some (ahead a) = omega arith
size-some (never a) = omega arith

-- ── expressions ──
one-there : (x : Leaf) → is_in same_leaf x (x ∷ []) ≡ true
unfolding is_in
one-there x = ap (λ (b : Bool). b || false) (leaf-refl x)

also-there : (x : Leaf) (l : List Leaf) → is_in same_leaf x (also same_leaf x l) ≡ true
also-there x l = by (is_in same_leaf x l) refl
  where
    by : (b : Bool) → is_in same_leaf x l ≡ b → is_in same_leaf x (also same_leaf x l) ≡ true
    by true e = ap (is_in same_leaf x) (also-in same_leaf x l e) ∙ e
    by false e = ap (is_in same_leaf x) (also-new same_leaf x l e) ∙ in-append same_leaf x l (x ∷ []) ∙ ap (λ (b : Bool). is_in same_leaf x l || b) (one-there x) ∙ or-true (is_in same_leaf x l)

module _ (N : List Symbol) (F : List Leaf) where
  abbrev pub idx : Symbol → ℕ
  idx h = index_of same_symbol h N

  abbrev pub num : Leaf → ℕ
  num x = index_of same_leaf x F

  abbrev pub parts_for : ℕ → Exp Symbol → List Part
  parts_for o e = parts_of num o (rename idx e)

  under-parts : (mk : ℕ → Part) (s u : St) (a : Exp Symbol) → length u.parts ≡ length s.parts + size a → u.parts ≡ s.parts ++ parts_for (length s.parts) a
      → u.parts ++ (mk (last_of u) ∷ []) ≡ s.parts ++ (parts_for (length s.parts) a ++ (mk (last (length s.parts) (rename idx a)) ∷ []))
  under-parts mk s u a e h =
      ap (λ (n : ℕ). u.parts ++ (mk (n - 1) ∷ [])) (e ∙ ap (λ (n : ℕ). length s.parts + n) (sym (size-rename idx a)))
      ∙ ap (λ (l : List Part). l ++ (mk (last (length s.parts) (rename idx a)) ∷ [])) h
      ∙ append_assoc s.parts (parts_for (length s.parts) a) (mk (last (length s.parts) (rename idx a)) ∷ [])

  joined-parts : (mk : ℕ → ℕ → Part) (s u v : St) (a b : Exp Symbol) → length u.parts ≡ length s.parts + size a → length v.parts ≡ length u.parts + size b
      → u.parts ≡ s.parts ++ parts_for (length s.parts) a → v.parts ≡ u.parts ++ parts_for (length u.parts) b
      → v.parts ++ (mk (last_of u) (last_of v) ∷ [])
      ≡ s.parts ++ (parts_for (length s.parts) a ++ (parts_for (length s.parts + size (rename idx a)) b ++ (mk (last (length s.parts) (rename idx a)) (last (length s.parts + size (rename idx a)) (rename idx b)) ∷ [])))
  joined-parts mk s u v a b e f h k =
      let o = length s.parts in
      let p : length u.parts ≡ o + size (rename idx a) = e ∙ ap (λ (n : ℕ). o + n) (sym (size-rename idx a)) in
      let q : length v.parts ≡ o + size (rename idx a) + size (rename idx b) = f ∙ ap (λ (n : ℕ). length u.parts + n) (sym (size-rename idx b)) ∙ ap (λ (n : ℕ). n + size (rename idx b)) p in
      let end = mk (last o (rename idx a)) (last (o + size (rename idx a)) (rename idx b)) ∷ [] in
      ap (λ (n : ℕ). v.parts ++ (mk (last_of u) (n - 1) ∷ [])) q
      ∙ ap (λ (n : ℕ). v.parts ++ (mk (n - 1) (o + size (rename idx a) + size (rename idx b) - 1) ∷ [])) p
      ∙ ap (λ (l : List Part). l ++ (mk (last (length s.parts) (rename idx a)) (last (length s.parts + size (rename idx a)) (rename idx b)) ∷ []))
      (k ∙ ap (λ (n : ℕ). u.parts ++ parts_for n b) p ∙ ap (λ (l : List Part). l ++ parts_for (length s.parts + size (rename idx a)) b) h)
      ∙ append_assoc (s.parts ++ parts_for (length s.parts) a) (parts_for (length s.parts + size (rename idx a)) b) (mk (last (length s.parts) (rename idx a)) (last (length s.parts + size (rename idx a)) (rename idx b)) ∷ [])
      ∙ append_assoc s.parts (parts_for (length s.parts) a) (parts_for (length s.parts + size (rename idx a)) b ++ (mk (last (length s.parts) (rename idx a)) (last (length s.parts + size (rename idx a)) (rename idx b)) ∷ []))

  -- the terminals that come later
  earlier : (u v : St) (ys : List Leaf) → Grows u v → F ≡ v.terms ++ ys → (zs : List Leaf) × (F ≡ u.terms ++ zs)
  earlier u v ys g e = (g.terms.0 ++ ys, e ∙ ap (λ (l : List Leaf). l ++ ys) g.terms.1 ∙ append_assoc u.terms g.terms.0 ys)

  pub lay-parts : (e : Exp Symbol) (s : St) (ys : List Leaf) → s.names ≡ N → F ≡ (lay e s).terms ++ ys → (lay e s).parts ≡ s.parts ++ parts_for (length s.parts) e
  unfolding lay parts_of rename
  lay-parts (symb h) s ys n f = ap (λ (l : List Symbol). s.parts ++ (occurs (index_of same_symbol h l) ∷ [])) n
  lay-parts (ter x) s ys n f =
      ap (λ (k : ℕ). s.parts ++ (terminal k ∷ []))
      (sym (ap (index_of same_leaf x) f ∙ index_stays same_leaf x (also same_leaf x s.terms) ys (also-there x s.terms)))
  lay-parts (seq a b) s ys n f =
      let g = earlier (lay a s) (lay b (lay a s)) ys (lay-grows b (lay a s)) f in
      joined-parts sequence s (lay a s) (lay b (lay a s)) a b (lay-length a s) (lay-length b (lay a s)) (lay-parts a s g.0 n g.1) (lay-parts b (lay a s) ys ((lay-grows a s).names ∙ n) f)
  lay-parts (alt a b) s ys n f =
      let g = earlier (lay a s) (lay b (lay a s)) ys (lay-grows b (lay a s)) f in
      joined-parts choice s (lay a s) (lay b (lay a s)) a b (lay-length a s) (lay-length b (lay a s)) (lay-parts a s g.0 n g.1) (lay-parts b (lay a s) ys ((lay-grows a s).names ∙ n) f)
  lay-parts (opt a) s ys n f = under-parts option s (lay a s) a (lay-length a s) (lay-parts a s ys n f)
  lay-parts (star a) s ys n f = under-parts repeat s (lay a s) a (lay-length a s) (lay-parts a s ys n f)
  lay-parts (plus a) s ys n f = under-parts repeat1 s (lay a s) a (lay-length a s) (lay-parts a s ys n f)
  lay-parts (ahead a) s ys n f = under-parts affirms s (lay a s) a (lay-length a s) (lay-parts a s ys n f)
  lay-parts (never a) s ys n f = under-parts denies s (lay a s) a (lay-length a s) (lay-parts a s ys n f)

  abbrev pub bodies : List Rule → List (Exp ℕ)
  bodies [] = []
  bodies (r ∷ rs) = rename idx r.right ∷ bodies rs

  pub rules-parts : (rs : List Rule) (s : St) (ys : List Leaf) → s.names ≡ N → F ≡ (lay_rules rs s).terms ++ ys → (lay_rules rs s).parts ≡ s.parts ++ parts_all num (length s.parts) (bodies rs)
  unfolding lay_rules parts_all
  rules-parts [] s ys n f = sym (append-nil s.parts)
  rules-parts (r ∷ rs) s ys n f =
      let u = headed (lay r.right s) in
      let e = r.right in
      let later : (lay_rules rs u).terms ≡ u.terms ++ new_in same_leaf u.terms (leaves_of rs) = rules-terms rs u ∙ adds-front same_leaf u.terms (leaves_of rs) in
      let g : F ≡ (lay r.right s).terms ++ (new_in same_leaf u.terms (leaves_of rs) ++ ys) =
      f ∙ ap (λ (l : List Leaf). l ++ ys) later ∙ append_assoc u.terms (new_in same_leaf u.terms (leaves_of rs)) ys
      in
      rules-parts rs u ys ((lay-grows r.right s).names ∙ n) f
      ∙ ap (λ (k : ℕ). (lay r.right s).parts ++ parts_all num k (bodies rs)) (lay-length r.right s ∙ ap (λ (k : ℕ). length s.parts + k) (sym (size-rename idx r.right)))
      ∙ ap (λ (l : List Part). l ++ parts_all num (length s.parts + size (rename idx r.right)) (bodies rs)) (lay-parts r.right s (new_in same_leaf u.terms (leaves_of rs) ++ ys) n g)
      ∙ append_assoc s.parts (parts_for (length s.parts) r.right) (parts_all num (length s.parts + size (rename idx r.right)) (bodies rs))

  -- ── bodies ──
  pub present-is : (rs : List Rule) (k : ℕ) → present (map (right_by N) rs ++ replicate k none) ≡ bodies rs
  unfolding present
  present-is [] zero = refl
  present-is [] (suc k) = present-is [] k
  present-is (r ∷ rs) k = ap (λ (l : List (Exp ℕ)). rename idx r.right ∷ l) (present-is rs k)

  abbrev pub heads_from : ℕ → List Rule → List ℕ
  heads_from o [] = []
  heads_from o (r ∷ rs) = (o + size r.right) ∷ heads_from (o + size r.right) rs

  pub rules-bodies : (rs : List Rule) (s : St) → (lay_rules rs s).heads ≡ s.heads ++ heads_from (length s.parts) rs
  unfolding lay_rules
  rules-bodies [] s = sym (append-nil s.heads)
  rules-bodies (r ∷ rs) s =
      rules-bodies rs (headed (lay r.right s))
      ∙ ap (λ (k : ℕ). ((lay r.right s).heads ++ (k ∷ [])) ++ heads_from k rs) (lay-length r.right s)
      ∙ ap (λ (l : List ℕ). (l ++ ((length s.parts + size r.right) ∷ [])) ++ heads_from (length s.parts + size r.right) rs) (lay-grows r.right s).heads
      ∙ append_assoc s.heads ((length s.parts + size r.right) ∷ []) (heads_from (length s.parts + size r.right) rs)

  root_is : (o : ℕ) (e : Exp Symbol) → suc (last o (rename idx e)) ≡ o + size e
  root_is o e = omega (arith, size-rename idx e, size-some e)

  pub roots-are : (rs : List Rule) (k o : ℕ) → roots_from o (map (right_by N) rs ++ replicate k none) ≡ heads_from o rs ++ replicate k 0
  unfolding roots_from
  roots-are [] zero o = refl
  roots-are [] (suc k) o = ap (λ (l : List ℕ). 0 ∷ l) (roots-are [] k o)
  roots-are (r ∷ rs) k o =
      ap (λ (x : ℕ). x ∷ roots_from (o + size (rename idx r.right)) (map (right_by N) rs ++ replicate k none)) (root_is o r.right)
      ∙ ap (λ (x : ℕ). (o + size r.right) ∷ roots_from (o + x) (map (right_by N) rs ++ replicate k none)) (size-rename idx r.right)
      ∙ ap (λ (l : List ℕ). (o + size r.right) ∷ l) (roots-are rs k (o + size r.right))

  pub heads-length : (rs : List Rule) (o : ℕ) → length (heads_from o rs) ≡ length rs
  heads-length [] o = refl
  heads-length (r ∷ rs) o = ap suc (heads-length rs (o + size r.right))
