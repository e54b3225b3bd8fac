-- The lake question step by step, in the words that code has read from a table. Assumes nothing.
use Rattle.std.specs.Prelude.{ℕ, zero, suc, ◌+◌, ◌≤◌, ◌<◌, ◌≡◌, Bool, ◌&&◌, ltb, drop}
use Rattle.std.proofs.Math.Path.{refl, ap, sym as flip}
use Rattle.std.proofs.Common.{ap₂, ◌∙◌, subst, arith, add-one, drop_of_length-le, drop-cons, eq-eqb, ne_eqb, lt-ltb, le-ltb, ltb-true, ltb-false}
use Rattle.std.proofs.Math.Bool.{true, false, not, cond}
use mathlib.Core.List.{List, [], ◌∷◌, ◌++◌}
use Rattle.std.proofs.Math.Option.{Option, none}
use Rattle.std.proofs.Math.Dec.{eqb}
use Rattle.std.proofs.Math.ListN.{length, get_or, get_or-eq_default}
use Rattle.std.specs.Bool.{MatchBool}
use Rattle.std.specs.List.{range_with_len, AllWithin, HoldsAt}
use Rattle.std.proofs.lemmas.List.FromFn.{length-range_with_len, get_or-range_with_len}
use Rattle.read_tokens.specs.Token.{Symbol, Leaf, name, any}
use Rattle.grammar.specs.Exp.{Exp, sym, ter}
use Rattle.grammar.specs.Same.{same_symbol, index_of}
use Rattle.grammar.specs.Numbers.{Grammar, is_lake}
use Rattle.grammar_table.specs.Table.{up_to, symbol_count, terminal_count, symbol_word, symbol_by, name_in, leaf_in, body_by, body_in, grammar_in, tree_at}
use Rattle.grammar_table.specs.laws.Lists.{up-length, up_at}
use Rattle.base_words.specs.Set.{member_of}
use Rattle.lake_step_one.specs.Intermediate.{water_name, water_in}
use Rattle.lake_plain.specs.Plain.{nonterminals_in, terminals_in, alternatives}
use Rattle.lake_step_one.proofs.laws.Water.{index_at, index-none}
use Rattle.match_eval.specs.Eval.{leaf_at, cell_at, ev}
use Rattle.grammar_table.specs.Trees.{tree_of}
use Rattle.match_lake.specs.Asking.{none_matches, own_takes, way_number, way_in, symbol_fails, terminal_fails}

-- ── a body by its word ──
module _ (t s cs : List ℕ) (n p : ℕ) where
  pub body-none : (b : ℕ) → b ≡ 0 → false ≡ own_takes s cs n (body_by t b) p
  body-none b e = ap (λ (x : ℕ). own_takes s cs n (body_by t x) p) (flip e)

  pub body-fails : (b v : ℕ) → (b ≡ 0 → ⊥) → v ≡ ev s cs n (tree_of t b) p → v ≡ 0 → false ≡ own_takes s cs n (body_by t b) p
  body-fails zero v f h e = absurd (f refl)
  body-fails (suc b) v f h e = flip (ap not (eq-eqb (ev s cs n (tree_at t b) p) 0 (flip h ∙ e)))

  pub body-takes : (b v : ℕ) → (b ≡ 0 → ⊥) → v ≡ ev s cs n (tree_of t b) p → (v ≡ 0 → ⊥) → true ≡ own_takes s cs n (body_by t b) p
  body-takes zero v f h e = absurd (f refl)
  body-takes (suc b) v f h e = flip (ap not (ne_eqb (ev s cs n (tree_at t b) p) 0 (λ z. e (h ∙ z))))

-- ── the symbol called `water` ──
module _ (t : List ℕ) (n : ℕ) where
  abbrev names : List Symbol
  names = up_to (name_in t) n

  pub water-found : (i : ℕ) → i < n → ((j : ℕ) → j < i → same_symbol water_name (name_in t j) ≡ false) → same_symbol water_name (name_in t i) ≡ true → i ≡ index_of same_symbol water_name (up_to (name_in t) n)
  water-found i h f e =
      flip (index_at same_symbol water_name (name []) names i (omega (arith, h, up-length (name_in t) n)) (λ j g. ap (same_symbol water_name) (up_at (name_in t) (name []) n j (omega arith)) ∙ f j g)
      (ap (same_symbol water_name) (up_at (name_in t) (name []) n i h) ∙ e))

  pub water-missing : (i : ℕ) → i ≤ n → n ≤ i → ((j : ℕ) → j < i → same_symbol water_name (name_in t j) ≡ false) → i ≡ index_of same_symbol water_name (up_to (name_in t) n)
  water-missing i h g f =
      let e : i ≡ n = omega arith in
      let u : index_of same_symbol water_name names ≡ length names =
      index-none same_symbol water_name (name []) names
      (λ j k. let l : j < n = omega (arith, k, up-length (name_in t) n) in ap (same_symbol water_name) (up_at (name_in t) (name []) n j l) ∙ f j (omega arith)) in
      e ∙ flip (up-length (name_in t) n) ∙ flip u

  pub not-before : (i : ℕ) → ((j : ℕ) → j < i → same_symbol water_name (name_in t j) ≡ false) → same_symbol water_name (name_in t i) ≡ false → (j : ℕ) → j < i + 1 → same_symbol water_name (name_in t j) ≡ false
  not-before i f e j h = go (ltb j i) refl
    where
      go : (b : Bool) → ltb j i ≡ b → same_symbol water_name (name_in t j) ≡ false
      go true g = f j (ltb-true j i g)
      go false g = let z : i ≡ j = omega (arith, ltb-false j i g) in subst (λ (k : ℕ). same_symbol water_name (name_in t k) ≡ false) z e

-- its right side
module _ (t : List ℕ) (n w : ℕ) (count : n ≡ symbol_count t) (is : w ≡ index_of same_symbol water_name (up_to (name_in t) n)) where
  water-at : water_in (grammar_in t) ≡ get_or (up_to (body_in t) (symbol_count t)) w none
  unfolding water_in grammar_in
  water-at =
      ap (λ (i : ℕ). get_or (up_to (body_in t) (symbol_count t)) i none) (ap (λ (m : ℕ). index_of same_symbol water_name (up_to (name_in t) m)) (flip count) ∙ flip is)

  pub water-rule : (b : ℕ) → w < n → b ≡ symbol_word t w 1 → body_by t b ≡ water_in (grammar_in t)
  unfolding body_in
  water-rule b h e = ap (body_by t) e ∙ flip (water-at ∙ up_at (body_in t) none (symbol_count t) w (omega (arith, h, count)))

  pub water-gone : n ≤ w → body_by t 0 ≡ water_in (grammar_in t)
  water-gone h = flip (water-at ∙ get_or-eq_default (up_to (body_in t) (symbol_count t)) none {n = w} (omega (arith, h, count, up-length (body_in t) (symbol_count t))))

-- ── alternatives ──
and_assoc : (a b c : Bool) → (a && (b && c)) ≡ ((a && b) && c)
and_assoc true b c = refl
and_assoc false b c = refl

pub lake-name : (t : List ℕ) (i k : ℕ) → k ≡ symbol_word t i 0 → not (eqb k 0) ≡ is_lake (name_in t i)
unfolding name_in
lake-name t i k e = ap (λ (x : ℕ). not (eqb x 0)) e ∙ go (symbol_word t i 0) _
  where
    go : (x : ℕ) (w : List ℕ) → not (eqb x 0) ≡ is_lake (symbol_by x w)
    go zero w = refl
    go (suc x) w = ap not (ne_eqb (suc x) 0 (λ e. omega (arith, e)))

module _ (s cs : List ℕ) (n p : ℕ) where
  pub none-append : (a b : List (Exp ℕ)) → none_matches s cs n (a ++ b) p ≡ (none_matches s cs n a p && none_matches s cs n b p)
  unfolding none_matches
  none-append [] b = refl
  none-append (e ∷ a) b = ap (λ (x : Bool). eqb (ev s cs n e p) 0 && x) (none-append a b) ∙ and_assoc (eqb (ev s cs n e p) 0) (none_matches s cs n a p) (none_matches s cs n b p)

  module _ (set : List ℕ) where
    symbol-next : (i : ℕ) (h : Symbol) (hs : List Symbol) → none_matches s cs n (nonterminals_in set i (h ∷ hs)) p ≡
        (symbol_fails s cs n set i h p && none_matches s cs n (nonterminals_in set (suc i) hs) p)
    unfolding nonterminals_in none_matches
    symbol-next i h hs = go (member_of set i && not (is_lake h))
      where
        go : (b : Bool) → none_matches s cs n (elim b as (λ c. List (Exp ℕ)) [ true ↦ sym i ∷ nonterminals_in set (suc i) hs | false ↦ nonterminals_in set (suc i) hs ]) p
            ≡ (cond b (eqb (ev s cs n (sym i) p) 0) true && none_matches s cs n (nonterminals_in set (suc i) hs) p)
        go true = refl
        go false = refl

    terminal-next : (i : ℕ) (x : Leaf) (xs : List Leaf) → none_matches s cs n (terminals_in set i (x ∷ xs)) p ≡
        (terminal_fails s cs n set (64 + i) x p && none_matches s cs n (terminals_in set (suc i) xs) p)
    unfolding terminals_in none_matches
    terminal-next i x xs = go (member_of set (64 + i))
      where
        go : (b : Bool) → none_matches s cs n (elim b as (λ c. List (Exp ℕ)) [ true ↦ ter x ∷ terminals_in set (suc i) xs | false ↦ terminals_in set (suc i) xs ]) p
            ≡ (cond b (eqb (ev s cs n (ter x) p) 0) true && none_matches s cs n (terminals_in set (suc i) xs) p)
        go true = refl
        go false = refl

    -- from symbol i on, of m
    module _ (t : List ℕ) (m : ℕ) where
      abbrev pub symbols_from : ℕ → Bool
      symbols_from i = none_matches s cs n (nonterminals_in set i (drop i (up_to (name_in t) m))) p

      pub symbols-more : (i : ℕ) → i < m → (symbol_fails s cs n set i (name_in t i) p && symbols_from (i + 1)) ≡ symbols_from i
      symbols-more i h =
          ap (λ (j : ℕ). symbol_fails s cs n set i (name_in t i) p && symbols_from j) (add-one i)
          ∙ ap (λ (x : Symbol). symbol_fails s cs n set i x p && symbols_from (suc i)) (flip (up_at (name_in t) (name []) m i h))
          ∙ flip (ap (λ (l : List Symbol). none_matches s cs n (nonterminals_in set i l) p) (drop-cons (up_to (name_in t) m) i (name []) (omega (arith, h, up-length (name_in t) m)))
          ∙ symbol-next i (get_or (up_to (name_in t) m) i (name [])) (drop (suc i) (up_to (name_in t) m)))

      pub symbols-end : (i : ℕ) → m ≤ i → true ≡ symbols_from i
      unfolding none_matches nonterminals_in
      symbols-end i h = let k : length (up_to (name_in t) m) ≤ i = omega (arith, h, up-length (name_in t) m) in flip
          (ap (λ (l : List Symbol). none_matches s cs n (nonterminals_in set i l) p) (drop_of_length-le (up_to (name_in t) m) k))

      abbrev pub terminals_from : ℕ → Bool
      terminals_from i = none_matches s cs n (terminals_in set i (drop i (up_to (leaf_in t) m))) p

      pub terminals-more : (i : ℕ) → i < m → (terminal_fails s cs n set (64 + i) (leaf_in t i) p && terminals_from (i + 1)) ≡ terminals_from i
      terminals-more i h =
          ap (λ (j : ℕ). terminal_fails s cs n set (64 + i) (leaf_in t i) p && terminals_from j) (add-one i)
          ∙ ap (λ (x : Leaf). terminal_fails s cs n set (64 + i) x p && terminals_from (suc i)) (flip (up_at (leaf_in t) any m i h))
          ∙ flip (ap (λ (l : List Leaf). none_matches s cs n (terminals_in set i l) p) (drop-cons (up_to (leaf_in t) m) i any (omega (arith, h, up-length (leaf_in t) m)))
          ∙ terminal-next i (get_or (up_to (leaf_in t) m) i any) (drop (suc i) (up_to (leaf_in t) m)))

      pub terminals-end : (i : ℕ) → m ≤ i → true ≡ terminals_from i
      unfolding none_matches terminals_in
      terminals-end i h = let k : length (up_to (leaf_in t) m) ≤ i = omega (arith, h, up-length (leaf_in t) m) in flip
          (ap (λ (l : List Leaf). none_matches s cs n (terminals_in set i l) p) (drop_of_length-le (up_to (leaf_in t) m) k))

-- one symbol, one terminal
module _ (t s cs : List ℕ) (n : ℕ) (set : List ℕ) (i p : ℕ) where
  pub symbol-not : member_of set i ≡ false → true ≡ symbol_fails s cs n set i (name_in t i) p
  symbol-not e = ap (λ (b : Bool). cond (b && not (is_lake (name_in t i))) (eqb (ev s cs n (sym i) p) 0) true) (flip e)

  module _ (e : member_of set i ≡ true) (k : ℕ) (word : k ≡ symbol_word t i 0) where
    by-lake : (b : Bool) → not (eqb k 0) ≡ b → cond (not b) (eqb (ev s cs n (sym i) p) 0) true ≡ symbol_fails s cs n set i (name_in t i) p
    by-lake b h =
        ap (λ (c : Bool). cond (not c) (eqb (ev s cs n (sym i) p) 0) true) (flip h ∙ lake-name t i k word)
        ∙ ap (λ (c : Bool). cond (c && not (is_lake (name_in t i))) (eqb (ev s cs n (sym i) p) 0) true) (flip e)

    pub symbol-lake : (k ≡ 0 → ⊥) → true ≡ symbol_fails s cs n set i (name_in t i) p
    symbol-lake f = by-lake true (ap not (ne_eqb k 0 f))

    pub symbol-asked : (v : ℕ) → k ≡ 0 → v ≡ cell_at s cs n i p → eqb v 0 ≡ symbol_fails s cs n set i (name_in t i) p
    unfolding ev
    symbol-asked v z h = ap (λ (x : ℕ). eqb x 0) h ∙ by-lake false (ap not (eq-eqb k 0 z))

  pub terminal-not : member_of set (64 + i) ≡ false → true ≡ terminal_fails s cs n set (64 + i) (leaf_in t i) p
  terminal-not e = ap (λ (b : Bool). cond b (eqb (ev s cs n (ter (leaf_in t i)) p) 0) true) (flip e)

  pub terminal-asked : (v : ℕ) → member_of set (64 + i) ≡ true → v ≡ leaf_at s (leaf_in t i) p → eqb v 0 ≡ terminal_fails s cs n set (64 + i) (leaf_in t i) p
  unfolding ev
  terminal-asked v e h = ap (λ (x : ℕ). eqb x 0) h ∙ ap (λ (b : Bool). cond b (eqb (leaf_at s (leaf_in t i) p) 0) true) (flip e)

-- all of them fail, or one does not: what is said from each on, and of the one at it
false_and : (b c : Bool) → false ≡ c → false ≡ (b && c)
false_and true c e = e
false_and false c e = refl

module _ (fails from : ℕ → Bool) (m : ℕ) (more : (i : ℕ) → i < m → (fails i && from (i + 1)) ≡ from i) (ends : (i : ℕ) → m ≤ i → true ≡ from i) where
  all_from : (k i : ℕ) → i + k ≡ m → ((j : ℕ) → j < m → fails j ≡ true) → true ≡ from i
  all_from zero i e h = ends i (omega arith)
  all_from (suc k) i e h = all_from k (i + 1) (omega arith) h ∙ flip (ap (λ (b : Bool). b && from (i + 1)) (h i (omega arith))) ∙ more i (omega arith)

  some_from : (k i : ℕ) → i + k ≡ m → (j : ℕ) → i ≤ j → j < m → fails j ≡ false → false ≡ from i
  some_from zero i e j a b f = absurd (omega (arith, a, b, e))
  some_from (suc k) i e j a b f = go (ltb i j) refl (λ q. some_from k (i + 1) (omega arith) j (omega arith) b f)
    where
      go : (c : Bool) → ltb i j ≡ c → (i < j → false ≡ from (i + 1)) → false ≡ from i
      go true q g = false_and (fails i) (from (i + 1)) (g (ltb-true i j q)) ∙ more i (omega arith)
      go false q g = let z : j ≡ i = omega (arith, a, ltb-false i j q) in
          ap (λ (c : Bool). c && from (i + 1)) (flip (subst (λ (x : ℕ). fails x ≡ false) z f)) ∙ more i (omega arith)

  pub all-by : (b : Bool) → MatchBool b (AllWithin (λ j. fails j ≡ true) (range_with_len 0 m) 0 (length (range_with_len 0 m)))
      ((k : ℕ) × (k < length (range_with_len 0 m)) × HoldsAt (λ j. fails j ≡ false) (range_with_len 0 m) k) → b ≡ from 0
  all-by true h = all_from m 0 (omega arith) (λ k l.
      subst (λ (j : ℕ). fails j ≡ true) (omega (arith, get_or-range_with_len 0 m k 0 l)) (h k 0 (omega arith) (omega (arith, length-range_with_len 0 m))))
  all-by false h =
      let l : h.0 < m = omega (arith, h.1, length-range_with_len 0 m) in
      some_from m 0 (omega arith) h.0 (omega arith) l (subst (λ (j : ℕ). fails j ≡ false) (omega (arith, get_or-range_with_len 0 m h.0 0 l)) (h.2 0))

-- ── all of it, of the grammar that a table holds ──
-- by its three tests
abbrev picked : Bool → Bool → Bool → ℕ
picked true w m = 1
picked false true m = 2
picked false false true = 3
picked false false false = 0

way-picks : (s cs : List ℕ) (n : ℕ) (own water : Option (Exp ℕ)) (ss : List (Exp ℕ)) (p : ℕ)
    → picked (own_takes s cs n own p) (own_takes s cs n water p) (ltb p (length s) && none_matches s cs n ss p) ≡ way_number s cs n own water ss p
unfolding way_number
way-picks s cs n own water ss p = go (own_takes s cs n own p) (own_takes s cs n water p) (ltb p (length s) && none_matches s cs n ss p)
  where
    go : (a w m : Bool) → picked a w m ≡ elim a as (λ c. ℕ) [ true ↦ 1 | false ↦ elim w as (λ c. ℕ) [ true ↦ 2 | false ↦ elim m as (λ c. ℕ) [ true ↦ 3 | false ↦ 0 ] ] ]
    go true w m = refl
    go false true m = refl
    go false false true = refl
    go false false false = refl

module _ (t s cs : List ℕ) (n : ℕ) (set : List ℕ) (l p b : ℕ) (count : n ≡ symbol_count t) (inside : l < n) (own : b ≡ symbol_word t l 1) where
  abbrev g : Grammar
  g = grammar_in t

  own_is : body_by t b ≡ get_or g.rights l none
  unfolding grammar_in body_in
  own_is = ap (body_by t) own ∙ flip (up_at (body_in t) none (symbol_count t) l (omega (arith, inside, count)))

  none_is : (none_matches s cs n (nonterminals_in set 0 (drop 0 (up_to (name_in t) n))) p && none_matches s cs n (terminals_in set 0 (drop 0 (up_to (leaf_in t) (terminal_count t)))) p) ≡ none_matches s cs
      n (alternatives g set) p
  unfolding grammar_in alternatives
  none_is =
      ap (λ (m : ℕ). none_matches s cs n (nonterminals_in set 0 (up_to (name_in t) m)) p && none_matches s cs n (terminals_in set 0 (up_to (leaf_in t) (terminal_count t))) p) count
      ∙ flip (none-append s cs n p (nonterminals_in set 0 (up_to (name_in t) (symbol_count t))) (terminals_in set 0 (up_to (leaf_in t) (terminal_count t))))

  module _ (a : Bool) (first : a ≡ own_takes s cs n (body_by t b) p) where
    by-own : a ≡ own_takes s cs n (get_or g.rights l none) p
    by-own = first ∙ ap (λ (o : Option (Exp ℕ)). own_takes s cs n o p) own_is

    -- by the three tests, as code has them
    by_tests : (w m : Bool) → w ≡ own_takes s cs n (water_in g) p → m ≡ (ltb p (length s) && none_matches s cs n (alternatives g set) p) → picked a w m ≡ way_in g s cs n set l p
    unfolding way_in
    by_tests w m e f =
        ap (λ (x : Bool). picked x w m) by-own ∙ ap (λ (x : Bool). picked (own_takes s cs n (get_or g.rights l none) p) x m) e
        ∙ ap (picked (own_takes s cs n (get_or g.rights l none) p) (own_takes s cs n (water_in g) p)) f ∙ way-picks s cs n (get_or g.rights l none) (water_in g) (alternatives g set) p

    pub way-own : a ≡ true → 1 ≡ way_in g s cs n set l p
    way-own e = ap (λ (x : Bool). picked x (own_takes s cs n (water_in g) p) (ltb p (length s) && none_matches s cs n (alternatives g set) p)) (flip e) ∙ by_tests _ _ refl refl

    module _ (w : Bool) (second : w ≡ own_takes s cs n (water_in g) p) (not_own : a ≡ false) where
      pub way-water : w ≡ true → 2 ≡ way_in g s cs n set l p
      way-water e =
          ap₂ (λ (x y : Bool). picked x y (ltb p (length s) && none_matches s cs n (alternatives g set) p)) (flip not_own) (flip e) ∙ by_tests w _ second refl

      module _ (dry : w ≡ false) where
        rest-by : (m : Bool) → m ≡ (ltb p (length s) && none_matches s cs n (alternatives g set) p) → picked false false m ≡ way_in g s cs n set l p
        rest-by m e = ap₂ (λ (x y : Bool). picked x y m) (flip not_own) (flip dry) ∙ by_tests w m second e

        pub way_end : length s ≤ p → 0 ≡ way_in g s cs n set l p
        way_end h = rest-by false (ap (λ (x : Bool). x && none_matches s cs n (alternatives g set) p) (flip (le-ltb p (length s) h)))

        module _ (x : Bool) (more : p < length s) (symbols : x ≡ none_matches s cs n (nonterminals_in set 0 (drop 0 (up_to (name_in t) n))) p) where
          here : (m : Bool) → m ≡ none_matches s cs n (alternatives g set) p → m ≡ (ltb p (length s) && none_matches s cs n (alternatives g set) p)
          here m e = e ∙ ap (λ (y : Bool). y && none_matches s cs n (alternatives g set) p) (flip (lt-ltb p (length s) more))

          pub way-symbol : x ≡ false → 0 ≡ way_in g s cs n set l p
          way-symbol e =
              rest-by false (here false (ap (λ (y : Bool). y && none_matches s cs n (terminals_in set 0 (drop 0 (up_to (leaf_in t) (terminal_count t)))) p) (flip e ∙ symbols) ∙ none_is))

          module _ (y : Bool) (terminals : y ≡ none_matches s cs n (terminals_in set 0 (drop 0 (up_to (leaf_in t) (terminal_count t)))) p) (no_symbol : x ≡ true) where
            both_by : y ≡ none_matches s cs n (alternatives g set) p
            both_by = ap₂ (λ (u v : Bool). u && v) (flip no_symbol ∙ symbols) terminals ∙ none_is

            pub way-terminal : y ≡ false → 0 ≡ way_in g s cs n set l p
            way-terminal e = rest-by false (here false (flip e ∙ both_by))

            pub way-skip : y ≡ true → 3 ≡ way_in g s cs n set l p
            way-skip e = rest-by true (here true (flip e ∙ both_by))
