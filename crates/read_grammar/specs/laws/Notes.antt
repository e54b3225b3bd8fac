-- Symbols and terminals: noted, and looked up. Assumes nothing.
use Rattle.std.specs.Prelude.{ℕ, ◌+◌, ◌*◌, ◌≤◌, ◌<◌, ◌≡◌, refl, Bool, true, false, ltb, length, get_or, set, replicate}
use Rattle.std.proofs.Math.Path.{sym, ap, subst}
use Rattle.std.proofs.Common.{◌∙◌, inl, inr, arith, length-set, get_or-set_same, get_or-set_other, ltb-true, ltb-false}
use mathlib.Core.List.{List, [], ◌∷◌}
use Rattle.std.proofs.lemmas.List.Edits.{sets}
use Rattle.std.proofs.Math.Seq.{length-sets}
use Rattle.read_tokens.specs.Token.{Symbol, name, lake, Leaf, any}
use Rattle.grammar.specs.Parts.{terminal, occurs}
use Rattle.grammar.specs.Exp.{sym as symb, ter}
use Rattle.grammar.specs.Same.{same_symbol, same_leaf, is_in, index_of}
use Rattle.grammar_table.specs.Table.{expressions_at, terminals_at, terminal_words, symbols_at, symbol_words, body_at, symbol_key, terminal_key, table_words, words_from, part_by}
use Rattle.grammar_table.specs.steps.Rows.{seek, kept, Noted}
use Rattle.grammar_table.specs.laws.Caps.{cap-low}
use Rattle.grammar_table.specs.laws.Words.{sets-out}
use Rattle.grammar_table.specs.laws.Rows.{also, also-in, All, all_left}
use Rattle.grammar_table.specs.laws.Seeks.{noted-full}
use Rattle.grammar_table.specs.laws.Kept.{Kept, With, kept-all, kept-moved, seek-index, fits-also, noted}
use Rattle.read_entries.specs.steps.Entries.{symbol_row, symbol_record, FitSymbol, symbol_from, leaf_record, FitLeaf, leaf_from, leaf_kind, pushed}
use Rattle.read_grammar.specs.steps.Lay.{St, st, leafed, lay, Fits, Told, Rel}
use Rattle.read_grammar.specs.laws.Entries.{symbol-read, symbol-sound, symbol-refl, symbol-alike, leaf-read}
use Rattle.grammar.specs.laws.Same.{leaf-sound, leaf-refl}
use Rattle.read_grammar.specs.laws.Grows.{also-front, grows-leaf, fits-back, terms-back}
use Rattle.read_grammar.specs.laws.Stores.{part_moved, rel-push}

-- ── nothing is read yet ──
pub rel-start : (t : List ℕ) → length t ≡ table_words → Rel (set (set (set t 0 0) 1 0) 2 0) (st [] [] [] [])
rel-start t e = record {
  long = length-set (set (set t 0 0) 1 0) 2 0 ∙ length-set (set t 0 0) 1 0 ∙ length-set t 0 0 ∙ e;
  told = λ f. record {
    symbols = record {
      count = get_or-set_other (set (set t 0 0) 1 0) 2 0 0 0 (λ g. omega arith) ∙ get_or-set_other (set t 0 0) 1 0 0 0 (λ g. omega arith) ∙ get_or-set_same t 0 0 0 (omega arith) ∙ cap-low 0 65 (omega arith);
      rows = λ i h z. absurd (omega arith);
    };
    leaves = record {
      count = get_or-set_other (set (set t 0 0) 1 0) 2 1 0 0 (λ g. omega arith) ∙ get_or-set_same (set t 0 0) 1 0 0 (omega (arith, length-set t 0 0)) ∙ cap-low 0 65 (omega arith);
      rows = λ i h z. absurd (omega arith);
    };
    count = get_or-set_same (set (set t 0 0) 1 0) 2 0 0 (omega (arith, length-set t 0 0, length-set (set t 0 0) 1 0)) ∙ cap-low 0 1025 (omega arith);
    parts = λ a b i h z. absurd (omega arith);
    roots = λ a i h z. absurd (omega arith);
  };
}

-- ── a symbol is noted ──
no_body : (k : ℕ) (w : List ℕ) → get_or (symbol_row k w) 1 0 ≡ 0
unfolding symbol_row
no_body k w = sets-out w (set (set (replicate symbol_words 0) 0 k) 3 (length w)) 4 1 (inl (omega arith))

symbol-no-body : (h : Symbol) → get_or (symbol_record h) 1 0 ≡ 0
unfolding symbol_record
symbol-no-body (name w) = no_body 0 w
symbol-no-body (lake w) = no_body 1 w

module _ (old new : List ℕ) (r : ℕ) (h : Symbol) (ns : List Symbol) (rel : Rel old (st ns [] [] [])) (n : Noted old new (symbol_record h) 0 symbol_key symbol_words symbols_at r) where
  symbol-with : Fits (st (also same_symbol h ns) [] [] []) → Fits (st ns [] [] []) → With (name []) symbol_record symbol_key symbol_words same_symbol old new 0 symbols_at r h ns (also same_symbol h ns)
  symbol-with f g =
      noted (name []) symbol_record symbol_key symbol_words (omega arith) (omega arith) same_symbol symbol_from FitSymbol symbol-read symbol-sound symbol-refl 0 symbols_at (omega arith) old new r h ns
      (omega (arith, rel.long)) (rel.told g).symbols f.symbols n

  fits-before : Fits (st (also same_symbol h ns) [] [] []) → Fits (st ns [] [] [])
  fits-before f = record { symbols = also-before f.symbols; leaves = tt }
    where
      also-before : All FitSymbol (also same_symbol h ns) → All FitSymbol ns
      also-before x = let w = also-front same_symbol h ns in all_left FitSymbol ns w.0 (subst (All FitSymbol) w.1 x)

  length-noted : length new ≡ table_words
  length-noted = by (ltb r (kept old 0)) (ltb (kept old 0) 64) refl refl
    where
      by : (a b : Bool) → ltb r (kept old 0) ≡ a → ltb (kept old 0) 64 ≡ b → length new ≡ table_words
      by true b u v = ap length (n.known (ltb-true r (kept old 0) u)) ∙ rel.long
      by false true u v =
          ap length (n.added (ltb-false r (kept old 0) u) (ltb-true (kept old 0) 64 v))
          ∙ length-set (sets old (symbols_at + symbol_words * kept old 0) (words_from (symbol_record h) 0 symbol_words)) 0 (kept old 0 + 1)
          ∙ length-sets old (symbols_at + symbol_words * kept old 0) (words_from (symbol_record h) 0 symbol_words) ∙ rel.long
      by false false u v = ap length (n.over (ltb-false r (kept old 0) u) (ltb-false (kept old 0) 64 v)) ∙ length-set old 0 65 ∙ rel.long

  pub rel-named : Rel new (st (also same_symbol h ns) [] [] [])
  rel-named = record {
    long = length-noted;
    told = λ f.
        let d = rel.told (fits-before f) in
        let w = symbol-with f (fits-before f) in
        record {
          symbols = w.held;
          leaves = record { count = w.frame 1 (λ g. omega arith) (inl (omega arith)) ∙ d.leaves.count; rows = λ i p z. absurd (omega arith) };
          count = w.frame 2 (λ g. omega arith) (inl (omega arith)) ∙ d.count;
          parts = λ a b i p z. absurd (omega arith);
          roots = λ a i p z. root d w a i p z (ltb i (length ns)) refl;
        };
  }
    where
      root : Told old (st ns [] [] []) → With (name []) symbol_record symbol_key symbol_words same_symbol old new 0 symbols_at r h ns (also same_symbol h ns) → ◌≤◌ 0 1024 → (i : ℕ) → i < 64 → i < length (also same_symbol h ns)
          → (b : Bool) → ltb i (length ns) ≡ b → get_or new (body_at i) 0 ≡ 0
      root d w a i p z true u =
          let e : body_at i ≡ symbols_at + symbol_words * i + 1 = omega arith in
          ap (λ (x : ℕ). get_or new x 0) e ∙ w.before i 1 p (ltb-true i (length ns) u) (omega arith) ∙ ap (λ (x : ℕ). get_or old x 0) (sym e) ∙ d.roots a i p (ltb-true i (length ns) u)
      root d w a i p z false u =
          let e : body_at i ≡ symbols_at + symbol_words * i + 1 = omega arith in
          ap (λ (x : ℕ). get_or new x 0) e ∙ w.fresh i 1 p (ltb-false i (length ns) u) z (omega arith) ∙ symbol-no-body h

-- ── a symbol is looked up ──
pub rel-symbol : (t : List ℕ) (r : ℕ) (h : Symbol) (s : St) → Rel t s → r ≡ seek t (symbol_record h) symbol_key symbol_words symbols_at (kept t 0) → Rel (pushed 1 r 0 t) (lay (symb h) s)
unfolding lay part_by
rel-symbol t r h s rel e =
    rel-push 1 r 0 (occurs (index_of same_symbol h s.names)) t s rel
    (λ f a b z.
    let d = rel.told f in
    ap occurs
    (e ∙ ap (λ (n : ℕ). seek t (symbol_record h) symbol_key symbol_words symbols_at n) (kept-all (name []) symbol_record symbol_key symbol_words t 0 symbols_at s.names d.symbols a)
    ∙ seek-index (name []) symbol_record symbol_key symbol_words (omega arith) (omega arith) same_symbol symbol_from FitSymbol symbol-read symbol-sound symbol-refl t h s.names 8
    (λ i q. d.symbols.rows i (omega arith) q) f.symbols (λ c y. symbol-alike t h c y)))

-- ── a terminal is noted ──
module _ (old new row : List ℕ) (r : ℕ) (x : Leaf) (s : St) (rel : Rel old s) (is : FitLeaf x → row ≡ leaf_record x) (n : Noted old new row 1 terminal_key terminal_words terminals_at r) where
  row_is : Fits (leafed x s) → Noted old new (leaf_record x) 1 terminal_key terminal_words terminals_at r
  row_is f =
      subst (λ (w : List ℕ). Noted old new w 1 terminal_key terminal_words terminals_at r)
      (is (fits-also any leaf_record terminal_key terminal_words (omega arith) (omega arith) same_leaf leaf_from FitLeaf leaf-read leaf-sound leaf-refl x s.terms f.leaves)) n

  leaf-with : Fits (leafed x s) → With any leaf_record terminal_key terminal_words same_leaf old new 1 terminals_at r x s.terms (also same_leaf x s.terms)
  leaf-with f =
      noted any leaf_record terminal_key terminal_words (omega arith) (omega arith) same_leaf leaf_from FitLeaf leaf-read leaf-sound leaf-refl 1 terminals_at (omega arith) old new r x s.terms
      (omega (arith, rel.long)) (rel.told (fits-back s (leafed x s) (grows-leaf x s) f)).leaves f.leaves (row_is f)

  leaf-length : length new ≡ table_words
  leaf-length = by (ltb r (kept old 1)) (ltb (kept old 1) 64) refl refl
    where
      by : (a b : Bool) → ltb r (kept old 1) ≡ a → ltb (kept old 1) 64 ≡ b → length new ≡ table_words
      by true b u v = ap length (n.known (ltb-true r (kept old 1) u)) ∙ rel.long
      by false true u v =
          ap length (n.added (ltb-false r (kept old 1) u) (ltb-true (kept old 1) 64 v))
          ∙ length-set (sets old (terminals_at + terminal_words * kept old 1) (words_from row 0 terminal_words)) 1 (kept old 1 + 1)
          ∙ length-sets old (terminals_at + terminal_words * kept old 1) (words_from row 0 terminal_words) ∙ rel.long
      by false false u v = ap length (n.over (ltb-false r (kept old 1) u) (ltb-false (kept old 1) 64 v)) ∙ length-set old 1 65 ∙ rel.long

  pub rel-leaf : Rel new (leafed x s)
  rel-leaf = record {
    long = leaf-length;
    told = λ f.
        let d = rel.told (fits-back s (leafed x s) (grows-leaf x s) f) in
        let w = leaf-with f in
        let low : (j : ℕ) → (j ≡ 1 → ⊥) → j < terminals_at → get_or new j 0 ≡ get_or old j 0 = λ j p q. w.frame j p (inl q) in
        let high : (j : ℕ) → expressions_at ≤ j → get_or new j 0 ≡ get_or old j 0 = λ j q. w.frame j (λ g. omega arith) (inr (omega arith)) in
        record {
          symbols = kept-moved (name []) symbol_record symbol_key symbol_words (omega arith) old new 0 symbols_at s.names d.symbols (low 0 (λ g. omega arith) (omega arith)) (λ j a b. low j (λ g. omega arith) (omega arith));
          leaves = w.held;
          count = low 2 (λ g. omega arith) (omega arith) ∙ d.count;
          parts = λ a b i p z. part_moved old new i (λ j u v. high j (omega arith)) ∙ d.parts a (terms-back s (leafed x s) (grows-leaf x s) b) i p z;
          roots = λ a i p z. low (body_at i) (λ g. omega arith) (omega arith) ∙ d.roots a i p z;
        };
  }

  pub rel-used : Rel (pushed 0 r 0 new) (lay (ter x) s)
  unfolding lay part_by
  rel-used = rel-push 0 r 0 (terminal (index_of same_leaf x (also same_leaf x s.terms))) new (leafed x s) rel-leaf (λ f a b z. ap terminal ((leaf-with f).number b))

-- where there are too many terminals no number counts
pub rel-full : (t : List ℕ) (x : Leaf) (s : St) → Rel t s → get_or t 1 0 ≡ 65 → Rel (pushed 0 0 0 t) (lay (ter x) s)
unfolding lay part_by
rel-full t x s rel e =
    let held : Rel t (leafed x s) =
    rel-leaf t t (leaf_record x) (seek t (leaf_record x) terminal_key terminal_words terminals_at (kept t 1)) x s rel (λ _. refl)
    (noted-full t (leaf_record x) 1 terminal_key terminal_words terminals_at e) in
    rel-push 0 0 0 (terminal (index_of same_leaf x (also same_leaf x s.terms))) t (leafed x s) held
    (λ f a b z. absurd (omega (arith, e, (held.told f).leaves.count, cap-low (length (also same_leaf x s.terms)) 65 (omega arith))))

-- the first terminal is `.` where its kind says so
module _ (t : List ℕ) (some-are : 0 < get_or t 1 0) (kind : get_or t terminals_at 0 ≡ 0) where
  any-first : (l : List Leaf) → Kept any leaf_record terminal_key terminal_words t 1 terminals_at l → All FitLeaf l → (is_in same_leaf any l ≡ true) × (index_of same_leaf any l ≡ 0)
  unfolding is_in index_of same_leaf leaf_from leaf_kind
  any-first [] k f = absurd (omega (arith, k.count, cap-low 0 65 (omega arith)))
  any-first (y ∷ l) k f =
      let e : any ≡ y = sym any-read ∙ leaf-read t terminals_at y (k.rows 0 (omega arith) (omega arith)) f.0 in
      subst (λ (z : Leaf). (is_in same_leaf any (z ∷ l) ≡ true) × (index_of same_leaf any (z ∷ l) ≡ 0)) e (refl, refl)
    where
      any-read : leaf_from t terminals_at ≡ any
      any-read = ap (λ (k : ℕ). leaf_kind k t terminals_at) kind

  pub rel-any : (s : St) → Rel t s → Rel (pushed 0 0 0 t) (lay (ter any) s)
  unfolding lay part_by
  rel-any s rel =
      rel-push 0 0 0 (terminal (index_of same_leaf any (also same_leaf any s.terms))) t (leafed any s) (record { long = rel.long; told = λ f. there f })
      (λ f a b z. ap terminal (sym (ap (index_of same_leaf any) (same f) ∙ (known f).1)))
    where
      before : Fits (leafed any s) → Fits s
      before f = fits-back s (leafed any s) (grows-leaf any s) f

      known : Fits (leafed any s) → (is_in same_leaf any s.terms ≡ true) × (index_of same_leaf any s.terms ≡ 0)
      known f = any-first s.terms (rel.told (before f)).leaves (before f).leaves

      same : Fits (leafed any s) → also same_leaf any s.terms ≡ s.terms
      same f = also-in same_leaf any s.terms (known f).0

      there : Fits (leafed any s) → Told t (leafed any s)
      there f = subst (λ (l : List Leaf). Told t (st s.names s.heads l s.parts)) (sym (same f)) (rel.told (before f))
