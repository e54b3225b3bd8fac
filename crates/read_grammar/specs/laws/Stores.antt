-- One store after the other: the table holds what is read, also afterwards. Assumes nothing.
use Rattle.std.specs.Prelude.{ℕ, ◌+◌, ◌-◌, ◌*◌, ◌≤◌, ◌<◌, ◌≡◌, Bool}
use Rattle.std.proofs.Math.Path.{refl, sym, ap}
use Rattle.std.proofs.Common.{◌∙◌, subst, inl, arith, eq-or-lt_of_le, length-append, ltb-true, ltb-false, lt-ltb, le-ltb}
use Rattle.std.proofs.Math.Bool.{true, false}
use mathlib.Core.List.{List, [], ◌∷◌, ◌++◌}
use Rattle.std.proofs.Math.Logic.{⊎_elim}
use Rattle.std.proofs.Math.Dec.{ltb}
use Rattle.std.proofs.Math.ListN.{length, get_or, set, length-set, get_or-append, get_or-eq_default}
use Rattle.std.proofs.lemmas.List.Edits.{sets}
use Rattle.std.proofs.Math.Seq.{get_or-set_same, get_or-set_other, get_or-append_seam, length-sets}
use Rattle.read_tokens.specs.Token.{name, any}
use Rattle.grammar.specs.Parts.{Part, terminal}
use Rattle.grammar_table.specs.Table.{expressions_at, expression_words, terminals_at, terminal_words, symbols_at, symbol_words, body_at, symbol_key, terminal_key, table_words, part_by, part_in}
use Rattle.grammar_table.specs.laws.Caps.{cap-low, cap-high}
use Rattle.grammar_table.specs.laws.Words.{sets-out, sets-in}
use Rattle.grammar_table.specs.laws.Kept.{kept-moved}
use Rattle.read_entries.specs.steps.Entries.{symbol_record, leaf_record, push_by, pushed, bodied_by, bodied}
use Rattle.read_grammar.specs.steps.Lay.{St, last_of, push, under, joined, headed, Fits, Told, Rel}
use Rattle.read_grammar.specs.laws.Grows.{Grows, fits-back}

-- ── expressions ──
pub part_moved : (t t' : List ℕ) (i : ℕ) → ((j : ℕ) → expressions_at + expression_words * i ≤ j → j < expressions_at + expression_words * i + 3 → get_or t' j 0 ≡ get_or t j 0) → part_in t' i ≡ part_in t i
unfolding part_in
part_moved t t' i h =
    ap (λ (x : ℕ). part_by x (get_or t' (expressions_at + expression_words * i + 1) 0) (get_or t' (expressions_at + expression_words * i + 2) 0)) (h (expressions_at + expression_words * i + 0) (omega arith) (omega arith))
    ∙ ap (λ (x : ℕ). part_by (get_or t (expressions_at + expression_words * i + 0) 0) x (get_or t' (expressions_at + expression_words * i + 2) 0)) (h (expressions_at + expression_words * i + 1) (omega arith) (omega arith))
    ∙ ap (λ (x : ℕ). part_by (get_or t (expressions_at + expression_words * i + 0) 0) (get_or t (expressions_at + expression_words * i + 1) 0) x) (h (expressions_at + expression_words * i + 2) (omega arith) (omega arith))

part-is : (t : List ℕ) (i k l r : ℕ) → get_or t (expressions_at + expression_words * i + 0) 0 ≡ k → get_or t (expressions_at + expression_words * i + 1) 0 ≡ l → get_or t (expressions_at + expression_words * i + 2) 0 ≡ r → part_in t i ≡ part_by k l r
unfolding part_in
part-is t i k l r a b c = rw (a, b, c) refl

module _ (k l r : ℕ) (p : Part) (t : List ℕ) (s : St) (rel : Rel t s)
    (is : Fits s → length s.names ≤ 64 → length s.terms ≤ 64 → length s.parts < 1024 → part_by k l r ≡ p) where
  fit_same : Fits (push p s) → Fits s
  fit_same f = record { symbols = f.symbols; leaves = f.leaves }

  longer : length (s.parts ++ (p ∷ [])) ≡ length s.parts + 1
  longer = length-append s.parts (p ∷ [])

  -- room is left
  module _ (d : Told t s) (f : Fits s) (room : length s.parts < 1024) where
    n : ℕ
    n = length s.parts

    here : get_or t 2 0 ≡ length s.parts
    here = d.count ∙ sym (cap-low (length s.parts) 1025 (omega arith))

    t' : List ℕ
    t' = set (sets t (expressions_at + expression_words * length s.parts) (k ∷ l ∷ r ∷ [])) 2 (length s.parts + 1)

    is-t' : pushed k l r t ≡ t'
    unfolding pushed t'
    is-t' = ap (λ (b : Bool). push_by b (get_or t 2 0) k l r t) (lt-ltb (get_or t 2 0) 1024 (omega (arith, here))) ∙ ap (λ (c : ℕ). set (sets t (expressions_at + expression_words * c) (k ∷ l ∷ r ∷ [])) 2 (c + 1)) here

    apart : (j : ℕ) → (j ≡ 2 → ⊥) → j < expressions_at + expression_words * length s.parts → get_or t' j 0 ≡ get_or t j 0
    unfolding t'
    apart j h q =
        get_or-set_other (sets t (expressions_at + expression_words * length s.parts) (k ∷ l ∷ r ∷ [])) 2 j (length s.parts + 1) 0 h
        ∙ sets-out (k ∷ l ∷ r ∷ []) t (expressions_at + expression_words * length s.parts) j (inl q)

    inside : (j : ℕ) → j < 3 → get_or t' (expressions_at + expression_words * length s.parts + j) 0 ≡ get_or (k ∷ l ∷ r ∷ []) j 0
    unfolding t'
    inside j h =
        get_or-set_other (sets t (expressions_at + expression_words * length s.parts) (k ∷ l ∷ r ∷ [])) 2 (expressions_at + expression_words * length s.parts + j) (length s.parts + 1) 0 (λ e. omega arith)
        ∙ sets-in (k ∷ l ∷ r ∷ []) t (expressions_at + expression_words * length s.parts) j h (omega (arith, rel.long))

    told-room : Told t' (push p s)
    unfolding t'
    told-room = record {
      symbols = kept-moved (name []) symbol_record symbol_key symbol_words (omega arith) t t' 0 symbols_at s.names d.symbols (apart 0 (λ e. omega arith) (omega arith)) (λ j a b. apart j (λ e. omega arith) (omega arith));
      leaves = kept-moved any leaf_record terminal_key terminal_words (omega arith) t t' 1 terminals_at s.terms d.leaves (apart 1 (λ e. omega arith) (omega arith)) (λ j a b. apart j (λ e. omega arith) (omega arith));
      count =
          get_or-set_same (sets t (expressions_at + expression_words * length s.parts) (k ∷ l ∷ r ∷ [])) 2 (length s.parts + 1) 0 (omega (arith, rel.long, length-sets t (expressions_at + expression_words * length s.parts) (k ∷ l ∷ r ∷ [])))
          ∙ sym longer ∙ cap-low (length (s.parts ++ (p ∷ []))) 1025 (omega (arith, longer));
      parts = λ a b i h q. ⊎_elim
          (λ (e : i ≡ length s.parts).
          ap (part_in t') e ∙ part-is t' (length s.parts) k l r (inside 0 (omega arith)) (inside 1 (omega arith)) (inside 2 (omega arith)) ∙ is f a b room
          ∙ sym (get_or-append_seam s.parts p [] (terminal 0)) ∙ ap (λ (x : ℕ). get_or (s.parts ++ (p ∷ [])) x (terminal 0)) (sym e))
          (λ (e : i < length s.parts).
          part_moved t t' i (λ j u v. apart j (λ g. omega arith) (omega arith)) ∙ d.parts a b i h e ∙ sym (get_or-append s.parts (p ∷ []) (terminal 0) i e))
          (eq-or-lt_of_le (let g : i ≤ length s.parts = omega (arith, longer) in g));
      roots = λ a i h q. apart (body_at i) (λ e. omega arith) (omega arith) ∙ d.roots (omega arith) i h q;
    }

  -- no room is left
  module _ (d : Told t s) (full : 1024 ≤ length s.parts) where
    many : 1024 ≤ get_or t 2 0
    many = ⊎_elim
        (λ (e : 1024 ≡ length s.parts). omega (arith, d.count, cap-low (length s.parts) 1025 (omega arith)))
        (λ (e : 1024 < length s.parts). omega (arith, d.count, cap-high (length s.parts) 1025 (omega arith)))
        (eq-or-lt_of_le full)

    is-full : pushed k l r t ≡ set t 2 1025
    unfolding pushed
    is-full = ap (λ (b : Bool). push_by b (get_or t 2 0) k l r t) (le-ltb (get_or t 2 0) 1024 many)

    other : (j : ℕ) → (j ≡ 2 → ⊥) → get_or (set t 2 1025) j 0 ≡ get_or t j 0
    other j h = get_or-set_other t 2 j 1025 0 h

    told-full : Told (set t 2 1025) (push p s)
    told-full = record {
      symbols = kept-moved (name []) symbol_record symbol_key symbol_words (omega arith) t (set t 2 1025) 0 symbols_at s.names d.symbols (other 0 (λ e. omega arith)) (λ j a b. other j (λ e. omega arith));
      leaves = kept-moved any leaf_record terminal_key terminal_words (omega arith) t (set t 2 1025) 1 terminals_at s.terms d.leaves (other 1 (λ e. omega arith)) (λ j a b. other j (λ e. omega arith));
      count = get_or-set_same t 2 1025 0 (omega (arith, rel.long)) ∙ cap-high (length (s.parts ++ (p ∷ []))) 1025 (omega (arith, longer));
      parts = λ a b i h q. part_moved t (set t 2 1025) i (λ j u v. other j (λ g. omega arith)) ∙ d.parts a b i h (omega arith) ∙ sym (get_or-append s.parts (p ∷ []) (terminal 0) i (omega arith));
      roots = λ a i h q. absurd (omega (arith, longer));
    }

  pub rel-push : Rel (pushed k l r t) (push p s)
  unfolding pushed
  rel-push = record { long = by_length (ltb (get_or t 2 0) 1024) refl; told = λ f. by f (ltb (length s.parts) 1024) refl }
    where
      by_length : (b : Bool) → ltb (get_or t 2 0) 1024 ≡ b → length (pushed k l r t) ≡ table_words
      by_length true e = ap (λ (b : Bool). length (push_by b (get_or t 2 0) k l r t)) e ∙ length-set (sets t (expressions_at + expression_words * get_or t 2 0) (k ∷ l ∷ r ∷ [])) 2 (get_or t 2 0 + 1) ∙ length-sets t (expressions_at + expression_words * get_or t 2 0) (k ∷ l ∷ r ∷ []) ∙ rel.long
      by_length false e = ap (λ (b : Bool). length (push_by b (get_or t 2 0) k l r t)) e ∙ length-set t 2 1025 ∙ rel.long

      by : Fits (push p s) → (b : Bool) → ltb (length s.parts) 1024 ≡ b → Told (pushed k l r t) (push p s)
      by f true e =
          let g = fit_same f in
          let q : length s.parts < 1024 = ltb-true (length s.parts) 1024 e in
          subst (λ (x : List ℕ). Told x (push p s)) (sym (is-t' (rel.told g) g q)) (told-room (rel.told g) g q)
      by f false e =
          let g = fit_same f in
          let q : 1024 ≤ length s.parts = ltb-false (length s.parts) 1024 e in
          subst (λ (x : List ℕ). Told x (push p s)) (sym (is-full (rel.told g) q)) (told-full (rel.told g) q)

-- the count of expressions, while there is room
counted : (t : List ℕ) (s : St) → Rel t s → Fits s → length s.parts < 1024 → get_or t 2 0 ≡ length s.parts
counted t s rel f h = (rel.told f).count ∙ sym (cap-low (length s.parts) 1025 (omega arith))

pub rel-under : (k : ℕ) (mk : ℕ → Part) → ((x : ℕ) → part_by k x 0 ≡ mk x) → (t : List ℕ) (s : St) → Rel t s → Rel (pushed k (get_or t 2 0 - 1) 0 t) (under mk s)
rel-under k mk e t s rel = rel-push k (get_or t 2 0 - 1) 0 (mk (last_of s)) t s rel (λ f a b h. e (get_or t 2 0 - 1) ∙ ap (λ (x : ℕ). mk (x - 1)) (counted t s rel f h))

pub rel_join : (k : ℕ) (mk : ℕ → ℕ → Part) → ((x y : ℕ) → part_by k x y ≡ mk x y) → (t t₂ : List ℕ) (a : ℕ) (u v : St) → a ≡ get_or t 2 0 → Rel t u → Rel t₂ v → Grows u v
    → Rel (pushed k (a - 1) (get_or t₂ 2 0 - 1) t₂) (joined mk u v)
rel_join k mk e t t₂ a u v i p q g =
    rel-push k (a - 1) (get_or t₂ 2 0 - 1) (mk (last_of u) (last_of v)) t₂ v q
    (λ f c d h.
    e (a - 1) (get_or t₂ 2 0 - 1)
    ∙ ap (λ (x : ℕ). mk (x - 1) (get_or t₂ 2 0 - 1)) (i ∙ counted t u p (fits-back u v g f) (omega (arith, g.parts)))
    ∙ ap (λ (x : ℕ). mk (last_of u) (x - 1)) (counted t₂ v q f h))

-- ── bodies ──
pub rel-body : (k : ℕ) (t : List ℕ) (s : St) → Rel t s → k ≡ length s.heads → Rel (bodied k t) (headed s)
unfolding bodied
rel-body k t s rel e = by (ltb k 64) refl
  where
    grown : length (s.heads ++ (length s.parts ∷ [])) ≡ length s.heads + 1
    grown = length-append s.heads (length s.parts ∷ [])

    earlier : (i : ℕ) → i < length s.heads → get_or (s.heads ++ (length s.parts ∷ [])) i 0 ≡ get_or s.heads i 0
    earlier i h = get_or-append s.heads (length s.parts ∷ []) 0 i h

    by : (b : Bool) → ltb k 64 ≡ b → Rel (bodied_by b k t) (headed s)
    by false q = record {
      long = rel.long;
      told = λ f. let d = rel.told (record { symbols = f.symbols; leaves = f.leaves }) in record {
        symbols = d.symbols;
        leaves = d.leaves;
        count = d.count;
        parts = d.parts;
        roots = λ a i h z. d.roots a i h z ∙ sym (earlier i (omega (arith, ltb-false k 64 q)));
      };
    }
    by true q = record {
      long = length-set t (body_at k) (get_or t 2 0) ∙ rel.long;
      told = λ f. let d = rel.told (record { symbols = f.symbols; leaves = f.leaves }) in record {
        symbols = record {
          count = get_or-set_other t (body_at k) 0 (get_or t 2 0) 0 (λ g. omega arith) ∙ d.symbols.count;
          rows = λ i h z. record {
            first = get_or-set_other t (body_at k) (symbols_at + symbol_words * i) (get_or t 2 0) 0 (λ g. omega arith) ∙ (d.symbols.rows i h z).first;
            others = λ j u v. get_or-set_other t (body_at k) (symbols_at + symbol_words * i + j) (get_or t 2 0) 0 (λ g. omega arith) ∙ (d.symbols.rows i h z).others j u v;
          };
        };
        leaves = kept-moved any leaf_record terminal_key terminal_words (omega arith) t (set t (body_at k) (get_or t 2 0)) 1 terminals_at s.terms d.leaves
            (get_or-set_other t (body_at k) 1 (get_or t 2 0) 0 (λ g. omega arith))
            (λ j u v. get_or-set_other t (body_at k) j (get_or t 2 0) 0 (λ g. omega (arith, ltb-true k 64 q)));
        count = get_or-set_other t (body_at k) 2 (get_or t 2 0) 0 (λ g. omega arith) ∙ d.count;
        parts = λ a b i h z. part_moved t (set t (body_at k) (get_or t 2 0)) i (λ j u v. get_or-set_other t (body_at k) j (get_or t 2 0) 0 (λ g. omega (arith, ltb-true k 64 q))) ∙ d.parts a b i h z;
        roots = λ a i h z. at-root d a i h z (ltb i k) (ltb k i) refl refl;
      };
    }
      where
        at-root : Told t s → length s.parts ≤ 1024 → (i : ℕ) → i < 64 → i < length s.names → (x y : Bool) → ltb i k ≡ x → ltb k i ≡ y
            → get_or (set t (body_at k) (get_or t 2 0)) (body_at i) 0 ≡ get_or (s.heads ++ (length s.parts ∷ [])) i 0
        at-root d a i h z true y u v =
            get_or-set_other t (body_at k) (body_at i) (get_or t 2 0) 0 (λ g. omega (arith, ltb-true i k u)) ∙ d.roots a i h z ∙ sym (earlier i (omega (arith, ltb-true i k u)))
        at-root d a i h z false true u v =
            get_or-set_other t (body_at k) (body_at i) (get_or t 2 0) 0 (λ g. omega (arith, ltb-true k i v)) ∙ d.roots a i h z
            ∙ get_or-eq_default s.heads 0 (omega (arith, ltb-true k i v))
            ∙ sym (get_or-eq_default (s.heads ++ (length s.parts ∷ [])) 0 (omega (arith, grown, ltb-true k i v)))
        at-root d a i h z false false u v =
            let g : i ≡ k = omega (arith, ltb-false i k u, ltb-false k i v) in
            ap (λ (x : ℕ). get_or (set t (body_at k) (get_or t 2 0)) (body_at x) 0) g
            ∙ get_or-set_same t (body_at k) (get_or t 2 0) 0 (omega (arith, rel.long, ltb-true k 64 q))
            ∙ d.count ∙ sym (cap-low (length s.parts) 1025 (omega arith))
            ∙ sym (get_or-append_seam s.heads (length s.parts) [] 0)
            ∙ ap (λ (x : ℕ). get_or (s.heads ++ (length s.parts ∷ [])) x 0) (sym (g ∙ e))
