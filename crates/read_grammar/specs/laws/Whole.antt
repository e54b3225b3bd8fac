-- The whole: the table that is built holds the grammar by numbers. Assumes nothing.
use Prim.Native.Nat.{ℕ, zero, suc, ◌+◌, ◌*◌, ◌≤◌, ◌<◌}
use Rattle.std.specs.Prelude.{◌≡◌, Bool, false, ◌||◌, set, replicate}
use Rattle.std.proofs.Math.Path.{refl, sym, ap, subst}
use Rattle.std.proofs.Common.{◌∙◌, le_refl}
use Rattle.std.proofs.Math.Bool.{true}
use mathlib.Core.List.{List, [], ◌∷◌, ◌++◌, append-nil, append_assoc}
use Rattle.std.proofs.Math.Option.{Option, none, some}
use native.Mathlib.Omega.{arith}
use Rattle.std.proofs.Math.ListN.{length, get_or, length-append, length-replicate}
use Rattle.base_facts.specs.laws.Options.{some-none}
use Rattle.base_facts.specs.laws.Bools.{not-false, or-holds}
use Rattle.read_tokens.specs.declared.Mode.{Mode}
use Rattle.read_tokens.specs.Token.{Symbol, name, lake, Leaf, any, Tok, symbol, leaf, pre, suf, arrow, slash, opens, closes, bad, Lexeme}
use Rattle.read_tokens.specs.Tokens.{toks_of, toks, lexemes}
use Rattle.grammar.specs.Exp.{Rule}
use Rattle.grammar.specs.Parts.{terminal, parts_all}
use Rattle.grammar.specs.Same.{same_symbol, same_leaf, is_in, index_of, new_in}
use Rattle.grammar.specs.Syntax.{Rules, tokens}
use Rattle.grammar.specs.Trees.{trees}
use Rattle.grammar.specs.Numbers.{left_sides, only_lakes, loose_lakes, symbols_of, leaves_of, terminals_of, expressions_of, numbered}
use Rattle.grammar_table.specs.Holds.{Holds}
use Rattle.grammar_table.specs.Table.{terminals_at, terminal_words, symbols_at, symbol_words, body_at, terminal_key, table_words, name_in, leaf_by, leaf_in, part_in, parts_in, roots_in}
use Rattle.grammar_table.specs.laws.Lists.{is_up}
use Rattle.read_syntax.specs.Machine.{start}
use Rattle.read_syntax.specs.Reader.{rules_p}
use Rattle.read_syntax.specs.Reading.{unruled, lacks, lefts_in, left_by, before}
use Rattle.read_syntax.proofs.laws.Reads.{cost_r, reads-back}
use Rattle.grammar_table.specs.steps.Rows.{cap, Noted}
use Rattle.grammar_table.specs.laws.Caps.{cap-low}
use Rattle.grammar_table.specs.laws.Rows.{also, adds, All, all-at, in-append}
use Rattle.grammar_table.specs.laws.Firsts.{adds-front}
use Rattle.read_grammar.specs.declared.Counts.{Counts}
use Rattle.read_entries.specs.steps.Entries.{FitSymbol, symbol_from, leaf_record, FitLeaf, leaf_kind, leaf_from}
use Rattle.read_grammar.specs.steps.Lay.{St, st, gathered, lay_rules, Fits, Told, Rel}
use Rattle.read_grammar.specs.steps.Promises.{toks_at, Laid, Named, Sound, Built}
use Rattle.read_grammar.specs.laws.Entries.{symbol-read, symbol-refl, leaf-read}
use Rattle.read_grammar.specs.laws.Notes.{rel-start, rel-leaf}
use Rattle.read_grammar.specs.laws.Symbols.{tells-lefts, tells-uses, tells-leaves, leaves, lefts-gathered, once-new, CoverBy, Covered, only-lakes}
use Rattle.read_grammar.specs.laws.Laid.{rules-terms, rules-names, rules-length, rules-parts, rules-bodies, present-is, roots-are, heads-length, bodies, heads_from}
use Rattle.read_grammar.specs.laws.Within.{FitTok, all_fit, fit-gathered, fit-leaves, all-adds}

-- ── every symbol but a lake's use is a left side ──
abbrev Among : List Symbol → Symbol → Type 0
Among seen h = is_in same_symbol h seen ≡ true

cover : (seen : List Symbol) (xs : List Lexeme) → unruled seen xs ≡ none → All (Among seen) (lefts_in xs) → Covered seen (toks_of xs)
unfolding unruled lefts_in toks_of
cover seen [] e h = tt
cover seen (x ∷ xs) e h = by x.is (lacks seen x.is (before xs)) refl e h (cover seen xs)
  where
    one : (y : Symbol) (b : Bool) → lacks seen (symbol y) b ≡ false → All (Among seen) (left_by (symbol y) b (lefts_in xs)) → CoverBy y b seen × All (Among seen) (lefts_in xs)
    one y true u a = (a.0, a.1)
    one (name w) false u a = (not-false (is_in same_symbol (name w) seen) u, a)
    one (lake w) false u a = (tt, a)

    by : (t : Tok) (b : Bool) → lacks seen t (before xs) ≡ b → ◌≡◌ {A = Option ℕ} (elim b [ true ↦ some x.start | false ↦ unruled seen xs ]) none
        → All (Among seen) (left_by t (before xs) (lefts_in xs)) → (unruled seen xs ≡ none → All (Among seen) (lefts_in xs) → Covered seen (toks_of xs)) → Covered seen (t ∷ toks_of xs)
    by t true u e a f = absurd (some-none x.start e)
    by (symbol y) false u e a f = let w = one y (before xs) u a in (w.0, f e w.1)
    by (leaf y) false u e a f = f e a
    by (pre y) false u e a f = f e a
    by (suf y) false u e a f = f e a
    by arrow false u e a f = f e a
    by slash false u e a f = f e a
    by opens false u e a f = f e a
    by closes false u e a f = f e a
    by bad false u e a f = f e a

here_in : (h : Symbol) (p l : List Symbol) → is_in same_symbol h (p ++ (h ∷ l)) ≡ true
unfolding is_in
here_in h p l = in-append same_symbol h p (h ∷ l) ∙ or-holds (is_in same_symbol h p) (is_in same_symbol h (h ∷ l)) (ap (λ (b : Bool). b || is_in same_symbol h l) (symbol-refl h))

among_self : (p l : List Symbol) → All (Among (p ++ l)) l
among_self p [] = tt
among_self p (h ∷ l) =
    (here_in h p l, subst (λ (q : List Symbol). All (Among q) l) (append_assoc p (h ∷ []) l) (among_self (p ++ (h ∷ [])) l))

-- ── a sound text ──
module _ (m : Mode) (s : List ℕ) (g : Rules) (ok-text : Sound m s g) where
  from_start : toks_at m s 0 ≡ toks m s
  unfolding toks lexemes
  from_start = refl

  to-tokens : toks_at m s 0 ≡ tokens g
  to-tokens = from_start ∙ sym ok-text.reads

  lefts : gathered false (toks_at m s 0) ≡ left_sides (trees g)
  lefts = ap (gathered false) to-tokens ∙ tells-lefts g

  lefts-lexed : lefts_in (lexemes m s) ≡ left_sides (trees g)
  unfolding toks
  lefts-lexed = lefts-gathered (lexemes m s) ∙ ap (gathered false) (sym ok-text.reads) ∙ tells-lefts g

  first-names : adds same_symbol [] (gathered false (toks_at m s 0)) ≡ left_sides (trees g)
  first-names =
      adds-front same_symbol [] (gathered false (toks_at m s 0))
      ∙ ap (new_in same_symbol []) (lefts ∙ sym lefts-lexed) ∙ once-new m [] (lexemes m s) ok-text.once ∙ lefts-lexed

  covered : Covered (left_sides (trees g)) (tokens g)
  unfolding toks
  covered =
      subst (Covered (left_sides (trees g))) (sym ok-text.reads)
      (cover (left_sides (trees g)) (lexemes m s) (ap (λ (l : List Symbol). unruled l (lexemes m s)) (sym lefts-lexed) ∙ ok-text.ruled)
      (subst (All (Among (left_sides (trees g)))) (sym lefts-lexed) (among_self [] (left_sides (trees g)))))

  pub all-names : adds same_symbol (adds same_symbol [] (gathered false (toks_at m s 0))) (gathered true (toks_at m s 0)) ≡ symbols_of (trees g)
  unfolding symbols_of loose_lakes
  all-names =
      ap (λ (l : List Symbol). adds same_symbol l (gathered true (toks_at m s 0))) first-names
      ∙ ap (λ (l : List Tok). adds same_symbol (left_sides (trees g)) (gathered true l)) to-tokens
      ∙ adds-front same_symbol (left_sides (trees g)) (gathered true (tokens g))
      ∙ ap (λ (l : List Symbol). left_sides (trees g) ++ l) (only-lakes (left_sides (trees g)) (tokens g) covered ∙ ap (λ (l : List Symbol). new_in same_symbol (left_sides (trees g)) (only_lakes l)) (tells-uses g))

  fit_all : All FitTok (toks_at m s 0)
  fit_all = subst (All FitTok) (sym from_start) (all_fit m s 0 start ok-text.bounded)

  fit-names : All FitSymbol (symbols_of (trees g))
  fit-names =
      subst (All FitSymbol) all-names
      (all-adds same_symbol FitSymbol (adds same_symbol [] (gathered false (toks_at m s 0))) (gathered true (toks_at m s 0))
      (all-adds same_symbol FitSymbol [] (gathered false (toks_at m s 0)) tt (fit-gathered false (toks_at m s 0) fit_all))
      (fit-gathered true (toks_at m s 0) fit_all))

  fit-terms : All FitLeaf (adds same_leaf (any ∷ []) (leaves_of (trees g)))
  unfolding FitLeaf
  fit-terms =
      all-adds same_leaf FitLeaf (any ∷ []) (leaves_of (trees g)) (tt, tt)
      (subst (All FitLeaf) (ap leaves to-tokens ∙ tells-leaves g) (fit-leaves (toks_at m s 0) fit_all))

  -- ── symbols ──
  module _ (t t₁ t₂ : List ℕ) (long : length t ≡ table_words) (a : Named false m s (set (set (set t 0 0) 1 0) 2 0) t₁) (b : Named true m s t₁ t₂) where
    pub rel-symbols : Rel t₂ (st (symbols_of (trees g)) [] [] [])
    unfolding adds
    rel-symbols = subst (λ (l : List Symbol). Rel t₂ (st l [] [] [])) all-names (b.same _ (a.same [] (rel-start t long)))

    pub symbols-count : get_or t₂ 0 0 ≡ cap 65 (length (symbols_of (trees g)))
    symbols-count = (rel-symbols.told (record { symbols = fit-names; leaves = tt })).symbols.count

    -- ── rules ──
    module _ (t₃ t₄ : List ℕ) (r : ℕ) (n : Noted t₂ t₃ (replicate terminal_words 0) 1 terminal_key terminal_words terminals_at r) (l : Laid m s t₃ t₄) where
      rel-any : Rel t₃ (st (symbols_of (trees g)) [] (any ∷ []) [])
      unfolding leaf_record also is_in
      rel-any = rel-leaf t₂ t₃ (replicate terminal_words 0) r any (st (symbols_of (trees g)) [] [] []) rel-symbols (λ f. refl) n

      final : St
      final = lay_rules (trees g) (st (symbols_of (trees g)) [] (any ∷ []) [])

      rel-rules : Rel t₄ final
      unfolding final
      rel-rules =
          l.same (cost_r g + 1) g (ap (rules_p (cost_r g + 1)) to-tokens ∙ reads-back g (cost_r g + 1) (le_refl (cost_r g + 1))) (st (symbols_of (trees g)) [] (any ∷ []) []) refl rel-any

      final-names : final.names ≡ symbols_of (trees g)
      unfolding final
      final-names = rules-names (trees g) (st (symbols_of (trees g)) [] (any ∷ []) [])

      final-terms : final.terms ≡ terminals_of (trees g)
      unfolding final terminals_of
      final-terms = rules-terms (trees g) (st (symbols_of (trees g)) [] (any ∷ []) []) ∙ adds-front same_leaf (any ∷ []) (leaves_of (trees g))

      final-length : length final.parts ≡ expressions_of (trees g)
      unfolding final
      final-length = rules-length (trees g) (st (symbols_of (trees g)) [] (any ∷ []) []) ∙ omega arith

      final-parts : final.parts ≡ parts_all (λ x. index_of same_leaf x (terminals_of (trees g))) 0 (bodies (symbols_of (trees g)) (terminals_of (trees g)) (trees g))
      unfolding final
      final-parts = rules-parts (symbols_of (trees g)) (terminals_of (trees g)) (trees g) (st (symbols_of (trees g)) [] (any ∷ []) []) [] refl (sym (append-nil _ ∙ final-terms))

      final-heads : final.heads ≡ heads_from (symbols_of (trees g)) (terminals_of (trees g)) 0 (trees g)
      unfolding final
      final-heads = rules-bodies (symbols_of (trees g)) (terminals_of (trees g)) (trees g) (st (symbols_of (trees g)) [] (any ∷ []) [])

      fits : Fits final
      unfolding final
      fits = record {
        symbols = subst (All FitSymbol) (sym final-names) fit-names;
        leaves = subst (All FitLeaf) (sym (rules-terms (trees g) (st (symbols_of (trees g)) [] (any ∷ []) []))) fit-terms;
      }

      told : Told t₄ final
      told = rel-rules.told fits

      pub terminals-count : get_or t₄ 1 0 ≡ cap 65 (length (terminals_of (trees g)))
      terminals-count = told.leaves.count ∙ ap (λ (y : List Leaf). cap 65 (length y)) final-terms

      pub expressions-count : get_or t₄ 2 0 ≡ cap 1025 (expressions_of (trees g))
      expressions-count = told.count ∙ ap (cap 1025) final-length

      -- ── the table ──
      module _ (few-s : length (symbols_of (trees g)) ≤ 64) (few-t : length (terminals_of (trees g)) ≤ 64) (few-e : expressions_of (trees g) ≤ 1024) where
        count-s : get_or t₄ 0 0 ≡ length (symbols_of (trees g))
        count-s = told.symbols.count ∙ ap (λ (y : List Symbol). cap 65 (length y)) final-names ∙ sym (cap-low (length (symbols_of (trees g))) 65 (omega arith))

        count-t : get_or t₄ 1 0 ≡ length (terminals_of (trees g))
        count-t = terminals-count ∙ sym (cap-low (length (terminals_of (trees g))) 65 (omega arith))

        count-e : get_or t₄ 2 0 ≡ expressions_of (trees g)
        count-e = expressions-count ∙ sym (cap-low (expressions_of (trees g)) 1025 (omega arith))

        name-at : (i : ℕ) → i < length final.names → get_or final.names i (name []) ≡ name_in t₄ i
        unfolding name_in symbol_from
        name-at i h =
            sym (symbol-read t₄ (symbols_at + symbol_words * i) (get_or final.names i (name [])) (told.symbols.rows i (omega (arith, ap (λ (y : List Symbol). length y) final-names)) h) (all-at FitSymbol (name []) final.names i fits.symbols h))

        leaf-by : (k i : ℕ) → leaf_by k t₄ i ≡ leaf_kind k t₄ (terminals_at + terminal_words * i)
        unfolding leaf_by leaf_kind
        leaf-by zero i = refl
        leaf-by (suc zero) i = refl
        leaf-by (suc (suc k)) i = refl

        leaf-at : (i : ℕ) → i < length final.terms → get_or final.terms i any ≡ leaf_in t₄ i
        unfolding leaf_in leaf_from
        leaf-at i h =
            sym (leaf-by (get_or t₄ (terminals_at + terminal_words * i + 0) 0) i
            ∙ leaf-read t₄ (terminals_at + terminal_words * i) (get_or final.terms i any) (told.leaves.rows i (omega (arith, ap (λ (y : List Leaf). length y) final-terms)) h) (all-at FitLeaf any final.terms i fits.leaves h))

        part_at : (i : ℕ) → i < length final.parts → get_or final.parts i (terminal 0) ≡ part_in t₄ i
        part_at i h =
            sym (told.parts (omega (arith, ap (λ (y : List Symbol). length y) final-names)) (omega (arith, ap (λ (y : List Leaf). length y) final-terms)) i (omega (arith, final-length)) h)

        zeros : (l : List ℕ) (k i : ℕ) → get_or (l ++ replicate k 0) i 0 ≡ get_or l i 0
        zeros [] zero i = refl
        zeros [] (suc k) zero = refl
        zeros [] (suc k) (suc i) = zeros [] k i
        zeros (x ∷ l) k zero = refl
        zeros (x ∷ l) k (suc i) = zeros l k i

        lefts-length : (l : List Rule) → length (left_sides l) ≡ length l
        unfolding left_sides
        lefts-length [] = refl
        lefts-length (x ∷ l) = ap suc (lefts-length l)

        symbols-length : length (symbols_of (trees g)) ≡ length (trees g) + length (loose_lakes (trees g))
        unfolding symbols_of
        symbols-length = length-append (left_sides (trees g)) (loose_lakes (trees g)) ∙ omega (arith, lefts-length (trees g))

        roots-list : List ℕ
        roots-list = heads_from (symbols_of (trees g)) (terminals_of (trees g)) 0 (trees g) ++ replicate (length (loose_lakes (trees g))) 0

        roots-length : length roots-list ≡ get_or t₄ 0 0
        unfolding roots-list
        roots-length =
            let zeros-length : length {A = ℕ} (replicate (length (loose_lakes (trees g))) 0) ≡ length (loose_lakes (trees g)) = length-replicate (length (loose_lakes (trees g))) 0 in
            length-append (heads_from (symbols_of (trees g)) (terminals_of (trees g)) 0 (trees g)) (replicate (length (loose_lakes (trees g))) 0)
            ∙ omega (arith, heads-length (symbols_of (trees g)) (terminals_of (trees g)) (trees g) 0, zeros-length, symbols-length, count-s)

        root-at : (i : ℕ) → i < get_or t₄ 0 0 → get_or roots-list i 0 ≡ get_or t₄ (symbols_at + symbol_words * i + 1) 0
        unfolding roots-list
        root-at i h =
            zeros (heads_from (symbols_of (trees g)) (terminals_of (trees g)) 0 (trees g)) (length (loose_lakes (trees g))) i
            ∙ ap (λ (y : List ℕ). get_or y i 0) (sym final-heads)
            ∙ sym (told.roots (omega (arith, final-length)) i (omega (arith, count-s)) (omega (arith, count-s, ap (λ (y : List Symbol). length y) final-names)))
            ∙ ap (λ (y : ℕ). get_or t₄ y 0) (let e : body_at i ≡ symbols_at + symbol_words * i + 1 = omega arith in e)

        pub table-holds : Holds t₄ (numbered (trees g))
        unfolding numbered parts_in roots_in roots-list
        table-holds = record {
          long = rel-rules.long;
          few-symbols = omega (arith, count-s);
          few-terminals = omega (arith, count-t);
          few-expressions = omega (arith, count-e);
          names =
              sym (is_up (name_in t₄) (name []) (get_or t₄ 0 0) final.names (ap (λ (y : List Symbol). length y) final-names ∙ sym count-s) (λ i h. name-at i (omega (arith, count-s, ap (λ (y : List Symbol). length y) final-names))))
              ∙ final-names;
          terminals =
              sym (is_up (leaf_in t₄) any (get_or t₄ 1 0) final.terms (ap (λ (y : List Leaf). length y) final-terms ∙ sym count-t) (λ i h. leaf-at i (omega (arith, count-t, ap (λ (y : List Leaf). length y) final-terms))))
              ∙ final-terms;
          parts =
              sym (is_up (part_in t₄) (terminal 0) (get_or t₄ 2 0) final.parts (final-length ∙ sym count-e) (λ i h. part_at i (omega (arith, count-e, final-length))))
              ∙ final-parts
              ∙ ap (parts_all (λ x. index_of same_leaf x (terminals_of (trees g))) 0) (sym (present-is (symbols_of (trees g)) (terminals_of (trees g)) (trees g) (length (loose_lakes (trees g)))));
          roots =
              sym (is_up (λ r. get_or t₄ (symbols_at + symbol_words * r + 1) 0) 0 (get_or t₄ 0 0) roots-list roots-length root-at)
              ∙ sym (roots-are (symbols_of (trees g)) (terminals_of (trees g)) (trees g) (length (loose_lakes (trees g))) 0);
        }

-- ── the promise ──
pub too_many : {m : Mode} {s t t₁ t₂ : List ℕ} {n : ℕ} → Named false m s (set (set (set t 0 0) 1 0) 2 0) t₁ → Named true m s t₁ t₂ → n ≡ get_or t₂ 0 0 → 64 < n → (c : Counts) → c.symbols ≡ n → Built m s t t₂ c
too_many {m} {s} {t} {t₁} {t₂} {n} a b e h c f = record {
  symbols = λ g o z. f ∙ e ∙ symbols-count m s g o t t₁ t₂ z a b;
  terminals = λ g o z k. absurd (never g o z k);
  expressions = λ g o z k _. absurd (never g o z k);
  holds = λ g o z k _ _. absurd (never g o z k);
}
  where
    never : (g : Rules) → Sound m s g → length t ≡ table_words → length (symbols_of (trees g)) ≤ 64 → ⊥
    never g o z k = omega (arith, symbols-count m s g o t t₁ t₂ z a b, cap-low (length (symbols_of (trees g))) 65 (omega arith))

pub built : {m : Mode} {s t t₁ t₂ t₃ t₄ : List ℕ} {n r x y : ℕ} → Named false m s (set (set (set t 0 0) 1 0) 2 0) t₁ → Named true m s t₁ t₂ → n ≡ get_or t₂ 0 0
    → Noted t₂ t₃ (replicate terminal_words 0) 1 terminal_key terminal_words terminals_at r → Laid m s t₃ t₄ → x ≡ get_or t₄ 1 0 → y ≡ get_or t₄ 2 0
    → (c : Counts) → c.symbols ≡ n → c.terminals ≡ x → c.expressions ≡ y → Built m s t t₄ c
built {m} {s} {t} {t₁} {t₂} {t₃} {t₄} {n} {r} {x} {y} a b e i l u v c f p q = record {
  symbols = λ g o z. f ∙ e ∙ symbols-count m s g o t t₁ t₂ z a b;
  terminals = λ g o z k. p ∙ u ∙ terminals-count m s g o t t₁ t₂ z a b t₃ t₄ r i l;
  expressions = λ g o z k j. q ∙ v ∙ expressions-count m s g o t t₁ t₂ z a b t₃ t₄ r i l;
  holds = λ g o z k j w. table-holds m s g o t t₁ t₂ z a b t₃ t₄ r i l k j w;
}
