-- The chains of checks against the lists of rows: each call's chain refuses k at p exactly if row k of its list holds at p and no earlier row of that list
-- holds anywhere (01, Refusal numbers, in order of check; "the table's exact conditions"). Assumes nothing.
use Rattle.std.specs.Prelude.{ℕ, suc, ◌≤◌, ◌<◌, ◌≡◌, Bool, true, false, not, ◌&&◌, List, [], ◌∷◌, length, ltb, leb}
use Rattle.std.proofs.Math.Path.{refl, ap, ap₂}
use Rattle.std.proofs.Common.{sym, ◌∙◌, subst, true≢false, inl, inr, ltb-true, ltb-false, lt-ltb, le-ltb, le-leb, leb-true}
use Rattle.std.proofs.Math.Option.{Option, none, some}
use Rattle.base_facts.specs.laws.Bools.{and_parts}
use Rattle.read_tokens.specs.declared.Mode.{Mode}
use Rattle.read_tokens.specs.Token.{Lexeme}
use Rattle.read_tokens.specs.Tokens.{lexemes}
use Rattle.read_tokens.specs.Bounds.{text_bound, symbol_bound, terminal_bound, expression_bound, plain_bound, input_bound}
use Rattle.grammar.specs.Exp.{Exp, Rule}
use Rattle.grammar.specs.Numbers.{symbols_of, terminals_of, expressions_of}
use Rattle.grammar.specs.Refusal.{Refusal, refusal, refuse_if, refuse_at, ◌▸◌}
use Rattle.read_syntax.specs.Machine.{start, Judged, fine, syntax, wide, judge, place_of}
use Rattle.read_syntax.specs.Offence.{Judges}
use Rattle.read_syntax.specs.Grammar.{GrammarOf}
use Rattle.read_syntax.specs.Reading.{too_long, offence, second, unruled, lefts_in, too_many, rules_of}
use Rattle.read_syntax.specs.steps.Found.{found}
use Rattle.read_syntax.proofs.laws.Bounds.{judged, one_answer}
use Rattle.read_syntax.proofs.laws.Grammars.{one-grammar}
use Rattle.lake_rules.specs.Analysis.{is_expression}
use Rattle.lake_plain.specs.Plain.{sizes, too_large}
use Rattle.lake_plain.specs.Calls.{loop, looping}
use Rattle.lake_plain.specs.Loops.{SmallestLoop}
use Rattle.lake_plain.proofs.laws.Exact.{loop-exact}
use Rattle.prepare.specs.Prepare.{prepared, prepared_by, refuses}
use Rattle.prepare.specs.steps.Scanned.{scanned}
use Rattle.prepare.specs.laws.Chain.{assoc, text-by-scan}
use Rattle.prepare.specs.laws.Loads.{some-none, clean, grammar-of}
use Rattle.gurkenmond.specs.Calls.{cells_needed, refuses_input, is_lake_at, is_symbol}
use Rattle.demands.specs.Rows.{FirstToken, Doubled, Ruleless, TooMany, symbols, terminals, expressions, Grammarly, Row2, Row3, Row4, Row5, Row6, Row7, Row8}
use Rattle.demands.specs.Checks.{FirstRow, NoRow, text_checks, checks, input_checks, lake_checks, sets_checks, write_checks, symbol_names, name_text, name_checks}
use Rattle.demands.proofs.laws.Chain.{Tells, accepts, join, row-tells, as_row, over-told, found_at, missing, same-refusal}
use Rattle.demands.proofs.laws.Tokens.{finds-so, finds-it, finds-doubled, finds-ruleless}

-- ── 1 to 5: of any text ──
module _ (m : Mode) (t : List ℕ) where
  abbrev xs : List Lexeme
  xs = lexemes m t

  abbrev n : ℕ
  n = length t

  abbrev is_wide : Judged → Bool
  is_wide fine = false
  is_wide (syntax i) = false
  is_wide (wide i) = true

  not-both : (i j : ℕ) → Judges m xs (syntax i) → Judges m xs (wide j) → ⊥
  not-both i j u v = true≢false (sym (ap is_wide (one_answer m xs (syntax i) (wide j) u v)))

  sound23 : (o : Judged) → Judges m xs o → (r : Refusal) → offence n xs o ≡ some r → FirstRow (Row2 m t ∷ Row3 m t ∷ []) r.number r.place
  sound23 fine s r e = absurd (some-none r (sym e))
  sound23 (syntax i) s r e =
      let z : refusal 2 (place_of n xs i) ≡ r = same-refusal e in
      inl (ap (λ (x : Refusal). x.number) z, (i, s, sym (ap (λ (x : Refusal). x.place) z)))
  sound23 (wide i) s r e =
      let z : refusal 3 (place_of n xs i) ≡ r = same-refusal e in
      inr (λ p h. not-both h.0 i h.1 s, inl (ap (λ (x : Refusal). x.number) z, (i, s, sym (ap (λ (x : Refusal). x.place) z))))

  said : (o : Judged) → Judges m xs o → {k p : ℕ} → offence n xs o ≡ some (refusal k p) → offence n xs (judge m 0 start xs) ≡ some (refusal k p)
  said o s e = ap (offence n xs) (one_answer m xs (judge m 0 start xs) o (judged m xs) s) ∙ e

  pair_is : {i j k p : ℕ} → i ≡ k → p ≡ j → some (refusal i j) ≡ some (refusal k p)
  pair_is e f = ap₂ (λ (a b : ℕ). some (refusal a b)) e (sym f)

  full3 : {k p : ℕ} → FirstRow (Row3 m t ∷ []) k p → offence n xs (judge m 0 start xs) ≡ some (refusal k p)
  full3 (inl x) = said (wide x.1.0) x.1.1 (pair_is x.0 x.1.2)
  full3 (inr x) = absurd x.1

  full23 : {k p : ℕ} → FirstRow (Row2 m t ∷ Row3 m t ∷ []) k p → offence n xs (judge m 0 start xs) ≡ some (refusal k p)
  full23 (inl x) = said (syntax x.1.0) x.1.1 (pair_is x.0 x.1.2)
  full23 (inr x) = full3 x.1

  tells23 : Tells (Row2 m t ∷ Row3 m t ∷ []) (offence n xs (judge m 0 start xs))
  tells23 = record { says = λ r e. sound23 (judge m 0 start xs) (judged m xs) r e; first = full23 }

  text-chain : Tells (text_checks m t) (scanned m t)
  text-chain =
      join (too_long m t) (offence n xs (judge m 0 start xs) ▸ (refuse_at 4 (second m [] xs) ▸ refuse_at 5 (unruled (lefts_in xs) xs))) (over-told 1 (text_bound m) (text_bound m) n)
      (λ a. join (offence n xs (judge m 0 start xs)) (refuse_at 4 (second m [] xs) ▸ refuse_at 5 (unruled (lefts_in xs) xs))
      tells23
      (λ b. join (refuse_at 4 (second m [] xs)) (refuse_at 5 (unruled (lefts_in xs) xs)) tells4 (λ c. tells5)))
    where
      tells4 : Tells (Row4 m t ∷ []) (refuse_at 4 (second m [] xs))
      tells4 =
          let w = finds-doubled n m xs in
          found_at 4 (FirstToken (Doubled m xs) n xs) (second m [] xs) (finds-so n (Doubled m xs) xs (second m [] xs) w) (finds-it n (Doubled m xs) xs (second m [] xs) w)

      tells5 : Tells (Row5 m t ∷ []) (refuse_at 5 (unruled (lefts_in xs) xs))
      tells5 =
          let w = finds-ruleless n xs in
          found_at 5 (FirstToken (Ruleless xs) n xs) (unruled (lefts_in xs) xs) (finds-so n (Ruleless xs) xs (unruled (lefts_in xs) xs) w) (finds-it n (Ruleless xs) xs (unruled (lefts_in xs) xs) w)

  by-scan : scanned m t ≡ none → GrammarOf m t (rules_of m t)
  by-scan ok = let w = grammar-of m t (clean m t (ap found ok)) in (w.0, w.1.reads, w.2)

  -- READING: where no row of 1 to 5 holds, the rules that are worked with are the grammar of the text
  pub reading : NoRow (text_checks m t) → GrammarOf m t (prepared m t).rules
  unfolding prepared prepared_by
  reading f = by-scan (accepts text-chain f)

-- ── 6 ──
module _ (m : Mode) (rs : List Rule) where
  abbrev many : Bool → Bool → Bool → Option Refusal
  many a b c = refuse_if a 6 1 ▸ (refuse_if b 6 2 ▸ refuse_if c 6 3)

  six-is : (p : ℕ) → TooMany m rs p → (r : Refusal) → refusal 6 p ≡ r → (6 ≡ r.number) × TooMany m rs r.place
  six-is p h r e = (ap (λ (x : Refusal). x.number) e, subst (TooMany m rs) (ap (λ (x : Refusal). x.place) e) h)

  sound6 : (a b c : Bool) → ltb symbol_bound (length (symbols_of rs)) ≡ a → ltb terminal_bound (length (terminals_of rs)) ≡ b → ltb (expression_bound m) (expressions_of rs) ≡ c
      → (r : Refusal) → many a b c ≡ some r → (6 ≡ r.number) × TooMany m rs r.place
  sound6 true b c x y z r e = six-is 1 (symbols (ltb-true _ _ x)) r (same-refusal e)
  sound6 false true c x y z r e = six-is 2 (terminals (ltb-false _ _ x) (ltb-true _ _ y)) r (same-refusal e)
  sound6 false false true x y z r e = six-is 3 (expressions (ltb-false _ _ x) (ltb-false _ _ y) (ltb-true _ _ z)) r (same-refusal e)
  sound6 false false false x y z r e = absurd (some-none r (sym e))

  by_tests : (a b c : Bool) → ltb symbol_bound (length (symbols_of rs)) ≡ a → ltb terminal_bound (length (terminals_of rs)) ≡ b → ltb (expression_bound m) (expressions_of rs) ≡ c → too_many m rs ≡ many a b c
  unfolding too_many
  by_tests a b c x y z = ap (λ (i : Bool). many i (ltb terminal_bound (length (terminals_of rs))) (ltb (expression_bound m) (expressions_of rs))) x ∙ ap₂ (many a) y z

  full6 : (p : ℕ) → TooMany m rs p → too_many m rs ≡ some (refusal 6 p)
  full6 p (symbols h) = by_tests true _ _ (lt-ltb _ _ h) refl refl
  full6 p (terminals g h) = by_tests false true _ (le-ltb _ _ g) (lt-ltb _ _ h) refl
  full6 p (expressions f g h) = by_tests false false true (le-ltb _ _ f) (le-ltb _ _ g) (lt-ltb _ _ h)

  tells6 : Tells (record { number = 6; holds = TooMany m rs } ∷ []) (too_many m rs)
  unfolding too_many
  tells6 = row-tells (record { number = 6; holds = TooMany m rs }) (too_many m rs) (λ r e. sound6 _ _ _ refl refl refl r e) full6

-- ── 6 to 8: of the grammar that the text is ──
module _ (m : Mode) (t : List ℕ) (ok : scanned m t ≡ none) where
  -- there is one, and no other
  the-grammar : (P : List Rule → Type 0) → Grammarly m t P → P (rules_of m t)
  the-grammar P x = subst P (one-grammar m t x.0 (rules_of m t) x.1 (by-scan m t ok)) x.2

  a-grammar : (P : List Rule → Type 0) → P (rules_of m t) → Grammarly m t P
  a-grammar P h = (rules_of m t, by-scan m t ok, h)

  abbrev bodies : List (Exp ℕ)
  bodies = (prepared_by (rules_of m t)).bodies

  here6 : Tells (Row6 m t ∷ []) (too_many m (rules_of m t))
  here6 = as_row 6 (λ p. a-grammar (λ g. TooMany m g p)) (λ p. the-grammar (λ g. TooMany m g p)) (tells6 m (rules_of m t))

  here7 : Tells (Row7 m t ∷ []) (too_large bodies)
  here7 =
      as_row 7 (λ p h. (h.0, a-grammar (λ g. plain_bound < sizes (prepared_by g).bodies) h.1)) (λ p h. (h.0, the-grammar (λ g. plain_bound < sizes (prepared_by g).bodies) h.1))
      (over-told 7 (suc plain_bound) plain_bound (sizes bodies))

  here8 : Tells (Row8 m t ∷ []) (looping bodies)
  here8 =
      as_row 8 (λ p. a-grammar (λ g. SmallestLoop (prepared_by g).bodies p)) (λ p. the-grammar (λ g. SmallestLoop (prepared_by g).bodies p))
      (found_at 8 (SmallestLoop bodies) (loop bodies) (λ p. (loop-exact bodies p).0) (λ p. (loop-exact bodies p).1))

  grammar-chain : Tells (Row6 m t ∷ Row7 m t ∷ Row8 m t ∷ []) (too_many m (rules_of m t) ▸ (too_large bodies ▸ looping bodies))
  grammar-chain = join (too_many m (rules_of m t)) (too_large bodies ▸ looping bodies) here6 (λ e. join (too_large bodies) (looping bodies) here7 (λ f. here8))

-- ── the chain of every call ──
module _ (m : Mode) (t : List ℕ) where
  abbrev plain : List (Exp ℕ)
  plain = (prepared_by (rules_of m t)).bodies

  in-turn : refuses m t ≡ (scanned m t ▸ (too_many m (rules_of m t) ▸ (too_large plain ▸ looping plain)))
  unfolding refuses prepared
  in-turn =
      ap (λ (o : Option Refusal). o ▸ (too_large plain ▸ looping plain)) (text-by-scan m t)
      ∙ assoc (scanned m t) (too_many m (rules_of m t)) (too_large plain ▸ looping plain)

  -- "Every call on a grammar checks 1 to 8"
  pub one-to-eight : Tells (checks m t) (refuses m t)
  one-to-eight =
      subst (Tells (checks m t)) (sym in-turn)
      (join (scanned m t) (too_many m (rules_of m t) ▸ (too_large plain ▸ looping plain)) (text-chain m t) (λ e. grammar-chain m t e))

  -- "a match then 9 to 12": 9 and 10 before the cells are filled
  pub input-chain : (s cs : List ℕ) → Tells (input_checks m t s cs) (refuses m t ▸ refuses_input (prepared m t) s cs)
  input-chain s cs =
      let need : ℕ = cells_needed (prepared m t) s in
      join (refuses m t) (refuses_input (prepared m t) s cs) one-to-eight
      (λ e. join (refuse_if (ltb input_bound (length s)) 9 input_bound) (refuse_if (ltb (length cs) need) 10 need) (over-told 9 input_bound input_bound (length s)) (λ f. over-told 10 need (length cs) need))

  lake-there : (s : List ℕ) (l q : ℕ) → (is_lake_at (prepared m t) l && leb q (length s)) ≡ true → (is_lake_at (prepared m t) l ≡ true) × (q ≤ length s)
  lake-there s l q e = let w = and_parts (is_lake_at (prepared m t) l) (leb q (length s)) e in (w.0, leb-true q (length s) w.1)

  there-lake : (s : List ℕ) (l q : ℕ) → (is_lake_at (prepared m t) l ≡ true) × (q ≤ length s) → (is_lake_at (prepared m t) l && leb q (length s)) ≡ true
  there-lake s l q h = ap₂ ◌&&◌ h.0 (le-leb q (length s) h.1)

  -- "the lake question 9, 10, then 14"
  pub lake-chain : (s cs : List ℕ) (l q : ℕ)
      → Tells (lake_checks m t s cs l q) (refuses m t ▸ (refuses_input (prepared m t) s cs ▸ refuse_if (not (is_lake_at (prepared m t) l && leb q (length s))) 14 0))
  lake-chain s cs l q =
      let a : Option Refusal = refuses_input (prepared m t) s cs in
      let b : Option Refusal = refuse_if (not (is_lake_at (prepared m t) l && leb q (length s))) 14 0 in
      subst (Tells (lake_checks m t s cs l q)) (assoc (refuses m t) a b)
      (join (refuses m t ▸ a) b (input-chain s cs)
      (λ e. missing 14 (is_lake_at (prepared m t) l && leb q (length s)) ((is_lake_at (prepared m t) l ≡ true) × (q ≤ length s)) (lake-there s l q) (there-lake s l q)))

  -- the sets of an expression, then 14
  pub sets-chain : (e : ℕ) → Tells (sets_checks m t e) (refuses m t ▸ refuse_if (not (is_expression (prepared m t).analysis e)) 14 0)
  sets-chain e =
      join (refuses m t) (refuse_if (not (is_expression (prepared m t).analysis e)) 14 0) one-to-eight
      (λ z. missing 14 (is_expression (prepared m t).analysis e) (is_expression (prepared m t).analysis e ≡ true) (λ h. h) (λ h. h))

  -- writing, then 13
  pub write-chain : (w out : List ℕ) → Tells (write_checks m t w out) (refuses m t ▸ refuse_if (ltb (length out) (length w)) 13 (length w))
  write-chain w out = join (refuses m t) (refuse_if (ltb (length out) (length w)) 13 (length w)) one-to-eight (λ e. over-told 13 (length w) (length out) (length w))

  -- a symbol's name: 14, then 13
  pub name-chain : (r : ℕ) (out : List ℕ)
      → Tells (name_checks m t r out)
      ((refuses m t ▸ refuse_if (not (is_symbol (prepared m t) r)) 14 0) ▸ refuse_if (ltb (length out) (length (name_text m t r))) 13 (length (name_text m t r)))
  name-chain r out =
      let a : Option Refusal = refuse_if (not (is_symbol (prepared m t) r)) 14 0 in
      let need : ℕ = length (name_text m t r) in
      let b : Option Refusal = refuse_if (ltb (length out) need) 13 need in
      subst (Tells (name_checks m t r out)) (sym (assoc (refuses m t) a b))
      (join (refuses m t) (a ▸ b) one-to-eight
      (λ e. join a b (missing 14 (is_symbol (prepared m t) r) (r < length (symbol_names m t)) (ltb-true r (length (symbol_names m t))) (lt-ltb r (length (symbol_names m t))))
      (λ f. over-told 13 need (length out) need)))
