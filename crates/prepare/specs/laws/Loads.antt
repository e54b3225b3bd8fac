-- A text that refusals 1 to 5 let through is a grammar, whose counts decide on 6. Assumes nothing.
use Rattle.std.specs.Prelude as std
use Rattle.std.specs.Prelude.{Some, None, unwrap_or}
use Rattle.std.specs.Prelude.{ℕ, ◌*◌, ◌≤◌, ◌<◌, ◌≡◌, refl, Bool, true, false, cond, ltb}
use Rattle.std.proofs.Math.Path.{sym, ap, subst}
use Rattle.std.proofs.Common.{◌∙◌, lt-ltb, le-ltb, ltb-false}
use mathlib.Core.List.{List, []}
use Rattle.std.proofs.Math.Option.{Option, none, some}
use native.Mathlib.Omega.{arith}
use Rattle.std.proofs.Math.Decide.{dec_lt}
use Rattle.std.proofs.Math.ListN.{length}
use Rattle.read_tokens.specs.declared.Mode.{Mode}
use Rattle.read_tokens.specs.declared.Mode.TheVariants.{Lake, Plain}
use Rattle.read_tokens.specs.Token.{Lexeme, Tok}
use Rattle.read_tokens.specs.Tokens.{lexemes, toks_of, toks}
use Rattle.read_tokens.specs.Bounds.{text_bound, symbol_bound, terminal_bound, expression_bound}
use Rattle.grammar.specs.Exp.{Rule}
use Rattle.grammar.specs.Syntax.{Rules, tokens}
use Rattle.grammar.specs.Trees.{trees}
use Rattle.grammar.specs.Numbers.{symbols_of, terminals_of, expressions_of, numbered}
use Rattle.grammar_table.specs.Holds.{Holds}
use Rattle.grammar_table.specs.Table.{table_words}
use Rattle.grammar.specs.Refusal.{Refusal, refusal, refuse_if, refuse_at, ◌▸◌}
use Rattle.read_syntax.specs.Machine.{Judged, fine, syntax, wide, judge, start}
use Rattle.read_syntax.specs.Reader.{ok, rules_p}
use Rattle.read_syntax.specs.Reading.{offence, second, unruled, lefts_in, too_many, rules_read, rules_from, rules_of, refuses_text}
use Rattle.read_syntax.proofs.laws.Bounds.{Judges, judged}
use Rattle.read_syntax.proofs.laws.Reads.{reads-back, cost-enough}
use Rattle.read_syntax.specs.declared.syntax.Found.{Found}
use Rattle.read_syntax.specs.steps.Found.{found}
use Rattle.prepare.specs.steps.Scanned.{scanned}
use Rattle.prepare.specs.laws.Chain.{text-by-scan}
use Rattle.grammar_table.specs.steps.Rows.{cap}
use Rattle.read_grammar.specs.steps.Promises.{Sound, Built}
use Rattle.read_grammar.specs.declared.Counts.{Counts}
use Rattle.prepare.specs.declared.Counted.{Counted}
use Rattle.prepare.specs.declared.Verdict.TheVariants.{Accepted, Refused as VerdictRefused}
use Rattle.prepare.specs.Prepare.{prepared, prepared_by}
use Rattle.prepare.specs.Reads.{verdict_of}
use Rattle.prepare.specs.Reads.{read_by}
use Rattle.prepare.specs.steps.Loads.{read_up_to6, Loads}

-- ── what refuses nothing ──
if-step : (b : Bool) (k p : ℕ) (r : Option Refusal) → found (refuse_if b k p ▸ r) ≡ None → (b ≡ false) × (found r ≡ None)
if-step true k p r z = let y : ◌≡◌ {A = ℕ} 0 1 = cc in absurd (omega arith)
if-step false k p r z = (refl, z)

judge-step : (n : ℕ) (xs : List Lexeme) (j : Judged) (r : Option Refusal) → found (offence n xs j ▸ r) ≡ None → (j ≡ fine) × (found r ≡ None)
judge-step n xs fine r z = (refl, z)
judge-step n xs (syntax k) r z = let y : ◌≡◌ {A = ℕ} 0 1 = cc in absurd (omega arith)
judge-step n xs (wide k) r z = let y : ◌≡◌ {A = ℕ} 0 1 = cc in absurd (omega arith)

at-step : (k : ℕ) (o : Option ℕ) (r : Option Refusal) → found (refuse_at k o ▸ r) ≡ None → (o ≡ none) × (found r ≡ None)
at-step k none r z = (refl, z)
at-step k (some p) r z = let y : ◌≡◌ {A = ℕ} 0 1 = cc in absurd (omega arith)

at_last : (k : ℕ) (o : Option ℕ) → found (refuse_at k o) ≡ None → o ≡ none
at_last k none z = refl
at_last k (some p) z = let y : ◌≡◌ {A = ℕ} 0 1 = cc in absurd (omega arith)

-- what 1 to 5 let through
pub record Clean (m : Mode) (s : List ℕ) : Type 0 where
  pub short : ltb (text_bound m) (length s) ≡ false
  pub bounded : judge m 0 start (lexemes m s) ≡ fine
  pub once : second m [] (lexemes m s) ≡ none
  pub ruled : unruled (lefts_in (lexemes m s)) (lexemes m s) ≡ none

module _ (m : Mode) (s : List ℕ) where
  abbrev xs : List Lexeme
  xs = lexemes m s

  abbrev r5 : Option Refusal
  r5 = refuse_at 5 (unruled (lefts_in xs) xs)

  abbrev r4 : Option Refusal
  r4 = refuse_at 4 (second m [] xs) ▸ r5

  pub clean : found (scanned m s) ≡ None → Clean m s
  clean z =
      let a = if-step (ltb (text_bound m) (length s)) 1 (text_bound m) (offence (length s) xs (judge m 0 start xs) ▸ r4) z in
      let b = judge-step (length s) xs (judge m 0 start xs) r4 a.1 in
      let c = at-step 4 (second m [] xs) r5 b.1 in
      record { short = a.0; bounded = b.0; once = c.0; ruled = at_last 5 (unruled (lefts_in xs) xs) c.1 }

  module _ (c : Clean m s) where
    pub scanned-none : scanned m s ≡ none
    scanned-none =
        ap (λ (b : Bool). refuse_if b 1 (text_bound m) ▸ (offence (length s) xs (judge m 0 start xs) ▸ r4)) c.short
        ∙ ap (λ (j : Judged). offence (length s) xs j ▸ r4) c.bounded
        ∙ ap (λ (o : Option ℕ). refuse_at 4 o ▸ r5) c.once
        ∙ ap (refuse_at 5) c.ruled

    pub by_count : refuses_text m s ≡ too_many m (rules_of m s)
    by_count = text-by-scan m s ∙ ap (λ (o : Option Refusal). o ▸ too_many m (rules_of m s)) scanned-none

    in-bound : (k : Mode) → text_bound k ≤ 1048576
    unfolding text_bound
    in-bound Lake = omega arith
    in-bound Plain = omega arith

    pub not-long : length s ≤ 1048576
    not-long = omega (arith, ltb-false (text_bound m) (length s) c.short, in-bound m)

    pub grammar-of : (g : Rules) × Sound m s g × (trees g ≡ rules_of m s)
    unfolding toks rules_of rules_from
    grammar-of =
        let w : Judges m xs fine = subst (Judges m xs) c.bounded (judged m xs) in
        let g : Rules = w.0.0 in
        let e : tokens g ≡ toks_of xs = w.0.1 in (
          g,
          record { reads = e; bounded = c.bounded; once = c.once; ruled = c.ruled },
          sym (ap rules_read (subst (λ (l : List Tok). rules_p (5 * length l) l ≡ ok g []) e (reads-back g (5 * length (tokens g)) (cost-enough g)))),
        )

-- ── counts and bounds ──
cap-in : (b n : ℕ) → n < b → cap b n ≡ n
unfolding cap
cap-in b n h = ap (λ (t : Bool). cond t n b) (lt-ltb n b h)

cap-out : (b n : ℕ) → b ≤ n → cap b n ≡ b
unfolding cap
cap-out b n h = ap (λ (t : Bool). cond t n b) (le-ltb n b h)

over-cap : (b n k x : ℕ) → k ≡ cap b n → x < k → x < n
over-cap b n k x e h = go (dec_lt n b)
  where
    go : Dec (n < b) → x < n
    go (yes p) = omega (arith, e, h, cap-in b n p)
    go (no p) = omega (arith, e, h, cap-out b n (omega arith))

under-cap : (b n k x : ℕ) → k ≡ cap b n → k ≤ x → x < b → k ≡ n
under-cap b n k x e h l = go (dec_lt n b)
  where
    go : Dec (n < b) → k ≡ n
    go (yes p) = e ∙ cap-in b n p
    go (no p) = absurd (omega (arith, e, h, l, cap-out b n (omega arith)))

-- ── refusal 6 by the counts ──
module _ (m : Mode) (rs : List Rule) where
  pub many-symbols : 64 < length (symbols_of rs) → too_many m rs ≡ some (refusal 6 1)
  unfolding too_many symbol_bound
  many-symbols h = ap (λ (b : Bool). refuse_if b 6 1 ▸ (refuse_if (ltb terminal_bound (length (terminals_of rs))) 6 2 ▸ refuse_if (ltb (expression_bound m) (expressions_of rs)) 6 3)) (lt-ltb 64 (length (symbols_of rs)) h)

  few-symbols : length (symbols_of rs) ≤ 64 → too_many m rs ≡ (refuse_if (ltb terminal_bound (length (terminals_of rs))) 6 2 ▸ refuse_if (ltb (expression_bound m) (expressions_of rs)) 6 3)
  unfolding too_many symbol_bound
  few-symbols h = ap (λ (b : Bool). refuse_if b 6 1 ▸ (refuse_if (ltb terminal_bound (length (terminals_of rs))) 6 2 ▸ refuse_if (ltb (expression_bound m) (expressions_of rs)) 6 3)) (le-ltb 64 (length (symbols_of rs)) h)

  pub many-terminals : length (symbols_of rs) ≤ 64 → 64 < length (terminals_of rs) → too_many m rs ≡ some (refusal 6 2)
  unfolding terminal_bound
  many-terminals g h = few-symbols g ∙ ap (λ (b : Bool). refuse_if b 6 2 ▸ refuse_if (ltb (expression_bound m) (expressions_of rs)) 6 3) (lt-ltb 64 (length (terminals_of rs)) h)

  few-terminals : length (symbols_of rs) ≤ 64 → length (terminals_of rs) ≤ 64 → too_many m rs ≡ refuse_if (ltb (expression_bound m) (expressions_of rs)) 6 3
  unfolding terminal_bound
  few-terminals g h = few-symbols g ∙ ap (λ (b : Bool). refuse_if b 6 2 ▸ refuse_if (ltb (expression_bound m) (expressions_of rs)) 6 3) (le-ltb 64 (length (terminals_of rs)) h)

  pub many-expressions : length (symbols_of rs) ≤ 64 → length (terminals_of rs) ≤ 64 → expression_bound m < expressions_of rs → too_many m rs ≡ some (refusal 6 3)
  many-expressions g h k = few-terminals g h ∙ ap (λ (b : Bool). refuse_if b 6 3) (lt-ltb (expression_bound m) (expressions_of rs) k)

  pub within : length (symbols_of rs) ≤ 64 → length (terminals_of rs) ≤ 64 → expressions_of rs ≤ expression_bound m → too_many m rs ≡ none
  within g h k = few-terminals g h ∙ ap (λ (b : Bool). refuse_if b 6 3) (le-ltb (expression_bound m) (expressions_of rs) k)

-- ── answers ──
abbrev pub refused : ℕ → ℕ → Counted
refused n p = record { symbols = 0; terminals = 0; expressions = 0; verdict = VerdictRefused n p }

refused-is : (m : Mode) (s : List ℕ) (n p : ℕ) → refuses_text m s ≡ some (refusal n p) → refused n p ≡ read_up_to6 m s
unfolding read_up_to6 verdict_of
refused-is m s n p e = ap (λ (o : Option Refusal). read_by o (prepared m s)) (sym e)

abbrev told : Option Refusal → ℕ
told none = 0
told (some x) = 1

pub some-none : (x : Refusal) → some x ≡ none → ⊥
some-none x e = let z : told (some x) ≡ told none = ap told e in omega (arith, z)

-- one refusal: the answer, and that the text is not accepted
pub record Refuses (m : Mode) (s : List ℕ) (n p : ℕ) : Type 0 where
  pub answer : refused n p ≡ read_up_to6 m s
  pub not-accepted : refuses_text m s ≡ none → ⊥

refuses-by : (m : Mode) (s : List ℕ) (n p : ℕ) → refuses_text m s ≡ some (refusal n p) → Refuses m s n p
refuses-by m s n p e = record { answer = refused-is m s n p e; not-accepted = λ z. some-none (refusal n p) (sym e ∙ z) }

-- by 1 to 5
pub early : (m : Mode) (s : List ℕ) (f : Found) → Some f ≡ found (scanned m s) → Refuses m s f.number f.place
early m s f e = go (scanned m s) refl
  where
    go : (o : Option Refusal) → scanned m s ≡ o → Refuses m s f.number f.place
    go none q = let y : ◌≡◌ {A = ℕ} 0 1 = (let z = e ∙ ap found q in cc) in absurd (omega arith)
    go (some x) q =
        let d : refuses_text m s ≡ some x = text-by-scan m s ∙ ap (λ (o : Option Refusal). o ▸ too_many m (rules_of m s)) q in
        let g : f ≡ record { number = x.number; place = x.place } = ap (λ (o : std.Option Found). unwrap_or o f) (e ∙ ap found q) in
        subst (λ (y : Found). Refuses m s y.number y.place) (sym g) (refuses-by m s x.number x.place d)

pub loads-refused : {m : Mode} {s t : List ℕ} {r : Counted} {n p : ℕ} → r ≡ refused n p → Refuses m s n p → Loads m s t r
loads-refused q f = record { answer = q ∙ f.answer; table = λ e. absurd (f.not-accepted e) }

-- by 6, or accepted
module _ (m : Mode) (s old new : List ℕ) (cl : Clean m s) (k : Counts) (b : Built m s old new k) (long : length old ≡ table_words) where
  abbrev rs : List Rule
  rs = rules_of m s

  abbrev g : Rules
  g = (grammar-of m s cl).0

  abbrev sound : Sound m s g
  sound = (grammar-of m s cl).1

  same : trees g ≡ rs
  same = (grammar-of m s cl).2

  symbols-are : k.symbols ≡ cap 65 (length (symbols_of rs))
  symbols-are = b.symbols g sound long ∙ ap (λ (x : List Rule). cap 65 (length (symbols_of x))) same

  pub six-one : 64 < k.symbols → Refuses m s 6 1
  six-one h = refuses-by m s 6 1 (by_count m s cl ∙ many-symbols m rs (over-cap 65 (length (symbols_of rs)) k.symbols 64 symbols-are h))

  module _ (h1 : k.symbols ≤ 64) where
    s-is : k.symbols ≡ length (symbols_of rs)
    s-is = under-cap 65 (length (symbols_of rs)) k.symbols 64 symbols-are h1 (omega arith)

    s-few : length (symbols_of (trees g)) ≤ 64
    s-few = subst (λ (x : List Rule). length (symbols_of x) ≤ 64) (sym same) (omega (arith, s-is, h1))

    terminals-are : k.terminals ≡ cap 65 (length (terminals_of rs))
    terminals-are = b.terminals g sound long s-few ∙ ap (λ (x : List Rule). cap 65 (length (terminals_of x))) same

    pub six-two : 64 < k.terminals → Refuses m s 6 2
    six-two h = refuses-by m s 6 2 (by_count m s cl ∙ many-terminals m rs (omega (arith, s-is, h1)) (over-cap 65 (length (terminals_of rs)) k.terminals 64 terminals-are h))

    module _ (h2 : k.terminals ≤ 64) where
      t-is : k.terminals ≡ length (terminals_of rs)
      t-is = under-cap 65 (length (terminals_of rs)) k.terminals 64 terminals-are h2 (omega arith)

      t-few : length (terminals_of (trees g)) ≤ 64
      t-few = subst (λ (x : List Rule). length (terminals_of x) ≤ 64) (sym same) (omega (arith, t-is, h2))

      expressions-are : k.expressions ≡ cap 1025 (expressions_of rs)
      expressions-are = b.expressions g sound long s-few t-few ∙ ap (λ (x : List Rule). cap 1025 (expressions_of x)) same

      pub six-three : expression_bound m < k.expressions → Refuses m s 6 3
      six-three h =
          refuses-by m s 6 3
          (by_count m s cl ∙ many-expressions m rs (omega (arith, s-is, h1)) (omega (arith, t-is, h2)) (over-cap 1025 (expressions_of rs) k.expressions (expression_bound m) expressions-are h))

      at_most : (j : Mode) → expression_bound j < 1025
      unfolding expression_bound
      at_most Lake = omega arith
      at_most Plain = omega arith

      module _ (h3 : k.expressions ≤ expression_bound m) where
        e-is : k.expressions ≡ expressions_of rs
        e-is = under-cap 1025 (expressions_of rs) k.expressions (expression_bound m) expressions-are h3 (at_most m)

        pub accepted : refuses_text m s ≡ none
        accepted = by_count m s cl ∙ within m rs (omega (arith, s-is, h1)) (omega (arith, t-is, h2)) (omega (arith, e-is, h3))

        pub counted : record { symbols = k.symbols; terminals = k.terminals; expressions = k.expressions; verdict = Accepted } ≡ read_up_to6 m s
        unfolding read_up_to6 verdict_of prepared prepared_by numbered
        counted =
            ap (λ (x : ℕ). record { symbols = x; terminals = k.terminals; expressions = k.expressions; verdict = Accepted }) s-is
            ∙ ap (λ (x : ℕ). record { symbols = length (symbols_of rs); terminals = x; expressions = k.expressions; verdict = Accepted }) t-is
            ∙ ap (λ (x : ℕ). record { symbols = length (symbols_of rs); terminals = length (terminals_of rs); expressions = x; verdict = Accepted }) e-is
            ∙ ap (λ (o : Option Refusal). read_by o (prepared m s)) (sym accepted)

        pub held : Holds new (numbered rs)
        held =
            subst (λ (x : List Rule). Holds new (numbered x)) same
            (b.holds g sound long s-few t-few (subst (λ (x : List Rule). expressions_of x ≤ 1024) (sym same) (omega (arith, e-is, h3, at_most m))))

pub loads-accepted : {m : Mode} {s old t : List ℕ} {k : Counts} → Clean m s → Built m s old t k → length old ≡ table_words
    → k.symbols ≤ 64 → k.terminals ≤ 64 → k.expressions ≤ expression_bound m
    → Loads m s t (record { symbols = k.symbols; terminals = k.terminals; expressions = k.expressions; verdict = Accepted })
loads-accepted {m} {s} {old} {t} {k} c b l h1 h2 h3 = record { answer = counted m s old t c k b l h1 h2 h3; table = λ e. held m s old t c k b l h1 h2 h3 }
