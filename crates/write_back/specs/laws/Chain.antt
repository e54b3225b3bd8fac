-- Refusals 4 and 5 by the symbols of the tokens: nothing is refused just where no name is reserved, no left side stands twice, and every nonterminal has a rule. Assumes nothing.
use Rattle.std.specs.Prelude.{ℕ, ◌≡◌, refl, Bool, not, ◌||◌}
use Rattle.std.proofs.Common.{ap, ap₂, ◌∙◌}
use Rattle.std.proofs.Math.Bool.{true, false}
use mathlib.Core.List.{List, [], ◌∷◌}
use Rattle.std.proofs.Math.Option.{Option, none, some}
use Rattle.base_facts.specs.laws.Options.{some-none}
use Rattle.base_facts.specs.laws.Bools.{not-false, or-fails}
use Rattle.read_tokens.specs.declared.Mode.{Mode}
use Rattle.read_tokens.specs.Token.{Symbol, name, lake, Tok, symbol, leaf, pre, suf, arrow, slash, opens, closes, bad, Lexeme}
use Rattle.read_tokens.specs.Tokens.{toks_of}
use Rattle.grammar.specs.Same.{same_symbol, is_in}
use Rattle.read_syntax.specs.Reader.{is_arrow}
use Rattle.read_syntax.specs.Reading.{reserved, second, second_by, unruled, lacks, before}
use Rattle.grammar_table.specs.laws.Rows.{All}
use Rattle.read_grammar.specs.steps.Lay.{gather_by, gathered}
use Rattle.read_grammar.specs.laws.Symbols.{uses}
use Rattle.write_back.specs.laws.Readable.{Distinct, Unreserved, Ruled}

abbrev pick : Bool → ℕ → Option ℕ → Option ℕ
pick b i o = elim b [ true ↦ some i | false ↦ o ]

picked : (b : Bool) (i : ℕ) (o : Option ℕ) → pick b i o ≡ none → (b ≡ false) × (o ≡ none)
picked true i o e = absurd (some-none i e)
picked false i o e = (refl, e)

-- ── refusal 4 ──
abbrev Once : Mode → List Symbol → List Tok → Type 0
Once m seen ts = All (Unreserved m) (gathered true ts) × Distinct seen (gathered false ts)

module _ (m : Mode) (seen : List Symbol) (i : ℕ) (xs : List Lexeme) where
  abbrev on : Tok → Bool → Option ℕ
  on t b = second_by m seen t i b (λ y. second m y xs)

  symbol-none : (h : Symbol) (b : Bool) → reserved m h ≡ false → Distinct seen (gather_by b h (gathered false (toks_of xs)))
      → (Distinct seen (gathered false (toks_of xs)) → second m seen xs ≡ none) → (Distinct (h ∷ seen) (gathered false (toks_of xs)) → second m (h ∷ seen) xs ≡ none) → on (symbol h) b ≡ none
  symbol-none h true r d f g = ap₂ (λ (p q : Bool). pick (p || q) i (second m (h ∷ seen) xs)) r d.0 ∙ g d.1
  symbol-none h false r d f g = ap (λ (p : Bool). pick (p || false) i (second m seen xs)) r ∙ f d

  symbol-says : (h : Symbol) (b : Bool) → on (symbol h) b ≡ none → (second m seen xs ≡ none → Once m seen (toks_of xs)) → (second m (h ∷ seen) xs ≡ none → Once m (h ∷ seen) (toks_of xs))
      → (reserved m h ≡ false) × All (Unreserved m) (gathered true (toks_of xs)) × Distinct seen (gather_by b h (gathered false (toks_of xs)))
  symbol-says h true e f g =
      let p = picked (reserved m h || is_in same_symbol h seen) i (second m (h ∷ seen) xs) e in
      let q = or-fails (reserved m h) (is_in same_symbol h seen) p.0 in
      let o = g p.1 in (q.0, o.0, (q.1, o.1))
  symbol-says h false e f g =
      let p = picked (reserved m h || false) i (second m seen xs) e in
      let o = f p.1 in ((or-fails (reserved m h) false p.0).0, o.0, o.1)

pub second_none : (m : Mode) (seen : List Symbol) (xs : List Lexeme) → All (Unreserved m) (gathered true (toks_of xs)) → Distinct seen (gathered false (toks_of xs)) → second m seen xs ≡ none
unfolding second gathered toks_of
second_none m seen [] f d = refl
second_none m seen (x ∷ xs) f d = by x.is f d (λ y a. second_none m y xs a)
  where
    by : (t : Tok) → All (Unreserved m) (gathered true (t ∷ toks_of xs)) → Distinct seen (gathered false (t ∷ toks_of xs))
        → ((y : List Symbol) → All (Unreserved m) (gathered true (toks_of xs)) → Distinct y (gathered false (toks_of xs)) → second m y xs ≡ none) → second_by m seen t x.start (before xs) (λ y. second m y xs) ≡ none
    by (symbol h) f d g = symbol-none m seen x.start xs h (before xs) f.0 d (g seen f.1) (g (h ∷ seen) f.1)
    by (leaf y) f d g = g seen f d
    by (pre y) f d g = g seen f d
    by (suf y) f d g = g seen f d
    by arrow f d g = g seen f d
    by slash f d g = g seen f d
    by opens f d g = g seen f d
    by closes f d g = g seen f d
    by bad f d g = g seen f d

pub second-says : (m : Mode) (seen : List Symbol) (xs : List Lexeme) → second m seen xs ≡ none → All (Unreserved m) (gathered true (toks_of xs)) × Distinct seen (gathered false (toks_of xs))
unfolding second gathered toks_of
second-says m seen [] e = (tt, tt)
second-says m seen (x ∷ xs) e = by x.is e (λ y. second-says m y xs)
  where
    by : (t : Tok) → second_by m seen t x.start (before xs) (λ y. second m y xs) ≡ none
        → ((y : List Symbol) → second m y xs ≡ none → Once m y (toks_of xs)) → Once m seen (t ∷ toks_of xs)
    by (symbol h) e g = let o = symbol-says m seen x.start xs h (before xs) e (g seen) (g (h ∷ seen)) in ((o.0, o.1), o.2)
    by (leaf y) e g = g seen e
    by (pre y) e g = g seen e
    by (suf y) e g = g seen e
    by arrow e g = g seen e
    by slash e g = g seen e
    by opens e g = g seen e
    by closes e g = g seen e
    by bad e g = g seen e

-- ── refusal 5 ──
abbrev use_by : Bool → Symbol → List Symbol → List Symbol
use_by true h l = l
use_by false h l = h ∷ l

module _ (lefts : List Symbol) (ts : List Tok) where
  use-none : (h : Symbol) (b : Bool) → All (Ruled lefts) (use_by b h (uses ts)) → (lacks lefts (symbol h) b ≡ false) × All (Ruled lefts) (uses ts)
  use-none (name w) true a = (refl, a)
  use-none (lake w) true a = (refl, a)
  use-none (name w) false a = (ap not a.0, a.1)
  use-none (lake w) false a = (refl, a.1)

  use-says : (h : Symbol) (b : Bool) → lacks lefts (symbol h) b ≡ false → All (Ruled lefts) (uses ts) → All (Ruled lefts) (use_by b h (uses ts))
  use-says h true e a = a
  use-says (name w) false e a = (not-false (is_in same_symbol (name w) lefts) e, a)
  use-says (lake w) false e a = (tt, a)

pub unruled-none : (lefts : List Symbol) (xs : List Lexeme) → All (Ruled lefts) (uses (toks_of xs)) → unruled lefts xs ≡ none
unfolding unruled uses toks_of
unruled-none lefts [] a = refl
unruled-none lefts (x ∷ xs) a = by x.is a (unruled-none lefts xs)
  where
    by : (t : Tok) → All (Ruled lefts) (uses (t ∷ toks_of xs)) → (All (Ruled lefts) (uses (toks_of xs)) → unruled lefts xs ≡ none) → pick (lacks lefts t (before xs)) x.start (unruled lefts xs) ≡ none
    by (symbol h) a g = let u = use-none lefts (toks_of xs) h (before xs) a in ap (λ (b : Bool). pick b x.start (unruled lefts xs)) u.0 ∙ g u.1
    by (leaf y) a g = g a
    by (pre y) a g = g a
    by (suf y) a g = g a
    by arrow a g = g a
    by slash a g = g a
    by opens a g = g a
    by closes a g = g a
    by bad a g = g a

pub unruled-says : (lefts : List Symbol) (xs : List Lexeme) → unruled lefts xs ≡ none → All (Ruled lefts) (uses (toks_of xs))
unfolding unruled uses toks_of
unruled-says lefts [] e = tt
unruled-says lefts (x ∷ xs) e = by x.is e (unruled-says lefts xs)
  where
    by : (t : Tok) → pick (lacks lefts t (before xs)) x.start (unruled lefts xs) ≡ none → (unruled lefts xs ≡ none → All (Ruled lefts) (uses (toks_of xs))) → All (Ruled lefts) (uses (t ∷ toks_of xs))
    by (symbol h) e g = let u = picked (lacks lefts (symbol h) (before xs)) x.start (unruled lefts xs) e in use-says lefts (toks_of xs) h (before xs) u.0 (g u.1)
    by (leaf y) e g = g e
    by (pre y) e g = g e
    by (suf y) e g = g e
    by arrow e g = g e
    by slash e g = g e
    by opens e g = g e
    by closes e g = g e
    by bad e g = g e

-- ── all symbols: the left sides and the uses ──
module _ (P : Symbol → Type 0) where
  pub all-gathered : (l : List Tok) → All P (gathered false l) → All P (uses l) → All P (gathered true l)
  unfolding gathered uses
  all-gathered [] f u = tt
  all-gathered (symbol h ∷ l) f u = by (is_arrow l) f u (all-gathered l)
    where
      by : (b : Bool) → All P (gather_by b h (gathered false l)) → All P (use_by b h (uses l)) → (All P (gathered false l) → All P (uses l) → All P (gathered true l)) → All P (h ∷ gathered true l)
      by true f u g = (f.0, g f.1 u)
      by false f u g = (u.0, g f u.1)
  all-gathered (leaf x ∷ l) f u = all-gathered l f u
  all-gathered (pre x ∷ l) f u = all-gathered l f u
  all-gathered (suf x ∷ l) f u = all-gathered l f u
  all-gathered (arrow ∷ l) f u = all-gathered l f u
  all-gathered (slash ∷ l) f u = all-gathered l f u
  all-gathered (opens ∷ l) f u = all-gathered l f u
  all-gathered (closes ∷ l) f u = all-gathered l f u
  all-gathered (bad ∷ l) f u = all-gathered l f u

  pub of-gathered : (l : List Tok) → All P (gathered true l) → All P (gathered false l) × All P (uses l)
  unfolding gathered uses
  of-gathered [] a = (tt, tt)
  of-gathered (symbol h ∷ l) a = by (is_arrow l) (of-gathered l a.1)
    where
      by : (b : Bool) → All P (gathered false l) × All P (uses l) → All P (gather_by b h (gathered false l)) × All P (use_by b h (uses l))
      by true o = ((a.0, o.0), o.1)
      by false o = (o.0, (a.0, o.1))
  of-gathered (leaf x ∷ l) a = of-gathered l a
  of-gathered (pre x ∷ l) a = of-gathered l a
  of-gathered (suf x ∷ l) a = of-gathered l a
  of-gathered (arrow ∷ l) a = of-gathered l a
  of-gathered (slash ∷ l) a = of-gathered l a
  of-gathered (opens ∷ l) a = of-gathered l a
  of-gathered (closes ∷ l) a = of-gathered l a
  of-gathered (bad ∷ l) a = of-gathered l a
