-- What is added to a list, each where it is new, stands in it; the uses of a text are among its symbols. Assumes nothing.
use Rattle.std.specs.Prelude.{◌≡◌, refl, Bool, ◌||◌}
use Rattle.std.proofs.Math.Path.{ap}
use Rattle.std.proofs.Common.{◌∙◌}
use Rattle.std.proofs.Math.Bool.{true, false}
use mathlib.Core.List.{List, [], ◌∷◌, ◌++◌}
use Rattle.base_facts.specs.laws.Bools.{or-true}
use Rattle.read_tokens.specs.Token.{Symbol, Tok, symbol, leaf, pre, suf, arrow, slash, opens, closes, bad}
use Rattle.grammar.specs.Same.{is_in}
use Rattle.read_syntax.specs.Reader.{is_arrow}
use Rattle.grammar_table.specs.laws.Rows.{also, adds, also-in, also-new, in-append, All}
use Rattle.read_grammar.specs.steps.Lay.{gathered}
use Rattle.read_grammar.specs.laws.Symbols.{uses}

module _ {A : Type 0} (same : A → A → Bool) where
  abbrev pub In : List A → A → Type 0
  In l x = is_in same x l ≡ true

  in-front : (x : A) (l m : List A) → In l x → In (l ++ m) x
  in-front x l m e = in-append same x l m ∙ ap (λ (b : Bool). b || is_in same x m) e

  in-last : (x : A) (l : List A) → same x x ≡ true → In (l ++ (x ∷ [])) x
  unfolding is_in
  in-last x l r =
      in-append same x l (x ∷ []) ∙ ap (λ (b : Bool). is_in same x l || (b || false)) r ∙ or-true (is_in same x l)

  also-keeps : (x y : A) (l : List A) → In l x → In (also same y l) x
  also-keeps x y l e = by (is_in same y l) refl
    where
      by : (b : Bool) → is_in same y l ≡ b → In (also same y l) x
      by true u = ap (is_in same x) (also-in same y l u) ∙ e
      by false u = ap (is_in same x) (also-new same y l u) ∙ in-front x l (y ∷ []) e

  also-has : (x : A) (l : List A) → same x x ≡ true → In (also same x l) x
  also-has x l r = by (is_in same x l) refl
    where
      by : (b : Bool) → is_in same x l ≡ b → In (also same x l) x
      by true u = ap (is_in same x) (also-in same x l u) ∙ u
      by false u = ap (is_in same x) (also-new same x l u) ∙ in-last x l r

  adds-keeps : (x : A) (l xs : List A) → In l x → In (adds same l xs) x
  unfolding adds
  adds-keeps x l [] e = e
  adds-keeps x l (y ∷ xs) e = adds-keeps x (also same y l) xs (also-keeps x y l e)

  pub adds-has : ((x : A) → same x x ≡ true) → (l xs : List A) → All (In (adds same l xs)) xs
  unfolding adds
  adds-has r l [] = tt
  adds-has r l (x ∷ xs) = (adds-keeps x (also same x l) xs (also-has x l (r x)), adds-has r (also same x l) xs)

-- ── every use is among all symbols ──
abbrev use_by : Bool → Symbol → List Symbol → List Symbol
use_by true h l = l
use_by false h l = h ∷ l

module _ (P : Symbol → Type 0) where
  pub uses-among : (l : List Tok) → All P (gathered true l) → All P (uses l)
  unfolding gathered uses
  uses-among [] h = tt
  uses-among (symbol x ∷ l) h = by (is_arrow l) (uses-among l h.1)
    where
      by : (b : Bool) → All P (uses l) → All P (use_by b x (uses l))
      by true u = u
      by false u = (h.0, u)
  uses-among (leaf x ∷ l) h = uses-among l h
  uses-among (pre x ∷ l) h = uses-among l h
  uses-among (suf x ∷ l) h = uses-among l h
  uses-among (arrow ∷ l) h = uses-among l h
  uses-among (slash ∷ l) h = uses-among l h
  uses-among (opens ∷ l) h = uses-among l h
  uses-among (closes ∷ l) h = uses-among l h
  uses-among (bad ∷ l) h = uses-among l h
