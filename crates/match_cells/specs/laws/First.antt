-- An order of the symbols that goes by first calls (01, Lakes made plain): where there is no loop, first-called symbols can come first.
-- Assumes nothing: these are definitions.
use Rattle.std.specs.Prelude.{ℕ, ◌<◌, ◌≡◌, Bool, true, false, List, [], ◌∷◌, ◌⊎◌, length}
use Rattle.grammar.specs.Exp.{Exp, sym, ter, seq, alt, opt, star, plus, ahead, never}
use Rattle.grammar.specs.Empty.{empty_leaf, has_empty}
use Rattle.lake_plain.specs.Loops.{Calls}
use Rattle.match_eval.specs.Eval.{body_of}

-- no literal in it is empty, so that a terminal that matches takes something
abbrev pub Terse : Exp ℕ → Type 0
Terse (sym r) = Unit {0}
Terse (ter x) = empty_leaf x ≡ false
Terse (seq a b) = Terse a × Terse b
Terse (alt a b) = Terse a × Terse b
Terse (opt a) = Terse a
Terse (star a) = Terse a
Terse (plus a) = Terse a
Terse (ahead a) = Terse a
Terse (never a) = Terse a

-- m marks every symbol whose body has ε
pub record Markings (m : ℕ → Bool) (bodies : List (Exp ℕ)) : Type 0 where
  pub marks : (r : ℕ) → r < length bodies → has_empty m (body_of bodies r) ≡ true → m r ≡ true
  pub terse : (r : ℕ) → Terse (body_of bodies r)

abbrev pub In : ℕ → List ℕ → Type 0
In x [] = ⊥
In x (y ∷ ys) = (x ≡ y) ⊎ In x ys

-- each symbol of the list comes after those that it first-calls, and in the end all are there
abbrev pub Ordered : (ℕ → Bool) → List (Exp ℕ) → List ℕ → List ℕ → Type 0
Ordered m bodies done [] = (x : ℕ) → x < length bodies → In x done
Ordered m bodies done (r ∷ rs) =
    (r < length bodies) × ((x : ℕ) → Calls m (body_of bodies r) x → x < length bodies → In x done) × Ordered m bodies (r ∷ done) rs
