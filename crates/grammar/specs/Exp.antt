-- Expressions as trees, over whatever stands for a symbol: its name, or its number. Parentheses are gone; choice and sequence associate to the left.
-- Assumes nothing: these are definitions.
use Rattle.std.specs.Prelude.{ℕ, suc, ◌+◌, List, [], ◌∷◌, ◌++◌}
use Rattle.read_tokens.specs.Token.{Symbol, Leaf}

pub data Exp (S : Type 0) : Type 0 where
  sym : S → Exp S
  ter : Leaf → Exp S
  seq alt : Exp S → Exp S → Exp S
  opt star plus ahead never : Exp S → Exp S

-- a rule `left <- right`
pub record Rule : Type 0 where
  pub left : Symbol
  pub right : Exp Symbol

-- how many expressions: "every occurrence and every operator is one expression" (01, Notation)
unfoldable pub size : {S : Type 0} → Exp S → ℕ
size (sym h) = 1
size (ter x) = 1
size (seq a b) = suc (size a + size b)
size (alt a b) = suc (size a + size b)
size (opt a) = suc (size a)
size (star a) = suc (size a)
size (plus a) = suc (size a)
size (ahead a) = suc (size a)
size (never a) = suc (size a)

-- another name for each symbol
unfoldable pub rename : {S T : Type 0} → (S → T) → Exp S → Exp T
rename f (sym h) = sym (f h)
rename f (ter x) = ter x
rename f (seq a b) = seq (rename f a) (rename f b)
rename f (alt a b) = alt (rename f a) (rename f b)
rename f (opt a) = opt (rename f a)
rename f (star a) = star (rename f a)
rename f (plus a) = plus (rename f a)
rename f (ahead a) = ahead (rename f a)
rename f (never a) = never (rename f a)

-- the symbols of an expression, and its terminals, each use, in the order of the text
unfoldable pub symbols_in : {S : Type 0} → Exp S → List S
symbols_in (sym h) = h ∷ []
symbols_in (ter x) = []
symbols_in (seq a b) = symbols_in a ++ symbols_in b
symbols_in (alt a b) = symbols_in a ++ symbols_in b
symbols_in (opt a) = symbols_in a
symbols_in (star a) = symbols_in a
symbols_in (plus a) = symbols_in a
symbols_in (ahead a) = symbols_in a
symbols_in (never a) = symbols_in a

unfoldable pub leaves_in : {S : Type 0} → Exp S → List Leaf
leaves_in (sym h) = []
leaves_in (ter x) = x ∷ []
leaves_in (seq a b) = leaves_in a ++ leaves_in b
leaves_in (alt a b) = leaves_in a ++ leaves_in b
leaves_in (opt a) = leaves_in a
leaves_in (star a) = leaves_in a
leaves_in (plus a) = leaves_in a
leaves_in (ahead a) = leaves_in a
leaves_in (never a) = leaves_in a
