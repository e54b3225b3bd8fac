-- What every grammar that is read has: each symbol and each terminal of an expression is one of the grammar's, and no literal is empty
-- (01, Notation: "an empty literal .. [is a] bad token"). Assumes nothing: these are definitions.
use Rattle.std.specs.Prelude.{ℕ, ◌<◌, ◌≡◌, false, List, [], ◌∷◌, length}
use Rattle.std.proofs.Math.Option.{Option}
use Rattle.read_tokens.specs.Token.{Leaf}
use Rattle.grammar.specs.Exp.{Exp, sym, ter, seq, alt, opt, star, plus, ahead, never}
use Rattle.grammar.specs.Empty.{empty_leaf}
use Rattle.grammar_table.specs.Holds.{present}
use Rattle.lake_step_one.specs.Intermediate.{intermediate}
use Rattle.grammar.specs.Numbers.{Grammar, terminal_in}

-- over r symbols and x terminals with these numbers
module _ (number : Leaf → ℕ) (r x : ℕ) where
  abbrev pub Sound : Exp ℕ → Type 0
  Sound (sym s) = s < r
  Sound (ter l) = (number l < x) × (empty_leaf l ≡ false)
  Sound (seq a b) = Sound a × Sound b
  Sound (alt a b) = Sound a × Sound b
  Sound (opt a) = Sound a
  Sound (star a) = Sound a
  Sound (plus a) = Sound a
  Sound (ahead a) = Sound a
  Sound (never a) = Sound a

  abbrev pub SoundAll : List (Exp ℕ) → Type 0
  SoundAll [] = Unit {0}
  SoundAll (e ∷ es) = Sound e × SoundAll es

-- g with other right sides
abbrev pub with_rights : Grammar → List (Option (Exp ℕ)) → Grammar
with_rights g rights = record { names = g.names; rights = rights; terminals = g.terminals }

-- the intermediate grammar
abbrev pub middle : Grammar → Grammar
middle g = with_rights g (intermediate g)

-- of the right sides as they are
abbrev pub ProperIn : Grammar → Type 0
ProperIn g = SoundAll (terminal_in g) (length g.names) (length g.terminals) (present g.rights)

-- of the intermediate grammar
abbrev pub Proper : Grammar → Type 0
Proper g = ProperIn (middle g)
