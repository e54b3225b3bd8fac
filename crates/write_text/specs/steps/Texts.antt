-- The text of the grammar that a table holds, and what is promised of the room it is written to (01, Writing). Assumes nothing: these are definitions.
use Rattle.std.specs.Prelude.{ℕ, zero, suc, min, ◌≡◌, Bool, true, false, List, [], ◌∷◌, ◌++◌, length, drop, leb}
use Rattle.std.proofs.Math.Option.{Option, none, some}
use Rattle.read_tokens.specs.Token.{Symbol}
use Rattle.grammar.specs.Exp.{Exp, Rule}
use Rattle.grammar_table.specs.Table.{symbol_count, body_in}
use Rattle.write_rules.specs.Writing.{text}
use Rattle.write_leaves.specs.steps.Pen.{most}
use Rattle.write_leaves.specs.steps.Printed.{called, toned}

-- the rule of symbol r before others, if it has a right side: "Rules that the grammar has"
abbrev pub rule_by : (ℕ → Symbol) → ℕ → Option (Exp ℕ) → List Rule → List Rule
rule_by f r none rest = rest
rule_by f r (some e) rest = record { left = f r; right = toned f e } ∷ rest

-- "are written by symbol number": of right sides from symbol r on, each symbol called by its number
unfoldable pub rules_in : (ℕ → Symbol) → ℕ → List (Option (Exp ℕ)) → List Rule
rules_in f r [] = []
rules_in f r (o ∷ os) = rule_by f r o (rules_in f (suc r) os)

-- the right sides of n symbols of a table from r on
unfoldable pub rights_in : List ℕ → ℕ → ℕ → List (Option (Exp ℕ))
rights_in t r zero = []
rights_in t r (suc n) = body_in t r ∷ rights_in t (suc r) n

-- the rules of the grammar that a table holds, in plain with plain names
unfoldable pub ruled : Bool → List ℕ → List Rule
ruled plain t = rules_in (called plain t) 0 (rights_in t 0 (symbol_count t))

unfoldable pub text_of : Bool → List ℕ → List ℕ
text_of plain t = text (ruled plain t)

-- room with a text at its front, if it fits; else as it was
abbrev pub room_by : Bool → List ℕ → List ℕ → List ℕ
room_by true w out = w ++ drop (length w) out
room_by false w out = out

-- how many bytes the text needs (counts stop at `most`, which no room has), whether they fit, and the room
pub record Paged (w old new : List ℕ) (bytes : ℕ) (fits : Bool) : Type 0 where
  pub counted : bytes ≡ min most (length w)
  pub fitting : fits ≡ leb (length w) (length old)
  pub room : new ≡ room_by (leb (length w) (length old)) w old
