-- Expressions by number, parts before wholes, rule after rule (01, Lakes made plain: "Intermediate expressions are numbered from 1").
-- Here they run from 0; the call that answers sets speaks from 1. Assumes nothing: these are definitions.
use Rattle.std.specs.Prelude.{ℕ, ◌+◌, ◌-◌, List, [], ◌∷◌, ◌++◌}
use Rattle.read_tokens.specs.Token.{Leaf}
use Rattle.grammar.specs.Exp.{Exp, sym, ter, seq, alt, opt, star, plus, ahead, never, size}

-- an expression with its parts by number: a terminal, a symbol's use, a sequence, a choice, and under `?`, `*`, `+`, `&`, `!`
pub data Part : Type 0 where
  terminal occurs : ℕ → Part
  sequence choice : ℕ → ℕ → Part
  option repeat repeat1 affirms denies : ℕ → Part

-- the number of an expression behind `before` others: its parts come first
abbrev pub last : {S : Type 0} → ℕ → Exp S → ℕ
last before e = before + size e - 1

-- t: the number of a terminal
module _ (t : Leaf → ℕ) where
  unfoldable pub parts_of : ℕ → Exp ℕ → List Part
  parts_of o (sym r) = occurs r ∷ []
  parts_of o (ter x) = terminal (t x) ∷ []
  parts_of o (seq a b) = parts_of o a ++ (parts_of (o + size a) b ++ (sequence (last o a) (last (o + size a) b) ∷ []))
  parts_of o (alt a b) = parts_of o a ++ (parts_of (o + size a) b ++ (choice (last o a) (last (o + size a) b) ∷ []))
  parts_of o (opt a) = parts_of o a ++ (option (last o a) ∷ [])
  parts_of o (star a) = parts_of o a ++ (repeat (last o a) ∷ [])
  parts_of o (plus a) = parts_of o a ++ (repeat1 (last o a) ∷ [])
  parts_of o (ahead a) = parts_of o a ++ (affirms (last o a) ∷ [])
  parts_of o (never a) = parts_of o a ++ (denies (last o a) ∷ [])

  -- of all bodies
  unfoldable pub parts_all : ℕ → List (Exp ℕ) → List Part
  parts_all o [] = []
  parts_all o (e ∷ es) = parts_of o e ++ parts_all (o + size e) es
