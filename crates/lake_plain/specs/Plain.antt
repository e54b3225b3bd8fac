-- Step 2: the plain body of each symbol, and the plain grammar with its names (01, Lakes made plain; 02, §4; 01, Writing: "`<x>` is written `lake__x` in
-- plain").
-- Assumes nothing: these are definitions.
use Rattle.std.specs.Prelude.{ℕ, zero, suc, ◌+◌, Bool, true, false, not, ◌&&◌, List, [], ◌∷◌, ◌++◌, length, get_or, ltb}
use Rattle.std.proofs.Math.Option.{Option, none, some}
use Rattle.read_tokens.specs.Token.{Symbol, Leaf, name, any}
use Rattle.grammar.specs.Exp.{Exp, Rule, sym, ter, size, rename}
use Rattle.grammar.specs.Numbers.{Grammar, is_lake}
use Rattle.grammar.specs.Lakes.{step_two, plain_name}
use Rattle.grammar.specs.Refusal.{Refusal, refuse_if}
use Rattle.read_tokens.specs.Bounds.{plain_bound}
use Rattle.base_words.specs.Set.{member_of}
use Rattle.lake_step_one.specs.Intermediate.{intermediate}
use Rattle.lake_rules.specs.Analysis.{Analysis, lake_alt}

-- "the nonterminals of ALT(b) by number": those of the names, numbered from i on; "lakes in ALT(b) are dropped"
unfoldable pub nonterminals_in : List ℕ → ℕ → List Symbol → List (Exp ℕ)
nonterminals_in s i [] = []
nonterminals_in s i (h ∷ hs) = elim (member_of s i && not (is_lake h)) [ true ↦ sym i ∷ nonterminals_in s (suc i) hs | false ↦ nonterminals_in s (suc i) hs ]

-- "then its terminals by number"; terminal i is 64 + i in a set
unfoldable pub terminals_in : List ℕ → ℕ → List Leaf → List (Exp ℕ)
terminals_in s i [] = []
terminals_in s i (x ∷ xs) = elim (member_of s (64 + i)) [ true ↦ ter x ∷ terminals_in s (suc i) xs | false ↦ terminals_in s (suc i) xs ]

-- s1 .. sn: "only the s are the lake's alternative symbols, in the match too"
unfoldable pub alternatives : Grammar → List ℕ → List (Exp ℕ)
alternatives g s = nonterminals_in s 0 g.names ++ terminals_in s 0 g.terminals

-- a nonterminal's right side; refusal 5 sees to it that there is one
abbrev pub right_or : Option (Exp ℕ) → Exp ℕ
right_or none = ter any
right_or (some e) = e

abbrev pub plain_by : Bool → Option (Exp ℕ) → List (Exp ℕ) → Exp ℕ
plain_by true o ss = step_two o ss
plain_by false o ss = right_or o

-- by symbol number, from r on, of the intermediate bodies
unfoldable pub plain_from : Grammar → Analysis → ℕ → List Symbol → List (Option (Exp ℕ)) → List (Exp ℕ)
plain_from g a r [] os = []
plain_from g a r (h ∷ hs) [] = []
plain_from g a r (h ∷ hs) (o ∷ os) = plain_by (is_lake h) o (alternatives g (lake_alt a r)) ∷ plain_from g a (suc r) hs os

unfoldable pub plain_bodies : Grammar → Analysis → List (Exp ℕ)
plain_bodies g a = plain_from g a 0 g.names (intermediate g)

-- how many expressions (refusal 7)
unfoldable pub sizes : List (Exp ℕ) → ℕ
sizes [] = 0
sizes (e ∷ es) = size e + sizes es

-- the rules of bodies by number, each symbol called by the names
unfoldable pub rules_by : (ℕ → Symbol) → ℕ → List (Exp ℕ) → List Rule
rules_by called r [] = []
rules_by called r (e ∷ es) = record { left = called r; right = rename called e } ∷ rules_by called (suc r) es

-- the plain grammar as rules: "in plain, every symbol's"
unfoldable pub plain_rules : Grammar → Analysis → List Rule
plain_rules g a = rules_by (λ r. plain_name (get_or g.names r (name []))) 0 (plain_bodies g a)

-- 7: "translation over 1,024 expressions", place 1,025
abbrev pub too_large : List (Exp ℕ) → Option Refusal
too_large bodies = refuse_if (ltb plain_bound (sizes bodies)) 7 (suc plain_bound)
