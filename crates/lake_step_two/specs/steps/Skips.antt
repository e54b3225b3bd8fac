-- A lake's alternatives written behind a copy of its body (01, Lakes made plain, step 2), and what each call promises of the table.
-- Assumes nothing: these are definitions.
use Rattle.std.specs.Prelude.{ℕ, zero, suc, ◌+◌, ◌≤◌, ◌<◌, ◌≡◌, Bool, true, false, not, ◌&&◌, List, [], ◌∷◌, ◌++◌, length}
use Rattle.std.proofs.Math.Option.{Option}
use Rattle.read_tokens.specs.Token.{Leaf, any}
use Rattle.grammar.specs.Exp.{Exp, sym, ter}
use Rattle.grammar.specs.Lakes.{choice_of, skip_of}
use Rattle.grammar.specs.Parts.{Part, parts_of}
use Rattle.grammar_table.specs.Table.{table_words, part_by}
use Rattle.base_words.specs.Set.{member_of}
use Rattle.lake_step_one.specs.steps.Runs.{Grew, BodyAt}
use Rattle.lake_step_one.specs.steps.Made.{lake_at}
use Rattle.lake_plain.specs.Plain.{plain_by}

-- the expressions of `s1 / .. / sn`; none for no s
abbrev pub choice_parts : (Leaf → ℕ) → ℕ → List (Exp ℕ) → List Part
choice_parts number o [] = []
choice_parts number o (a ∷ bs) = parts_of number o (choice_of a bs)

abbrev pub only_if : Bool → Exp ℕ → List (Exp ℕ)
only_if true e = e ∷ []
only_if false e = []

-- what f gives at 0, 1, .., below n
unfoldable pub each : (ℕ → List (Exp ℕ)) → ℕ → List (Exp ℕ)
each f zero = []
each f (suc n) = each f n ++ f n

-- symbol i if it is a nonterminal of the set; terminal i if it is in the set
abbrev pub symbol_in : List ℕ → List ℕ → ℕ → List (Exp ℕ)
symbol_in t s i = only_if (member_of s i && not (lake_at t i)) (sym i)

abbrev pub terminal_of : (ℕ → Leaf) → List ℕ → ℕ → List (Exp ℕ)
terminal_of leaf s i = only_if (member_of s (64 + i)) (ter (leaf i))

-- "the nonterminals of ALT(b) by number, then its terminals by number", of a table
abbrev pub chosen_in : List ℕ → (ℕ → Leaf) → List ℕ → ℕ → ℕ → List (Exp ℕ)
chosen_in t leaf s r x = each (symbol_in t s) r ++ each (terminal_of leaf s) x

-- whatever choice stands from o on, the alternatives es are added to it
abbrev pub Adds : (Leaf → ℕ) → List (Exp ℕ) → ℕ → List ℕ → ℕ → List ℕ → ℕ → Type 0
Adds number es o mid m mid' m' =
    (first : List ℕ) (ss : List (Exp ℕ)) → length first ≡ table_words → Grew first o (choice_parts number o ss) mid m
    → Grew first o (choice_parts number o (ss ++ es)) mid' m'

abbrev pub Added : ℕ → ℕ → ℕ → List ℕ → ℕ → List ℕ → ℕ → Type 0
Added op x o mid m mid' m' =
    (number : Leaf → ℕ) (e : Exp ℕ) → ((i : ℕ) → parts_of number i e ≡ part_by op x 0 ∷ []) → Adds number (e ∷ []) o mid m mid' m'

abbrev pub AddedSymbol : List ℕ → List ℕ → ℕ → ℕ → List ℕ → ℕ → List ℕ → ℕ → Type 0
AddedSymbol t s i o mid m mid' m' = (number : Leaf → ℕ) → Adds number (symbol_in t s i) o mid m mid' m'

abbrev pub AddedTerminal : List ℕ → ℕ → ℕ → List ℕ → ℕ → List ℕ → ℕ → Type 0
AddedTerminal s i o mid m mid' m' = (number : Leaf → ℕ) (leaf : ℕ → Leaf) → number (leaf i) ≡ i → Adds number (terminal_of leaf s i) o mid m mid' m'

abbrev pub AddedSymbols : List ℕ → List ℕ → ℕ → ℕ → List ℕ → List ℕ → ℕ → Type 0
AddedSymbols t s n o mid mid' m' = (number : Leaf → ℕ) → Adds number (each (symbol_in t s) n) o mid o mid' m'

-- each terminal has its number
abbrev pub Numbered : (Leaf → ℕ) → (ℕ → Leaf) → ℕ → Type 0
Numbered number leaf n = (i : ℕ) → i < n → number (leaf i) ≡ i

abbrev pub AddedTerminals : List ℕ → ℕ → ℕ → List ℕ → ℕ → List ℕ → ℕ → Type 0
AddedTerminals s n o mid m mid' m' = (number : Leaf → ℕ) (leaf : ℕ → Leaf) → Numbered number leaf n → Adds number (each (terminal_of leaf s) n) o mid m mid' m'

-- `s1 / .. / sn` behind the first m
abbrev pub ChoiceTo : List ℕ → List ℕ → ℕ → ℕ → List ℕ → ℕ → List ℕ → ℕ → Type 0
ChoiceTo t s r x mid m mid' m' =
    (number : Leaf → ℕ) (leaf : ℕ → Leaf) → Numbered number leaf x → length mid ≡ table_words → Grew mid m (choice_parts number m (chosen_in t leaf s r x))
    mid' m'

-- `!(s1 / .. / sn) .` behind the first m
abbrev pub SkipTo : List ℕ → List ℕ → ℕ → ℕ → List ℕ → ℕ → List ℕ → ℕ → Type 0
SkipTo t s r x mid m mid' m' =
    (number : Leaf → ℕ) (leaf : ℕ → Leaf) → Numbered number leaf x → number any ≡ 0 → length mid ≡ table_words
    → Grew mid m (parts_of number m (skip_of (chosen_in t leaf s r x))) mid' m'

-- the plain body of a symbol whose intermediate body is the run from a to b, if it has one
abbrev pub PlainTo : List ℕ → Bool → List ℕ → ℕ → ℕ → ℕ → ℕ → List ℕ → ℕ → List ℕ → ℕ → Type 0
PlainTo t is_lake s r x a b mid m mid' m' =
    (number : Leaf → ℕ) (leaf : ℕ → Leaf) (o : Option (Exp ℕ)) → Numbered number leaf x → number any ≡ 0 → length mid ≡ table_words → BodyAt number t a b o
    → Grew mid m (parts_of number m (plain_by is_lake o (chosen_in t leaf s r x))) mid' m'
