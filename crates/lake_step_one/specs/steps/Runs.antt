-- Expressions written into a table behind those that are there: a run copied to another place has its parts' numbers moved with it
-- (01, Lakes made plain: "Copies are expressions of their own"). Assumes nothing: these are definitions.
use Rattle.std.specs.Prelude.{ℕ, zero, suc, ◌+◌, ◌-◌, ◌*◌, ◌≤◌, ◌<◌, ◌≡◌, List, [], ◌∷◌, ◌++◌, length, get_or, set, Bool}
use Rattle.std.proofs.Math.Option.{Option, none, some}
use Rattle.read_tokens.specs.Token.{Leaf}
use Rattle.lake_step_one.specs.Intermediate.{intermediate_by}
use Rattle.grammar.specs.Exp.{Exp, size}
use Rattle.grammar.specs.Parts.{Part, terminal, occurs, sequence, choice, option, repeat, repeat1, affirms, denies, parts_of}
use Rattle.grammar_table.specs.Table.{table_words, expressions_at, part_in}

-- an expression whose parts have other numbers
abbrev pub renamed : (ℕ → ℕ) → Part → Part
renamed to (terminal x) = terminal x
renamed to (occurs r) = occurs r
renamed to (sequence a b) = sequence (to a) (to b)
renamed to (choice a b) = choice (to a) (to b)
renamed to (option a) = option (to a)
renamed to (repeat a) = repeat (to a)
renamed to (repeat1 a) = repeat1 (to a)
renamed to (affirms a) = affirms (to a)
renamed to (denies a) = denies (to a)

-- a part's number, moved from a run at o to one at m
abbrev pub moved : ℕ → ℕ → ℕ → ℕ
moved o m i = i + m - o

abbrev pub shift : ℕ → ℕ → Part → Part
shift o m p = renamed (moved o m) p

-- the parts lie in the run
abbrev pub Near : ℕ → ℕ → Type 0
Near o i = (o ≤ i) × (i < 1024)

abbrev pub Above : ℕ → Part → Type 0
Above o (terminal x) = Unit {0}
Above o (occurs r) = Unit {0}
Above o (sequence a b) = Near o a × Near o b
Above o (choice a b) = Near o a × Near o b
Above o (option a) = Near o a
Above o (repeat a) = Near o a
Above o (repeat1 a) = Near o a
Above o (affirms a) = Near o a
Above o (denies a) = Near o a

-- the record of expression m
abbrev pub stored : List ℕ → ℕ → ℕ → ℕ → ℕ → List ℕ
stored mid m k l r = set (set (set mid (expressions_at + 3 * m) k) (expressions_at + 3 * m + 1) l) (expressions_at + 3 * m + 2) r

abbrev pub nil : Part
nil = terminal 0

-- ps behind the first m: what stands before stays, and so do the words below the expressions. There is room for 1,024
pub record Grew (mid : List ℕ) (m : ℕ) (ps : List Part) (mid' : List ℕ) (m' : ℕ) : Type 0 where
  pub long : length mid' ≡ length mid
  pub low : (i : ℕ) → i < expressions_at → get_or mid' i 0 ≡ get_or mid i 0
  pub before : (j : ℕ) → j < m → part_in mid' j ≡ part_in mid j
  pub count : m' ≡ m + length ps
  pub new : (j : ℕ) → j < length ps → m + j < 1024 → part_in mid' (m + j) ≡ get_or ps j nil

-- the k expressions of t from a on are those of e
abbrev pub PartsRun : (Leaf → ℕ) → List ℕ → ℕ → Exp ℕ → Type 0
PartsRun number t a e = (a + size e ≤ 1024) × ((j : ℕ) → j < length (parts_of number a e) → part_in t (a + j) ≡ get_or (parts_of number a e) j nil)

-- a copy of such a run
abbrev pub CopiedRun : List ℕ → ℕ → ℕ → List ℕ → ℕ → List ℕ → Type 0
CopiedRun t a k mid m mid' =
    (number : Leaf → ℕ) (e : Exp ℕ) → size e ≡ k → length mid ≡ table_words → PartsRun number t a e → Grew mid m (parts_of number m e) mid' (m + k)

-- one of its records
abbrev pub CopiedOne : List ℕ → ℕ → ℕ → List ℕ → ℕ → ℕ → List ℕ → Type 0
CopiedOne t e o mid at m mid' = length mid ≡ table_words → m ≤ at → Above o (part_in t e) → Grew mid at (shift o m (part_in t e) ∷ []) mid' (at + 1)

-- a body: 0 where there is none, else the end of its run, which begins at a
abbrev pub BodyAt : (Leaf → ℕ) → List ℕ → ℕ → ℕ → Option (Exp ℕ) → Type 0
BodyAt number t a b none = b ≡ 0
BodyAt number t a b (some e) = (b ≡ a + size e) × PartsRun number t a e

-- the expressions of a body, if there is one
abbrev pub body_parts : (Leaf → ℕ) → ℕ → Option (Exp ℕ) → List Part
body_parts number m none = []
body_parts number m (some e) = parts_of number m e

-- a body, if there is one, behind the first m
abbrev pub CopiedBody : List ℕ → ℕ → ℕ → List ℕ → ℕ → List ℕ → ℕ → Type 0
CopiedBody t a b mid m mid' m' =
    (number : Leaf → ℕ) (o : Option (Exp ℕ)) → length mid ≡ table_words → BodyAt number t a b o → Grew mid m (body_parts number m o) mid' m'

-- a symbol's intermediate body behind the first m
abbrev pub BodyTo : List ℕ → Bool → ℕ → ℕ → ℕ → ℕ → List ℕ → ℕ → List ℕ → ℕ → Type 0
BodyTo t is_lake a b wa wb mid m mid' m' =
    (number : Leaf → ℕ) (w o : Option (Exp ℕ)) → length mid ≡ table_words → BodyAt number t wa wb w → BodyAt number t a b o
    → Grew mid m (body_parts number m (intermediate_by is_lake w o)) mid' m'

-- the word of a body whose expressions, behind the first m, end at p: 0 where there are none
abbrev pub EndWord : ℕ → ℕ → ℕ → Type 0
EndWord m p v = (p ≡ m → v ≡ 0) × ((p ≡ m → ⊥) → p < 4294967296 → v ≡ p)

-- where a body's expressions end is its word; 0 where there is no body
abbrev pub ends_at : Option (Exp ℕ) → ℕ → ℕ
ends_at none p = 0
ends_at (some e) p = p
