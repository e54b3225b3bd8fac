-- The node list in two passes over lent words: the first only looks, and the second writes if there is no offender, so that a refusal leaves every word
-- as it was. A pass carries the count so far or, once there is an offender, the refusal.
-- Assumes nothing: these are definitions.
use Rattle.std.specs.Prelude.{ℕ, ◌+◌, cond, Bool, true, false, List, [], ◌∷◌, ltb, Result, Ok, Err}
use Rattle.read_tokens.specs.Bounds.{depth_bound}
use Rattle.match_meaning.specs.Meaning.{Node}
use Rattle.match_list.specs.Nodes.{Listing, all, deep, full, put_node}
use Rattle.match_nodes.specs.declared.Offence.{Offence}
use Rattle.match_nodes.specs.declared.Offence.TheVariants.{Deep, Full}

pub record Out : Type 0 where
  pub words : List ℕ
  pub at : Result ℕ Offence

abbrev pub out : List ℕ → Result ℕ Offence → Out
out ws i = record { words = ws; at = i }

-- a pass may only look
unfoldable pub put_if : Bool → List ℕ → ℕ → Node → List ℕ
put_if false ws k n = ws
put_if true ws k n = put_node ws k n

-- node k
unfoldable pub next_of : ℕ → Bool → List ℕ → ℕ → Node → Out
next_of room w ws k n = cond (ltb depth_bound n.depth) (out ws (Err (Deep k))) (cond (ltb k room) (out (put_if w ws k n) (Ok (k + 1))) (out ws (Err (Full k))))

-- one node more: a pass that has a refusal stays with it
abbrev pub note_by : ℕ → Bool → List ℕ → Result ℕ Offence → Node → Out
note_by room w ws (Ok k) n = next_of room w ws k n
note_by room w ws (Err e) n = out ws (Err e)

unfoldable pub note : ℕ → Bool → Out → Node → Out
note room w o n = note_by room w o.words o.at n

unfoldable pub run : ℕ → Bool → Out → List Node → Out
run room w o [] = o
run room w o (n ∷ ns) = run room w (note room w o n) ns

-- the answer of a list, and an answer in the words of the definition
abbrev pub answer_of : Listing → Result ℕ Offence
answer_of (all k) = Ok k
answer_of (deep k) = Err (Deep k)
answer_of (full k) = Err (Full k)

unfoldable pub said : Result ℕ Offence → Listing
said (Ok k) = all k
said (Err (Deep k)) = deep k
said (Err (Full k)) = full k
