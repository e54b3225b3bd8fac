-- A node list written once a grammar is prepared: 9, 15, then 13 (02, par. 1). Assumes nothing: these are definitions.
use Rattle.std.specs.Prelude.{ℕ, min, ◌≡◌, List, ◌++◌, ltb, length, drop}
use Rattle.std.proofs.Math.Option.{Option, none, some}
use Rattle.read_tokens.specs.Bounds.{input_bound}
use Rattle.grammar.specs.Refusal.{Refusal, refuse_if, refuse_at, ◌▸◌}
use Rattle.prepare.specs.Reads.{verdict_of}
use Rattle.write_leaves.specs.steps.Pen.{most}
use Rattle.write_put.specs.declared.Written.{Written}
use Rattle.write_put.specs.steps.Puts.{not_written}
use Rattle.tree_list.specs.Preorder.{bad_node}

-- of words for R symbols and the input s
abbrev pub list_checks : ℕ → List ℕ → List ℕ → Option Refusal
list_checks R s ws = refuse_if (ltb input_bound (length s)) 9 input_bound ▸ refuse_at 15 (bad_node R (length s) ws)

-- of the text w
abbrev pub room_check : List ℕ → List ℕ → Option Refusal
room_check w out = refuse_if (ltb (length out) (length w)) 13 (min most (length w))

abbrev pub wrote_by : Option Refusal → List ℕ → Written
wrote_by (some x) w = not_written (verdict_of (some x))
wrote_by none w = record { bytes = length w; verdict = verdict_of none }

abbrev pub room_after : Option Refusal → List ℕ → List ℕ → List ℕ
room_after (some x) w old = old
room_after none w old = w ++ drop (length w) old

pub record WroteList (o : Option Refusal) (w old new : List ℕ) (r : Written) : Type 0 where
  pub answer : r ≡ wrote_by (o ▸ room_check w old) w
  pub room : new ≡ room_after (o ▸ room_check w old) w old
