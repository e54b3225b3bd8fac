-- The checks of a summary once a grammar is prepared, 9, 15, then 17 (02, par. 2), and the steps that are left to do. Assumes nothing: these are definitions.
use Rattle.std.specs.Prelude.{ℕ, ◌+◌, List, ltb, length}
use Rattle.std.proofs.Math.Option.{Option, none, some}
use Rattle.read_tokens.specs.Bounds.{input_bound}
use Rattle.grammar.specs.Refusal.{Refusal, refuse_if, refuse_at, ◌▸◌}
use Rattle.prepare.specs.declared.Verdict.{Verdict}
use Rattle.prepare.specs.Reads.{verdict_of}
use Rattle.match_list.specs.Nodes.{room_of}
use Rattle.tree_list.specs.Preorder.{bad_node}
use Rattle.tree_summary.specs.declared.Plan.{Plan}

-- of R symbols, the input s and so many records
abbrev pub summary_checks : ℕ → List ℕ → List ℕ → ℕ → Option Refusal
summary_checks R s ws room =
    (refuse_if (ltb input_bound (length s)) 9 input_bound ▸ refuse_at 15 (bad_node R (length s) ws))
    ▸ refuse_if (ltb room R) 17 R

-- no record is touched
abbrev pub no_plan : Verdict → Plan
no_plan v = record { symbols = 0; steps = 0; answer = record { symbols = 0; verdict = v } }

-- one step a symbol and one a node
abbrev pub plan_by : Option Refusal → ℕ → List ℕ → Plan
plan_by (some x) R ws = no_plan (verdict_of (some x))
plan_by none R ws = record { symbols = R; steps = R + room_of ws; answer = record { symbols = R; verdict = verdict_of none } }
