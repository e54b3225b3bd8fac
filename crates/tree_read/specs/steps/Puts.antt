-- What is answered of a text that was read, and the node words afterwards (02, par. 1: 16, then 12). Assumes nothing: these are definitions.
use Rattle.std.specs.Prelude.{ℕ, cond, List, ltb, length}
use Rattle.std.proofs.Math.Option.{Option, none, some}
use Rattle.match_meaning.specs.Meaning.{Node}
use Rattle.match_list.specs.Nodes.{room_of, written}
use Rattle.prepare.specs.declared.Verdict.TheVariants.{Accepted, Refused}
use Rattle.tree_read.specs.declared.Parsed.{Parsed}

abbrev pub parsed_by : Option (List Node) → List ℕ → Parsed
parsed_by none ws = record { nodes = 0; verdict = Refused 16 0 }
parsed_by (some ns) ws =
    cond (ltb (room_of ws) (length ns)) (record { nodes = 0; verdict = Refused 12 (room_of ws) }) (record { nodes = length ns; verdict = Accepted })

abbrev pub words_by : Option (List Node) → List ℕ → List ℕ
words_by none ws = ws
words_by (some ns) ws = cond (ltb (room_of ws) (length ns)) ws (written ws 0 ns)
