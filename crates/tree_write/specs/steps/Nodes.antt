-- A node's text in the parts that code writes. Assumes nothing: these are definitions.
use Rattle.std.specs.Prelude.{ℕ, suc, ◌-◌, List, ◌++◌}
use Rattle.read_tokens.specs.Token.{Symbol}
use Rattle.match_list.specs.Nodes.{room_of, node_at, nodes_at}
use Rattle.write_rules.specs.Writing.{symbol_text}
use Rattle.tree_json.specs.Json.{chars_json, number_json, before_name, quote, before_start, before_end, before_text, before_children, behind_node}

abbrev pub name_member : Symbol → List ℕ
name_member h = before_name ++ (symbol_text h ++ quote)

abbrev pub span_members : ℕ → ℕ → List ℕ
span_members p q = before_start ++ (number_json p ++ (before_end ++ number_json q))

abbrev pub text_member : List ℕ → List ℕ
text_member w = before_text ++ (chars_json w ++ before_children)

-- behind node k of the words
abbrev pub behind_at : List ℕ → ℕ → List ℕ
behind_at ws k = behind_node (node_at ws k).depth (nodes_at ws (suc k) (room_of ws - suc k))
