use Rattle.std.proofs.Common.{false, refl, ◌∙◌}
use Rattle.read_tokens.specs.Bounds.{node_words}
use Rattle.match_list.specs.Nodes.{room_of}
use Rattle.write_leaves.specs.steps.Printed.{called}
use Rattle.tree_json.specs.Reading.{parsed}
use Rattle.tree_read.specs.laws.Puts.{put-none, put-few, put_all}
use Rattle.tree_read.proofs.put_nodes.Goals as goal

pub returns-then-room-n : goal.returns-then-room-n
unfolding room_of node_words
returns-then-room-n c =
    let r = put-few (parsed (called false c.args.t.now) c.args.symbols c.args.input.now c.args.json.now) c.args.nodes.now c.in-Some.n _ refl c.in-Some.ensures c.if-room-n.true in
    (c.not_read-then-room-n.ensures ∙ r.0, r.1)

pub returns : goal.returns
unfolding room_of node_words
returns c = put_all (parsed (called false c.args.t.now) c.args.symbols c.args.input.now c.args.json.now) c.args.nodes.now c.in-Some.n _ refl c.in-Some.ensures c.walk-2.ensures c.if-room-n.false
