use mathlib.Core.Path.{refl}
use Rattle.std.proofs.lemmas.Result.{err_from_is_err_and}
use Rattle.read_tokens.specs.Bounds.{node_words}
use Rattle.grammar_table.specs.Trees.{bodies_of}
use Rattle.match_list.specs.Nodes.{list_of, room_of}
use Rattle.match_nodes.specs.laws.Passes.{pass-refused, pass-written}
use Rattle.match_desk.specs.laws.Learns.{desk-empty}
use Rattle.match_lone.specs.laws.Lanes.{laid-behind}
use Rattle.match_nodes.proofs.list.Goals as goal

pub learn_all-requires : goal.learn_all-requires
learn_all-requires c = (c.requires.0.fits, c.requires.0.forest, desk-empty c.args.t.now)

pub returns-in_err-list : goal.returns-in_err-list
unfolding room_of node_words
returns-in_err-list c =
    let p = err_from_is_err_and c.from_residual.result c.from_residual.ensures.1 in
    rw (p.1, p.2) (pass-refused (room_of c.args.nodes.now) c.args.nodes.now _ _ (list_of (bodies_of c.args.t.now) c.args.s.now c.args.cells.now)
    c.in_err-list.ensures.0 _ refl)

pub list-requires-2 : goal.list-requires-2
list-requires-2 c =
    (c.requires.0, c.in_ok-list.ensures.1, laid-behind c.args.t.now c.args.mem.now _ _ c.lay_all-lanes.ensures.1 _ c.in_ok-list.ensures.2)

pub returns : goal.returns
unfolding room_of node_words
returns c =
    pass-written (room_of c.args.nodes.now) c.args.nodes.now _ _ (list_of (bodies_of c.args.t.now) c.args.s.now c.args.cells.now) c.in_ok-list.ensures.0
    _ _ _ refl c.list-2.ensures.0
