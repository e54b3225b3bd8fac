use Rattle.std.proofs.Common.{false}
use Rattle.write_leaves.specs.steps.Printed.{called}
use Rattle.tree_read.specs.laws.Walks.{turned-past, turned-out, turned-off, turned_on}
use Rattle.tree_read.proofs.nodes.read_node.Goals as goal

pub returns-in_err-h : goal.returns-in_err-h
returns-in_err-h c = rw c.from_residual.ensures
    (turned-past (called false c.args.t.now) c.args.symbols c.args.input.now c.args.json.now c.args.gaps.now c.args.st.depths c.args.st.number c.args.st.depth c.args.st.at c.in_err-h.ensures.head)

pub returns-then-not-admit : goal.returns-then-not-admit
returns-then-not-admit c = turned-out (called false c.args.t.now) c.args.symbols c.args.input.now c.args.json.now c.args.st.number c.args.st.depth c.args.st.at c.in_ok-h.h.symbol
    c.in_ok-h.h.start c.in_ok-h.h.end c.in_ok-h.h.place c.in_ok-h.ensures.head
    c.args.st.depths c.args.gaps.now _ c.admit.result c.in_ok-h.ensures.inside c.admit.ensures c.if-not-admit.true

pub returns-in_err-then : goal.returns-in_err-then
returns-in_err-then c = rw c.from_residual-in_err-then.ensures (turned-off (called false c.args.t.now) c.args.symbols c.args.input.now c.args.json.now c.args.st.number c.args.st.depth
    c.args.st.at c.in_ok-h.h.symbol c.in_ok-h.h.start c.in_ok-h.h.end c.in_ok-h.h.place c.in_ok-h.ensures.head
    c.args.st.depths c.args.gaps.now _ c.admit.result c.in_ok-h.ensures.inside c.admit.ensures c.if-not-admit.false c.in_err-then.ensures)

pub returns : goal.returns
returns c = turned_on (called false c.args.t.now) c.args.symbols c.args.input.now c.args.json.now c.args.st.number c.args.st.depth c.args.st.at c.in_ok-h.h.symbol c.in_ok-h.h.start
    c.in_ok-h.h.end c.in_ok-h.h.place c.in_ok-h.ensures.head
    c.args.st.depths c.args.gaps.now _ c.admit.result c.in_ok-h.ensures.inside c.admit.ensures c.if-not-admit.false c.in_ok-then.ensures
