use Rattle.std.proofs.Common.{refl, arith}
use Rattle.tree_summary.specs.laws.Stepping.{clears, added-forward, added-fits, added-few, adds}
use Rattle.tree_summary.proofs.step.Goals as goal

pub returns-then-i-symbols : goal.returns-then-i-symbols
returns-then-i-symbols c = clears c.args.nodes.now c.args.symbols c.args.i c.args.s c.requires.0 c.if-i-symbols.true

pub offset_bounds-reach-symbol : goal.offset_bounds-reach-symbol
offset_bounds-reach-symbol c = omega (
  arith,
  added-few c.args.nodes.now c.args.symbols c.args.i c.args.s c.requires.0 c.requires.1 c.if-i-symbols.false c.node_step-symbol.result
      c.node_step-symbol.ensures,
)

pub bounds-reach-symbol : goal.bounds-reach-symbol
bounds-reach-symbol c = added-few c.args.nodes.now c.args.symbols c.args.i c.args.s c.requires.0 c.requires.1 c.if-i-symbols.false c.node_step-symbol.result c.node_step-symbol.ensures

pub bytes_added-bytes-requires : goal.bytes_added-bytes-requires
bytes_added-bytes-requires c = added-forward c.args.nodes.now c.args.symbols c.args.i c.args.s c.requires.0 c.requires.1 c.if-i-symbols.false c.node_step-symbol.result c.node_step-symbol.ensures

pub reach_to-requires : goal.reach_to-requires
reach_to-requires c = (
  added-few c.args.nodes.now c.args.symbols c.args.i c.args.s c.requires.0 c.requires.1 c.if-i-symbols.false c.node_step-symbol.result c.node_step-symbol.ensures,
  added-fits c.args.nodes.now c.args.symbols c.args.i c.args.s c.requires.0 c.requires.1 c.if-i-symbols.false c.node_step-symbol.result c.node_step-symbol.ensures,
)

pub returns : goal.returns
returns c = adds c.args.nodes.now c.args.symbols c.args.i c.args.s c.requires.0 c.requires.1 c.if-i-symbols.false c.node_step-symbol.result c.node_step-symbol.ensures c.from.result
    c.bytes_added-bytes.result _ c.from.ensures c.bytes_added-bytes.ensures c.reach_to.ensures
