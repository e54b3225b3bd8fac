use Rattle.std.proofs.Common.{◌≡◌, length, refl, subst, arith}
use Rattle.std.proofs.Math.Option.{none, some}
use Rattle.read_tokens.specs.Bounds.{input_bound}
use Rattle.tree_list.specs.Preorder.{bad_node}
use Rattle.tree_write.specs.laws.Lists.{too-long-input, bad-list, good-list}
use Rattle.tree_write.proofs.write_list.Goals as goal

pub returns-then-input-gt-INPUT_MOST : goal.returns-then-input-gt-INPUT_MOST
unfolding input_bound
returns-then-input-gt-INPUT_MOST c = too-long-input _ c.args.input.now c.args.nodes.now _ c.args.out.now _ _ c.if-input-gt-INPUT_MOST.true c.not_written.ensures refl

pub returns-in-None : goal.returns-in-None
unfolding input_bound
returns-in-None c = good-list _ c.args.input.now c.args.nodes.now _ c.args.out.now _ c.put_json.result c.if-input-gt-INPUT_MOST.false
    (subst (λ k. bad_node k (length c.args.input.now) c.args.nodes.now ≡ none) c.symbols.ensures c.in-None.ensures) (omega arith) c.put_json.ensures

pub returns-in-Some : goal.returns-in-Some
unfolding input_bound
returns-in-Some c = bad-list _ c.args.input.now c.args.nodes.now _ c.args.out.now _ _ c.if-input-gt-INPUT_MOST.false c.in-Some.place
    (subst (λ k. bad_node k (length c.args.input.now) c.args.nodes.now ≡ some c.in-Some.place) c.symbols.ensures c.in-Some.ensures) c.not_written-in-Some.ensures refl
