use Prim.Native.Nat.{ℕ}
use mathlib.Core.Path.{refl, sym, ap, ◌∙◌}
use native.Mathlib.Omega.{arith}
use Rattle.std.proofs.Math.ListN.{length}
use Rattle.read_tokens.specs.Bounds.{node_words}
use Rattle.match_list.proofs.laws.Reading.{sound-inside, span-sound, span_none}
use Rattle.match_list.proofs.text.Goals as goal

pub returns-then-not-sound : goal.returns-then-not-sound
returns-then-not-sound c =
    let none = span_none c.args.nodes.now c.args.k (length c.args.input.now) (sym c.if-not-sound.true ∙ c.sound.ensures) in
    record { bytes = none.text c.args.input.now refl; place = ap (λ (j : ℕ). (c.args.input.ref_ptr.0, j)) (omega (arith, none.from)) }

pub node_word-start-requires : goal.node_word-start-requires
unfolding node_words
node_word-start-requires c =
    (omega (arith, sound-inside c.args.nodes.now c.args.k (length c.args.input.now) (sym c.if-not-sound.false ∙ c.sound.ensures)), omega arith)

pub node_word-end-requires : goal.node_word-end-requires
unfolding node_words
node_word-end-requires c =
    (omega (arith, sound-inside c.args.nodes.now c.args.k (length c.args.input.now) (sym c.if-not-sound.false ∙ c.sound.ensures)), omega arith)

pub slice_bounds-result-count-2 : goal.slice_bounds-result-count-2
slice_bounds-result-count-2 c =
    (span-sound c.args.nodes.now c.args.k (length c.args.input.now) _ _ c.node_word-start.ensures c.node_word-end.ensures
    (sym c.if-not-sound.false ∙ c.sound.ensures)).forward

pub slice_bounds-result-start-2 : goal.slice_bounds-result-start-2
slice_bounds-result-start-2 c =
    (span-sound c.args.nodes.now c.args.k (length c.args.input.now) _ _ c.node_word-start.ensures c.node_word-end.ensures
    (sym c.if-not-sound.false ∙ c.sound.ensures)).forward

pub slice_bounds-result-end-2 : goal.slice_bounds-result-end-2
slice_bounds-result-end-2 c =
    (span-sound c.args.nodes.now c.args.k (length c.args.input.now) _ _ c.node_word-start.ensures c.node_word-end.ensures
    (sym c.if-not-sound.false ∙ c.sound.ensures)).inside

pub returns : goal.returns
returns c =
    let said =
    span-sound c.args.nodes.now c.args.k (length c.args.input.now) _ _ c.node_word-start.ensures c.node_word-end.ensures
    (sym c.if-not-sound.false ∙ c.sound.ensures) in
    record { bytes = said.text c.args.input.now refl; place = ap (λ (j : ℕ). (c.args.input.ref_ptr.0, j)) (omega (arith, said.from)) }
