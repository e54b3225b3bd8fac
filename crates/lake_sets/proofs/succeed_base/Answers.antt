use mathlib.Core.List.{[]}
use mathlib.Core.Path.{◌≡◌, refl, sym, ap, ap₂, ◌∙◌}
use mathlib.Core.List.{List}
use Prim.Native.Nat.{ℕ, ◌-◌}
use native.Mathlib.Omega.{arith}
use lib.ListN.{length, length-replicate}
use Rattle.base_words.specs.Set.{empty}
use Rattle.grammar_table.specs.Table.{part_in}
use Rattle.lake_rules.specs.Flows.{Gift, given, succeed_gifts}
use Rattle.lake_sets.specs.steps.Steps.{pair_at, root_in, succeed_given}
use Rattle.lake_sets.specs.laws.Edges.{given-append, given-none, given-long, none-fine}
use Rattle.lake_rules.proofs.laws.Over.{over_none, over-next}
use Rattle.lake_sets.proofs.succeed_base.Goals as goal

pub loop-e-init : goal.loop-e-init
loop-e-init c = (
  refl,
  sym (ap (λ (gs : List Gift). given gs c.clear.new.to)
      (over_none (succeed_gifts (pair_at c.args.sets.now []) (root_in c.args.t.now))
      (part_in c.args.t.now)) ∙ given-none c.clear.new.to),
  none-fine (length c.args.base.now)
      c.clear.new.to c.clear.ensures,
)

pub succeed_gift-requires : goal.succeed_gift-requires
succeed_gift-requires c = let q : length c.clear.new.to ≡ length
    c.args.base.now = ap length c.clear.ensures ∙ length-replicate
    (length c.args.base.now) empty in omega arith

pub loop-e-preserved : goal.loop-e-preserved
loop-e-preserved c = let gs = (succeed_gifts (pair_at c.args.sets.now [])
    (root_in c.args.t.now)) c.loop-e.e
    (part_in c.args.t.now c.loop-e.e) in
    let q : length c.succeed_gift.new.base ≡ length c.loop-e.base = ap length
    c.succeed_gift.ensures.is ∙ given-long gs c.loop-e.base in (
      omega arith,
      c.succeed_gift.ensures.is ∙ ap (given gs) c.loop-e.invariant.1 ∙ sym
          (ap (λ (l : List Gift). given l c.clear.new.to)
          (over-next (succeed_gifts (pair_at c.args.sets.now [])
          (root_in c.args.t.now))
          (part_in c.args.t.now) c.loop-e.e) ∙ given-append
          (succeed_given c.args.t.now
          c.args.sets.now c.loop-e.e) gs
          c.clear.new.to),
      c.succeed_gift.ensures.fine c.loop-e.invariant.2,
    )

pub shape_of-base : goal.shape_of-base
shape_of-base c = let q : length c.clear.new.to ≡ length c.args.base.now = ap length
    c.clear.ensures ∙ length-replicate (length c.args.base.now) empty in omega arith

pub returns : goal.returns
returns c = let q : length c.clear.new.to ≡ length c.args.base.now = ap length
    c.clear.ensures ∙ length-replicate (length c.args.base.now) empty in
    let e : c.loop-e.e ≡ length c.args.base.now = omega arith in (
      c.loop-e.invariant.1 ∙ ap₂ (λ (k : ℕ) (b : List (List ℕ)). given
          (succeed_given c.args.t.now c.args.sets.now k) b) e
          c.clear.ensures,
      c.loop-e.invariant.2,
    )
