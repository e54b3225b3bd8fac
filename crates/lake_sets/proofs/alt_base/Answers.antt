use mathlib.Core.Path.{◌≡◌, refl, sym, ap, ap₂, ◌∙◌}
use mathlib.Core.List.{List}
use Prim.Native.Nat.{ℕ, ◌-◌}
use native.Mathlib.Omega.{arith}
use lib.ListN.{length, get_or, length-replicate}
use Rattle.base_words.specs.Set.{empty}
use Rattle.grammar_table.specs.Table.{part_in}
use Rattle.lake_rules.specs.Flows.{Gift, given, alt_gifts}
use Rattle.lake_sets.specs.steps.Steps.{pair_at, root_in, alt_given}
use Rattle.lake_sets.specs.laws.Edges.{given-append, given-none, given-long, none-fine}
use Rattle.lake_rules.proofs.laws.Over.{over_none, over-next}
use Rattle.lake_sets.proofs.alt_base.Goals as goal

pub loop-e-init : goal.loop-e-init
loop-e-init c = (
  refl,
  sym (ap (λ (gs : List Gift). given gs c.clear.new.to)
      (over_none (alt_gifts (pair_at c.args.sets.now c.args.eps.now)
      (root_in c.args.t.now) (λ i. get_or c.args.succ.now i empty))
      (part_in c.args.t.now)) ∙ given-none c.clear.new.to),
  none-fine (length c.args.base.now)
      c.clear.new.to c.clear.ensures,
)

pub alt_gift-requires : goal.alt_gift-requires
alt_gift-requires c = let q : length c.clear.new.to ≡ length
    c.args.base.now = ap length c.clear.ensures ∙ length-replicate
    (length c.args.base.now) empty in omega arith

pub loop-e-preserved : goal.loop-e-preserved
loop-e-preserved c = let gs = (alt_gifts (pair_at c.args.sets.now
    c.args.eps.now)
    (root_in c.args.t.now)
    (λ i. get_or c.args.succ.now i empty)) c.loop-e.e
    (part_in c.args.t.now c.loop-e.e) in
    let q : length c.alt_gift.new.base ≡ length c.loop-e.base = ap length
    c.alt_gift.ensures.is ∙ given-long gs c.loop-e.base in (
      omega arith,
      c.alt_gift.ensures.is ∙ ap (given gs) c.loop-e.invariant.1 ∙ sym
          (ap (λ (l : List Gift). given l c.clear.new.to)
          (over-next (alt_gifts (pair_at c.args.sets.now
          c.args.eps.now)
          (root_in c.args.t.now)
          (λ i. get_or c.args.succ.now i empty))
          (part_in c.args.t.now) c.loop-e.e) ∙ given-append
          (alt_given c.args.t.now
          c.args.sets.now
          c.args.eps.now
          c.args.succ.now c.loop-e.e) gs
          c.clear.new.to),
      c.alt_gift.ensures.fine c.loop-e.invariant.2,
    )

pub shape_of-base : goal.shape_of-base
shape_of-base c = let q : length c.clear.new.to ≡ length c.args.base.now = ap length
    c.clear.ensures ∙ length-replicate (length c.args.base.now) empty in omega arith

pub returns : goal.returns
returns c = let q : length c.clear.new.to ≡ length c.args.base.now = ap length
    c.clear.ensures ∙ length-replicate (length c.args.base.now) empty in
    let e : c.loop-e.e ≡ length c.args.base.now = omega arith in (
      c.loop-e.invariant.1 ∙ ap₂ (λ (k : ℕ) (b : List (List ℕ)). given
          (alt_given c.args.t.now c.args.sets.now
          c.args.eps.now c.args.succ.now k) b) e
          c.clear.ensures,
      c.loop-e.invariant.2,
    )
