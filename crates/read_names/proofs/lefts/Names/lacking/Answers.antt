use mathlib.Core.List.{[]}
use mathlib.Core.Path.{refl, sym, ap, ◌∙◌}
use Rattle.read_tokens.specs.declared.Kind.TheVariants.{Name}
use Rattle.read_tokens.specs.steps.Code.{symbolic}
use Rattle.read_tokens.specs.laws.Tags.{kind-yes, kind-no}
use borrow.Author.Tests.{not-true, not-false}
use Rattle.read_walks.specs.laws.Offences.{use-inside}
use Rattle.read_names.specs.laws.Marks.{used-other, used-left, used-out, used-asked}
use Rattle.read_names.proofs.lefts.Names.lacking.Goals as goal
use Rattle.read_names.proofs.lefts.Names.lacking.Goals.{then-not-has-via-then-not-has, then-not-has-via-else-not-has+then-is_left}

pub returns-then-ne : goal.returns-then-ne
returns-then-ne c = used-other _ _ _ _ c.requires.0 _ _ (kind-no _ Name (not-true _ (sym c.ne.ensures ∙ c.if-ne.true)))

pub pack-requires : goal.pack-requires
pack-requires c =
    let g = kind-yes _ Name (not-false _ (sym c.ne.ensures ∙ c.if-ne.false)) in
    (ap symbolic g, use-inside _ _ _ _ c.requires.0 [] g)

pub has-requires : goal.has-requires
has-requires c = (c.in_ok-v.ensures _ refl).fits

pub returns-then-not-has : goal.returns-then-not-has
returns-then-not-has c = elim c.then-not-has.branch [
  | then-not-has-via-then-not-has w ↦
      used-out _ _ _ _ c.requires.0 _ _ (kind-yes _ Name (not-false _ (sym c.ne.ensures ∙ c.if-ne.false))) c.in_ok-v.v (c.in_ok-v.ensures _ refl)
      (sym (not-true _ w.if-not-has.true-raw) ∙ c.has.ensures)
  | then-not-has-via-else-not-has+then-is_left w ↦
      used-left _ _ _ _ c.requires.0 _ _ w.is_left.result w.is_left.ensures w.if-is_left.true
]

pub known-requires : goal.known-requires
known-requires c = (c.in_ok-v.ensures _ refl).fits

pub returns : goal.returns
returns c = used-asked _ _ _ _ c.requires.0 _ _ (kind-yes _ Name (not-false _ (sym c.ne.ensures ∙ c.if-ne.false))) c.in_ok-v.v (c.in_ok-v.ensures _ refl)
    _ c.args.marks.now c.requires.2 c.is_left.result c.is_left.ensures c.if-is_left.false
    (sym (not-false _ c.if-not-has.false-raw) ∙ c.has.ensures) c.known.result c.known.ensures
