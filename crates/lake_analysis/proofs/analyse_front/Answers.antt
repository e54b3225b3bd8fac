use lib.ListN.{drop}
use mathlib.Core.Path.{◌≡◌, sym, ◌∙◌}
use native.Mathlib.Omega.{arith}
use lib.ListN.{length, take}
use lib.Seq.{length-take-le, take_at}
use Rattle.lake_analysis.specs.laws.Joined.{parted-as}
use Rattle.lake_analysis.proofs.analyse_front.Goals as goal

pub slice_bounds-analyse-end-2 : goal.slice_bounds-analyse-end-2
slice_bounds-analyse-end-2 c = sym (length-take-le c.args.all.symbols c.args.marks.now c.requires.2)

pub slice_bounds-analyse-end-4 : goal.slice_bounds-analyse-end-4
slice_bounds-analyse-end-4 c = sym (length-take-le c.args.all.expressions c.args.sets.now
    c.requires.3)

pub slice_bounds-analyse-end-6 : goal.slice_bounds-analyse-end-6
slice_bounds-analyse-end-6 c = sym (length-take-le c.args.all.expressions c.args.eps.now
    c.requires.4)

pub slice_bounds-analyse-end-8 : goal.slice_bounds-analyse-end-8
slice_bounds-analyse-end-8 c = sym (length-take-le c.args.all.expressions c.args.succ.now
    c.requires.5)

pub slice_bounds-analyse-end-10 : goal.slice_bounds-analyse-end-10
slice_bounds-analyse-end-10 c = sym (length-take-le c.args.all.expressions
    c.args.alts.now c.requires.6)

pub analyse-requires : goal.analyse-requires
analyse-requires c =
    let q : length (take c.args.all.expressions
    c.args.sets.now) ≡ c.args.all.expressions =
    length-take-le c.args.all.expressions
    c.args.sets.now c.requires.3 in (
      rw (length-take-le c.args.all.symbols
          c.args.marks.now c.requires.2)
          c.requires.0,
      rw q c.requires.1,
      length-take-le
          c.args.all.expressions c.args.eps.now
          c.requires.4 ∙ sym q,
      length-take-le
          c.args.all.expressions c.args.succ.now
          c.requires.5 ∙ sym q,
      length-take-le
          c.args.all.expressions c.args.alts.now
          c.requires.6 ∙ sym q,
      omega arith,
    )

pub returns : goal.returns
returns c = parted-as c.args.t.now
    c.args.all.expressions (length (take
    c.args.all.expressions
    c.args.sets.now))
    c.args.all.symbols (length (take
    c.args.all.symbols
    c.args.marks.now))
    c.analyse.result c.analyse.new.marks _
    c.analyse.new.sets _ c.analyse.new.eps _
    c.analyse.new.succ _
    c.analyse.new.alts _ (length-take-le
    c.args.all.expressions
    c.args.sets.now
    c.requires.3) (length-take-le
    c.args.all.symbols
    c.args.marks.now
    c.requires.2) (sym (take_at
    c.analyse.new.marks (drop
    c.args.all.symbols
    c.args.marks.now)
    c.args.all.symbols (let q : length
    c.analyse.new.marks ≡
    c.args.all.symbols = omega (
      arith,
      c.analyse.auto,
      length-take-le
          c.args.all.symbols
          c.args.marks.now
          c.requires.2,
    ) in q))) (sym (take_at
    c.analyse.new.sets (drop
    c.args.all.expressions
    c.args.sets.now)
    c.args.all.expressions (let q : length
    c.analyse.new.sets ≡
    c.args.all.expressions = omega (
      arith,
      c.analyse.auto,
      length-take-le
          c.args.all.expressions
          c.args.sets.now
          c.requires.3,
    ) in q))) (sym (take_at
    c.analyse.new.eps (drop
    c.args.all.expressions
    c.args.eps.now)
    c.args.all.expressions (let q : length
    c.analyse.new.eps ≡
    c.args.all.expressions = omega (
      arith,
      c.analyse.auto,
      length-take-le
          c.args.all.expressions
          c.args.eps.now
          c.requires.4,
    ) in q))) (sym (take_at
    c.analyse.new.succ (drop
    c.args.all.expressions
    c.args.succ.now)
    c.args.all.expressions (let q : length
    c.analyse.new.succ ≡
    c.args.all.expressions = omega (
      arith,
      c.analyse.auto,
      length-take-le
          c.args.all.expressions
          c.args.succ.now
          c.requires.5,
    ) in q))) (sym (take_at
    c.analyse.new.alts (drop
    c.args.all.expressions
    c.args.alts.now)
    c.args.all.expressions (let q : length
    c.analyse.new.alts ≡
    c.args.all.expressions = omega (
      arith,
      c.analyse.auto,
      length-take-le
          c.args.all.expressions
          c.args.alts.now
          c.requires.6,
    ) in q)))
    c.analyse.ensures
