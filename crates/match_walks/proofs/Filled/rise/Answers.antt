use native.Mathlib.Omega.{arith}
use Rattle.match_walks.specs.laws.Ups.{risen-top, risen-left, risen-right, risen-ends, risen-more, risen-other, five_or_six}
use Rattle.match_walks.proofs.Filled.rise.Goals as goal

pub returns-then-e-eq0 : goal.returns-then-e-eq0
returns-then-e-eq0 c =
    let f = c.args.self.now in
    risen-top f.table.now f.text.now f.cells.now f.n c.args.desk.now c.args.x c.args.p c.requires.0 c.requires.1 c.requires.3
    _ c.word-e.ensures.0 c.if-e-eq0.true

pub returns-in-2 : goal.returns-in-2
returns-in-2 c =
    let f = c.args.self.now in
    risen-left f.table.now f.text.now f.cells.now f.n c.args.desk.now c.args.x c.args.p c.requires.0 c.requires.1 c.requires.3
    _ _ _ _ _ c.word-e.ensures.0 c.if-e-eq0.false c.look-op.ensures c.in-2.is c.if-x-y.true

pub returns-in-5 : goal.returns-in-5
returns-in-5 c =
    let f = c.args.self.now in
    risen-more f.table.now f.text.now f.cells.now f.n c.args.desk.now c.args.x c.args.p c.requires.0 c.requires.1 c.requires.3
    _ _ _ _ _ c.word-e.ensures.0 c.if-e-eq0.false c.look-op.ensures _ c.round.ensures (five_or_six _ (omega (arith, c.in-5)) (omega (arith, c.in-5))) c.if-round-gt1.true

pub returns-in_default : goal.returns-in_default
returns-in_default c =
    let f = c.args.self.now in
    risen-right f.table.now f.text.now f.cells.now f.n c.args.desk.now c.args.x c.args.p c.requires.0 c.requires.1 c.requires.3
    _ _ _ _ _ c.word-e.ensures.0 c.if-e-eq0.false c.look-op.ensures c.in-2.is c.if-x-y.false

pub returns-in_default-2 : goal.returns-in_default-2
returns-in_default-2 c =
    let f = c.args.self.now in
    risen-other f.table.now f.text.now f.cells.now f.n c.args.desk.now c.args.x c.args.p c.requires.0 c.requires.1 c.requires.3
    _ _ _ _ _ c.word-e.ensures.0 c.if-e-eq0.false c.look-op.ensures (λ e. omega (arith, e, c)) (λ e. omega (arith, e, c)) (λ e. omega (arith, e, c))

pub returns-in_default-3 : goal.returns-in_default-3
returns-in_default-3 c =
    let f = c.args.self.now in
    risen-ends f.table.now f.text.now f.cells.now f.n c.args.desk.now c.args.x c.args.p c.requires.0 c.requires.1 c.requires.3
    _ _ _ _ _ c.word-e.ensures.0 c.if-e-eq0.false c.look-op.ensures _ c.round.ensures (five_or_six _ (omega (arith, c.in-5)) (omega (arith, c.in-5))) (omega (arith, c.if-round-gt1.false))

pub returns-in_default-4 : goal.returns-in_default-4
returns-in_default-4 c =
    let f = c.args.self.now in
    risen-other f.table.now f.text.now f.cells.now f.n c.args.desk.now c.args.x c.args.p c.requires.0 c.requires.1 c.requires.3
    _ _ _ _ _ c.word-e.ensures.0 c.if-e-eq0.false c.look-op.ensures (λ e. omega (arith, e, c)) (λ e. omega (arith, e, c)) (λ e. omega (arith, e, c))
