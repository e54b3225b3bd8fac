use mathlib.Core.Path.{refl}
use native.Mathlib.Omega.{arith}
use Rattle.match_desk.specs.laws.Learns.{learn-other, learn-symbol, learn-one-of, learn-two-of}
use Rattle.match_desk.proofs.learn.Goals as goal

pub returns-in-1 : goal.returns-in-1
returns-in-1 c =
    rw c.put.ensures (learn-symbol c.args.t.now c.args.desk.now c.args.x _ _ _ _ c.requires.1 c.requires.2 c.requires.3 c.requires.4 c.look-op.ensures c.in-1.is)

pub returns-in-2 : goal.returns-in-2
returns-in-2 c =
    rw c.adopt_both.ensures
    (learn-two-of c.args.t.now c.args.desk.now c.args.x _ _ _ _ c.requires.1 c.requires.2 c.requires.3 c.requires.4 c.look-op.ensures _ refl
    (omega (arith, c.in-2)) (omega (arith, c.in-2)))

pub returns-in-4 : goal.returns-in-4
returns-in-4 c =
    rw c.adopt.ensures
    (learn-one-of c.args.t.now c.args.desk.now c.args.x _ _ _ _ c.requires.1 c.requires.2 c.requires.3 c.requires.4 c.look-op.ensures _ refl
    (omega (arith, c.in-4)) (omega (arith, c.in-4)))

pub returns-then-op-lt1 : goal.returns-then-op-lt1
returns-then-op-lt1 c =
    learn-other c.args.t.now c.args.desk.now c.args.x _ _ _ _ c.requires.1 c.requires.2 c.requires.3 c.requires.4 c.look-op.ensures
    (λ e. omega (arith, e, c)) (λ e. omega (arith, e, c)) (λ e. omega (arith, e, c)) (λ e. omega (arith, e, c)) (λ e. omega (arith, e, c)) (λ e. omega (arith, e, c))

pub returns-else-op-lt7 : goal.returns-else-op-lt7
returns-else-op-lt7 c =
    learn-other c.args.t.now c.args.desk.now c.args.x _ _ _ _ c.requires.1 c.requires.2 c.requires.3 c.requires.4 c.look-op.ensures
    (λ e. omega (arith, e, c)) (λ e. omega (arith, e, c)) (λ e. omega (arith, e, c)) (λ e. omega (arith, e, c)) (λ e. omega (arith, e, c)) (λ e. omega (arith, e, c))
