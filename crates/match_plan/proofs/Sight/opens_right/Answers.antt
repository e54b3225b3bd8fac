use Rattle.std.proofs.Common.{ℕ, ◌+◌, ◌≤◌, refl, sym, subst, arith}
use Rattle.match_plan.specs.laws.Plan.{opens-none, opens-open, opens-shut}
use Rattle.match_plan.specs.steps.Checked.{Opens}
use Rattle.match_plan.proofs.Sight.opens_right.Goals as goal
use Rattle.match_plan.proofs.Sight.opens_right.Goals.{then-heard-eq0+else-self-r+else-word-r, else-heard-eq0}

pub loop-j-init : goal.loop-j-init
loop-j-init c = let f = c.args.self.now in (omega arith, opens-none f.table.now f.mem.now c.args.b f.order.now f.n c.args.plan.now c.args.i)

pub loop-j-preserved : goal.loop-j-preserved
loop-j-preserved c =
    let f = c.args.self.now in
    elim c.if-heard-eq0.branch [
      | then-heard-eq0+else-self-r+else-word-r w ↦
          subst (λ (k : ℕ). (k ≤ c.loop-j.j + 1) × Opens f.table.now f.mem.now f.order.now f.n c.args.b c.args.plan.now c.args.i (c.loop-j.j + 1) k) (sym w.k-is) (
            omega (arith, c.loop-j.invariant.0),
            opens-open f.table.now f.mem.now c.args.b f.order.now f.n c.args.plan.now c.args.i c.loop-j.j c.loop-j.k c.word-r.result _ _
                c.word-r.ensures.0 refl c.heard-heard.ensures w.word.result w.if-heard-eq0.true w.word.ensures.0 w.if-word-r.false (omega arith) c.loop-j.invariant.1,
          )
      | else-heard-eq0 w ↦
          subst (λ (k : ℕ). (k ≤ c.loop-j.j + 1) × Opens f.table.now f.mem.now f.order.now f.n c.args.b c.args.plan.now c.args.i (c.loop-j.j + 1) k) (sym w.k-is) (
            omega (arith, c.loop-j.invariant.0),
            opens-shut f.table.now f.mem.now c.args.b f.order.now f.n c.args.plan.now c.args.i c.loop-j.j c.loop-j.k c.word-r.result _ _
                c.word-r.ensures.0 refl c.heard-heard.ensures w.if-heard-eq0.false c.loop-j.invariant.1,
          )
    ]
