use mathlib.Core.Path.{◌≡◌, refl, subst}
use Prim.Native.Nat.{ℕ, ◌-◌}
use native.Mathlib.Omega.{arith}
use Rattle.lake_step_two.specs.steps.Skips.{each, terminal_of, Adds}
use Rattle.lake_step_two.proofs.laws.Skips.{each_none, each_more}
use Rattle.lake_step_two.proofs.add_terminals.Goals as goal

pub loop-i-init : goal.loop-i-init
loop-i-init c = (omega arith, refl, λ number leaf h. each_none number (terminal_of leaf c.args.s) c.args.o c.args.from c.args.out.now)

pub loop-i-preserved : goal.loop-i-preserved
loop-i-preserved c = (
  omega (arith, c.add_terminal-m.ensures.0),
  omega (arith, c.add_terminal-m.auto),
  λ number leaf h. each_more number
      (terminal_of leaf c.args.s) c.loop-i.i
      c.args.o c.args.from
      c.loop-i.m c.add_terminal-m.result c.args.out.now
      c.loop-i.out c.add_terminal-m.new.out (c.loop-i.invariant.2 number leaf h)
      (c.add_terminal-m.ensures.1 number leaf (h c.loop-i.i (omega arith))),
)

pub returns : goal.returns
returns c = (
  omega arith,
  λ number leaf h. let q : c.loop-i.i ≡ c.args.n = omega arith in subst
      (λ (j : ℕ). Adds number (each (terminal_of leaf c.args.s) j) c.args.o c.args.out.now
      c.args.from c.loop-i.out c.loop-i.m) q (c.loop-i.invariant.2 number leaf h),
)
