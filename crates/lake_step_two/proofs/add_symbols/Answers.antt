use mathlib.Core.Path.{◌≡◌, refl, subst}
use Prim.Native.Nat.{ℕ, ◌-◌}
use native.Mathlib.Omega.{arith}
use Rattle.lake_step_two.specs.steps.Skips.{each, symbol_in, Adds}
use Rattle.lake_step_two.proofs.laws.Skips.{each_none, each_more}
use Rattle.lake_step_two.proofs.add_symbols.Goals as goal

pub loop-i-init : goal.loop-i-init
loop-i-init c = (
  omega arith,
  refl,
  λ number. each_none number (symbol_in c.args.t.now c.args.s) c.args.o
      c.args.o c.args.out.now,
)

pub loop-i-preserved : goal.loop-i-preserved
loop-i-preserved c = (
  omega (arith, c.add_symbol-m.ensures.0),
  omega (arith, c.add_symbol-m.auto),
  λ number. each_more number
      (symbol_in c.args.t.now c.args.s)
      c.loop-i.i c.args.o
      c.args.o c.loop-i.m c.add_symbol-m.result
      c.args.out.now c.loop-i.out
      c.add_symbol-m.new.out (c.loop-i.invariant.2 number) (c.add_symbol-m.ensures.1 number),
)

pub returns : goal.returns
returns c = (
  omega arith,
  λ number. let q : c.loop-i.i ≡ c.args.n = omega arith in subst
      (λ (j : ℕ). Adds number (each (symbol_in c.args.t.now c.args.s) j)
      c.args.o c.args.out.now c.args.o c.loop-i.out
      c.loop-i.m) q (c.loop-i.invariant.2 number),
)
