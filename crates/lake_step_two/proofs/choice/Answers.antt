use Prim.Native.Nat.{◌-◌}
use native.Mathlib.Omega.{arith}
use Rattle.lake_step_two.proofs.laws.Skips.{choice-done}
use Rattle.lake_step_two.proofs.choice.Goals as goal

pub returns : goal.returns
returns c = (
  omega (arith, c.add_symbols-p.ensures.0, c.add_terminals.ensures.0),
  choice-done
      c.args.t.now
      c.args.s
      c.args.among.symbols
      c.args.among.terminals
      c.args.m c.add_symbols-p.result
      c.add_terminals.result c.args.out.now
      c.add_symbols-p.new.out c.add_terminals.new.out
      c.add_symbols-p.ensures.1 c.add_terminals.ensures.1,
)
