use Rattle.lake_sets.specs.steps.Analysed.{Analysed}
use Rattle.lake_rules.specs.Analysis.{analysis}
use mathlib.Core.Path.{subst}
use Prim.Native.Nat.{ℕ}
use lib.ListN.{get_or, take}
use Rattle.lake_analysis.proofs.Analysis.analyse_table.Goals as goal

pub returns : goal.returns
returns c = λ g h p.
    subst (λ (n : ℕ). Analysed (analysis g) (take (get_or c.args.t.now 0 0) c.analyse_front.new.marks) (take n
    c.analyse_front.new.sets) (take n c.analyse_front.new.eps) (take n c.analyse_front.new.succ) (take n c.analyse_front.new.alts) c.analyse_front.result)
    c.expressions-expressions.ensures.0 (subst (λ (r : ℕ). Analysed (analysis g) (take r c.analyse_front.new.marks) (take
    c.expressions-expressions.result c.analyse_front.new.sets) (take
    c.expressions-expressions.result c.analyse_front.new.eps) (take
    c.expressions-expressions.result c.analyse_front.new.succ) (take
    c.expressions-expressions.result c.analyse_front.new.alts) c.analyse_front.result)
    c.symbols-symbols.ensures.0 (c.analyse_front.ensures g h p
    c.expressions-expressions.ensures.0
    c.symbols-symbols.ensures.0))
