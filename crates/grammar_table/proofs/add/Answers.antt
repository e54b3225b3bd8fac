use Prim.Native.Nat.{ℕ, ◌+◌}
use mathlib.Core.Path.{ap, ◌∙◌}
use mathlib.Core.List.{List}
use lib.ListN.{set}
use Rattle.grammar_table.proofs.add.Goals as goal

pub returns : goal.returns
returns c = c.put.ensures ∙ ap (λ (l : List ℕ). set l c.args.head
    (c.args.n + 1)) c.store.ensures
