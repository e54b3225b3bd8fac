use Rattle.std.proofs.Common.{ℕ, ◌+◌, List, ap, ◌∙◌, set, arith}
use Rattle.std.proofs.lemmas.List.Edits.{sets}
use Rattle.grammar_table.specs.laws.Caps.{cap-le}
use Rattle.grammar_table.specs.laws.Seeks.{noted-known, noted-added, noted-over}
use Rattle.read_entries.specs.steps.Leaves.{words_of}
use Rattle.read_entries.proofs.Steps.{leaf-added}
use Rattle.read_entries.proofs.leaves.Leaf.note.Goals as goal

pub find-requires : goal.find-requires
find-requires c = (c.requires, omega (arith, c.least-count.ensures, cap-le c.terminals.result 64))

pub returns-in-Some : goal.returns-in-Some
returns-in-Some c = noted-known _ _ _ _ _ _ _ _ _ c.terminals.ensures.0 c.least-count.ensures c.in-Some.ensures.0 c.in-Some.ensures.1

pub returns-then-count-lt-MOST : goal.returns-then-count-lt-MOST
returns-then-count-lt-MOST c = noted-added _ _ _ _ _ _ _ _ _ c.terminals.ensures.0 c.least-count.ensures c.in_default.ensures _ (omega arith) c.if-count-lt-MOST.true
    (c.put.ensures ∙ ap (λ (l : List ℕ). set l 1 (c.least-count.result + 1))
    (c.put_at.ensures ∙ ap (λ (x : ℕ). sets c.args.t.now x (words_of c.args.self.now)) c.leaf_at.ensures ∙ leaf-added _ _ _ c.requires))

pub returns-else-count-lt-MOST : goal.returns-else-count-lt-MOST
returns-else-count-lt-MOST c = noted-over _ _ _ _ _ _ _ _ _ c.terminals.ensures.0 c.least-count.ensures c.in_default.ensures _ (omega arith) c.if-count-lt-MOST.false
    c.put-else-count-lt-MOST.ensures
