use Rattle.std.proofs.Common.{ℕ, ◌+◌, ap, ◌∙◌, set}
use Rattle.read_entries.specs.steps.Leaves.{kind_of, length_of, content_of, words_of}
use Rattle.read_entries.proofs.Steps.{row-stored}
use Rattle.read_entries.proofs.leaves.Leaf.put_at.Goals as goal

pub returns : goal.returns
unfolding words_of
returns c = row-stored c.args.t.now c.put.new.a c.put-2.new.a c.put_content.new.t c.args.b (kind_of c.args.self.now) (length_of c.args.self.now) (content_of c.args.self.now)
    (c.put.ensures ∙ ap (λ (x : ℕ). set c.args.t.now c.args.b x) c.kind.ensures.0)
    (c.put-2.ensures ∙ ap (λ (x : ℕ). set c.put.new.a (c.args.b + 1) x) c.length.ensures.0)
    c.put_content.ensures
