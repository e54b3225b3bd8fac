use Rattle.std.proofs.Common.{sym, ◌∙◌, eqb-true}
use Rattle.std.proofs.lemmas.Bool.{eqb-false}
use Rattle.read_entries.specs.steps.Leaves.{words_of}
use Rattle.read_entries.specs.laws.Decoded.{content_long}
use Rattle.read_entries.proofs.Steps.{row-kind, row-length, row-content}
use Rattle.read_entries.proofs.leaves.Leaf.is_at.Goals as goal
use Rattle.read_entries.proofs.leaves.Leaf.is_at.Goals.{then-word-kind, else-word-kind}

pub returns-then-word-length : goal.returns-then-word-length
unfolding words_of
returns-then-word-length c = elim c.if-word-kind.branch [
  | then-word-kind w ↦
      c.has_content.ensures ∙ row-content _ _ _ _ _ (sym c.word.ensures.0 ∙ w.if-word-kind.true ∙ c.kind.ensures.0) (content_long c.args.self.now c.requires.0)
      (sym w.word-then-word-kind.ensures.0 ∙ eqb-true _ _ (sym w.value-is ∙ c.if-word-length.true) ∙ w.length.ensures.0)
  | else-word-kind w ↦ absurd (w.if-word-kind.false (eqb-true _ _ (sym w.value-is ∙ c.if-word-length.true)))
]

pub returns-else-word-length : goal.returns-else-word-length
unfolding words_of
returns-else-word-length c = elim c.if-word-kind.branch [
  | then-word-kind w ↦
      c.if-word-length.false ∙ row-length _ _ _ _ _ (sym c.word.ensures.0 ∙ w.if-word-kind.true ∙ c.kind.ensures.0) (content_long c.args.self.now c.requires.0)
      (λ e. eqb-false _ _ (sym w.value-is ∙ c.if-word-length.false) (w.word-then-word-kind.ensures.0 ∙ e ∙ sym w.length.ensures.0))
  | else-word-kind w ↦ c.if-word-length.false ∙ row-kind _ _ _ _ _ (λ e. w.if-word-kind.false (c.word.ensures.0 ∙ e ∙ sym c.kind.ensures.0))
]
