use Rattle.std.proofs.Common.{sym, ◌∙◌, ne_eqb}
use Rattle.grammar_table.specs.laws.Compared.{row_first, row-rest}
use Rattle.grammar_table.proofs.same_record.Goals as goal

pub returns-then-word : goal.returns-then-word
returns-then-word c = c.same_words.ensures ∙ row-rest _ _ _ _ _ (sym c.word.ensures.0 ∙ c.if-word.true ∙ c.word-2.ensures.0)

pub returns-else-word : goal.returns-else-word
returns-else-word c = ne_eqb c.word.result c.word-2.result c.if-word.false ∙ row_first _ _ _ _ _ (λ e. c.if-word.false (c.word.ensures.0 ∙ e ∙ sym c.word-2.ensures.0))
