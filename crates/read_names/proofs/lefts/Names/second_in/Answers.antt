use Rattle.grammar_table.specs.Table.{table_words}
use Rattle.read_names.specs.laws.Marks.{knows-none}
use Rattle.read_names.proofs.lefts.Names.second_in.Goals as goal

pub sweep-requires : goal.sweep-requires
sweep-requires c = (c.requires, knows-none _ _ _ _ table_words)
