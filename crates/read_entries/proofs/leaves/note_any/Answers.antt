use Rattle.read_entries.specs.steps.Leaves.{words_of}
use Rattle.read_entries.proofs.leaves.note_any.Goals as goal

pub returns : goal.returns
unfolding words_of
returns c = c.note.ensures
