use mathlib.Core.Path.{refl}
use Rattle.match_desk.proofs.adopt_both.Goals as goal

pub returns : goal.returns
returns c = rw (c.put-3.ensures, c.put-2.ensures, c.put.ensures, c.max-mark.ensures, c.word.ensures.0, c.word-2.ensures.0) refl
