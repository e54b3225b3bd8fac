use mathlib.Core.Path.{refl}
use Rattle.match_desk.proofs.adopt.Goals as goal

pub returns : goal.returns
returns c = rw (c.put-2.ensures, c.put.ensures, c.word-mark.ensures.0) refl
