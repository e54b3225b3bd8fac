use Rattle.std.proofs.Common.{rules}
use Rattle.write_put.specs.laws.Puts.{was_put}
use Rattle.write_put.proofs.put_name.Goals as goal

pub returns : goal.returns
returns c = was_put c.put.result (c.put.ensures _ (λ p q h. search rules)) c.answer.ensures
