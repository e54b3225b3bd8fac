use Rattle.gurkenmond.specs.laws.Answers.{read_told}
use Rattle.gurkenmond.proofs.read.Goals as goal

pub returns : goal.returns
returns c = read_told c.args.mode c.args.text.now c.plain_only.result c.plain_only.ensures.answer
