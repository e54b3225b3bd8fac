use Rattle.std.proofs.lemmas.Option.{IfSome_then}
use Rattle.match_firsts.specs.steps.Taken.{taken_of}
use Rattle.match_firsts.proofs.Sight.first.Goals as goal

pub returns : goal.returns
returns c =
    let f = c.args.self.now in
    IfSome_then c.heard.result c.heard.ensures (λ v e. c.requires.words f.b c.args.x (taken_of v) e)
