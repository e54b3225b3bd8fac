use Rattle.std.proofs.Common.{ap, ◌∙◌, sym, arith}
use Rattle.std.proofs.lemmas.Option.{IfSome_then}
use Rattle.match_eval.specs.steps.Firsts.{said_of}
use Rattle.match_firsts.specs.steps.Taken.{taken_of}
use Rattle.match_firsts.specs.laws.Firsts.{symbol-sure, taken-small}
use Rattle.match_firsts.proofs.Sight.symbol_first.Goals as goal

pub returns : goal.returns
returns c =
    let f = c.args.self.now in
    IfSome_then c.heard.result c.heard.ensures (λ v e.
    symbol-sure f.table.now f.mem.now f.n f.b c.args.r (taken_of v) (omega arith) (omega arith) (taken-small v)
    (ap (said_of f.mem.now f.b) (sym c.body.ensures.0) ∙ e))
