use Rattle.match_eval.proofs.laws.Words.{fresh-ready, fresh-roomy}
use Rattle.match_firsts.proofs.decide_all.Goals as goal

pub decide_text-requires : goal.decide_text-requires
decide_text-requires c = (
  c.requires.0,
  fresh-ready c.args.t.now
      c.args.mem.now c.args.n c.requires.1,
)

pub returns-else-s-n : goal.returns-else-s-n
returns-else-s-n c = (
  fresh-ready c.args.t.now c.args.mem.now
      c.args.n c.requires.1,
  fresh-roomy c.args.t.now
      c.args.mem.now c.args.s.now c.args.n
      c.args.have c.requires.1,
)
