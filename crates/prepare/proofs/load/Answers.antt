use mathlib.Core.Path.{sym, ap}
use lib.ListN.{length}
use Rattle.prepare.specs.laws.Loads.{early, loads-refused}
use Rattle.prepare.proofs.load.Goals as goal

pub returns-in-Some : goal.returns-in-Some
returns-in-Some c = loads-refused c.refusal.ensures (early c.args.mode c.args.text.now c.in-Some.f c.in-Some.ensures)

pub gather-requires : goal.gather-requires
gather-requires c = (ap length c.renew.ensures, sym c.in_default.ensures)

pub returns : goal.returns
returns c = c.gather.ensures
