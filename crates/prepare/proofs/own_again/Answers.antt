use mathlib.Core.Path.{ap}
use lib.ListN.{length}
use Rattle.prepare.specs.laws.Reads.{none-by-text, none-by-scan}
use Rattle.prepare.proofs.own_again.Goals as goal

pub gather-counts-requires : goal.gather-counts-requires
gather-counts-requires c = (
  ap length c.renew.ensures,
  none-by-scan c.args.mode c.args.text.now
      c.requires,
)

pub returns : goal.returns
returns c = c.gather-counts.ensures.table
    (none-by-text c.args.mode c.args.text.now
    c.requires)
