use Rattle.read_tokens.specs.Bounds.{input_bound}
use Rattle.gurkenmond.specs.laws.Spots.{spot-long, spot_past, spot-there}
use Rattle.gurkenmond.proofs.line_and_column.Goals as goal

pub returns-then-input-gt-INPUT_MOST : goal.returns-then-input-gt-INPUT_MOST
unfolding input_bound
returns-then-input-gt-INPUT_MOST c = spot-long _ _ c.no_spot.result c.no_spot.ensures c.if-input-gt-INPUT_MOST.true

pub returns-then-input-position : goal.returns-then-input-position
unfolding input_bound
returns-then-input-position c = spot_past _ _ c.no_spot-then-input-position.result c.no_spot-then-input-position.ensures c.if-input-gt-INPUT_MOST.false c.if-input-position.true

pub returns : goal.returns
unfolding input_bound
returns c = spot-there _ _ c.place_of-p.result c.place_of-p.ensures c.if-input-gt-INPUT_MOST.false c.if-input-position.false
