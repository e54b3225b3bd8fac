use Rattle.base_lines.specs.laws.Lines.{behind-end, behind-other}
use Rattle.base_lines.proofs.Place.behind.Goals as goal

pub returns-then-byte-eq-LINE_FEED : goal.returns-then-byte-eq-LINE_FEED
returns-then-byte-eq-LINE_FEED c = behind-end _ _ c.if-byte-eq-LINE_FEED.true

pub returns-else-byte-eq-LINE_FEED : goal.returns-else-byte-eq-LINE_FEED
returns-else-byte-eq-LINE_FEED c = behind-other _ _ c.if-byte-eq-LINE_FEED.false
