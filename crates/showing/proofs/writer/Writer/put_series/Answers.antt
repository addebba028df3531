-- `Writer::put_series` puts one of two texts. Assumes nothing.
use Rattle.atlite.specs.Base.{bytes}
use Rattle.showing.specs.HeadLaws.{series-made, series-copied}
use Rattle.showing.proofs.writer.Writer.put_series.Goals as goal

pub returns-then-s-eq0 : goal.returns-then-s-eq0
unfolding bytes
returns-then-s-eq0 c = series-made c.if-s-eq0.true c.put_bytes.ensures

pub returns-else-s-eq0 : goal.returns-else-s-eq0
unfolding bytes
returns-else-s-eq0 c = series-copied c.if-s-eq0.false c.put_bytes-else-s-eq0.ensures
