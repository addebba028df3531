-- Request P2, choosing: states no term of which has one of the two operators. Assumes nothing.
use Rattle.atlite.specs.State.{State}
use Rattle.changes.specs.Throughout.{AnyMethods}
use Rattle.changes.specs.ThroughoutMoves.{ThroughoutState}
use Rattle.changes.specs.Without.{Neither}

-- neither operator stands in any term of any actor, entity or message
abbrev pub WithoutState : State → Type 0
WithoutState σ = ThroughoutState Neither AnyMethods σ
