-- States in all of whose terms and methods something holds, as `Throughout` says it of a term. That moves and runs leave such states stands in
-- `proofs/ThroughoutMoves`. Assumes nothing.
use mathlib.Core.List.{List}
use Rattle.atlite.specs.Term.{Name, Op, Signature}
use Rattle.atlite.specs.State.{Entity, object, future, resolver, Actor, State}
use Rattle.atlite.specs.Outcome.{Copy, copy, Effect, inner, taken, sends, creates, Outcome}
use Rattle.atlite.specs.Valid.{AllOf}
use Rattle.changes.specs.Throughout.{Throughout, ThroughoutMethods}

module _ (Q : Op Name → Type 0) (L : List Signature → Type 0) where
  -- ---- states; fields and messages hold values alone
  abbrev pub ThroughoutEntity : Entity → Type 0
  ThroughoutEntity (object t F M) = ThroughoutMethods Q L M
  ThroughoutEntity (future v q) = Unit {0}
  ThroughoutEntity (resolver n) = Unit {0}

  pub record ThroughoutActor (A : Actor) : Type 0 where
    pub made : AllOf ThroughoutEntity A.made
    pub copied : AllOf ThroughoutEntity A.copied
    pub expr : Throughout Q L A.expr

  abbrev pub ThroughoutState : State → Type 0
  ThroughoutState σ = AllOf ThroughoutActor σ.actors

  -- ---- an actor that moves
  -- what goes out from it, and what it becomes
  abbrev pub ThroughoutCopy : Copy → Type 0
  ThroughoutCopy (copy v F M) = ThroughoutMethods Q L M

  abbrev pub ThroughoutEffect : Effect → Type 0
  ThroughoutEffect inner = Unit {0}
  ThroughoutEffect taken = Unit {0}
  ThroughoutEffect (sends p) = AllOf ThroughoutCopy p.copies
  ThroughoutEffect (creates B) = ThroughoutActor B

  abbrev pub ThroughoutOutcome : Outcome → Type 0
  ThroughoutOutcome E = ThroughoutActor E.own × ThroughoutEffect E.effect
