-- Scripts in which something holds of each operator and of the signatures of each list of methods. That such a script begins in a state of which it
-- holds throughout stands in `proofs/ThroughoutLoads`. Assumes nothing.
use mathlib.Core.List.{List}
use Rattle.atlite.specs.Term.{Signature}
use Rattle.atlite.specs.Script.{SrcOp, Src, Srcs, SrcFields, SrcMethods, Line, expression, define}
use Rattle.atlite.specs.Scope.{signatures}
use Rattle.atlite.specs.Table.{Table}
use Rattle.atlite.specs.Valid.{AllOf}

-- where nothing is asked of operators
abbrev pub AnyWritten : SrcOp → Type 0
AnyWritten o = Unit {0}

-- ---- W holds of each operator as it is written, L of each list of methods
module _ (W : SrcOp → Type 0) (L : List Signature → Type 0) where
  abbrev mutual
    pub ThroughoutSrc : Src → Type 0
    ThroughoutSrc (Src.num n) = Unit {0}
    ThroughoutSrc Src.null = Unit {0}
    ThroughoutSrc (Src.var x) = Unit {0}
    ThroughoutSrc (Src.op o es) = W o × ThroughoutSrcs es
    ThroughoutSrc (Src.let_in x e d) = ThroughoutSrc e × ThroughoutSrc d
    ThroughoutSrc (Src.future x y e) = ThroughoutSrc e
    ThroughoutSrc (Src.fn x e) = ThroughoutSrc e
    ThroughoutSrc (Src.when e x d) = ThroughoutSrc e × ThroughoutSrc d
    ThroughoutSrc (Src.literal k fs ms) = ThroughoutFields fs × (L (signatures ms) × ThroughoutWritten ms)

    pub ThroughoutSrcs : Srcs → Type 0
    ThroughoutSrcs Srcs.nil = Unit {0}
    ThroughoutSrcs (Srcs.cons e es) = ThroughoutSrc e × ThroughoutSrcs es

    pub ThroughoutFields : SrcFields → Type 0
    ThroughoutFields SrcFields.no_field = Unit {0}
    ThroughoutFields (SrcFields.field f e fs) = ThroughoutSrc e × ThroughoutFields fs

    pub ThroughoutWritten : SrcMethods → Type 0
    ThroughoutWritten SrcMethods.no_method = Unit {0}
    ThroughoutWritten (SrcMethods.method m xs e ms) = ThroughoutSrc e × ThroughoutWritten ms

  abbrev pub ThroughoutLine : Line → Type 0
  ThroughoutLine (expression e) = ThroughoutSrc e
  ThroughoutLine (define x e) = ThroughoutSrc e

  abbrev pub ThroughoutTable : Table → Type 0
  ThroughoutTable T = AllOf ThroughoutLine T.lines
