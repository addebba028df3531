-- Request P2, choosing: the operators that a text could have before the request. Assumes nothing.
use mathlib.Core.List.{List, [], ◌∷◌}
use Rattle.atlite.specs.Term.{plus, percent, get, set, call, send, Kind, isolate, actor}
use Rattle.atlite.specs.Keywords.{Operator, bare, naming, let_in, future, fn, when, literal}
use Rattle.atlite.specs.Script.{kept, ask, resolve, seq}

-- the operators before the request
unfoldable pub former : List Operator
former =
    bare (kept plus) ∷ bare (kept percent) ∷ naming (λ f. kept (get f)) ∷ naming (λ f. kept (set f)) ∷ naming (λ m. kept (call m))
    ∷ naming (λ m. kept (send m)) ∷ naming ask ∷ let_in ∷ future ∷ fn ∷ bare resolve ∷ when ∷ bare seq
    ∷ literal Kind.object ∷ literal isolate ∷ literal actor ∷ []
