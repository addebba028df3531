-- What a word says by itself: whether it is a value that may be held, and whether it has a name that may be called or sent. Assumes
-- nothing.
use Rattle.std.specs.Prelude.{ℕ, ◌/◌, ◌%◌, Bool, true, false, ◌&&◌, List, eqb}
use Rattle.std.proofs.Math.Option.{Option, none, some}
use Rattle.atlite.specs.Term.{Value}
use Rattle.atlite.specs.Valid.{sendable, callable, unreferring}
use Rattle.layout.specs.Numbers.{name_limit, tag_limit}
use Rattle.layout_laws.specs.Parse.{name_of}
use Rattle.term_words.specs.Kinds.{allowed}

-- what is there, and passes
unfoldable pub within : {A : Type 0} → (A → Bool) → Option A → Bool
within p none = false
within p (some a) = p a

-- what the actor a may hold; an isolate holds no reference
unfoldable pub holds : Bool → List ℕ → ℕ → Value → Bool
holds true K a = allowed K a
holds false K a = unreferring

-- by the payload of a send, and of a call: name 7 bits, tag 2, number of arguments
unfoldable pub send_in : ℕ → ℕ → Bool
send_in w p = within (λ m. sendable w m (p / name_limit / tag_limit)) (name_of (p / name_limit % tag_limit) (p % name_limit))

unfoldable pub call_in : ℕ → ℕ → Bool
call_in w p = within (λ m. callable w m (p / name_limit / tag_limit)) (name_of (p / name_limit % tag_limit) (p % name_limit))

-- an empty place and one argument
unfoldable pub lone : ℕ → ℕ → Bool
lone x n = eqb x 0 && eqb n 1
