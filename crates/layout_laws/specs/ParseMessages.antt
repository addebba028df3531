-- Where a message, or its arguments, stands in words. Assumes nothing.
use Rattle.std.specs.Prelude.{ℕ, ◌+◌, ◌≡◌, List, length}
use Rattle.atlite.specs.Term.{Value}
use Rattle.atlite.specs.State.{Message}
use Rattle.layout.specs.Layout.{value_words, encode_message}
use Rattle.layout_laws.specs.PackLaws.{Each}
use Rattle.layout_laws.specs.TermLaws.{ValueFits}
use Rattle.layout_laws.specs.Slots.{MessageFits}
use Rattle.layout_laws.specs.Spans.{Spans}

-- ---- the arguments and the empty words
abbrev pub ValuesAt : List ℕ → ℕ → ℕ → List Value → Type 0
ValuesAt w c at vs = Each ValueFits vs × (length vs ≡ c) × Spans w at (at + c) (value_words vs)

-- ---- what is got stands there
abbrev pub MessageAt : List ℕ → ℕ → Message → ℕ → Type 0
MessageAt w at m i = MessageFits m × Spans w at i (encode_message m)
