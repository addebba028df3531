-- What reading promises of the bytes, where it is known which ones the reader has left. Assumes nothing.
use Rattle.std.specs.Prelude.{Result, Ok, Err, ℕ, ◌+◌, ◌<◌, ◌≡◌, List, length, take, slice_range, ⊤}
use Rattle.std.specs.declared.option.Option.{Option}
use Rattle.std.specs.Io.KnownBytes.{Consumes, IsAtEnd}
use Rattle.input.specs.declared.Unread.{Unread}

-- the reader gave n bytes, which stand in the buffer from `at` on, and none of them only at its end or where there is no room
abbrev pub Gives : Option (List ℕ) → Option (List ℕ) → List ℕ → ℕ → ℕ → Type 0
Gives old new buffer at n = Consumes old new (slice_range buffer at (at + n)) × (n ≡ 0 → at < length buffer → IsAtEnd new)

-- the bytes that are claimed to be read are those that the reader gave, in their order, and behind them it has none unless the buffer is full
abbrev pub IsWhole : Option (List ℕ) → Option (List ℕ) → Result ℕ Unread → List ℕ → Type 0
IsWhole old new (Ok n) buffer = Consumes old new (take n buffer) × (n < length buffer → IsAtEnd new)
IsWhole old new (Err e) buffer = ⊤
