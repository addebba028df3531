-- The limits of what the programs write. Assumes nothing.
use Rattle.std.specs.Prelude.{ℕ, ◌+◌, ◌*◌}
use Rattle.input_line.specs.Limits.{longest}
use Rattle.transcript.specs.Output.{listing_room}

-- the bytes of an answer: a letter, a number that is a byte, and what stands between it and the next
abbrev pub answer_room : ℕ
answer_room = 5

-- the bytes that the line of the answers may have, with its end
abbrev pub answers_room : ℕ
answers_room = longest * answer_room + 1

-- the bytes that `replay` may write
abbrev pub replay_room : ℕ
replay_room = answers_room + listing_room
