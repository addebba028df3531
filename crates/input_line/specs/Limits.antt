-- The limits of what the programs look at. Assumes nothing.
use Rattle.std.specs.Prelude.{ℕ, ◌+◌}

-- the bytes of a line, so that it has no more entries
abbrev pub longest : ℕ
longest = 4096

-- the bytes of a script
abbrev pub script_most : ℕ
script_most = 4096

-- the bytes that are read of an input: one more than a line, its end and a script have
abbrev pub input_room : ℕ
input_room = longest + 1 + script_most + 1
