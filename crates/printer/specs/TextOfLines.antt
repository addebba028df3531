-- The text of a table's lines, whatever words they are: what the printer's code is proved against. Assumes nothing.
use Rattle.std.specs.Prelude.{ℕ, zero, suc, List, [], ◌∷◌, ◌++◌}
use Rattle.atlite.specs.Lexicon.{Bytes}
use Rattle.showing.specs.TextOfWords.{shown}

-- the n lines that w begins with
unfoldable pub lines_in : List ℕ → ℕ → List ℕ → Bytes
lines_in t zero w = []
lines_in t (suc n) w = let a = shown t 33 w in a.text ++ ((10 ∷ []) ++ lines_in t n a.rest)
