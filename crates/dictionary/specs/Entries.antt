-- An entry of a dictionary: three words, and the twelve bytes that they are; and what the functions over entries answer. Assumes
-- nothing.
use Rattle.std.specs.Prelude.{ℕ, ◌+◌, ◌-◌, ◌/◌, ◌%◌, ◌<◌, Bool, ◌&&◌, not, List, [], ◌∷◌, length, drop, get_or}
use Rattle.atlite.specs.Base.{bytes, same_bytes}
use Rattle.atlite.specs.Lexicon.{Bytes, is_word, among}
use Rattle.atlite.specs.Valid.{words_hold}
use Rattle.layout.specs.Pack.{zeros}
use Rattle.layout_laws.specs.PackLaws.{Each}
use Rattle.layout.specs.Layout.{bytes_number}
use Rattle.decoding.specs.Reading.{cut}
use Rattle.decoding.specs.Decode.{bytes_in, decode_word}

-- the bytes of one word, the lowest first
unfoldable pub four_bytes : ℕ → Bytes
four_bytes w = w % 256 ∷ w / 256 % 256 ∷ w / 65536 % 256 ∷ w / 16777216 ∷ []

-- numbers that are bytes
unfoldable pub AreBytes : Bytes → Type 0
AreBytes t = Each (λ b. b < 256) t

-- only zeros from a place on
unfoldable pub zero_from : Bytes → ℕ → Bool
zero_from t at = same_bytes (drop at t) (zeros (length t - at))

-- bytes without the zeros behind them
unfoldable pub spelled : Bytes → Bytes
spelled t = bytes_in (length t) (bytes_number t)

-- a word that a dictionary may hold
unfoldable pub own_word : Bytes → Bool
own_word w = is_word w && not (same_bytes w (bytes "apply"))

-- the word of three words
unfoldable pub entry : ℕ → ℕ → ℕ → Bytes
entry a b c = decode_word (a ∷ b ∷ c ∷ [])

-- the entry at a place, and the n from there on
unfoldable pub entry_at : List ℕ → ℕ → Bytes
entry_at w at = entry (get_or w at 0) (get_or w (at + 1) 0) (get_or w (at + 2) 0)

unfoldable pub entries_at : List ℕ → ℕ → ℕ → List Bytes
entries_at w at n = cut decode_word 3 n (drop at w)

-- one of the n entries at a place is the entry x
unfoldable pub among_at : List ℕ → ℕ → ℕ → Bytes → Bool
among_at w at n x = among (entries_at w at n) x

-- the entry at a place is one, and none of the n behind it is the same
unfoldable pub entry_holds : List ℕ → ℕ → ℕ → Bool
entry_holds w at n = own_word (entry_at w at) && not (among_at w (at + 3) n (entry_at w at))

-- the n entries at a place are a dictionary
unfoldable pub entries_hold : List ℕ → ℕ → ℕ → Bool
entries_hold w at n = words_hold (entries_at w at n)
