-- A dictionary as two arrays: a word's bytes as one number, the first byte lowest, split at 2^64. Assumes nothing.
use Rattle.std.specs.Prelude.{◌≡◌, Bool, true, List, [], ℕ, ◌+◌, ◌-◌, ◌*◌, ◌/◌, ◌%◌, ◌^◌, ◌≤◌, ◌<◌, length, get_or, drop, if◌then◌else◌, Option, Some, None}
use Rattle.atlite.specs.Base.{bytes, all}
use Rattle.atlite.specs.Lexicon.{Bytes, is_word, among, noted, words_from, words_of, without_apply, dictionary}
use Rattle.layout.specs.Layout.{bytes_number}
use Rattle.scan.specs.Runs.{index}

unfoldable pub low_part : Bytes → ℕ
low_part w = bytes_number w % 18446744073709551616

unfoldable pub high_part : Bytes → ℕ
high_part w = bytes_number w / 18446744073709551616

-- n is the number of the bytes from i on, which are taken from the last to the first
pub record Numbered (w : Bytes) (i n : ℕ) : Type 0 where
  pub is : n ≡ bytes_number (drop i w)
  pub fits : n < 256 ^ (length w - i)

-- the first `count` entries are the words ws
pub record Holds (ws : List Bytes) (low high : List ℕ) (count : ℕ) : Type 0 where
  pub words : all is_word ws ≡ true
  pub counted : count ≡ length ws
  pub lows : (i : ℕ) → i < count → get_or low i 0 ≡ low_part (get_or ws i [])
  pub highs : (i : ℕ) → i < count → get_or high i 0 ≡ high_part (get_or ws i [])

-- the answer is where the word with the parts l and h stands, whatever words are held
unfoldable pub Placed : List ℕ → List ℕ → ℕ → ℕ → ℕ → Option ℕ → Type 0
Placed low high count l h (Some i) =
    (i < count) × ((ws : List Bytes) (w : Bytes) → Holds ws low high count → is_word w ≡ true → l ≡ low_part w → h ≡ high_part w → i ≡ index ws w)
Placed low high count l h None =
    (ws : List Bytes) (w : Bytes) → Holds ws low high count → is_word w ≡ true → l ≡ low_part w → h ≡ high_part w → count ≡ index ws w

-- it is none of the first i
unfoldable pub Sought : List ℕ → List ℕ → ℕ → ℕ → ℕ → ℕ → Type 0
Sought low high count l h i =
    (ws : List Bytes) (w : Bytes) → Holds ws low high count → is_word w ≡ true → l ≡ low_part w → h ≡ high_part w
    → index ws w ≡ i + index (drop i ws) w

-- the same of the words of a text as they were found so far, of which `apply` is kept as a mark
pub record Found (ws : List Bytes) (low high : List ℕ) (count : ℕ) (apply : Bool) : Type 0 where
  pub held : Holds (without_apply ws) low high count
  pub marked : apply ≡ among ws (bytes "apply")

-- what the run w adds
pub record Noted (w : Bytes) (low high : List ℕ) (n : ℕ) (a : Bool) (low' high' : List ℕ) (n' : ℕ) (a' : Bool) : Type 0 where
  pub kept : (ws : List Bytes) → Found ws low high n a → Found (noted ws w) low' high' n' a'
  pub more : n' ≤ n + 1
  pub some : n' ≤ n + length w
  pub lows : length low' ≡ length low
  pub highs : length high' ≡ length high

-- the words before `at` are found; each has taken two bytes
pub record Scanning (t : Bytes) (at : ℕ) (low high : List ℕ) (n : ℕ) (a : Bool) : Type 0 where
  pub words : List Bytes
  pub left : words_of t ≡ words_from words [] (drop at t)
  pub found : Found words low high n a
  pub room : 2 * n ≤ at
  pub within : at ≤ length t + 1

-- the arrays hold the text's dictionary, and the mark says whether `apply` is one more word
pub record Dictionary (t : Bytes) (low high : List ℕ) (count : ℕ) (apply : Bool) : Type 0 where
  pub held : Holds (dictionary t) low high count
  pub marked : apply ≡ among (words_of t) (bytes "apply")
  pub total : length (words_of t) ≡ count + (if apply then 1 else 0)
  pub room : count ≤ 2048
