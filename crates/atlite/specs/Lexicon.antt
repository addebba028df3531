-- Bytes, words and numbers of a script's text, and the dictionary of a text. Assumes nothing.
--
-- Document 01, "Script text", and of "State" the sentence on the script's words. The dictionary of a text is its unreserved words, numbered
-- as they first turn up. `apply` has a number of its own in every script and is left out of the dictionary.
use Rattle.std.specs.Prelude.{ℕ, suc, ◌+◌, ◌-◌, ◌*◌, Bool, false, ◌&&◌, ◌||◌, not, List, [], ◌∷◌, ◌++◌, length, eqb, leb, if◌then◌else◌}
use Rattle.std.proofs.Math.Option.{Option, none, some}
use Rattle.atlite.specs.Base.{bytes, same_bytes, all}
use Rattle.atlite.specs.Term.{apply, first_word}
use Rattle.atlite.specs.Keywords.{op_word, src_word, print_kind, operators, spelling, reserved}

abbrev pub Bytes : Type 0
Bytes = List ℕ

-- the bytes that are no part of a word or number
abbrev pub open' : ℕ
open' = 40

abbrev pub close : ℕ
close = 41

abbrev pub space : ℕ
space = 32

abbrev pub newline : ℕ
newline = 10

unfoldable pub is_letter : ℕ → Bool
is_letter b = leb 97 b && leb b 122

unfoldable pub is_digit : ℕ → Bool
is_digit b = leb 48 b && leb b 57

unfoldable pub in_word : ℕ → Bool
in_word b = is_letter b || is_digit b

unfoldable pub letter_first : Bytes → Bool
letter_first [] = false
letter_first (b ∷ w) = is_letter b

unfoldable pub among : List Bytes → Bytes → Bool
among [] w = false
among (v ∷ vs) w = same_bytes v w || among vs w

unfoldable pub is_word : Bytes → Bool
is_word w = letter_first w && all in_word w && leb (length w) 12 && not (among reserved w)

-- the number that digits stand for, behind those already read as n
unfoldable pub decimal : ℕ → Bytes → ℕ
decimal n [] = n
decimal n (b ∷ w) = decimal (n * 10 + (b - 48)) w

-- at most 8 digits, no zero before others, and in range
unfoldable pub is_number : Bytes → Bool
is_number [] = false
is_number (b ∷ []) = is_digit b
is_number (b ∷ c ∷ w) = all is_digit (b ∷ c ∷ w) && not (eqb b 48) && leb (length w) 6 && leb (decimal 0 (b ∷ c ∷ w)) 16777215

-- the words found so far, and w with them if it is a new one
unfoldable pub noted : List Bytes → Bytes → List Bytes
noted ws w = if is_word w && not (among ws w) then ws ++ (w ∷ []) else ws

-- the words of a text by first use: ws were found so far, and w is the run of letters and digits being read
unfoldable pub words_from : List Bytes → Bytes → Bytes → List Bytes
words_from ws w [] = noted ws w
words_from ws w (b ∷ i) = words_from (if in_word b then ws else noted ws w) (if in_word b then w ++ (b ∷ []) else []) i

unfoldable pub words_of : Bytes → List Bytes
words_of t = words_from [] [] t

unfoldable pub without_apply : List Bytes → List Bytes
without_apply [] = []
without_apply (w ∷ ws) = if same_bytes w (bytes "apply") then ws else w ∷ without_apply ws

-- the words that a table and a state keep
unfoldable pub dictionary : Bytes → List Bytes
dictionary t = without_apply (words_of t)

-- where w stands among words that are numbered from n on
unfoldable pub place : ℕ → List Bytes → Bytes → Option ℕ
place n [] w = none
place n (v ∷ vs) w = if same_bytes v w then some n else place (suc n) vs w

-- a word's number in a script with the dictionary ws; a word that it lacks has none
unfoldable pub number_of : List Bytes → Bytes → Option ℕ
number_of ws w = if same_bytes w (bytes "apply") then some apply else place first_word ws w

unfoldable pub Lexicon : Unit {0}
unfolding op_word src_word print_kind operators spelling reserved is_letter is_digit in_word letter_first among is_word decimal is_number noted words_from words_of without_apply dictionary place number_of
Lexicon = tt
