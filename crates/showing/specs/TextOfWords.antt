-- The text that words stand for, whatever words they are: what the code is proved against. A word has an opening, a
-- number of operands and a closing bracket; each operand stands behind a space, and a name may stand behind the first. So one
-- rule shows every form, and what its kind tells is asked of the table of kinds; only the forms that bind names are known here.
-- Assumes nothing.
use Rattle.std.specs.Prelude.{ℕ, zero, suc, ◌-◌, ◌*◌, ◌/◌, ◌%◌, min, cond, List, [], ◌∷◌, ◌++◌, get_or, eqb, ltb}
use Rattle.atlite.specs.Base.{bytes}
use Rattle.atlite.specs.Lexicon.{Bytes}
use Rattle.atlite.specs.Keywords.{null_word, this_word}
use Rattle.atlite.specs.Printer.{print_number}
use Rattle.layout.specs.Numbers.{payload, field_kind, name_limit, no_name, tagged_limit, second_place, third_place, number_limit, owner_unit, owner_limit}
use Rattle.decoding.specs.Kinds.{Kinds, Words, row_in, word_in as word_of}
use Rattle.layout_laws.specs.Arity.{arity}

-- ---- names
-- a byte of a word; zero is none
unfoldable pub letter_in : ℕ → Bytes
letter_in b = cond (eqb b 0) [] (b ∷ [])

-- four letters, the first lowest
unfoldable pub letters_in : ℕ → Bytes
letters_in v = letter_in (v % 256) ++ (letter_in (v / 256 % 256) ++ (letter_in (v / 65536 % 256) ++ letter_in (v / 16777216)))

-- the words that no dictionary has
unfoldable pub known_in : ℕ → Bytes
known_in x =
    cond (eqb x 0) this_word (cond (eqb x 1) (bytes ".t") (cond (eqb x 2) (bytes ".f") (cond (eqb x 3) (bytes ".r")
    (cond (eqb x 4) (bytes ".l") (cond (eqb x 5) (bytes ".s") (cond (eqb x 6) (bytes ".x") (bytes "apply")))))))

-- the word of number x in the dictionary of the words t, which has at most 64 and zeros behind them
unfoldable pub word_in : List ℕ → ℕ → Bytes
word_in t x =
    cond (ltb x 8) (known_in x) (cond (ltb x 72)
    (letters_in (get_or t (3 * x - 22) 0) ++ (letters_in (get_or t (3 * x - 21) 0) ++ letters_in (get_or t (3 * x - 20) 0))) [])

-- a name with its tag: plain, two-way, `.resolve`, `.register`
unfoldable pub tagged_in : List ℕ → ℕ → Bytes
tagged_in t c =
    cond (ltb c name_limit) (word_in t c) (cond (ltb c 256) (word_in t (c - name_limit) ++ bytes ".f")
    (cond (ltb c 384) (bytes ".resolve") (bytes ".register")))

-- the same behind a space
unfoldable pub name_in : List ℕ → ℕ → Bytes
name_in t c = cond (eqb c no_name) [] ((32 ∷ []) ++ tagged_in t c)

-- ---- one word of a term
-- the name behind the operator, of a let, a future, a function or a header
unfoldable pub first_in : ℕ → ℕ → ℕ
first_in k h = cond (ltb k field_kind) (cond (eqb k 11) (h % name_limit) (cond (eqb k 12) (h % name_limit) (cond (eqb k 65) (h % name_limit) no_name))) (h % name_limit)

abbrev pub first : ℕ → ℕ
first h = first_in (h / payload) h

-- the name behind that one
unfoldable pub second : ℕ → ℕ
second h = cond (eqb (h / payload) 12) (h / name_limit % name_limit) no_name

-- three names in brackets, behind a space
unfoldable pub open_in : List ℕ → ℕ → Bytes
open_in t x = (32 ∷ 40 ∷ []) ++ word_in t x

unfoldable pub places_in : List ℕ → ℕ → ℕ → ℕ → Bytes
places_in t x y z = open_in t x ++ (name_in t y ++ (name_in t z ++ (41 ∷ [])))

-- the parameters of a method
unfoldable pub params_in : List ℕ → ℕ → Bytes
params_in t h = cond (ltb (h / payload) 192) [] (places_in t (h / tagged_limit % name_limit) (h / second_place % name_limit) (h / third_place % name_limit))

-- the name behind the first operand, with its tag: of an operator with a field's name, of a call, a send or an ask, of a when
unfoldable pub after_in : ℕ → ℕ → ℕ
after_in k h =
    cond (eqb (row_in k).operator 2) (h % name_limit) (cond (eqb k 13) (h % tagged_limit) (cond (eqb k 14) (h % tagged_limit) (cond (eqb k 64) (h % tagged_limit)
    (cond (eqb k 67) (h % name_limit) no_name))))

abbrev pub after : ℕ → ℕ
after h = after_in (h / payload) h

-- how many operands are shown: no form has more than 14, and words that are none may say any number
abbrev pub count : ℕ → ℕ
count h = min 14 (arity h)

-- what stands before the operands; the kinds of a method's header begin with 192
unfoldable pub operator_in : ℕ → Bytes
operator_in k = (40 ∷ []) ++ word_of (min 192 k)

unfoldable pub head_in : List ℕ → ℕ → Bytes
head_in t h = operator_in (h / payload) ++ (name_in t (first h) ++ (name_in t (second h) ++ params_in t h))

-- a series between two numbers
unfoldable pub series_in : ℕ → Bytes
series_in s = cond (eqb s 0) (bytes " m ") (bytes " c ")

-- the actor of a reference
unfoldable pub owner_in : ℕ → Bytes
owner_in a = bytes "(ref " ++ print_number a

unfoldable pub ref_in : ℕ → Bytes
ref_in h = owner_in (h / owner_unit % owner_limit) ++ (series_in (h / number_limit % 2) ++ (print_number (h % number_limit) ++ (41 ∷ [])))

-- a word with no operands: a value or a variable
unfoldable pub leaf_in : List ℕ → ℕ → Bytes
leaf_in t h =
    cond (eqb (h / payload) 1) null_word (cond (eqb (h / payload) 2) (print_number (h % payload))
    (cond (eqb (h / payload) 3) (ref_in h) (word_in t (h % name_limit))))

-- ---- terms
-- a text, and the words that are left
pub record Text : Type 0 where
  pub text : Bytes
  pub rest : List ℕ

-- n operands, each shown by S; the name x stands behind the first
unfoldable pub operands_in : List ℕ → (List ℕ → Text) → ℕ → ℕ → List ℕ → Text
operands_in t S x zero w = record { text = []; rest = w }
operands_in t S x (suc n) w =
    let a = S w in
    let b = operands_in t S no_name n a.rest in
    record { text = (32 ∷ []) ++ (a.text ++ (name_in t x ++ b.text)); rest = b.rest }

unfoldable pub form_in : List ℕ → (List ℕ → Text) → ℕ → List ℕ → Text
form_in t S h w = let a = operands_in t S (after h) (count h) w in record { text = head_in t h ++ (a.text ++ (41 ∷ [])); rest = a.rest }

-- the term that w begins with, if at most n of its words lie in one another
unfoldable pub shown : List ℕ → ℕ → List ℕ → Text
shown t zero w = record { text = []; rest = w }
shown t (suc n) [] = record { text = []; rest = [] }
shown t (suc n) (h ∷ w) = cond (ltb (h / payload) 7) (record { text = leaf_in t h; rest = w }) (form_in t (shown t n) h w)

unfoldable pub TextOfWords·all : Unit {0}
unfolding Kinds Words arity tagged_in name_in first_in second open_in places_in params_in after_in operator_in head_in series_in owner_in ref_in leaf_in operands_in form_in shown
TextOfWords·all = tt
