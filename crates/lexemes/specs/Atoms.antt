-- What the functions over words and numbers of a text answer. Assumes nothing.
use Rattle.std.specs.Prelude.{◌≡◌, true, false, ℕ, ◌^◌, ◌≤◌, ◌<◌, length, drop, Option, Some, None}
use Rattle.atlite.specs.Base.{Result, done, refused, all}
use Rattle.atlite.specs.Lexicon.{Bytes, is_digit, is_number, decimal, dictionary}
use Rattle.atlite.specs.Reader.{read_word, spaced_word}
use Rattle.atlite.specs.Term.{top}
use Rattle.words.specs.Wide.{wide_limit}
use Rattle.lexemes.specs.declared.names.Name.{Name}

-- the number of a run of digits
unfoldable pub Digits : Bytes → Option ℕ → Type 0
Digits w (Some n) = (all is_digit w ≡ true) × (n ≡ decimal 0 w)
Digits w None = all is_digit w ≡ false

unfoldable pub NumberIs : Bytes → Option ℕ → Type 0
NumberIs w (Some n) = (is_number w ≡ true) × (n ≡ decimal 0 w) × (n ≤ top)
NumberIs w None = is_number w ≡ false

-- the first i digits of w make n
pub record Counted (w : Bytes) (i n : ℕ) : Type 0 where
  pub digits : all is_digit w ≡ all is_digit (drop i w)
  pub is : decimal 0 w ≡ decimal n (drop i w)
  pub fits : n < 10 ^ i

-- a name that was read up to i, or a refusal
pub record NameRead (R : Result (ℕ × Bytes)) (t : Bytes) (at x i : ℕ) : Type 0 where
  pub is : R ≡ done (x, drop i t)
  pub far : at < i
  pub within : i ≤ length t
  pub small : x < wide_limit

unfoldable pub Named : Result (ℕ × Bytes) → Bytes → ℕ → Option Name → Type 0
Named R t at (Some x) = NameRead R t at x.number x.end
Named R t at None = R ≡ refused 2

-- the answer of the name x, read up to i
abbrev pub worded : ℕ → ℕ → Option Name
worded x i = Some (record { number = x; end = i })

-- the word at `at`, by its number; the same behind a space
unfoldable pub NameOf : Bytes → ℕ → Option Name → Type 0
NameOf t at r = Named (read_word (dictionary t) (drop at t)) t at r

unfoldable pub SpacedName : Bytes → ℕ → Option Name → Type 0
SpacedName t at r = Named (spaced_word (dictionary t) (drop at t)) t at r
