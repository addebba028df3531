-- What the other modules share: results that may be refusals, tests, and quoted text as bytes. Assumes nothing.
--
-- A rule is written in `do` notation over `Result`: the first test that fails decides the cause, so the order of the lines of a
-- rule is the order of the causes in document 01's table. Tests are `Bool`, so that every definition computes.
use Rattle.std.specs.Prelude.{ℕ, ◌+◌, Bool, true, false, ◌&&◌, not, List, [], ◌∷◌, eqb, if◌then◌else◌}
use Prim.Native.Char.{code}
use Prim.Native.String as S
use Rattle.std.proofs.Math.Option.{Option, none, some}

-- The causes of document 01's table, and where each is found:
--
--   1   the text is empty or over 4,096 bytes                  Table.read
--   2   it is not of the grammar                               Reader; Script.join for a last line that is a definition; Loops.played
--   3   a variable is not bound, or not to be seen here        Scope.bound
--   4   a list names a thing twice                             Scope.single
--   5   brackets, words or nodes beyond the limits             Table.read, by Reader.depth, Lexicon.words_of, Script.size
--   6   a lent list is too short                               Meaning.room of crate `promises`; Program.listed
--   7   words are no table or no state                         Meaning.table_in, state_in
--   8   there is no such actor                                 Move.free
--   9   the expression is a value and the inbox is empty       Move.take_rule
--   10  the receiver is null or a number                       Outcome.own_entity, Rules.ownerless_rule
--   11  get, set or call on another's entity                   Outcome.own_entity
--   12  no such field, no method of the name with so many      Rules: fields_of, get_rule, set_rule, methods_of, invoke, resolves
--       parameters, or an entity of another kind
--   13  .resolve on a resolved future                          Rules.open_future
--   14  .resolve with a future                                 Rules.resolve_rule
--   15  plus or percent on other than numbers, or too large    Rules.as_number, number
--   16  a limit would be passed                                Move.limited, Load.load
--
-- What no state can meet, such as a reference that names nothing, still needs an answer here, which no call ever gives. It has one name, so
-- that where a cause is written as a number it is one of the table's.
abbrev pub no_state : ℕ
no_state = 12

-- a value, or the number of the cause that refused it
pub data Result (A : Type 0) : Type 0 where
  done : A → Result A
  refused : ℕ → Result A

unfoldable pub is_done : {A : Type 0} → Result A → Bool
is_done (done a) = true
is_done (refused n) = false

infixl 20 ◌>>=◌
abbrev pub ◌>>=◌ : {A B : Type 0} → Result A → (A → Result B) → Result B
◌>>=◌ (done a) f = f a
◌>>=◌ (refused n) f = refused n

-- the value there is, or a refusal with the cause n
unfoldable pub or_refuse : {A : Type 0} → ℕ → Option A → Result A
or_refuse n none = refused n
or_refuse n (some a) = done a

-- nothing, or a refusal with the cause n where the test fails
unfoldable pub require : ℕ → Bool → Result (Unit {0})
require n true = done tt
require n false = refused n

infixr 20 ◌>>◌
abbrev pub ◌>>◌ : {A : Type 0} → Result (Unit {0}) → Result A → Result A
◌>>◌ (done u) r = r
◌>>◌ (refused n) r = refused n

-- a quoted text's bytes
unfoldable pub bytes : S.String → List ℕ
bytes S.[] = []
bytes (S.◌∷◌ c s) = code c ∷ bytes s

unfoldable pub all : {A : Type 0} → (A → Bool) → List A → Bool
all p [] = true
all p (x ∷ xs) = p x && all p xs

unfoldable pub any : {A : Type 0} → (A → Bool) → List A → Bool
any p [] = false
any p (x ∷ xs) = if p x then true else any p xs

-- no two elements are the same by the test e
unfoldable pub distinct_by : {A : Type 0} → (A → A → Bool) → List A → Bool
distinct_by e [] = true
distinct_by e (x ∷ xs) = not (any (e x) xs) && distinct_by e xs

-- of numbers
abbrev pub member : ℕ → List ℕ → Bool
member x xs = any (eqb x) xs

abbrev pub distinct : List ℕ → Bool
distinct xs = distinct_by eqb xs

unfoldable pub sum : {A : Type 0} → (A → ℕ) → List A → ℕ
sum f [] = 0
sum f (x ∷ xs) = f x + sum f xs

-- the two lists are equal
unfoldable pub same_bytes : List ℕ → List ℕ → Bool
same_bytes [] [] = true
same_bytes [] (y ∷ ys) = false
same_bytes (x ∷ xs) [] = false
same_bytes (x ∷ xs) (y ∷ ys) = eqb x y && same_bytes xs ys

-- all definitions above, opened together: name it on an `unfolding` line
unfoldable pub Base : Unit {0}
unfolding is_done or_refuse require bytes all any distinct_by sum same_bytes
Base = tt
