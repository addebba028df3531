-- Reading a text into its table, and which words and lines are a table. Assumes nothing.
--
-- Document 01, causes 1 to 5 in their order, and of 7 what a table of an accepted text is: `IsTable` says it without a reader. That the reader
-- takes exactly those is a law (`read-exact` of crate `reading`).
use Rattle.std.specs.Prelude.{ℕ, suc, ◌≤◌, ◌<◌, Bool, true, ◌&&◌, ◌||◌, List, [], ◌∷◌, ◌≡◌, length, eqb, leb, ltb}
use Rattle.atlite.specs.Base.{Result, done, ◌>>=◌, ◌>>◌, require, all}
use Rattle.atlite.specs.Term.{this, top, plain, send, written}
use Rattle.atlite.specs.Keywords.{Operator}
use Rattle.atlite.specs.Lexicon.{Bytes, words_of, dictionary}
use Rattle.atlite.specs.Script.{SrcOp, kept, ask, resolve, seq, Src, num, null, var, op, let_in, future, fn, when, literal, Srcs, nil, cons, SrcFields, no_field, field, SrcMethods, no_method, method, Line, expression, define, count_srcs, size, join}
use Rattle.atlite.specs.Printer.{print_script}
use Rattle.atlite.specs.Scope.{bound, single}
use Rattle.atlite.specs.Reader.{depth, read_script}
use Rattle.atlite.specs.Valid.{is_name, operable}

-- the dictionary and the lines of an accepted text
pub record Table : Type 0 where
  pub words : List Bytes
  pub lines : List Line

-- os are the operators that a text may have
unfoldable pub read : List Operator → Bytes → Result Table
read os t = do
  require 1 (ltb 0 (length t) && leb (length t) 4096)
  ls ← read_script os t
  e ← join ls
  require 3 (bound [] e)
  require 4 (single e)
  require 5 (leb (depth t) 32 && leb (length (words_of t)) 64 && leb (size e) 512)
  done (record { words = dictionary t; lines = ls })

-- the text that a table prints
unfoldable pub text_of : Table → Bytes
text_of T = print_script T.words T.lines

unfoldable pub count_fields : SrcFields → ℕ
count_fields no_field = 0
count_fields (field f e fs) = suc (count_fields fs)

unfoldable pub count_methods : SrcMethods → ℕ
count_methods no_method = 0
count_methods (method m xs e ms) = suc (count_methods ms)

-- a word of a script whose dictionary has w words
abbrev pub Named : ℕ → ℕ → Type 0
Named w x = is_name w x ≡ true

-- a script's operator with n operands, under a dictionary of w words
abbrev pub writable : ℕ → SrcOp → ℕ → Bool
writable w (kept o) n = operable w (written o) n
writable w (ask m) n = operable w (send (plain m)) n
writable w resolve n = eqb n 2
writable w seq n = eqb n 2

-- Of the grammar, under a dictionary of w words: names are words of it, numbers and lists are in range.
unfoldable mutual
  pub Grammatical : ℕ → Src → Type 0
  Grammatical w (num n) = n ≤ top
  Grammatical w null = Unit {0}
  Grammatical w (var x) = (eqb x this || is_name w x) ≡ true
  Grammatical w (op o es) = (writable w o (count_srcs es) ≡ true) × GrammaticalAll w es
  Grammatical w (let_in x e d) = Named w x × Grammatical w e × Grammatical w d
  Grammatical w (future x y e) = Named w x × Named w y × Grammatical w e
  Grammatical w (fn x e) = Named w x × Grammatical w e
  Grammatical w (when e x d) = Grammatical w e × Named w x × Grammatical w d
  Grammatical w (literal k fs ms) = (count_fields fs ≤ 4) × GrammaticalFields w fs × (count_methods ms ≤ 4) × GrammaticalMethods w ms

  pub GrammaticalAll : ℕ → Srcs → Type 0
  GrammaticalAll w nil = Unit {0}
  GrammaticalAll w (cons e es) = Grammatical w e × GrammaticalAll w es

  pub GrammaticalFields : ℕ → SrcFields → Type 0
  GrammaticalFields w no_field = Unit {0}
  GrammaticalFields w (field f e fs) = Named w f × Grammatical w e × GrammaticalFields w fs

  pub GrammaticalMethods : ℕ → SrcMethods → Type 0
  GrammaticalMethods w no_method = Unit {0}
  GrammaticalMethods w (method m xs e ms) =
      Named w m × (length xs ≤ 3) × (all (is_name w) xs ≡ true) × Grammatical w e × GrammaticalMethods w ms

unfoldable pub GrammaticalLines : ℕ → List Line → Type 0
GrammaticalLines w [] = Unit {0}
GrammaticalLines w (expression e ∷ ls) = Grammatical w e × GrammaticalLines w ls
GrammaticalLines w (define x e ∷ ls) = Named w x × Grammatical w e × GrammaticalLines w ls

-- What makes words and lines a table, by the cause that would refuse their text otherwise.
pub record IsTable (T : Table) : Type 0 where
  -- 1: length
  pub text : (0 < length (text_of T)) × (length (text_of T) ≤ 4096)
  -- 2: grammar; the dictionary is that of the text, and the lines join to a script
  pub grammar : GrammaticalLines (length T.words) T.lines
  pub words : T.words ≡ dictionary (text_of T)
  pub script : Src
  pub joined : join T.lines ≡ done script
  -- 3: binding
  pub binding : bound [] script ≡ true
  -- 4: lists
  pub lists : single script ≡ true
  -- 5: limits
  pub brackets : depth (text_of T) ≤ 32
  pub known : length (words_of (text_of T)) ≤ 64
  pub nodes : size script ≤ 512

unfoldable pub Table·all : Unit {0}
unfolding read text_of count_fields count_methods Grammatical GrammaticalLines
Table·all = tt
