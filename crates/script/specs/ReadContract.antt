-- What the call `read` promises, and what each of its ways to return has to show: one law for each cause, in the order in which the code
-- looks for them. Assumes nothing.
use Rattle.std.specs.Prelude.{ℕ, ◌≤◌, ◌<◌, ◌≡◌, Bool, ◌&&◌, Ok, Err, List, [], ◌++◌, length, drop}
use Rattle.std.proofs.Math.Path.{refl}
use Rattle.std.proofs.Common.{sym, ◌∙◌, arith}
use Rattle.std.proofs.Math.Bool.{true, false}
use borrow.Author.Tests.{lt-ltb, le-leb, lt-leb}
use Rattle.std.proofs.Math.Dec.{leb}
use Rattle.atlite.specs.Base.{Result, done, refused, ◌>>=◌, ◌>>◌, require}
use Rattle.atlite.specs.Lexicon.{Bytes, words_of, dictionary}
use Rattle.atlite.specs.Script.{Src, Line, size, join}
use Rattle.atlite.specs.Scope.{bound, single}
use Rattle.atlite.specs.Keywords.{operators}
use Rattle.atlite.specs.Reader.{depth, read_script}
use Rattle.atlite.specs.Table.{Table, read}
use Rattle.atlite_laws.specs.Facts.{refused-done}
use Rattle.atlite.specs.Answers.{Returned, read_answer}
use Rattle.atlite.specs.Causes.{number}
use Rattle.atlite.specs.declared.Cause.{Cause}
use Rattle.atlite.specs.declared.Cause.TheVariants as C
use Rattle.reading.specs.Exact.{read_table}
use Rattle.layout.specs.Numbers.{table_words}
use Rattle.layout.specs.Tables.{encode_table}
use Rattle.layout_laws.specs.TableLaws.{table-length}
use Rattle.promises.specs.Meaning.{answered, read_call}
use Rattle.layout_laws.specs.Outcomes.{room-enough, room-short}

-- The answer is r and the table is new: what `read_call` says of the text t and the words old.
unfoldable pub Reads : List ℕ → List ℕ → Returned (Unit {0}) → List ℕ → Type 0
Reads t old r new = (read_answer r ≡ (read_call t old).result) × (new ≡ (read_call t old).buffer)

-- ---- by what reading the text gives
pub no_room : (t old : List ℕ) → length old < table_words → Reads t old (Err C.ShortBuffer) old
unfolding Reads read_answer read_call answered
no_room t old h = rw (room-short table_words old h) (refl, refl)

refusal : (t old : List ℕ) (c : Cause) → table_words ≤ length old → read operators t ≡ refused (number c) → Reads t old (Err c) old
unfolding Reads read_answer read_call answered
refusal t old c h e = rw (room-enough table_words old h, e) (refl, refl)

taken : (t old new : List ℕ) (T : Table) → table_words ≤ length old → read operators t ≡ done T → new ≡ encode_table T ++ drop table_words old → Reads t old (Ok tt) new
unfolding Reads read_answer read_call answered
taken t old new T h e n = rw (room-enough table_words old h, e, table-length T (read_table t T e)) (refl, n)

-- what is left to ask of a script: causes 3 to 5
unfoldable within : Bytes → Src → Bool
within t e = leb (depth t) 32 && leb (length (words_of t)) 64 && leb (size e) 512

abbrev pub table_for : Bytes → List Line → Table
table_for t ls = record { words = dictionary t; lines = ls }

unfoldable judged : Bytes → List Line → Src → Result Table
judged t ls e =
    require 3 (bound [] e) >> (require 4 (single e) >> (require 5 (within t e) >> done (table_for t ls)))

positive : {n : ℕ} → (n ≡ 0 → ⊥) → 0 < n
positive h = omega arith

-- ---- cause by cause
module _ (t old : List ℕ) (room : table_words ≤ length old) where
  pub no_text : length t ≡ 0 → Reads t old (Err C.TextLength) old
  unfolding read require
  no_text e = let r : read operators t ≡ refused 1 = rw e in refusal t old C.TextLength room r

  pub long-text : 4096 < length t → Reads t old (Err C.TextLength) old
  unfolding read require
  long-text h =
      let r : read operators t ≡ refused 1 = rw (lt-ltb 0 (length t) (omega arith), lt-leb (length t) 4096 h) in
      refusal t old C.TextLength room r

  module _ (some : length t ≡ 0 → ⊥) (short : length t ≤ 4096) where
    -- the text's length is no cause
    sized : read operators t ≡ (read_script operators t >>= λ ls. (join ls >>= λ e. judged t ls e))
    unfolding read require judged within
    sized = rw (lt-ltb 0 (length t) (positive some), le-leb (length t) 4096 short)

    pub no-script : (read_script operators t >>= join) ≡ refused 2 → Reads t old (Err C.Grammar) old
    no-script e = refusal t old C.Grammar room (sized ∙ go (read_script operators t) e)
      where
        lines : (ls : List Line) (r : Result Src) → r ≡ refused 2 → (r >>= λ e. judged t ls e) ≡ refused 2
        lines ls (done e) q = absurd (refused-done (sym q))
        lines ls (refused n) q = cc

        go : (r : Result (List Line)) → (r >>= join) ≡ refused 2 → (r >>= λ ls. (join ls >>= λ e. judged t ls e)) ≡ refused 2
        go (refused n) q = cc
        go (done ls) q = lines ls (join ls) q

    module _ (ls : List Line) (e : Src) (script : read_script operators t ≡ done ls) (joined : join ls ≡ done e) where
      whole : read operators t ≡ judged t ls e
      whole = sized ∙ rw (script, joined)

      pub unbound : bound [] e ≡ false → Reads t old (Err C.Unbound) old
      unfolding judged require
      unbound b = refusal t old C.Unbound room (whole ∙ rw b)

      pub twice : bound [] e ≡ true → single e ≡ false → Reads t old (Err C.Repeated) old
      unfolding judged require
      twice b s = refusal t old C.Repeated room (whole ∙ rw (b, s))

      pub too-deep : bound [] e ≡ true → single e ≡ true → 32 < depth t → Reads t old (Err C.Oversized) old
      unfolding judged require within
      too-deep b s h = refusal t old C.Oversized room (whole ∙ rw (b, s, lt-leb (depth t) 32 h))

      pub too-many-words : bound [] e ≡ true → single e ≡ true → 64 < length (words_of t) → Reads t old (Err C.Oversized) old
      unfolding judged require within
      too-many-words b s h = refusal t old C.Oversized room (whole ∙ rw (b, s, lt-leb (length (words_of t)) 64 h) (go (leb (depth t) 32)))
        where
          go : (d : Bool) → (require 5 (d && false && leb (size e) 512) >> done (table_for t ls)) ≡ refused 5
          go true = refl
          go false = refl

      pub too_large : bound [] e ≡ true → single e ≡ true → 512 < size e → Reads t old (Err C.Oversized) old
      unfolding judged require within
      too_large b s h = refusal t old C.Oversized room (whole ∙ rw (b, s, lt-leb (size e) 512 h) (go (leb (depth t) 32 && leb (length (words_of t)) 64)))
        where
          go : (d : Bool) → (require 5 (d && false) >> done (table_for t ls)) ≡ refused 5
          go true = refl
          go false = refl

      pub accepted : (new : List ℕ) → bound [] e ≡ true → single e ≡ true → depth t ≤ 32 → length (words_of t) ≤ 64 → size e ≤ 512
          → new ≡ encode_table (table_for t ls) ++ drop table_words old → Reads t old (Ok tt) new
      unfolding judged require within
      accepted new b s d n z h =
          taken t old new (table_for t ls) room
          (whole ∙ rw (b, s, le-leb (depth t) 32 d, le-leb (length (words_of t)) 64 n, le-leb (size e) 512 z)) h
