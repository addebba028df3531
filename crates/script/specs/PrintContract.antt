-- What the call `print` promises, and what each of its ways to return has to show. Words are a table exactly if the text made of them
-- is read as a table with these words. Assumes nothing.
use Rattle.std.specs.Prelude.{ℕ, ◌≤◌, ◌<◌, ◌≡◌, Bool, true, false, Ok, Err, List, ◌++◌, length, take, drop}
use Rattle.std.proofs.Math.Path.{refl, sym}
use Rattle.std.proofs.Common.{ap, ◌∙◌, arith, rules, take_all, length-take-le}
use Rattle.std.proofs.lemmas.Bool.{false≢true}
use Rattle.std.proofs.Math.Option.{Option, none, some}
use Rattle.atlite.specs.Base.{or_refuse}
use Rattle.atlite.specs.Table.{Table, IsTable, text_of}
use Rattle.atlite.specs.Answers.{Returned, print_answer}
use Rattle.atlite.specs.declared.Cause.TheVariants as C
use Rattle.layout.specs.Numbers.{table_words}
use Rattle.layout.specs.Tables.{encode_table}
use Rattle.decoding.specs.TableReading.{table_of}
use Rattle.layout_laws.specs.TableLaws.{table-of-iff}
use Rattle.promises.specs.Meaning.{answered, table_in, print_call}
use Rattle.layout_laws.specs.Outcomes.{room-enough, room-short}

-- The answer is r and the text is new: what `print_call` says of the words t and the bytes old.
unfoldable pub Prints : List ℕ → List ℕ → Returned ℕ → List ℕ → Type 0
Prints t old r new = (print_answer r ≡ (print_call t old).result) × (new ≡ (print_call t old).buffer)

-- The bytes front were given into old, or they do not fit.
pub data Given (front old : List ℕ) (r : Returned ℕ) (new : List ℕ) : Type 0 where
  short : length old < length front → r ≡ Err C.ShortBuffer → new ≡ old → Given front old r new
  whole : length front ≤ length old → r ≡ Ok (length front) → new ≡ front ++ drop (length front) old → Given front old r new

-- The words t begin with the table T, whose text is front.
pub record TextIn (t front : List ℕ) (T : Table) : Type 0 where
  pub table : IsTable T
  pub words : take table_words t ≡ encode_table T
  pub text : text_of T ≡ front

-- r tells whether there is such a table.
pub record IsText (t front : List ℕ) (r : Bool) : Type 0 where
  pub sound : r ≡ true → (T : Table) × TextIn t front T
  pub complete : (T : Table) → TextIn t front T → r ≡ true

-- If the words t begin with a table, front is its text.
pub record Front (t front : List ℕ) : Type 0 where
  pub room : table_words ≤ length t
  pub text : (T : Table) → IsTable T → take table_words t ≡ encode_table T → text_of T ≡ front

-- ---- by what the words are
pub no_room : (t old : List ℕ) → length t < table_words → Prints t old (Err C.ShortBuffer) old
unfolding Prints print_answer print_call answered
no_room t old h = rw (room-short table_words t h) (refl, refl)

module _ (t old : List ℕ) (room : table_words ≤ length t) where
  -- where no table has these words
  pub no_table : ((T : Table) → IsTable T → take table_words t ≡ encode_table T → ⊥) → Prints t old (Err C.Malformed) old
  unfolding Prints print_answer print_call answered table_in or_refuse
  no_table f = go (table_of (take table_words t)) refl
    where
      go : (o : Option Table) → table_of (take table_words t) ≡ o → Prints t old (Err C.Malformed) old
      go none e = rw (room-enough table_words t room, e) (refl, refl)
      go (some T) e = let h = (table-of-iff (take table_words t) T).0 e in absurd (f T h.0 (sym h.1))

  table-printed : (front new : List ℕ) (r : Returned ℕ) (T : Table) → TextIn t front T → Given front old r new → Prints t old r new
  unfolding Prints print_answer print_call answered table_in or_refuse
  table-printed front new r T i (short l e u) =
      rw (room-enough table_words t room, (table-of-iff (take table_words t) T).1 (i.table, sym i.words), i.text, room-short (length front) old l, e, u) (refl, refl)
  table-printed front new r T i (whole l e u) =
      rw (room-enough table_words t room, (table-of-iff (take table_words t) T).1 (i.table, sym i.words), i.text, room-enough (length front) old l, e, u) (refl, refl)

-- ---- cause 7
module _ (t front old : List ℕ) (f : Front t front) (b : Bool) (s : IsText t front b) where
  pub front-printed : b ≡ true → (r : Returned ℕ) (new : List ℕ) → Given front old r new → Prints t old r new
  front-printed e r new g = let q = s.sound e in table-printed t old f.room front new r q.0 q.1 g

  pub front-refused : b ≡ false → Prints t old (Err C.Malformed) old
  front-refused e = no_table t old f.room (λ T i w.
      false≢true (sym e ∙ s.complete T (record { table = i; words = w; text = f.text T i w })))

pub ruleset laws = (rules, front-printed, front-refused)
