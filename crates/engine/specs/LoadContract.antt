-- What the call `load` promises, and what each of its ways to return has to show: one law for each cause, in the order in which the code
-- looks for them. Assumes nothing.
use Rattle.std.specs.Prelude.{ℕ, ◌≤◌, ◌<◌, ◌≡◌, refl, Bool, true, false, Ok, Err, List, length, take}
use Rattle.std.proofs.Math.Path.{sym}
use Rattle.std.proofs.Common.{ap, ◌∙◌, rules}
use Rattle.atlite.specs.Base.{is_done, require}
use Rattle.atlite.specs.Answers.{Returned, load_answer}
use Rattle.atlite.specs.declared.Cause.TheVariants as C
use Rattle.layout.specs.Numbers.{state_words, table_words}
use Rattle.decoding.specs.TableReading.{table_of}
use Rattle.promises.specs.Meaning.{answered, table_in, load_call}
use Rattle.layout_laws.specs.Outcomes.{room-enough, room-short}
use Rattle.layout_laws.specs.MeaningLaws.{lent-table}
use Rattle.loading.specs.LoadContract.{Loads}
use Rattle.loading.specs.LoadCall.{load-call}
use Rattle.state.specs.ListCall.{done-told, refused-told}

-- The answer is r and the state's words are new: what `load_call` says of the words t of the table and the words old.
unfoldable pub LoadsCall : List ℕ → List ℕ → Returned (Unit {0}) → List ℕ → Type 0
LoadsCall t old r new = (load_answer r ≡ (load_call t old).result) × (new ≡ (load_call t old).buffer)

module _ (t old : List ℕ) where
  pub table-short : length t < table_words → LoadsCall t old (Err C.ShortBuffer) old
  unfolding LoadsCall load_answer load_call answered
  table-short h = rw (room-short table_words t h) (refl, refl)

  module _ (h : table_words ≤ length t) where
    pub state-short : length old < state_words → LoadsCall t old (Err C.ShortBuffer) old
    unfolding LoadsCall load_answer load_call answered
    state-short k = rw (room-enough table_words t h, room-short state_words old k) (refl, refl)

    module _ (k : state_words ≤ length old) (b : Bool) (e : b ≡ is_done (table_in t)) where
      pub no_table : b ≡ false → LoadsCall t old (Err C.Malformed) old
      unfolding LoadsCall load_answer load_call answered table_in
      no_table n = rw (room-enough table_words t h, room-enough state_words old k, refused-told (table_of (take table_words t)) (sym e ∙ n)) (refl, refl)

      module _ (y : b ≡ true) (r : Bool) (new : List ℕ) (l : Loads t old r new) where
        -- what loading promises of a table's words is what the call means
        answered-by : (a : Returned (Unit {0})) → load_answer a ≡ require 16 r → LoadsCall t old a new
        unfolding LoadsCall
        answered-by a d =
            let T = done-told (table_in t) (sym e ∙ y) in
            let i = lent-table t T.0 T.1 in
            let q = load-call t old r new T.0 h k i.0 (sym i.1) l in
            (d ∙ sym q.0, sym q.1)

        pub loaded : r ≡ true → LoadsCall t old (Ok tt) new
        unfolding load_answer require
        loaded d = answered-by (Ok tt) (ap (require 16) (sym d))

        pub too_large : r ≡ false → LoadsCall t old (Err C.Limit) new
        unfolding load_answer require
        too_large d = answered-by (Err C.Limit) (ap (require 16) (sym d))

pub ruleset laws = (rules, table-short, state-short, no_table, loaded, too_large)
