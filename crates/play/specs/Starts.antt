-- The state that a script starts in, and what is left to do of a script or of the words of a state: both programs are chains of calls, and
-- each call leaves one thing less to do. Assumes nothing.
use Rattle.std.specs.Prelude.{Ok, Err, ℕ, ◌≤◌, ◌≡◌, List, take, drop}
use Rattle.std.proofs.Math.Path.{refl, ap}
use Rattle.std.proofs.Common.{sym, ◌∙◌, arith, rules}
use Rattle.std.proofs.Math.ListN.{length}
use Rattle.atlite.specs.Base.{Result, done, refused, ◌>>=◌, or_refuse}
use Rattle.atlite_laws.specs.Facts.{refused-done}
use Rattle.atlite.specs.Lexicon.{Bytes}
use Rattle.atlite.specs.State.{State}
use Rattle.atlite.specs.Keywords.{operators}
use Rattle.atlite.specs.Table.{IsTable, Table, read}
use Rattle.atlite.specs.Load.{load}
use Rattle.atlite.specs.Program.{started, shown}
use Rattle.atlite.specs.Answers.{Returned, read_answer, load_answer}
use Rattle.atlite.specs.Causes.{number}
use Rattle.atlite.specs.declared.Cause.{Cause}
use Rattle.reading.specs.Exact.{read-exact}
use Rattle.invariant.specs.Loads.{load-keeps}
use Rattle.layout.specs.Numbers.{state_words, table_words}
use Rattle.layout.specs.Layout.{encode}
use Rattle.layout.specs.Tables.{encode_table}
use Rattle.layout_laws.specs.TableLaws.{table-of}
use Rattle.promises.specs.Meaning.{answered, table_in, lent, read_call, load_call}
use Rattle.layout_laws.specs.MeaningLaws.{lent-state, read_done, read_length}
use Rattle.layout_laws.specs.Outcomes.{room-enough}
use Rattle.layout_laws.specs.Results.{refused-same}
use Rattle.transcript.specs.Output.{Written, result-same}

-- ---- what is left to do
-- of the text of a script, and of the words of a state, where f is to be done with the state
unfoldable pub of_text : (State → Result Bytes) → Bytes → Result Bytes
of_text f t = started t >>= f

unfoldable pub of_words : (State → Result Bytes) → List ℕ → Result Bytes
of_words f w = lent w >>= f

-- The words w begin with a state.
pub record Holds (w : List ℕ) : Type 0 where
  pub state : State
  pub is : lent w ≡ done state

-- what starting the text t answers, and the words that it leaves
unfoldable pub Starts : Bytes → Returned (Unit {0}) → List ℕ → Type 0
Starts t (Ok x) w = (σ : State) × (started t ≡ done σ) × (lent w ≡ done σ)
Starts t (Err c) w = started t ≡ refused (number c)

-- ---- the ways to return
-- an answer that says nothing, with the words to write
abbrev silent : List ℕ → Unit {0} × List ℕ
silent w = (tt, w)

table_here : (w : List ℕ) (T : Table) → IsTable T → take table_words w ≡ encode_table T → table_in w ≡ done T
unfolding table_in or_refuse
table_here w T h e = rw (e, table-of T h)

module _ (t table : List ℕ) (a : Returned (Unit {0})) (e : read_answer a ≡ (read_call t table).result) (h : table_words ≤ length table) where
  pub text-refused : (k : Cause) → a ≡ Err k → (w : List ℕ) → Starts t (Err k) w
  unfolding read_answer read_call answered Starts started
  text-refused k c w = go (read operators t) refl
    where
      told : (answered table (read operators t >>= λ T. done (silent (encode_table T)))).result ≡ refused (number k)
      told = rw (room-enough table_words table h) at (sym e ∙ ap read_answer c)

      go : (R : Result Table) → read operators t ≡ R → (read operators t >>= load) ≡ refused (number k)
      go (refused m) i = rw i (ap refused (refused-same m (number k) (rw i at told)))
      go (done T) i = absurd (refused-done (sym (rw i at told)))

  table-read : (x : Unit {0}) → a ≡ Ok x → (words : List ℕ) → words ≡ (read_call t table).buffer → (T : Table) × IsTable T × (read operators t ≡ done T) × (table_in words ≡ done T) × (length words ≡ length table)
  unfolding read_answer
  table-read x c words d =
      let q = read_done t table (sym e ∙ ap read_answer c) in
      (q.0, q.1, (read-exact t q.0).1 (q.1, q.2), table_here words q.0 q.1 (ap (take table_words) d ∙ q.3), ap length d ∙ read_length t table)

-- the words of the table, loaded: the facts in the order in which each shows what the next ones are of
module _ (t : List ℕ) (r : Returned (Unit {0})) (new words old table : List ℕ) (a : Returned (Unit {0})) (f : load_answer r ≡ (load_call words old).result) (g : new ≡ (load_call words old).buffer) (e : read_answer a ≡ (read_call t table).result) (d : words ≡ (read_call t table).buffer) where
  pub text-started : (x : Unit {0}) → a ≡ Ok x → table_words ≤ length table → state_words ≤ length old → Starts t r new
  unfolding Starts load_answer load_call answered started
  text-started x c h k = go r (load T) refl (f ∙ ap (λ X. X.result) loads) (g ∙ ap (λ X. X.buffer) loads)
    where
      told : (T : Table) × IsTable T × (read operators t ≡ done T) × (table_in words ≡ done T) × (length words ≡ length table)
      told = table-read t table a e h x c words d

      T : Table
      T = told.0

      loads : load_call words old ≡ answered old (load T >>= λ σ. done (silent (encode σ)))
      loads = rw (room-enough table_words words (omega (arith, told.4)), room-enough state_words old k, told.3)

      begun : started t ≡ load T
      begun = rw told.2

      go : (r : Returned (Unit {0})) (s : Result State) → load T ≡ s → load_answer r ≡ (answered old (s >>= λ σ. done (silent (encode σ)))).result
          → new ≡ (answered old (s >>= λ σ. done (silent (encode σ)))).buffer → Starts t r new
      go (Ok y) (refused m) i u v = absurd (refused-done (sym u))
      go (Ok y) (done σ) i u v = (σ, begun ∙ i, ap lent v ∙ lent-state σ (drop (length (encode σ)) old) (load-keeps T σ told.1 i))
      go (Err n) (refused m) i u v = begun ∙ i ∙ ap refused (refused-same m (number n) (sym u))
      go (Err n) (done σ) i u v = absurd (refused-done u)

pub ruleset laws = (rules, text-refused, text-started)

-- ---- what a start leaves to do
module _ (t : Bytes) (r : Returned (Unit {0})) (w : List ℕ) (s : Starts t r w) where
  pub start-holds : (x : Unit {0}) → r ≡ Ok x → Holds w
  unfolding Starts
  start-holds x e = let q : (σ : State) × (started t ≡ done σ) × (lent w ≡ done σ) = rw e at s in record { state = q.0; is = q.2 }

  module _ (f : State → Result Bytes) (old : List ℕ) (k : ℕ) (new : List ℕ) where
    pub start-shows : (x : Unit {0}) → r ≡ Ok x → Written (shown (of_words f w)) old k new → Written (shown (of_text f t)) old k new
    unfolding Starts of_text of_words
    start-shows x e g =
        let q : (σ : State) × (started t ≡ done σ) × (lent w ≡ done σ) = rw e at s in
        result-same (of_text f t) (of_words f w) old k new (rw (q.1, q.2)) g

    pub start-stops : (c : Cause) → r ≡ Err c → Written (shown (refused (number c))) old k new → Written (shown (of_text f t)) old k new
    unfolding Starts of_text
    start-stops c e g = let q : started t ≡ refused (number c) = rw e at s in result-same (of_text f t) (refused (number c)) old k new (rw q) g
