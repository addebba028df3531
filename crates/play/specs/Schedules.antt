-- `loops`: what is written behind a schedule line, once each of its entries has been run. Assumes nothing.
use Rattle.std.specs.Prelude as Code
use Rattle.std.specs.Prelude.{Some, None, ℕ, ◌+◌, ◌-◌, ◌≡◌, refl, List, [], ◌++◌, length, take, drop}
use Rattle.std.proofs.Common.{sym, ap, ◌∙◌, rules, length-take-le}
use Rattle.atlite.specs.Base.{Result, done, refused, ◌>>=◌, or_refuse}
use Rattle.atlite.specs.Lexicon.{Bytes}
use Rattle.atlite.specs.State.{State}
use Rattle.atlite.specs.Run.{run}
use Rattle.atlite.specs.Program.{listed, shown}
use Rattle.atlite.specs.Loops.{schedule, played, loops}
use Rattle.invariant.specs.Moves.{run-keeps}
use Rattle.layout.specs.Numbers.{state_words}
use Rattle.layout.specs.Layout.{encode}
use Rattle.promises.specs.Meaning.{lent, run_call}
use Rattle.layout_laws.specs.MeaningLaws.{lent-state, state-lent, run-unlent, run-leaves}
use Rattle.input_line.specs.Lines.{Opened, LineOf, script-lent, line-opened, line-length, line-short, line-none}
use Rattle.input_line.specs.Entries.{EntriesOf, entries-held, entries-few, entries-inside, entries_none}
use Rattle.play.specs.Starts.{of_text, of_words, start-shows, start-stops}
use Rattle.transcript.specs.Output.{Written, written_same, result-same}
use Rattle.play.specs.Listings.{headed}

-- what is left to do of a state
unfoldable pub ran : List ℕ → State → Result Bytes
ran es σ = listed (run σ es).state

-- with nothing in front a listing is as it is
unheaded : (R : Result Bytes) → (R >>= λ l. done ([] ++ l)) ≡ R
unheaded (done l) = refl
unheaded (refused n) = refl

-- the words that a run leaves are listed as the state that it leaves
run_is : (w es : List ℕ) → of_words (ran es) w ≡ of_words (headed []) (run_call w es).buffer
unfolding of_words ran headed
run_is w es = go (lent w) refl
  where
    go : (s : Result State) → lent w ≡ s → (lent w >>= λ σ. listed (run σ es).state) ≡ (lent (run_call w es).buffer >>= λ σ. (listed σ >>= λ l. done ([] ++ l)))
    go (refused n) e = rw (ap (λ R. R.buffer) (run-unlent w es n e), e)
    go (done σ) e =
        let q = state-lent w σ e in
        let t = drop state_words w in
        let b : (run_call w es).buffer ≡ encode (run σ es).state ++ t = ap (λ x. (run_call x es).buffer) q.1 ∙ ap (λ R. R.buffer) (run-leaves σ t es q.0) in
        rw (e, b, lent-state (run σ es).state t (run-keeps σ es q.0), unheaded (listed (run σ es).state))

module _ (old : List ℕ) (r : ℕ) (new : List ℕ) where
  pub run-shows : (w es mid : List ℕ) → mid ≡ (run_call w es).buffer → Written (shown (of_words (headed []) mid)) old r new → Written (shown (of_words (ran es) w)) old r new
  run-shows w es mid d g = result-same (of_words (ran es) w) (of_words (headed []) mid) old r new (run_is w es ∙ ap (of_words (headed [])) (sym d)) g

  -- ---- what is left to do of an input
  module _ (w : List ℕ) where
    pub line-stops : (a : Code.Option ℕ) → LineOf w a → a ≡ None → Written (shown (refused 2)) old r new → Written (loops w) old r new
    unfolding loops played or_refuse
    line-stops a l e g = written_same (loops w) (shown (refused 2)) old r new (rw (line-none w a l e)) g

    module _ (n : ℕ) (o : Opened w n) (xs : List ℕ) (a : Code.Option ℕ) (l : EntriesOf (schedule (take n w)) xs a) where
      pub schedule-stops : a ≡ None → Written (shown (refused 2)) old r new → Written (loops w) old r new
      unfolding loops played or_refuse
      schedule-stops e g = written_same (loops w) (shown (refused 2)) old r new (rw (o.is, entries_none (schedule (take n w)) xs a l e)) g

      pub schedule-shows : (k : ℕ) → a ≡ Some k → Written (shown (of_text (ran (take k xs)) (take (length w - (n + 1)) (drop (n + 1) w)))) old r new → Written (loops w) old r new
      unfolding loops played or_refuse of_text ran
      schedule-shows k e g =
          let q = entries-held (schedule (take n w)) xs a k l e in
          written_same (loops w) (shown (of_text (ran (take k xs)) (take (length w - (n + 1)) (drop (n + 1) w)))) old r new (rw (o.is, q.is, script-lent w n)) g

pub ruleset laws = (rules, length-take-le, line-opened, line-length, line-short, entries-few, entries-inside, run-shows, start-shows, start-stops, line-stops, schedule-stops, schedule-shows)
