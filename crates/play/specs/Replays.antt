-- `replay`: what is written once each of its calls has been made. Assumes nothing.
use Rattle.std.specs.Prelude as Code
use Rattle.std.specs.Prelude.{Some, None, ℕ, ◌+◌, ◌-◌, ◌≤◌, ◌≡◌, refl, List, [], ◌∷◌, ◌++◌, length, take, drop}
use Rattle.std.proofs.Common.{sym, ap, ◌∙◌, append_assoc, arith, rules, length-take, length-take-le}
use Rattle.atlite.specs.Base.{Result, done, refused, ◌>>=◌}
use Rattle.atlite.specs.Lexicon.{Bytes}
use Rattle.atlite.specs.State.{State}
use Rattle.atlite.specs.Printer.{print_items}
use Rattle.atlite.specs.Program.{listed, shown}
use Rattle.atlite.specs.Replay.{tokens, calls, called, replayed, bad_token, told, told_of, replay}
use Rattle.input_line.specs.Lines.{Opened, LineOf, script-lent, line-opened, line-length, line-short, line-none}
use Rattle.input_line.specs.Entries.{EntriesOf, entries-held, entries-few, entries-inside, entries-short, entries_none}
use Rattle.play.specs.Starts.{of_text, of_words, start-holds, start-shows, start-stops}
use Rattle.transcript.specs.Output.{listing_room, Written, written_same, result-same}
use Rattle.play.specs.Limits.{answers_room, replay_room}
use Rattle.play.specs.Listings.{headed}
use Rattle.play.specs.Calls.{Lined}

-- what is left to do of a state: the calls es, and the listing behind their answers
unfoldable pub replay_from : List ℕ → State → Result Bytes
replay_from es σ = listed (called σ es).state >>= λ l. done (print_items (called σ es).answers ++ (10 ∷ l))

-- the line of the answers leaves room for a listing
module _ (k : ℕ) (text : List ℕ) (h : k ≤ answers_room) where
  pub answers-short : length (take k text) ≤ answers_room
  answers-short = omega (arith, length-take k text)

  pub answers-fit : (old : List ℕ) → replay_room ≤ length old → length (take k text) + listing_room ≤ length old
  answers-fit old l = omega (arith, length-take k text)

module _ (old : List ℕ) (r : ℕ) (new : List ℕ) where
  pub calls-show : (w es w' : List ℕ) (k : ℕ) (text : List ℕ) → Lined w es w' k text → Written (shown (of_words (headed (take k text)) w')) old r new → Written (shown (of_words (replay_from es) w)) old r new
  unfolding of_words headed replay_from
  calls-show w es w' k text g s = result-same (of_words (replay_from es) w) (of_words (headed (take k text)) w') old r new (rw (g.held.is, g.words, g.is) (go (listed (called σ es).state))) s
    where
      σ : State
      σ = g.held.state

      items : Bytes
      items = print_items (called σ es).answers

      go : (R : Result Bytes) → (R >>= λ l. done (items ++ (10 ∷ l))) ≡ (R >>= λ l. done ((items ++ (10 ∷ [])) ++ l))
      go (done l) = ap done (sym (append_assoc items (10 ∷ []) l))
      go (refused n) = refl

  module _ (w : List ℕ) where
    pub line-stops : (a : Code.Option ℕ) → LineOf w a → a ≡ None → Written bad_token old r new → Written (replay w) old r new
    unfolding replay told_of
    line-stops a l e g = written_same (replay w) bad_token old r new (rw (line-none w a l e)) g

    module _ (n : ℕ) (o : Opened w n) (xs : List ℕ) (a : Code.Option ℕ) (l : EntriesOf (calls (tokens (take n w))) xs a) where
      pub token-stops : a ≡ None → Written bad_token old r new → Written (replay w) old r new
      unfolding replay told_of told
      token-stops e g = written_same (replay w) bad_token old r new (ap told_of o.is ∙ rw (entries_none (calls (tokens (take n w))) xs a l e)) g

      pub token-shows : (k : ℕ) → a ≡ Some k → Written (shown (of_text (replay_from (take k xs)) (take (length w - (n + 1)) (drop (n + 1) w)))) old r new → Written (replay w) old r new
      unfolding replay told_of told replayed of_text replay_from
      token-shows k e g =
          let q = entries-held (calls (tokens (take n w))) xs a k l e in
          written_same (replay w) (shown (of_text (replay_from (take k xs)) (take (length w - (n + 1)) (drop (n + 1) w)))) old r new (ap told_of o.is ∙ rw (q.is, script-lent w n)) g

pub ruleset laws = (rules, length-take-le, line-opened, line-length, line-short, entries-few, entries-inside, entries-short, answers-short, answers-fit, start-holds, calls-show, start-shows, start-stops, line-stops, token-stops, token-shows)
