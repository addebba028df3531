-- The premise of `two-lists` is met by lists that differ: from one loaded script, two lists of calls with the same moves, senders and
-- creators in which all four actors move, one of them with entries that are refused. Actor 2 compares and chooses, in one of
-- its two methods of one name. Assumes nothing.
use Rattle.std.specs.Prelude.{ℕ, zero, suc, ◌<◌, List, [], ◌∷◌, ◌≡◌, refl, replicate, if◌then◌else◌}
use Rattle.std.proofs.Common.{sym, ◌∙◌, subst₂, arith, ne_eqb}
use Rattle.atlite.specs.Base.{bytes}
use Rattle.atlite.specs.Loops.{All}
use Rattle.atlite.specs.Valid.{Valid}
use Rattle.decoding.specs.ValidTest.{ValidTest}
use Rattle.atlite.specs.Move.{Inner, Taken, Sent, Created}
use Rattle.layout.specs.Numbers.{state_words, table_words}
use Rattle.layout.specs.Pack.{Pack}
use Rattle.layout.specs.Terms.{Terms·all}
use Rattle.layout.specs.Layout.{Layout}
use Rattle.layout.specs.Tables.{Tables}
use Rattle.decoding.specs.Reading.{Reading}
use Rattle.decoding.specs.TermReading.{TermReading}
use Rattle.decoding.specs.Decode.{Decode}
use Rattle.decoding.specs.TableReading.{TableReading}
use Rattle.promises.specs.Meaning.{Meaning, read_call, load_call}
use Rattle.promises.specs.Claim.{Claim, Call, move, run, Event, event, moved_by, Agree, moves_of, senders}

unfoldable Everything : Unit {0}
unfolding All Valid ValidTest Pack Terms·all Layout Tables Reading TermReading Decode TableReading Meaning Claim
Everything = tt

unfoldable pub start : List ℕ
start =
    (load_call
    (read_call
    (bytes "(def a (actor (method go () 1)))\n(def b (actor (method go () 4) (method go (k) (if (same k 1) 2 5))))\n(def c (actor (method go () 3)))\n(send a go)\n(send b go 1)\n(send c go)\n")
    (replicate table_words 0)).buffer
    (replicate state_words 0)).buffer

-- actor 0 to its end, then the others one after another
unfoldable pub first : List Call
first = run (replicate 11 0) ∷ run (1 ∷ 1 ∷ 2 ∷ 2 ∷ 2 ∷ 2 ∷ 3 ∷ 3 ∷ []) ∷ []

-- the others as soon as they can, actor 2 in between; there is no actor 7, and actor 3 has nothing to do at first
unfoldable pub second : List Call
second = run (0 ∷ 0 ∷ 7 ∷ 0 ∷ 0 ∷ 0 ∷ 0 ∷ 0 ∷ 1 ∷ 0 ∷ 0 ∷ 2 ∷ []) ∷ move 2 ∷ run (3 ∷ 0 ∷ 2 ∷ 0 ∷ 3 ∷ 1 ∷ 2 ∷ 3 ∷ []) ∷ []

unfoldable first_events : List Event
first_events =
    event 0 (Created 1) ∷ event 0 Inner ∷ event 0 (Created 2) ∷ event 0 Inner ∷ event 0 (Created 3) ∷ event 0 Inner
    ∷ event 0 (Sent 1) ∷ event 0 Inner ∷ event 0 (Sent 2) ∷ event 0 Inner ∷ event 0 (Sent 3)
    ∷ event 1 Taken ∷ event 1 Inner ∷ event 2 Taken ∷ event 2 Inner ∷ event 2 Inner ∷ event 2 Inner ∷ event 3 Taken ∷ event 3 Inner ∷ []

unfoldable second_events : List Event
second_events =
    event 0 (Created 1) ∷ event 0 Inner ∷ event 0 (Created 2) ∷ event 0 Inner ∷ event 0 (Created 3) ∷ event 0 Inner
    ∷ event 0 (Sent 1) ∷ event 1 Taken ∷ event 0 Inner ∷ event 0 (Sent 2) ∷ event 2 Taken ∷ event 2 Inner
    ∷ event 0 Inner ∷ event 2 Inner ∷ event 0 (Sent 3) ∷ event 3 Taken ∷ event 1 Inner ∷ event 2 Inner ∷ event 3 Inner ∷ []

first-moved : moved_by start first ≡ first_events
unfolding Everything start first first_events
first-moved = refl

second-moved : moved_by start second ≡ second_events
unfolding Everything start second second_events
second-moved = refl

-- Below n are all actors that move and are sent to; so no other actor has moves or senders.
abbrev Below : ℕ → List Event → Type 0
Below n [] = Unit {0}
Below n (event a Inner ∷ t) = (a < n) × Below n t
Below n (event a Taken ∷ t) = (a < n) × Below n t
Below n (event a (Sent c) ∷ t) = (a < n) × (c < n) × Below n t
Below n (event a (Created c) ∷ t) = (a < n) × Below n t

no-moves : (n : ℕ) (t : List Event) → Below n t → moves_of n t ≡ 0
unfolding moves_of
no-moves n [] h = refl
no-moves n (event a Inner ∷ t) h = rw (ne_eqb a n (λ e. omega (arith, h.0))) (no-moves n t h.1)
no-moves n (event a Taken ∷ t) h = rw (ne_eqb a n (λ e. omega (arith, h.0))) (no-moves n t h.1)
no-moves n (event a (Sent c) ∷ t) h = rw (ne_eqb a n (λ e. omega (arith, h.0))) (no-moves n t h.2)
no-moves n (event a (Created c) ∷ t) h = rw (ne_eqb a n (λ e. omega (arith, h.0))) (no-moves n t h.1)

no-senders : (n : ℕ) (t : List Event) → Below n t → senders n t ≡ []
unfolding senders
no-senders n [] h = refl
no-senders n (event a Inner ∷ t) h = no-senders n t h.1
no-senders n (event a Taken ∷ t) h = no-senders n t h.1
no-senders n (event a (Sent c) ∷ t) h = rw (ne_eqb c n (λ e. omega (arith, h.1))) (no-senders n t h.2)
no-senders n (event a (Created c) ∷ t) h = no-senders n t h.1

first_below : (b : ℕ) → Below (suc (suc (suc (suc b)))) first_events
unfolding first_events
first_below b = omega arith

second_below : (b : ℕ) → Below (suc (suc (suc (suc b)))) second_events
unfolding second_events
second_below b = omega arith

agreed : Agree first_events second_events
unfolding Claim All first_events second_events
agreed = record { moves = moves; order = order; makers = refl }
  where
    moves : (b : ℕ) → moves_of b first_events ≡ moves_of b second_events
    moves zero = refl
    moves (suc zero) = refl
    moves (suc (suc zero)) = refl
    moves (suc (suc (suc zero))) = refl
    moves (suc (suc (suc (suc b)))) = no-moves _ first_events (first_below b) ∙ sym (no-moves _ second_events (second_below b))

    order : (b : ℕ) → senders b first_events ≡ senders b second_events
    order zero = refl
    order (suc zero) = refl
    order (suc (suc zero)) = refl
    order (suc (suc (suc zero))) = refl
    order (suc (suc (suc (suc b)))) = no-senders _ first_events (first_below b) ∙ sym (no-senders _ second_events (second_below b))

pub lists_agree : Agree (moved_by start first) (moved_by start second)
lists_agree = subst₂ Agree (sym first-moved) (sym second-moved) agreed
