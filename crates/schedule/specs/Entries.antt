-- Two lists of entries from one state that agree in each actor's moves, each inbox's order of senders and the order of creators end
-- in one state. An entry that moves is a free move of the machine of crate `channels`; the limits only take entries away. Assumes
-- nothing.
use Rattle.std.specs.Prelude.{◌≡◌, refl, Bool, true, false, cond, List, [], ◌∷◌, ◌++◌, ℕ, length, eqb, if◌then◌else◌}
use Rattle.std.proofs.Common.{sym, ap, ◌∙◌, append_assoc}
use Rattle.std.proofs.Math.Option.{Option, none, some}
use Rattle.atlite.specs.Base.{Result, done, refused, ◌>>=◌, ◌>>◌, require}
use Rattle.atlite.specs.State.{Actor, State}
use Rattle.atlite.specs.Limits.{full, within_limits}
use Rattle.atlite.specs.Outcome.{Parcel, Effect, inner, taken, sends, creates, Outcome}
use Rattle.atlite.specs.Passing.{deliver}
use Rattle.atlite.specs.Move.{Answer, Inner, Taken, Sent, Created, answer_of, AfterMove, move}
use Rattle.atlite.specs.Run.{AfterRun, begun, after_entry, run_from, run}
use Rattle.promises.specs.Claim.{Event, event, events_of, trace, senders, creators, moves_of, Agree}
use Rattle.atlite_laws.specs.Facts.{none-some}
use Rattle.atlite.specs.Move as S
use Rattle.channels.specs.Machine as T
use Rattle.channels.specs.Actors.{quiet, sent, made}
use Rattle.channels.specs.ActorMachine.{free}
use Rattle.channels.specs.ActorMachine as M
use Rattle.channels.specs.Lists as L
use Rattle.channels.specs.Stable.{Grows}
use Rattle.channels.specs.Instance.{spread-after, Deed, deed, outcome, local, blank, Any, A, laws}

-- a move within the limits
abbrev limited : Bool → Deed × List Actor → Option (Deed × List Actor)
limited true r = some r
limited false r = none

abbrev step_of : ℕ → List Actor → Result Outcome → Option (Deed × List Actor)
step_of a s (refused n) = none
step_of a s (done E) = limited (within_limits full (S.moved a E s)) (deed E.effect, S.moved a E s)

abbrev step : ℕ → List Actor → Option (Deed × List Actor)
step a s = step_of a s (S.free s a)

sound : (a : ℕ) (s : List Actor) (r : Deed × List Actor) → Any s → step a s ≡ some r → free A a s ≡ some r
unfolding S.moved
sound a s r i h = go (S.free s a) h
  where
    within : (b : Bool) (q : Deed × List Actor) → limited b q ≡ some r → some q ≡ some r
    within true q e = e
    within false q e = absurd (none-some e)

    go : (o : Result Outcome) → step_of a s o ≡ some r → M.freed A a s (outcome o) ≡ some r
    go (refused n) e = absurd (none-some e)
    go (done E) e = rw (← (spread-after E.effect a E.own s)) (within (within_limits full (S.moved a E s)) (deed E.effect, S.moved a E s) e)

abbrev each : ℕ → List Actor → List (ℕ × Deed) × List Actor
each a s = L.entry a s (step a s)

-- an answer as the definitions give it, and a deed
data Says : Answer → Deed → Type 0 where
  says-inner : Says Inner (quiet tt)
  says-taken : Says Taken (quiet tt)
  says-sent : {p : Parcel} → Says (Sent p.to) (sent p.to p)
  says-created : {n : ℕ} {B : Actor} → Says (Created n) (made B)

says : (n : ℕ) (f : Effect) → Says (answer_of n f) (deed f)
unfolding answer_of
says n inner = says-inner
says n taken = says-taken
says n (sends p) = says-sent
says n (creates B) = says-created

-- a trace as the definitions give it, and one of the machine
data Alike : List Event → List (ℕ × Deed) → Type 0 where
  end : Alike [] []
  next : {a : ℕ} {r : Answer} {k : Deed} {es : List Event} {ms : List (ℕ × Deed)} → Says r k → Alike es ms → Alike (event a r ∷ es) ((a, k) ∷ ms)

alike-append : {es fs : List Event} {ms ns : List (ℕ × Deed)} → Alike es ms → Alike fs ns → Alike (es ++ fs) (ms ++ ns)
alike-append end k = k
alike-append (next h r) k = next h (alike-append r k)

same-choice : {X : Type 0} (b : Bool) (x y : X) → (if b then x else y) ≡ cond b x y
same-choice true x y = refl
same-choice false x y = refl

alike-moves : (b : ℕ) {es : List Event} {ms : List (ℕ × Deed)} → Alike es ms → moves_of b es ≡ L.count b ms
unfolding moves_of
alike-moves b end = refl
alike-moves b (next {a} h r) = rw (alike-moves b r) (same-choice (eqb a b) _ _)

alike-senders : (b : ℕ) {es : List Event} {ms : List (ℕ × Deed)} → Alike es ms → senders b es ≡ L.senders b ms
unfolding senders
alike-senders b end = refl
alike-senders b (next says-inner r) = alike-senders b r
alike-senders b (next says-taken r) = alike-senders b r
alike-senders b (next (says-sent {p}) r) = rw (alike-senders b r) (same-choice (eqb p.to b) _ _)
alike-senders b (next says-created r) = alike-senders b r

alike-creators : {es : List Event} {ms : List (ℕ × Deed)} → Alike es ms → creators es ≡ L.creators ms
unfolding creators
alike-creators end = refl
alike-creators (next says-inner r) = alike-creators r
alike-creators (next says-taken r) = alike-creators r
alike-creators (next says-sent r) = alike-creators r
alike-creators (next {a} says-created r) = ap (λ l. a ∷ l) (alike-creators r)

-- one entry of the definitions, and one of the machine
record Entry (σ : State) (a : ℕ) (m : Result AfterMove) (r : List (ℕ × Deed) × List Actor) : Type 0 where
  events : Alike (events_of a m) r.0
  left : (R : AfterRun) → R.state ≡ σ → (after_entry R m).state ≡ record { words = σ.words; actors = r.1 }

entry_of : (σ : State) (a : ℕ) → Entry σ a (move σ a) (each a σ.actors)
unfolding move S.move_within S.limited require events_of after_entry
entry_of σ a = go (S.free σ.actors a)
  where
    within : (b : Bool) (E : Outcome) → Entry σ a
        (require 16 b >> done (record { answer = answer_of (length σ.actors) E.effect; state = record { words = σ.words; actors = S.moved a E σ.actors } }))
        (L.entry a σ.actors (limited b (deed E.effect, S.moved a E σ.actors)))
    within true E = record { events = next (says (length σ.actors) E.effect) end; left = λ R e. refl }
    within false E = record { events = end; left = λ R e. e }

    go : (o : Result Outcome) → Entry σ a (o >>= S.limited full σ a) (L.entry a σ.actors (step_of a σ.actors o))
    go (refused n) = record { events = end; left = λ R e. e }
    go (done E) = within (within_limits full (S.moved a E σ.actors)) E

-- a run, and its end
run_ends : (es : List ℕ) (R : AfterRun) → (run_from R es).state ≡ record { words = R.state.words; actors = T.ends each es R.state.actors }
unfolding run_from
run_ends [] R = refl
run_ends (a ∷ es) R =
    run_ends es (after_entry R (move R.state a))
    ∙ ap (λ (σ : State). record { words = σ.words; actors = T.ends each es σ.actors }) ((entry_of R.state a).left R refl)

alike : (es : List ℕ) (σ : State) → Alike (trace σ es) (T.moved each es σ.actors)
unfolding trace run run_from
alike [] σ = end
alike (a ∷ es) σ =
    let R : AfterRun = begun σ in
    let e : (after_entry R (move σ a)).state ≡ record { words = σ.words; actors = (each a σ.actors).1 } = (entry_of σ a).left R refl in
    alike-append (entry_of σ a).events (rw e (alike es (record { words = σ.words; actors = (each a σ.actors).1 })))

pub same_entries : (σ : State) (xs ys : List ℕ) → Agree (trace σ xs) (trace σ ys) → (run σ xs).state ≡ (run σ ys).state
unfolding run
same_entries σ xs ys h =
    let R : AfterRun = begun σ in
    let s = σ.actors in
    let e : T.ends each xs s ≡ T.ends each ys s = L.schedules blank local deliver Any Grows laws each
    (L.entry_free blank local deliver Any Grows laws step sound) xs ys s tt
    (λ a. sym (alike-moves a (alike xs σ)) ∙ h.moves a ∙ alike-moves a (alike ys σ))
    (λ r. sym (alike-senders r (alike xs σ)) ∙ h.order r ∙ alike-senders r (alike ys σ))
    (sym (alike-creators (alike xs σ)) ∙ h.makers ∙ alike-creators (alike ys σ)) in
    run_ends xs R ∙ ap (λ l. record { words = σ.words; actors = l }) e ∙ sym (run_ends ys R)

-- only the state matters of what a run goes on from
run-again : (ys : List ℕ) (R : AfterRun) → (run_from R ys).state ≡ (run R.state ys).state
unfolding run
run-again ys R = run_ends ys R ∙ sym (run_ends ys (begun R.state))

run-append-from : (xs ys : List ℕ) (R : AfterRun) → (run_from R (xs ++ ys)).state ≡ (run (run_from R xs).state ys).state
unfolding run_from
run-append-from [] ys R = run-again ys R
run-append-from (a ∷ xs) ys R = run-append-from xs ys (after_entry R (move R.state a))

pub run-append : (xs ys : List ℕ) (σ : State) → (run σ (xs ++ ys)).state ≡ (run (run σ xs).state ys).state
unfolding run
run-append xs ys σ = run-append-from xs ys (begun σ)

pub trace-append : (xs ys : List ℕ) (σ : State) → trace σ (xs ++ ys) ≡ trace σ xs ++ trace (run σ xs).state ys
unfolding trace run run_from
trace-append [] ys σ = refl
trace-append (a ∷ xs) ys σ =
    let R : AfterRun = after_entry (begun σ) (move σ a) in
    ap (λ t. events_of a (move σ a) ++ t) (trace-append xs ys R.state ∙ ap (λ τ. trace R.state xs ++ trace τ ys) (sym (run-again xs R)))
    ∙ sym (append_assoc (events_of a (move σ a)) (trace R.state xs) _)
