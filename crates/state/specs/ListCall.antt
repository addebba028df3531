-- What the call `list` promises, and what each of its ways to return has to show. Whether words are a state is asked as the definitions
-- of the calls ask it: whether `state_in` gives one. Assumes nothing.
use Rattle.std.specs.Prelude.{ℕ, ◌≤◌, ◌<◌, ◌≡◌, refl, Bool, true, false, Ok, Err, List, ◌++◌, length, take}
use Rattle.std.proofs.Common.{sym, ◌∙◌, arith, rules, take_all}
use Rattle.std.proofs.Math.Path.{ap}
use Rattle.std.proofs.lemmas.Bool.{false≢true}
use Rattle.std.proofs.Math.Option.{Option, none, some}
use Rattle.std.proofs.Math.ListN.{drop}
use Rattle.atlite.specs.Base.{Result, done, refused, or_refuse, is_done}
use Rattle.atlite.specs.State.{State}
use Rattle.atlite.specs.Valid.{IsState}
use Rattle.atlite.specs.Listing.{listing}
use Rattle.atlite.specs.Answers.{list_answer}
use Rattle.atlite.specs.declared.Cause.TheVariants as C
use Rattle.layout.specs.Numbers.{state_words}
use Rattle.layout.specs.Layout.{encode}
use Rattle.decoding.specs.Decode.{state_of}
use Rattle.layout_laws.specs.StateLaws.{state-of-iff}
use Rattle.promises.specs.Meaning.{answered, state_in, lent, list_call, ListsCall}
use Rattle.layout_laws.specs.Outcomes.{room-enough, room-short}
use Rattle.atlite_laws.specs.Facts.{found}
use Rattle.lister.specs.ListContract.{Lists}

-- r is the length of the listing of the state in the words w
unfoldable pub Measures : List ℕ → ℕ → Type 0
Measures w r = (σ : State) → IsState σ → take state_words w ≡ encode σ → r ≡ length (listing σ)

pub measured : (w old new : List ℕ) (r : ℕ) → Lists w old new r → Measures w r
unfolding Measures
measured w old new r l = l.count

-- ---- whether words are a state, or what else a result is asked for
pub done-told : {A : Type 0} (r : Result A) → is_done r ≡ true → (a : A) × (r ≡ done a)
unfolding is_done
done-told (done a) h = (a, refl)
done-told (refused n) h = absurd (false≢true h)

pub refused-told : {A : Type 0} (o : Option A) → is_done (or_refuse 7 o) ≡ false → or_refuse 7 o ≡ refused 7
unfolding is_done or_refuse
refused-told (some a) h = absurd (false≢true (sym h))
refused-told none h = refl

pub is-told : (w : List ℕ) (r : Bool) → r ≡ is_done (state_in w) → r ≡ true → is_done (state_in w) ≡ true
is-told w r e d = sym e ∙ d

module _ (w old : List ℕ) where
  pub no_room : length w < state_words → ListsCall w old (Err C.ShortBuffer) old
  unfolding ListsCall list_answer list_call answered lent
  no_room h = rw (room-short state_words w h) (refl, refl)

  pub no-state : state_words ≤ length w → (r : Bool) → r ≡ is_done (state_in w) → r ≡ false → ListsCall w old (Err C.Malformed) old
  unfolding ListsCall list_answer list_call answered lent state_in
  no-state h r e d = rw (room-enough state_words w h, refused-told (state_of (take state_words w)) (sym e ∙ d)) (refl, refl)

  module _ (h : (state_words ≤ length w) × (is_done (state_in w) ≡ true)) where
    abbrev here : (σ : State) × (state_in w ≡ done σ)
    here = done-told (state_in w) h.1

    abbrev listed : List ℕ
    listed = listing here.0

    encoded : IsState here.0 × (encode here.0 ≡ take state_words w)
    unfolding state_in
    encoded = (state-of-iff (take state_words w) here.0).0 (found 7 (state_of (take state_words w)) here.0 here.1)

    lent-here : lent w ≡ done here.0
    unfolding lent
    lent-here = rw (room-enough state_words w h.0) here.1

    counted : (n : ℕ) → Measures w n → n ≡ length listed
    unfolding Measures
    counted n l = l here.0 encoded.0 (sym encoded.1)

    pub text-short : (n : ℕ) → Measures w n → length old < n → ListsCall w old (Err C.ShortBuffer) old
    unfolding ListsCall list_answer list_call answered
    text-short n l k = let c = counted n l in rw (lent-here, room-short (length listed) old (omega arith)) (refl, refl)

    pub text-written : (m : ℕ) → Measures w m → m ≤ length old → (new : List ℕ) (n : ℕ) → Lists w old new n → ListsCall w old (Ok n) new
    unfolding ListsCall list_answer list_call answered
    text-written m l k new n g =
        let c = counted m l in
        let d = counted n (measured w old new n g) in
        let t = g.text here.0 encoded.0 (sym encoded.1) in
        rw (lent-here, room-enough (length listed) old (omega arith))
        (ap done d, t ∙ ap (λ l. l ++ drop (length listed) old) (take_all (length old) listed (omega arith)))

pub ruleset laws = (rules, measured, is-told, no_room, no-state, text-short, text-written)
