-- The listing of a state, written behind other bytes: the listing comes first, so that nothing has been written where it is refused.
-- Assumes nothing.
use Rattle.std.specs.Prelude.{Ok, Err, ℕ, ◌+◌, ◌-◌, ◌≤◌, ◌≡◌, Bool, leb}
use Rattle.std.proofs.Math.Path.{refl, sym, ap}
use Rattle.std.proofs.Common.{◌∙◌, subst as transp, arith, rules, leb-true, length-drop, length-take-le}
use Rattle.std.proofs.Math.Bool.{true, false}
use mathlib.Core.List.{List, ◌++◌, append_assoc}
use Rattle.std.proofs.Math.ListN.{length, take, drop, length-append, take-append-drop}
use Rattle.std.proofs.lemmas.List.{drop-append-le}
use Rattle.std.proofs.Math.Seq.{drop-drop, drop_at}
use Rattle.atlite.specs.Base.{Result, done, refused, ◌>>=◌, ◌>>◌, require}
use Rattle.atlite_laws.specs.Facts.{refused-done}
use Rattle.atlite.specs.Lexicon.{Bytes}
use Rattle.atlite.specs.State.{State}
use Rattle.atlite.specs.Listing.{listing}
use Rattle.atlite.specs.Program.{listed, shown}
use Rattle.atlite.specs.Answers.{Returned, list_answer}
use Rattle.atlite.specs.Causes.{number}
use Rattle.atlite.specs.declared.Cause.{Cause}
use Rattle.promises.specs.Meaning.{answered, room, lent, list_call}
use Rattle.layout_laws.specs.Results.{done-same, refused-same, bind_done, then-done, require-done}
use Rattle.play.specs.Starts.{of_words}
use Rattle.transcript.specs.Output.{listing_room, Written, result-same, Fronted}

-- a state's listing behind the bytes h
unfoldable pub headed : Bytes → State → Result Bytes
headed h σ = listed σ >>= λ l. done (h ++ l)

abbrev counted : Bytes → ℕ × List ℕ
counted l = (length l, l)

-- what is listed fits
listed-fits : (w : List ℕ) (l : Bytes) → of_words listed w ≡ done l → length l ≤ listing_room
unfolding of_words listed
listed-fits w l e =
    let a = bind_done (lent w) listed l e in
    let b = then-done (require 6 (leb (length (listing a.0)) listing_room)) (done (listing a.0)) l a.2 in
    let z : listing a.0 ≡ l = done-same (listing a.0) l b.1 in
    transp (λ x. length x ≤ listing_room) z (leb-true (length (listing a.0)) listing_room (require-done 6 (leb (length (listing a.0)) listing_room) b.0))

module _ (w h old : List ℕ) (k : length h + listing_room ≤ length old) where
  -- what is lent of the text, and the text with other bytes put back
  abbrev page : List ℕ
  page = take (length h + listing_room - length h) (drop (length h) old)

  abbrev rest : List ℕ
  rest = drop (length h + listing_room - length h) (drop (length h) old)

  abbrev back : List ℕ → List ℕ
  back y = take (length h) old ++ (y ++ rest)

  page-length : length page ≡ listing_room
  page-length =
      let z : length h + listing_room - length h ≡ listing_room = omega arith in
      rw z (length-take-le listing_room (drop (length h) old) (omega (arith, length-drop (length h) old)))

  page-rest : page ++ rest ≡ drop (length h) old
  page-rest = take-append-drop (length h + listing_room - length h) (drop (length h) old)

  -- the call, by what is left to do
  list-is : (R : Result Bytes) → of_words listed w ≡ R → list_call w page ≡ answered page (R >>= λ l. done (counted l))
  unfolding list_call of_words listed room require
  list-is R e = ap (answered page) (go (lent w)) ∙ ap (λ X. answered page (X >>= λ l. done (counted l))) e
    where
      fit : (l : Bytes) (b : Bool) → (require 6 b >> done (counted l)) ≡ ((require 6 b >> done l) >>= λ l. done (counted l))
      fit l true = refl
      fit l false = refl

      go : (s : Result State) → (s >>= λ σ. (room (length (listing σ)) page >> done (counted (listing σ)))) ≡ ((s >>= listed) >>= λ l. done (counted l))
      go (refused n) = refl
      go (done σ) = rw page-length (fit (listing σ) (leb (length (listing σ)) listing_room))

  -- the listing is behind h
  headed-is : (R : Result Bytes) → of_words listed w ≡ R → of_words (headed h) w ≡ (R >>= λ l. done (h ++ l))
  unfolding of_words headed
  headed-is R e = go (lent w) ∙ ap (λ X. X >>= λ l. done (h ++ l)) e
    where
      go : (s : Result State) → (s >>= λ σ. (listed σ >>= λ l. done (h ++ l))) ≡ ((s >>= listed) >>= λ l. done (h ++ l))
      go (refused n) = refl
      go (done σ) = refl

  module _ (a : Returned ℕ) (mid : List ℕ) (e : list_answer a ≡ (list_call w page).result) (d : mid ≡ (list_call w page).buffer) where
    pub list-refuses : (n : Cause) → a ≡ Err n → (r : ℕ) (new : List ℕ) → Written (shown (refused (number n))) (back mid) r new → Written (shown (of_words (headed h) w)) old r new
    unfolding list_answer answered
    list-refuses n c r new g = go (of_words listed w) refl
      where
        go : (R : Result Bytes) → of_words listed w ≡ R → Written (shown (of_words (headed h) w)) old r new
        go (done l) i = absurd (refused-done (sym (ap list_answer c) ∙ e ∙ ap (λ X. X.result) (list-is (done l) i)))
        go (refused m) i =
            let z : m ≡ number n = refused-same m (number n) (sym (ap (λ X. X.result) (list-is (refused m) i)) ∙ sym e ∙ ap list_answer c) in
            let p : mid ≡ page = d ∙ ap (λ X. X.buffer) (list-is (refused m) i) in
            let o : back mid ≡ old = ap back p ∙ ap (λ x. take (length h) old ++ x) page-rest ∙ take-append-drop (length h) old in
            result-same (of_words (headed h) w) (refused (number n)) old r new (headed-is (refused m) i ∙ ap refused z) (transp (λ x. Written (shown (refused (number n))) x r new) o g)

    module _ (n : ℕ) (c : a ≡ Ok n) where
      -- the listing that was written
      wrote : (l : Bytes) × (of_words listed w ≡ done l) × (n ≡ length l) × (mid ≡ l ++ drop (length l) page)
      unfolding list_answer answered
      wrote = go (of_words listed w) refl
        where
          go : (R : Result Bytes) → of_words listed w ≡ R → (l : Bytes) × (of_words listed w ≡ done l) × (n ≡ length l) × (mid ≡ l ++ drop (length l) page)
          go (refused m) i = absurd (refused-done (sym (ap (λ X. X.result) (list-is (refused m) i)) ∙ sym e ∙ ap list_answer c))
          go (done l) i = (l, i, done-same n (length l) (sym (ap list_answer c) ∙ e ∙ ap (λ X. X.result) (list-is (done l) i)), d ∙ ap (λ X. X.buffer) (list-is (done l) i))

      pub list-few : n ≤ listing_room
      list-few = omega (arith, wrote.2, listed-fits w wrote.0 wrote.1)

      pub list-shows : (r : ℕ) (new : List ℕ) → Fronted h n (back mid) r new → Written (shown (of_words (headed h) w)) old r new
      unfolding shown
      list-shows r new g =
          let l = wrote.0 in
          let f = listed-fits w l wrote.1 in
          let t : drop (length h) (back mid) ≡ l ++ drop (length l) (drop (length h) old) =
          drop_at (take (length h) old) (mid ++ rest) (length h) (length-take-le (length h) old (omega arith))
          ∙ ap (λ x. x ++ rest) wrote.3
          ∙ append_assoc l (drop (length l) page) rest
          ∙ ap (λ x. l ++ x) (sym (drop-append-le (length l) page rest (omega (arith, page-length))) ∙ ap (drop (length l)) page-rest) in
          let u : drop (length l) (drop (length h) old) ≡ drop (length (h ++ l)) old = drop-drop (length l) (length h) old ∙ ap (λ i. drop i old) (sym (length-append h l)) in
          let m = length-append h l in
          result-same (of_words (headed h) w) (done (h ++ l)) old r new (headed-is (done l) wrote.1) (record {
            count = omega (arith, g.count, wrote.2);
            fits = omega (arith, g.count, wrote.2);
            text = g.text ∙ ap (λ x. h ++ x) (t ∙ ap (λ x. l ++ x) u) ∙ sym (append_assoc h l (drop (length (h ++ l)) old));
          })

pub ruleset laws = (rules, list-refuses, list-few, list-shows)
