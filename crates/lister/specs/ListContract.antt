-- What listing promises, and why it holds. Assumes nothing.
use Rattle.std.specs.Prelude.{◌≡◌, refl, List, [], ◌∷◌, ◌++◌, ℕ, zero, suc, ◌+◌, ◌≤◌, length, take, drop, set}
use Rattle.std.proofs.Common.{ap, ◌∙◌, zero-add, arith, length-take}
use Rattle.std.proofs.lemmas.List.Edits.{sets}
use Rattle.atlite.specs.State.{State}
use Rattle.atlite.specs.Valid.{IsState}
use Rattle.atlite.specs.Listing.{listing}
use Rattle.layout.specs.Numbers.{state_words}
use Rattle.layout.specs.Layout.{encode}
use Rattle.layout_laws.specs.StateFits.{state-fits}
use Rattle.showing.specs.Writer.{most, Wrote}
use Rattle.lister.specs.TextOfState.{listed_in}
use Rattle.lister.specs.States.{listing-shown}
use Rattle.lister.specs.Bounds.{listed-bound}

-- Of the words w the answer is r, and the text that was old is new. The words of a state give the length of its listing, and the
-- listing as far as the text has room, then what the text held. Of other words nothing is said.
pub record Lists (w old new : List ℕ) (r : ℕ) : Type 0 where
  pub count : (σ : State) → IsState σ → take state_words w ≡ encode σ → r ≡ length (listing σ)
  pub text : (σ : State) → IsState σ → take state_words w ≡ encode σ → new ≡ take (length old) (listing σ) ++ drop (length (listing σ)) old

-- ---- bytes set from the front on
sets-none : (i : ℕ) (s : List ℕ) → sets [] i s ≡ []
sets-none i [] = refl
sets-none i (x ∷ s) = sets-none (suc i) s

sets-later : (x : ℕ) (l : List ℕ) (i : ℕ) (s : List ℕ) → sets (x ∷ l) (suc i) s ≡ x ∷ sets l i s
sets-later x l i [] = refl
sets-later x l i (y ∷ s) = sets-later x (set l i y) (suc i) s

drop-none : (n : ℕ) → drop {A = ℕ} n [] ≡ []
drop-none zero = refl
drop-none (suc n) = refl

sets-front : (l s : List ℕ) → sets l 0 s ≡ take (length l) s ++ drop (length s) l
sets-front [] s = sets-none 0 s ∙ rw (drop-none (length s))
sets-front (x ∷ l) [] = refl
sets-front (x ∷ l) (y ∷ s) = sets-later y l 0 s ∙ ap {B = List ℕ} (λ u. y ∷ u) (sets-front l s)

-- ---- the words of a state
module _ (w old new : List ℕ) (r : ℕ) (a : Wrote old 0 (listed_in (take state_words w)) new r) where
  bound : 0 + length (listed_in (take state_words w)) ≤ most
  bound = let l = length-take state_words w in omega (arith, listed-bound (take state_words w) (omega arith))

  pub lists-whole : Lists w old new r
  lists-whole = record {
    count = λ σ h e. a.next bound ∙ rw zero-add (ap length (listing-shown σ (state-fits σ h) (take state_words w) e));
    text = λ σ h e. a.is bound ∙ ap (sets old 0) (listing-shown σ (state-fits σ h) (take state_words w) e) ∙ sets-front old (listing σ);
  }
