-- The reply of any call: it is refused and leaves its list, or it answers and has written. Assumes nothing.
use Rattle.std.specs.Prelude.{ℕ, ◌≤◌, ◌<◌, ◌≡◌, List, ◌++◌, length, drop, leb}
use Rattle.std.proofs.Math.Path.{refl}
use Rattle.std.proofs.Common.{sym, ap, ◌∙◌, subst as transp, arith, le-leb, leb-true, length-append, length-drop}
use Rattle.std.proofs.lemmas.Bool.{lt-leb}
use Rattle.atlite.specs.Base.{Result, done, refused, require}
use Rattle.atlite_laws.specs.Facts.{refused-done}
use Rattle.promises.specs.Meaning.{Reply, answered, room}
use Rattle.layout_laws.specs.Results.{done-same, require-done}

-- ---- room
pub room-done : (n : ℕ) (w : List ℕ) → room n w ≡ done tt → n ≤ length w
unfolding room
room-done n w e = leb-true n (length w) (require-done 6 (leb n (length w)) e)

pub room-enough : (n : ℕ) (w : List ℕ) → n ≤ length w → room n w ≡ done tt
unfolding room require
room-enough n w h = rw (le-leb n (length w) h)

pub room-short : (n : ℕ) (w : List ℕ) → length w < n → room n w ≡ refused 6
unfolding room require
room-short n w h = rw (lt-leb n (length w) h)

-- ---- outcomes
-- a refusal that leaves the list `old`, or an answer with words for which P, written in front of what `old` has past them
pub data Outcome {A : Type 0} (old : List ℕ) (P : A → List ℕ → Type 0) (R : Reply A) : Type 0 where
  refusal : (n : ℕ) → R ≡ record { result = refused n; buffer = old } → Outcome old P R
  writing : (a : A) (w : List ℕ) → P a w → R ≡ record { result = done a; buffer = w ++ drop (length w) old } → Outcome old P R

module _ {A : Type 0} (old : List ℕ) (P : A → List ℕ → Type 0) where
  pub outcome : (r : Result (A × List ℕ)) → ((a : A) (w : List ℕ) → r ≡ done (a, w) → P a w) → Outcome old P (answered old r)
  unfolding answered
  outcome (refused n) f = refusal n refl
  outcome (done x) f = writing x.0 x.1 (f x.0 x.1 refl) refl

  -- a refusal leaves the list
  pub refusal-leaves : (R : Reply A) (n : ℕ) → Outcome old P R → R.result ≡ refused n → R.buffer ≡ old
  refusal-leaves R n (refusal k e) d = ap (λ S. S.buffer) e
  refusal-leaves R n (writing a w p e) d = absurd (refused-done (sym d ∙ ap (λ S. S.result) e))

  pub answer-writes : (R : Reply A) (a : A) → Outcome old P R → R.result ≡ done a → (w : List ℕ) × P a w × (R.buffer ≡ w ++ drop (length w) old)
  answer-writes R a (refusal n e) d = absurd (refused-done (sym (ap (λ S. S.result) e) ∙ d))
  answer-writes R a (writing b w p e) d =
      let z : b ≡ a = done-same b a (sym (ap (λ S. S.result) e) ∙ d) in
      (w, transp (λ c. P c w) z p, ap (λ S. S.buffer) e)

  -- the list has the length that it had
  pub length-stays : (R : Reply A) → ((a : A) (w : List ℕ) → P a w → length w ≤ length old) → Outcome old P R → length R.buffer ≡ length old
  length-stays R f (refusal n e) = ap (λ S. length S.buffer) e
  length-stays R f (writing a w p e) =
      ap (λ S. length S.buffer) e ∙ length-append w (drop (length w) old) ∙ omega (arith, length-drop (length w) old, f a w p)
