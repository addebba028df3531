-- The texts of the answers that calls give, and the space between two. Assumes nothing.
use Prim.Native.Nat.{ℕ, zero, suc, ◌≤◌}
use Rattle.std.specs.Prelude.{◌≡◌, Ok, Err, refl, List, [], ◌∷◌, length}
use Rattle.std.specs.Prelude as Code
use Rattle.std.proofs.Common.{subst as transp}
use native.Mathlib.Omega.{arith}
use Rattle.atlite.specs.Base.{Result, done, refused, bytes}
use Rattle.atlite.specs.Lexicon.{Bytes}
use Rattle.atlite.specs.Move.{Answer}
use Rattle.atlite.specs.Printer.{print_number}
use Rattle.atlite.specs.Replay.{answer_text}
use Rattle.atlite.specs.Answers.{Returned, move_answer}
use Rattle.atlite.specs.declared.ActorNo.{ActorNo}
use Rattle.atlite.specs.declared.Moved.{Moved}
use Rattle.atlite.specs.Causes.{number}
use Rattle.atlite.specs.declared.Cause.{Cause}
use Rattle.atlite.specs.declared.Moved.TheVariants as M
use Rattle.refusals.specs.ReturnedAs.{returned_as, moved_as, move-is}
use Rattle.showing.specs.declared.writer.Writer.{Writer}
use Rattle.showing.specs.Put.{Put, put_none, then}
use Rattle.transcript.specs.Digits.{byte-digits, cause-few}

-- what stands before the answer to a call that i others were made before
unfoldable pub gap : ℕ → Bytes
gap zero = []
gap (suc i) = 32 ∷ []

pub gap-few : (i : ℕ) → length (gap i) ≤ 1
unfolding gap
gap-few zero = omega arith
gap-few (suc i) = omega arith

unfoldable pub told : Result Answer → Bytes
told (done x) = answer_text x
told (refused n) = print_number n

-- The text s of an answer was put.
pub record Told (old : Writer) (s : List ℕ) (new : Writer) : Type 0 where
  pub put : Put old s new
  pub few : length s ≤ 4

pub gap-none : {a : Writer} {i : ℕ} → i ≡ 0 → Put a (gap i) a
unfolding gap
gap-none e = rw e put_none

pub gap-put : {a b : Writer} (i : ℕ) → (i ≡ 0 → ⊥) → Put a (32 ∷ []) b → Put a (gap i) b
unfolding gap
gap-put zero n g = absurd (n refl)
gap-put (suc i) n g = g

module _ {a b : Writer} where
  -- m is the byte n
  module _ {m n : ℕ} (e : m ≡ n) (h : n ≤ 255) where
    pub named_put : (l : ℕ) {c : Writer} → Put a (l ∷ []) b → Put b (print_number m) c → Told a (l ∷ print_number n) c
    named_put l {c} f g = transp (λ x. Told a (l ∷ print_number x) c) e (record { put = then {s = l ∷ []} f g; few = omega (arith, byte-digits m (omega arith)) })

    pub number-put : Put a (print_number m) b → Told a (print_number n) b
    number-put g = transp (λ x. Told a (print_number x) b) e (record { put = g; few = omega (arith, byte-digits m (omega arith)) })

  -- what is returned, r, tells its refusal c by the number why c
  module _ {C : Type 0} (why : C → ℕ) {r : Code.Result Moved C} where
    module _ {x : Moved} (e : r ≡ Ok x) where
      pub inner-told : x ≡ M.Inner → Put a (73 ∷ []) b → Told a (told (returned_as moved_as why r)) b
      unfolding told returned_as moved_as answer_text bytes
      inner-told f g = rw (e, f) (record { put = g; few = omega arith })

      pub taken-told : x ≡ M.Taken → Put a (84 ∷ []) b → Told a (told (returned_as moved_as why r)) b
      unfolding told returned_as moved_as answer_text bytes
      taken-told f g = rw (e, f) (record { put = g; few = omega arith })

      pub sent-told : (n : ActorNo) → x ≡ M.Sent n → Told a (83 ∷ print_number n.0) b → Told a (told (returned_as moved_as why r)) b
      unfolding told returned_as moved_as answer_text bytes
      sent-told n f g = rw (e, f) g

      pub created-told : (n : ActorNo) → x ≡ M.Created n → Told a (67 ∷ print_number n.0) b → Told a (told (returned_as moved_as why r)) b
      unfolding told returned_as moved_as answer_text bytes
      created-told n f g = rw (e, f) g

    pub refused-told : (c : C) → r ≡ Err c → {m : ℕ} → m ≡ why c → m ≤ 255 → Put a (print_number m) b → Told a (told (returned_as moved_as why r)) b
    unfolding told returned_as
    refused-told c e f h g = rw e (number-put f (omega arith) g)

  -- the same where a refusal is told by its cause, and so each of the five
  pub told-by-cause : (r : Returned Moved) → Told a (told (returned_as moved_as number r)) b → Told a (told (move_answer r)) b
  told-by-cause r g = transp (λ R. Told a (told R) b) (move-is r) g

  module _ {r : Returned Moved} {x : Moved} (e : r ≡ Ok x) where
    pub inner-put : x ≡ M.Inner → Put a (73 ∷ []) b → Told a (told (move_answer r)) b
    inner-put f g = told-by-cause r (inner-told number e f g)

    pub taken-put : x ≡ M.Taken → Put a (84 ∷ []) b → Told a (told (move_answer r)) b
    taken-put f g = told-by-cause r (taken-told number e f g)

    pub sent-put : (n : ActorNo) → x ≡ M.Sent n → Told a (83 ∷ print_number n.0) b → Told a (told (move_answer r)) b
    sent-put n f g = told-by-cause r (sent-told number e n f g)

    pub created-put : (n : ActorNo) → x ≡ M.Created n → Told a (67 ∷ print_number n.0) b → Told a (told (move_answer r)) b
    created-put n f g = told-by-cause r (created-told number e n f g)

  pub refused-put : {r : Returned Moved} (c : Cause) → r ≡ Err c → {m : ℕ} → m ≡ number c → Put a (print_number m) b → Told a (told (move_answer r)) b
  refused-put {r} c e f g = told-by-cause r (refused-told number c e f (omega (arith, cause-few c)) g)
