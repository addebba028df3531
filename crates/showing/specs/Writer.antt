-- What a writer leaves in a text of any length. A writer never gives up: where the text has no room it counts on and stores
-- nothing, so two writes compose with no test between them and the same code measures a text and writes it. Positions stop at
-- 2^40, which no listing comes near; up to there they count exactly. Assumes nothing.
use Rattle.std.specs.Prelude.{◌≡◌, refl, List, [], ◌++◌, ℕ, ◌+◌, ◌≤◌, length}
use Rattle.std.proofs.Common.{◌∙◌, arith, length-append}
use Rattle.std.proofs.lemmas.List.Edits.{sets}
use Rattle.layout_laws.specs.Writes.{sets-append}

-- where positions stop
abbrev pub most : ℕ
most = 1099511627776

-- The bytes s were written at o into old, as far as it has room: then p is the next position.
pub record Wrote (old : List ℕ) (o : ℕ) (s : List ℕ) (new : List ℕ) (p : ℕ) : Type 0 where
  pub is : o + length s ≤ most → new ≡ sets old o s
  pub next : o + length s ≤ most → p ≡ o + length s
  pub small : p ≤ most

-- ---- the laws of writing
module _ (old : List ℕ) (o : ℕ) where
  pub wrote_none : o ≤ most → Wrote old o [] old o
  wrote_none h = record { is = λ e. refl; next = λ e. omega arith; small = h }

  pub wrote-two : (s t mid new : List ℕ) (p q : ℕ) → Wrote old o s mid p → Wrote mid p t new q → Wrote old o (s ++ t) new q
  wrote-two s t mid new p q a b =
      let n = length-append s t in
      record {
        is = λ e. let z : p ≡ o + length s = a.next (omega arith) in b.is (omega arith) ∙ rw (a.is (omega arith), z) (sets-append s t old o);
        next = λ e. let z : p ≡ o + length s = a.next (omega arith) in b.next (omega arith) ∙ omega arith;
        small = b.small;
      }
