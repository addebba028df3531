-- What the functions over a text's words answer, by positions: the text behind a position is `drop at t`, and what stands between
-- two positions is `slice at e t`. Assumes nothing.
use Rattle.std.specs.Prelude.{◌≡◌, Bool, true, false, ◌||◌, not, cond, List, [], ◌∷◌, ℕ, suc, ◌+◌, ◌-◌, ◌≤◌, ◌<◌, eqb, length, drop, if◌then◌else◌, Option, Some, None}
use Rattle.std.proofs.Math.Option.{none, some}
use Rattle.std.proofs.Math.Seq.{slice}
use Rattle.atlite.specs.Base.{same_bytes}
use Rattle.atlite.specs.Lexicon.{Bytes}
use Rattle.atlite.specs.Reader.{item, after}
use Rattle.decoding.specs.Kinds.{kind_in}

-- the run of letters and digits at `at` ends at e
pub record Run (t : Bytes) (at e : ℕ) : Type 0 where
  pub from : at ≤ e
  pub within : e ≤ length t
  pub is : (item (drop at t)).0 ≡ slice at e t
  pub rest : (item (drop at t)).1 ≡ drop e t

-- the bytes w come next, or not
unfoldable pub Starts : Bytes → ℕ → Bytes → Bool → Type 0
Starts t at w true = (after w (drop at t) ≡ some (drop (at + length w) t)) × (at + length w ≤ length t)
Starts t at w false = after w (drop at t) ≡ none

-- where w stands first in the list, or the list's length
unfoldable pub index : List Bytes → Bytes → ℕ
index [] w = 0
index (v ∷ vs) w = if same_bytes v w then 0 else suc (index vs w)

-- ---- reserved words
-- the entries whose words have lengths that pass
unfoldable pub sized : (ℕ → Bool) → List (Bytes × ℕ) → List (Bytes × ℕ)
sized p [] = []
sized p (r ∷ rs) = cond (p (length r.0)) (r ∷ sized p rs) (sized p rs)

-- what is answered of the kind of the word w: it is a reserved word's, or w is none
unfoldable pub Kinded : Bytes → Option ℕ → Type 0
Kinded w (Some k) = (k ≡ kind_in w) × (0 < k)
Kinded w None = 0 ≡ kind_in w

-- w is the word of none
unfoldable pub Unlike : List (Bytes × ℕ) → Bytes → Type 0
Unlike [] w = Unit {0}
Unlike (r ∷ rs) w = (same_bytes r.0 w ≡ false) × Unlike rs w

-- what stands from `at` to e has a length that passes
pub record Sized (p : ℕ → Bool) (t : Bytes) (at e : ℕ) : Type 0 where
  pub from : at ≤ e
  pub within : e ≤ length t
  pub size : p (e - at) ≡ true

-- the lengths of few reserved words
unfoldable pub others : ℕ → Bool
others n = not (eqb n 3 || eqb n 4 || eqb n 7)
