-- `loops`: the schedule line. What the loop that reads it has to show: the entries so far stand before the line that is left. Assumes nothing.
use Rattle.std.specs.Prelude.{Some, None, Bool, true, false, leb, ◌&&◌, refl, ℕ, ◌+◌, ◌≤◌, ◌<◌, ◌≡◌, get_or, set, if◌then◌else◌}
use Rattle.std.proofs.Common.{ap, ◌∙◌, arith, rules}
use mathlib.Core.List.{List, [], ◌∷◌}
use Rattle.std.proofs.Math.Option.{none}
use borrow.Author.Tests.{le-leb, leb-true}
use Rattle.std.proofs.Math.ListN.{length, drop}
use Rattle.std.proofs.Math.Seq.{drop-length}
use Rattle.atlite.specs.Loops.{entry, schedule}
use Rattle.input_line.specs.Limits.{longest}
use Rattle.input_line.specs.Lines.{first_byte}
use Rattle.input_line.specs.Entries.{DigitOf, EntriesOf, Reading, read-starts, read-ends, read-fails, read_goes}

-- Of the schedule line l the first i bytes are entries, which stand in front of xs.
pub record Scheduling (l xs : List ℕ) (i : ℕ) : Type 0 where
  pub passed : i ≤ length l
  pub short : length l ≤ longest
  pub read : Reading (schedule l) (schedule (drop i l)) xs i

pub schedule-starts : (l xs : List ℕ) → length l ≤ longest → length xs ≡ longest → Scheduling l xs 0
schedule-starts l xs h z = record { passed = omega arith; short = h; read = read-starts (schedule l) xs z }

-- the first byte
module _ (b : ℕ) (l : List ℕ) where
  schedule-none : (48 ≤ b → b ≤ 51 → ⊥) → schedule (b ∷ l) ≡ none
  unfolding schedule
  schedule-none n = go (leb 48 b) (leb b 51) refl refl
    where
      go : (x y : Bool) → leb 48 b ≡ x → leb b 51 ≡ y → (if x && y then entry b (schedule l) else none) ≡ none
      go true true e f = absurd (n (leb-true 48 b e) (leb-true b 51 f))
      go true false e f = refl
      go false y e f = refl

  schedule-more : 48 ≤ b → b ≤ 51 → schedule (b ∷ l) ≡ entry b (schedule l)
  unfolding schedule
  schedule-more h k = rw (le-leb 48 b h, le-leb b 51 k, schedule)

module _ (l xs : List ℕ) (i : ℕ) (g : Scheduling l xs i) where
  pub schedule-ends : length l ≤ i → EntriesOf (schedule l) xs (Some i)
  unfolding schedule
  schedule-ends h =
      let z : i ≡ length l = omega (arith, g.passed) in
      let d : drop i l ≡ [] = rw z (drop-length l) in
      read-ends (schedule l) (schedule (drop i l)) xs i g.read (ap schedule d)

  module _ (h : i < length l) where
    pub schedule-stops : DigitOf (get_or l i 0) 51 None → EntriesOf (schedule l) xs None
    schedule-stops k = read-fails (schedule l) (schedule (drop i l)) xs i g.read (ap schedule (first_byte l i h) ∙ schedule-none (get_or l i 0) (drop (i + 1) l) k)

    pub schedule-goes : (d : ℕ) → DigitOf (get_or l i 0) 51 (Some d) → Scheduling l (set xs i d) (i + 1)
    schedule-goes d k = record {
      passed = omega arith;
      short = g.short;
      read =
          read_goes (schedule l) (schedule (drop i l)) xs i g.read (get_or l i 0) d (schedule (drop (i + 1) l)) k.2
          (ap schedule (first_byte l i h) ∙ schedule-more (get_or l i 0) (drop (i + 1) l) k.0 k.1) (omega (arith, g.short));
    }

pub ruleset reading = (rules, schedule-starts, schedule-ends, schedule-stops, schedule-goes)
