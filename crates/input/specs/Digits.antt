-- The numbers in the records of test programs: so many decimal digits, of which one that is none counts as 0. Assumes nothing.
use Rattle.std.specs.Prelude.{ℕ, ◌+◌, ◌-◌, ◌*◌, ◌≤◌, ◌<◌, ◌≡◌, ◌&&◌, cond, List, leb, get_or}
use Rattle.std.proofs.Common.{arith, rules}
use borrow.Author.Tests.{le-leb, lt-leb}

unfoldable pub digit_of : ℕ → ℕ
digit_of b = cond (leb 48 b && leb b 57) (b - 48) 0

unfoldable pub two_at : List ℕ → ℕ → ℕ
two_at t at = digit_of (get_or t at 0) * 10 + digit_of (get_or t (at + 1) 0)

unfoldable pub five_at : List ℕ → ℕ → ℕ
five_at t at = two_at t at * 1000 + (two_at t (at + 2) * 10 + digit_of (get_or t (at + 4) 0))

-- ---- the ways to return
module _ (b : ℕ) where
  pub digit_low : b < 48 → 0 ≡ digit_of b
  unfolding digit_of
  digit_low h = rw (lt-leb 48 b h)

  pub digit-high : 57 < b → 0 ≡ digit_of b
  unfolding digit_of
  digit-high h = rw (le-leb 48 b (omega arith), lt-leb b 57 h)

  pub digit-is : 48 ≤ b → b ≤ 57 → b - 48 ≡ digit_of b
  unfolding digit_of
  digit-is l h = rw (le-leb 48 b l, le-leb b 57 h)

pub ruleset laws = (rules, digit_low, digit-high, digit-is)
