-- What reading promises of its count. Assumes nothing.
use Rattle.std.specs.Prelude.{Result, Ok, Err, ◌≡◌, List, ℕ, ◌≤◌, length, take}
use Rattle.std.proofs.Common.{arith, rules, length-take, length-take-le}
use Rattle.input.specs.declared.Unread.{Unread}

-- the bytes of r are within a buffer of m
unfoldable pub Within : Result ℕ Unread → ℕ → Type 0
Within r m = (n : ℕ) → r ≡ Ok n → n ≤ m

-- ---- the ways to return
pub all-within : (at m n : ℕ) → at ≤ n → m ≡ n → Within (Ok at) m
unfolding Within
all-within at m n h l k e = let z : at ≡ k = cc in omega arith

pub none_within : (x : Unread) (m : ℕ) → Within (Err x) m
unfolding Within
none_within x m n e = let z : ◌≡◌ {A = ℕ} 0 1 = cc in omega arith

pub ruleset laws = (rules, all-within, none_within)

-- ---- for callers: the bytes that were read, as a part of the buffer
module _ (r : Result ℕ Unread) (m n : ℕ) (w : Within r m) (e : r ≡ Ok n) where
  pub counts : n ≤ m
  unfolding Within
  counts = w n e

pub part-short : (n k : ℕ) (l : List ℕ) → length l ≡ k → length (take n l) ≤ k
part-short n k l h = omega (arith, length-take n l)

pub ruleset counted = (rules, length-take-le, counts, part-short)
