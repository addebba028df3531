-- One byte of a text after another, for its depth: what the function of a byte promises, and that the loop over the bytes comes to
-- the definition. Invariant: the depth from the bytes not yet read on is the depth of the text. Assumes nothing.
use Rattle.std.specs.Prelude.{ℕ, ◌+◌, ◌-◌, ◌≤◌, ◌<◌, max, ◌≡◌, refl, Bool, true, false, List, eqb, length, get_or, drop, if◌then◌else◌}
use Rattle.std.proofs.Common.{sym, ap, ◌∙◌, add-one, rules, drop_of_length-le, drop-cons}
use native.Mathlib.Omega.{arith}
use borrow.Author.Tests.{eq-eqb, ne_eqb}
use Rattle.atlite.specs.Reader.{depth_from, depth}

unfoldable pub opened_by : ℕ → ℕ → ℕ
opened_by b n = if eqb b 40 then n + 1 else if eqb b 41 then n - 1 else n

unfoldable pub most_by : ℕ → ℕ → ℕ → ℕ
most_by b n m = if eqb b 40 then max m (n + 1) else m

pub record Opened (b n r : ℕ) : Type 0 where
  pub is : r ≡ opened_by b n
  pub within : r ≤ n + 1

module _ (b n : ℕ) where
  pub opened-open : b ≡ 40 → Opened b n (n + 1)
  unfolding opened_by
  opened-open e = record { is = rw (eq-eqb b 40 e); within = omega arith }

  pub opened-close : (b ≡ 40 → ⊥) → b ≡ 41 → Opened b n (n - 1)
  unfolding opened_by
  opened-close h e = record { is = rw (ne_eqb b 40 h, eq-eqb b 41 e); within = omega arith }

  pub opened-other : (b ≡ 40 → ⊥) → (b ≡ 41 → ⊥) → Opened b n n
  unfolding opened_by
  opened-other h e = record { is = rw (ne_eqb b 40 h, ne_eqb b 41 e); within = omega arith }

  -- no more were open than are now, or were before
  most-is : (m : ℕ) → n ≤ m → max m (opened_by b n) ≡ most_by b n m
  unfolding opened_by most_by
  most-is m l = go (eqb b 40) (eqb b 41)
    where
      go : (c d : Bool) → max m (if c then n + 1 else if d then n - 1 else n) ≡ (if c then max m (n + 1) else m)
      go true d = refl
      go false true = omega arith
      go false false = omega arith

-- what is left to compute is what was asked
unfoldable pub Deepening : List ℕ → ℕ → ℕ → ℕ → Type 0
Deepening t n m i = depth_from n m (drop i t) ≡ depth t

pub deep-start : (t : List ℕ) → Deepening t 0 0 0
unfolding Deepening depth
deep-start t = refl

pub deep-on : (t : List ℕ) (n m i n' m' : ℕ) → Deepening t n m i → i < length t → n ≤ m → Opened (get_or t i 0) n n' → m' ≡ max m n' → Deepening t n' m' (i + 1)
unfolding Deepening depth_from opened_by most_by
deep-on t n m i n' m' h l k o s = rw (s, o.is, most-is (get_or t i 0) n m k, add-one i) (ap (depth_from n m) (sym (drop-cons t i 0 l)) ∙ h)

pub deep-done : (t : List ℕ) (n m i : ℕ) → Deepening t n m i → length t ≤ i → m ≡ depth t
unfolding Deepening depth_from
deep-done t n m i h l = ap (depth_from n m) (sym (drop_of_length-le t l)) ∙ h

pub ruleset laws = (rules, opened-open, opened-close, opened-other, deep-start, deep-on, deep-done)
