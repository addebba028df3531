-- What the tests of a chain say of a number whose range is known: a test against a literal is then decided by computing, so that
-- `simp` and `search` go through the chain by themselves. Assumes nothing.
use Rattle.std.specs.Prelude.{◌≡◌, true, false, ℕ, ◌≤◌, ◌<◌, eqb, leb, ltb}
use Rattle.std.proofs.Common.{arith, le-ltb, ne_eqb, leb-true, ltb-true}

module _ {k a : ℕ} where
  pub past : a ≤ k → (b : ℕ) → leb b a ≡ true → ltb k b ≡ false
  past l b e = le-ltb k b (omega (arith, leb-true b a e))

  pub over : a ≤ k → (b : ℕ) → ltb b a ≡ true → eqb k b ≡ false
  over l b e = ne_eqb k b (λ z. omega (arith, ltb-true b a e))

  pub under : k < a → (b : ℕ) → leb a b ≡ true → eqb k b ≡ false
  under u b e = ne_eqb k b (λ z. omega (arith, leb-true a b e))
