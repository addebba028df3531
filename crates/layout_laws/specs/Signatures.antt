-- A method's signature as one number: a name below some limit, and the number of parameters in the digits above it. Assumes nothing.
use Rattle.std.specs.Prelude.{ℕ, ◌+◌, ◌*◌, ◌<◌}
use Rattle.atlite.specs.Term.{Signature}

-- with names below L
abbrev pub signed : ℕ → Signature → ℕ
signed L s = s.0 + L * s.1

module _ (L : ℕ) where
  abbrev pub Below : Signature → Type 0
  Below s = s.0 < L
