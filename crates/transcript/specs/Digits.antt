-- A byte has three digits at most, and a cause's number is a byte. Assumes nothing.
use Rattle.std.specs.Prelude.{ℕ, suc, ◌+◌, ◌/◌, ◌%◌, ◌≤◌, ◌<◌, ◌≡◌, Bool, true, false, [], ◌∷◌, length, ltb}
use Rattle.std.proofs.Common.{sym, subst as transp, arith, lt-ltb}
use Rattle.atlite.specs.Lexicon.{Bytes}
use Rattle.atlite.specs.Printer.{digits, print_number}
use Rattle.atlite.specs.Causes.{number}
use Rattle.atlite.specs.declared.Cause.{Cause}
use Rattle.atlite.specs.declared.Cause.TheVariants as C

one-digit : (k n : ℕ) (v : Bytes) → n < 10 → digits (suc k) n v ≡ (48 + n) ∷ v
unfolding digits
one-digit k n v h = rw (lt-ltb n 10 h, digits)

pub byte-digits : (n : ℕ) → n ≤ 255 → length (print_number n) ≤ 3
unfolding print_number digits
byte-digits n h = go (ltb n 10) (ltb (n / 10) 10)
  where
    v : Bytes
    v = (48 + n / 10 % 10) ∷ (48 + n % 10) ∷ []

    go : (b c : Bool) → length {A = ℕ} (elim b as (λ b. Bytes) [ true ↦ (48 + n) ∷ [] | false ↦ elim c as (λ b. Bytes) [ true ↦ (48 + n / 10) ∷ (48 + n % 10) ∷ [] | false ↦ digits 6 (n / 10 / 10) v ] ]) ≤ 3
    go true c = omega arith
    go false true = omega arith
    go false false = transp (λ x. length x ≤ 3) (sym (one-digit 5 (n / 10 / 10) v (omega arith))) (omega arith)

pub cause-few : (c : Cause) → number c ≤ 16
cause-few C.TextLength = omega arith
cause-few C.Grammar = omega arith
cause-few C.Unbound = omega arith
cause-few C.Repeated = omega arith
cause-few C.Oversized = omega arith
cause-few C.ShortBuffer = omega arith
cause-few C.Malformed = omega arith
cause-few C.NoActor = omega arith
cause-few C.Idle = omega arith
cause-few C.NoReference = omega arith
cause-few C.Foreign = omega arith
cause-few C.Missing = omega arith
cause-few C.Resolved = omega arith
cause-few C.ResolvedWithFuture = omega arith
cause-few C.NotNumber = omega arith
cause-few C.Limit = omega arith
