-- What the loops over messages return. Assumes nothing.
use Rattle.std.specs.Prelude.{ℕ, suc, ◌+◌, ◌-◌, ◌*◌, ◌≤◌, ◌<◌, ◌%◌, ◌≡◌, Bool, true, false, ◌&&◌, List, get_or}
use Rattle.std.proofs.Common.{refl, sym, ◌∙◌, arith, rules}
use Rattle.layout.specs.Numbers.{number_limit, message_size}
use Rattle.actor.specs.Tests.{arrived_at, arrivals_at, waits_at, waiters_at}

module _ (K : List ℕ) (a W : ℕ) (w : List ℕ) where
  -- ---- an inbox
  -- of n messages at `at`, those from the i-th on decide of all
  pub record Arriving (n at i : ℕ) : Type 0 where
    pub is : arrivals_at K a W w n at ≡ arrivals_at K a W w (n - i) (at + message_size * i)

  pub inbox-start : (n at : ℕ) → Arriving n at 0
  inbox-start n at =
      let e : n - 0 ≡ n = omega arith in
      let d : at + message_size * 0 ≡ at = omega arith in
      record { is = rw (e, d) refl }

  step-inbox : (n at i k : ℕ) → n - i ≡ suc k → arrivals_at K a W w (n - i) (at + message_size * i) ≡ (arrived_at K a W w (at + message_size * i) && arrivals_at K a W w (n - (i + 1)) (at + message_size * (i + 1)))
  unfolding arrivals_at
  step-inbox n at i k e =
      let d : n - (i + 1) ≡ k = omega arith in
      let j : at + message_size * (i + 1) ≡ at + message_size * i + message_size = omega arith in
      rw (e, d, j) refl

  module _ (n at i : ℕ) (h : Arriving n at i) where
    pub inbox-done : n ≤ i → true ≡ arrivals_at K a W w n at
    unfolding arrivals_at
    inbox-done l = let e : n - i ≡ 0 = omega arith in sym (h.is ∙ rw e)

    module _ (l : i < n) (v : Bool) (e : v ≡ arrived_at K a W w (at + message_size * i)) where
      pub inbox-stop : v ≡ false → false ≡ arrivals_at K a W w n at
      inbox-stop t = sym (h.is ∙ step-inbox n at i (n - i - 1) (omega arith) ∙ rw (← e, t))

      pub inbox-next : v ≡ true → Arriving n at (i + 1)
      inbox-next t = record { is = h.is ∙ step-inbox n at i (n - i - 1) (omega arith) ∙ rw (← e, t) }

  -- ---- those that wait
  module _ (m : ℕ) where
    pub record Waiting (n at low i : ℕ) : Type 0 where
      pub is : waiters_at K a W w m n 0 at ≡ waiters_at K a W w m (n - i) low (at + message_size * i)

    pub waiting-start : (n at : ℕ) → Waiting n at 0 0
    waiting-start n at =
        let e : n - 0 ≡ n = omega arith in
        let d : at + message_size * 0 ≡ at = omega arith in
        record { is = rw (e, d) refl }

    step-waiting : (n at low i k : ℕ) → n - i ≡ suc k
        → waiters_at K a W w m (n - i) low (at + message_size * i) ≡ (waits_at K a W w m low (at + message_size * i) && waiters_at K a W w m (n - (i + 1)) (get_or w (at + message_size * i + 1) 0 % number_limit) (at + message_size * (i + 1)))
    unfolding waiters_at
    step-waiting n at low i k e =
        let d : n - (i + 1) ≡ k = omega arith in
        let j : at + message_size * (i + 1) ≡ at + message_size * i + message_size = omega arith in
        rw (e, d, j) refl

    module _ (n at low i : ℕ) (h : Waiting n at low i) where
      pub waiting-done : n ≤ i → true ≡ waiters_at K a W w m n 0 at
      unfolding waiters_at
      waiting-done l = let e : n - i ≡ 0 = omega arith in sym (h.is ∙ rw e)

      module _ (l : i < n) (v : Bool) (e : v ≡ waits_at K a W w m low (at + message_size * i)) where
        pub waiting-stop : v ≡ false → false ≡ waiters_at K a W w m n 0 at
        waiting-stop t = sym (h.is ∙ step-waiting n at low i (n - i - 1) (omega arith) ∙ rw (← e, t))

        pub waiting-next : v ≡ true → Waiting n at (get_or w (at + message_size * i + 1) 0 % number_limit) (i + 1)
        waiting-next t = record { is = h.is ∙ step-waiting n at low i (n - i - 1) (omega arith) ∙ rw (← e, t) }

pub ruleset inbox_laws = (rules, inbox-start, inbox-done, inbox-stop, inbox-next)

pub ruleset waiting_laws = (rules, waiting-start, waiting-done, waiting-stop, waiting-next)
