-- Why the test for a state answers so: one law for each way to return. Assumes nothing.
use Prim.Native.Nat.{ℕ, suc, ◌+◌, ◌-◌, ◌*◌, ◌≤◌, ◌<◌}
use Rattle.std.specs.Prelude.{◌≡◌, Bool, Some, None, List, length, take, drop, get_or}
use Rattle.std.proofs.Math.Path.{refl, subst as transp}
use Rattle.std.proofs.Common.{sym, ap, ◌∙◌, rules, Fits, length-take, length-drop, take_all, length-take-le}
use Rattle.std.proofs.Math.Bool.{true, false, false≢true}
use Rattle.std.proofs.Math.Option.{Option, none, some}
use native.Mathlib.Omega.{arith}
use Rattle.std.specs.Int.{w32}
use Rattle.std.proofs.Math.Seq.{drop-drop}
use Rattle.atlite.specs.Base.{or_refuse, is_done}
use Rattle.atlite.specs.State.{State}
use Rattle.layout.specs.Numbers.{part_size, head_size, state_words}
use Rattle.layout.specs.Pack.{zeros}
use Rattle.decoding.specs.Decode.{state_of}
use Rattle.layout_laws.specs.StateLaws.{state-of-iff, state-length}
use Rattle.promises.specs.Meaning.{state_in}
use Rattle.words.specs.Runs.{Same}
use Rattle.dictionary.specs.Entries.{entries_hold}
use Rattle.actor.specs.PartContract.{Decides, IsPart}
use Rattle.entity_kinds.specs.Table.{Tabled}
use Rattle.state.specs.Conditions.{HeadHolds, PartsHold, kinds_for, AreState}
use Rattle.state.specs.StateLaws.{holds-state, state-holds}

-- ---- the head
denied : {P : Type 0} → (P → ⊥) → Decides P false
unfolding Decides
denied n = (λ e. absurd (false≢true e), λ p. absurd (n p))

module _ (w : List ℕ) (l : length w ≡ state_words) (n k : ℕ) (p : n ≡ get_or w 0 0) (q : k ≡ get_or w 1 0) where
  pub no-actor : n ≡ 0 → Decides (HeadHolds w) false
  no-actor e = denied (λ h. omega (arith, h.started))

  pub many-actors : 4 < n → Decides (HeadHolds w) false
  many-actors e = denied (λ h. omega (arith, h.actors))

  pub many-words : 64 < k → Decides (HeadHolds w) false
  many-words e = denied (λ h. omega (arith, h.words))

  module _ (s : n ≡ 0 → ⊥) (m : n ≤ 4) (j : k ≤ 64) where
    module _ (r : Bool) (t : Same (take (length w - (head_size + part_size * n)) (drop (head_size + part_size * n) w)) (zeros (length (take (length w - (head_size + part_size * n)) (drop (head_size + part_size * n) w)))) r) where
      rest-whole : take (length w - (head_size + part_size * n)) (drop (head_size + part_size * n) w) ≡ drop (head_size + part_size * n) w
      rest-whole = take_all (length w - (head_size + part_size * n)) (drop (head_size + part_size * n) w) (omega (arith, length-drop (head_size + part_size * n) w))

      rest-length : length (drop (head_size + part_size * n) w) ≡ state_words - (head_size + part_size * n)
      rest-length = omega (arith, length-drop (head_size + part_size * n) w)

      rest-same : Same (drop (head_size + part_size * n) w) (zeros (state_words - (head_size + part_size * n))) r
      rest-same = rw (← rest-length) (rw rest-whole at t)

      pub rest-not : r ≡ false → Decides (HeadHolds w) false
      rest-not e = denied (λ h. false≢true (sym e ∙ rest-same.complete (rw p h.rest)))

      module _ (d : Bool) (u : Same (take (head_size - (2 + 3 * k)) (drop (2 + 3 * k) w)) (zeros (length (take (head_size - (2 + 3 * k)) (drop (2 + 3 * k) w)))) d) where
        spare-length : length (take (head_size - (2 + 3 * k)) (drop (2 + 3 * k) w)) ≡ head_size - (2 + 3 * k)
        spare-length = length-take-le (head_size - (2 + 3 * k)) (drop (2 + 3 * k) w) (omega (arith, length-drop (2 + 3 * k) w))

        spare-same : Same (take (head_size - (2 + 3 * k)) (drop (2 + 3 * k) w)) (zeros (head_size - (2 + 3 * k))) d
        spare-same = transp (λ i. Same (take (head_size - (2 + 3 * k)) (drop (2 + 3 * k) w)) (zeros i) d) spare-length u

        pub spare-not : d ≡ false → Decides (HeadHolds w) false
        spare-not e = denied (λ h. false≢true (sym e ∙ spare-same.complete (rw q h.spare)))

        pub head-told : r ≡ true → d ≡ true → (b : Bool) → b ≡ entries_hold w 2 k → Decides (HeadHolds w) b
        unfolding Decides
        head-told e f b g = (
          (λ z. record {
            started = omega arith;
            actors = omega arith;
            words = omega arith;
            dictionary = rw (← q) (sym g ∙ z);
            spare = rw (← q) (spare-same.sound f);
            rest = rw (← p) (rest-same.sound e);
          }),
          (λ h. g ∙ rw q h.dictionary),
        )

-- ---- the parts
part : (w : List ℕ) (at : ℕ) → take (at + part_size - at) (drop at w) ≡ take part_size (drop at w)
part w at = let e : at + part_size - at ≡ part_size = omega arith in rw e

-- the first of those that are left, at a place
module _ (K : List ℕ) (W a n : ℕ) (w : List ℕ) (at : ℕ) where
  first_part : PartsHold K W a (suc n) (drop at w) → IsPart K a W (take (at + part_size - at) (drop at w)) × PartsHold K W (a + 1) n (drop (at + part_size) w)
  unfolding PartsHold
  first_part h = let e : a + 1 ≡ suc a = omega arith in (rw (part w at) h.0, rw (e, ← drop-drop part_size at w) h.1)

  both-parts : IsPart K a W (take (at + part_size - at) (drop at w)) → PartsHold K W (a + 1) n (drop (at + part_size) w) → PartsHold K W a (suc n) (drop at w)
  unfolding PartsHold
  both-parts g h = let e : a + 1 ≡ suc a = omega arith in (rw (part w at) at g, rw (drop-drop part_size at w, ← e) h)

-- the parts from the a-th on decide of all
pub record Left (K : List ℕ) (W n : ℕ) (w : List ℕ) (a : ℕ) : Type 0 where
  pub there : PartsHold K W 0 n (drop head_size w) → PartsHold K W a (n - a) (drop (head_size + part_size * a) w)
  pub back : PartsHold K W a (n - a) (drop (head_size + part_size * a) w) → PartsHold K W 0 n (drop head_size w)

module _ (K : List ℕ) (W n : ℕ) (w : List ℕ) where
  pub parts-start : Left K W n w 0
  parts-start = let e : n - 0 ≡ n = omega arith in record { there = λ h. rw e h; back = λ h. rw e at h }

  module _ (a : ℕ) (l : Left K W n w a) where
    pub parts-done : n ≤ a → Decides (PartsHold K W 0 n (drop head_size w)) true
    unfolding Decides PartsHold
    parts-done h = let e : n - a ≡ 0 = omega arith in ((λ t. l.back (rw e tt)), (λ g. refl))

    module _ (s : a < n) (at : ℕ) (i : at ≡ head_size + part_size * a) (r : Bool) (d : Decides (IsPart K a W (take (at + part_size - at) (drop at w))) r) where
      suc_rest : n - a ≡ suc (n - (a + 1))
      suc_rest = omega arith

      next_at : head_size + part_size * (a + 1) ≡ at + part_size
      next_at = omega arith

      pub parts-stop : r ≡ false → Decides (PartsHold K W 0 n (drop head_size w)) false
      unfolding Decides
      parts-stop e = denied (λ h. false≢true (sym e ∙ d.1 (first_part K W a (n - (a + 1)) w at (rw (suc_rest, ← i) at (l.there h))).0))

      pub parts-next : r ≡ true → Left K W n w (a + 1)
      unfolding Decides
      parts-next e =
          record {
            there = λ h. rw next_at (first_part K W a (n - (a + 1)) w at (rw (suc_rest, ← i) at (l.there h))).1;
            back = λ h. l.back (rw (suc_rest, ← i) (both-parts K W a (n - (a + 1)) w at (d.0 e) (rw next_at at h)));
          }

-- ---- all words
pub head-not : (w : List ℕ) (r : Bool) → Decides (HeadHolds w) r → r ≡ false → Decides (AreState w) false
unfolding Decides
head-not w r d e = denied (λ a. false≢true (sym e ∙ d.1 (state-holds w a).head))

pub head-holds : (w : List ℕ) (r : Bool) → Decides (HeadHolds w) r → r ≡ true → HeadHolds w
unfolding Decides
head-holds w r d e = d.0 e

module _ (w : List ℕ) (l : length w ≡ state_words) (h : HeadHolds w) (n : ℕ) (p : n ≡ get_or w 0 0) where
  pub table-not : Tabled w n None → Decides (AreState w) false
  table-not t = denied (λ a. t.complete (rw p (state-holds w a).few) refl)

  pub parts-told : (K : List ℕ) → Tabled w n (Some K) → ((i : ℕ) → Fits w32 (get_or w i 0)) → (b : Bool) → Decides (PartsHold K (get_or w 1 0) 0 n (drop head_size w)) b → Decides (AreState w) b
  unfolding Decides kinds_for
  parts-told K t f b d =
      let k : K ≡ kinds_for (get_or w 0 0) (drop head_size w) = t.is K refl ∙ rw p in (
        (λ z. holds-state w (record { count = l; small = f }) (record {
          head = h;
          few = rw (← p) (t.sound K refl);
          parts = rw (← k, ← p) (d.0 z);
        })),
        (λ a. d.1 (rw (k, p) (state-holds w a).parts)),
      )

-- ---- the call
module _ (w : List ℕ) where
  are-state : (σ : State) → state_of (take state_words w) ≡ some σ → AreState (take state_words w)
  are-state σ e = let h = (state-of-iff (take state_words w) σ).0 e in record { state = σ; valid = h.0; encoded = h.1 }

  no-state-in : (AreState (take state_words w) → ⊥) → false ≡ is_done (state_in w)
  unfolding is_done state_in or_refuse
  no-state-in n = go (state_of (take state_words w)) refl
    where
      go : (o : Option State) → state_of (take state_words w) ≡ o → false ≡ is_done (or_refuse 7 o)
      go none e = refl
      go (some σ) e = absurd (n (are-state σ e))

  pub words-short : length w < state_words → false ≡ is_done (state_in w)
  words-short h = no-state-in (λ a. omega (arith, ap length a.encoded, state-length a.state a.valid, length-take state_words w))

  pub state-told : (r : Bool) → Decides (AreState (take state_words w)) r → r ≡ is_done (state_in w)
  unfolding Decides is_done state_in or_refuse
  state-told true d = let a = d.0 refl in rw ((state-of-iff (take state_words w) a.state).1 (a.valid, a.encoded))
  state-told false d = no-state-in (λ a. false≢true (d.1 a))

pub ruleset laws = (rules, length-take-le, no-actor, many-actors, many-words, rest-not, spare-not, head-told, parts-start, parts-done, parts-stop, parts-next, head-not, head-holds, table-not, parts-told, words-short, state-told)
