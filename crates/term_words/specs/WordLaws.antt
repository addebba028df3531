-- The laws of the functions that test one word: one for each way to return. Assumes nothing.
use Prim.Native.Nat.{ℕ, zero, suc, ◌+◌, ◌*◌, ◌/◌, ◌%◌, ◌≤◌, ◌<◌}
use Rattle.std.specs.Prelude.{◌≡◌, Bool, ◌&&◌, cond, Some, None, List, get_or}
use Rattle.std.proofs.Math.Path.{refl, sym, ap, ap₂}
use Rattle.std.proofs.Common.{◌∙◌, true≢false, rules}
use Rattle.std.proofs.Math.Bool.{true, false, and_assoc}
use Rattle.std.proofs.Math.Option.{Option, none, some}
use native.Mathlib.Omega.{arith}
use borrow.Author.Tests.{eqb-true, eqb-false, ltb-false, lt-ltb, le-ltb, le-leb, lt-leb, eq-eqb, ne_eqb}
use Rattle.std.proofs.Math.Dec.{eqb, ltb, leb}
use Rattle.atlite.specs.Term.{Series, made, copied, null, num, Name, plain, two_way, resolve, register, top}
use Rattle.atlite.specs.declared.MadeNo.{MadeNo}
use Rattle.atlite.specs.declared.CopyNo.{CopyNo}
use Rattle.atlite.specs.Valid.{is_name, is_variable, sendable, callable, unreferring}
use Rattle.layout.specs.Numbers.{payload, name_limit, no_name, tag_limit, number_limit, slot_count}
use Rattle.layout_laws.specs.Parse.{value_in, value_at, name_of}
use Rattle.decoding.specs.TermReading.{series_in, ref_in}
use Rattle.heap.specs.declared.EntityNo.{EntityNo}
use Rattle.heap.specs.declared.EntityNo.TheVariants.{Made, Copied}
use Rattle.heap.specs.EntityNumbers.{series_of, number_of, EntityIn}
use Rattle.term_words.specs.Kinds.{kind_at, there, kind_of, visible_kind, allowed}
use Rattle.term_words.specs.Words.{within, holds, send_in, call_in, lone}

-- what passes is there
pub within-true : {A : Type 0} (p : A → Bool) (o : Option A) → within p o ≡ true → (a : A) × (o ≡ some a) × (p a ≡ true)
unfolding within
within-true p none e = absurd (true≢false (sym e))
within-true p (some a) e = (a, refl, e)

-- ---- names
module _ (w x : ℕ) where
  pub name-low : x < 7 → false ≡ is_name w x
  unfolding is_name
  name-low l = rw (lt-leb 7 x l)

  pub name-yes : 7 ≤ x → x < 8 + w → true ≡ is_name w x
  unfolding is_name
  name-yes l h = rw (le-leb 7 x l, lt-ltb x (8 + w) h)

  pub name-high : 7 ≤ x → 8 + w ≤ x → false ≡ is_name w x
  unfolding is_name
  name-high l h = rw (le-leb 7 x l, le-ltb x (8 + w) h)

  pub variable-this : x ≡ 0 → false ≡ is_variable w x
  unfolding is_variable
  variable-this e = rw e

  pub variable-yes : (x ≡ 0 → ⊥) → x < 8 + w → true ≡ is_variable w x
  unfolding is_variable
  variable-yes z h = let l : 0 < x = omega arith in rw (lt-ltb 0 x l, lt-ltb x (8 + w) h)

  pub variable-high : (x ≡ 0 → ⊥) → 8 + w ≤ x → false ≡ is_variable w x
  unfolding is_variable
  variable-high z h = let l : 0 < x = omega arith in rw (lt-ltb 0 x l, le-ltb x (8 + w) h)

pub ruleset name-laws = (rules, name-low, name-yes, name-high, variable-this, variable-yes, variable-high)

-- ---- references
pub kind-there : (k : ℕ) → (k ≡ 0 → ⊥) → Some k ≡ there k
unfolding there
kind-there k z = rw (ne_eqb k 0 z)

pub kind-nowhere : (k : ℕ) → k ≡ 0 → None ≡ there k
unfolding there
kind-nowhere k z = rw z

pub ruleset there_laws = (rules, kind-there, kind-nowhere)

pub none-there : (k : ℕ) → None ≡ there k → k ≡ 0
unfolding there
none-there k e = go (eqb k 0) refl e
  where
    go : (b : Bool) → eqb k 0 ≡ b → None ≡ cond b None (Some k) → k ≡ 0
    go true i e = eqb-true k 0 i
    go false i e = cc

pub some-there : (n k : ℕ) → Some n ≡ there k → (k ≡ n) × (n ≡ 0 → ⊥)
unfolding there
some-there n k e = go (eqb k 0) refl e
  where
    go : (b : Bool) → eqb k 0 ≡ b → Some n ≡ cond b None (Some k) → (k ≡ n) × (n ≡ 0 → ⊥)
    go true i e = cc
    go false i e = (cc, λ z. eqb-false k 0 i (cc))

module _ (K : List ℕ) (q : ℕ) where
  pub kind-far : 4 ≤ q / number_limit / 2 → None ≡ there (kind_of K (ref_in q))
  unfolding kind_of kind_at there
  kind-far h = go (series_in (q / number_limit % 2))
    where
      go : (s : Series) → None ≡ there (kind_at K (q / number_limit / 2) s (q % number_limit))
      go made = rw (le-ltb (q / number_limit / 2) 4 h)
      go copied = rw (le-ltb (q / number_limit / 2) 4 h)

  -- by the entity that it names
  module _ (b : q / number_limit / 2 < 4) (e : EntityNo) (E : EntityIn q e) where
    named : (s : Series) (n : ℕ) → series_of e ≡ s → number_of e ≡ n → kind_at K (q / number_limit / 2) s n ≡ kind_of K (ref_in q)
    unfolding kind_of
    named s n es en = ap₂ (kind_at K (q / number_limit / 2)) (sym es ∙ E.series) (sym en ∙ E.number)

    module _ (n : MadeNo) (h : e ≡ Made n) where
      its-made : kind_at K (q / number_limit / 2) made n.0 ≡ kind_of K (ref_in q)
      unfolding series_of number_of
      its-made = named made n.0 (ap series_of h) (ap number_of h)

      pub kind-made : n.0 < 32 → there (get_or K (slot_count * (q / number_limit / 2) + n.0) 0) ≡ there (kind_of K (ref_in q))
      unfolding kind_at
      kind-made l = ap there (rw (lt-ltb (q / number_limit / 2) 4 b, lt-ltb n.0 32 l) at its-made)

      pub kind-unmade : 32 ≤ n.0 → None ≡ there (kind_of K (ref_in q))
      unfolding kind_at there
      kind-unmade l = ap there (rw (lt-ltb (q / number_limit / 2) 4 b, le-ltb n.0 32 l) at its-made)

    module _ (n : CopyNo) (h : e ≡ Copied n) where
      its-copied : kind_at K (q / number_limit / 2) copied n.0 ≡ kind_of K (ref_in q)
      unfolding series_of number_of
      its-copied = named copied n.0 (ap series_of h) (ap number_of h)

      pub kind-copied : n.0 < 16 → there (get_or K (slot_count * (q / number_limit / 2) + (32 + n.0)) 0) ≡ there (kind_of K (ref_in q))
      unfolding kind_at
      kind-copied l = ap there (rw (lt-ltb (q / number_limit / 2) 4 b, lt-ltb n.0 16 l) at its-copied)

      pub kind-uncopied : 16 ≤ n.0 → None ≡ there (kind_of K (ref_in q))
      unfolding kind_at there
      kind-uncopied l = ap there (rw (lt-ltb (q / number_limit / 2) 4 b, le-ltb n.0 16 l) at its-copied)

  module _ (a : ℕ) where
    seen-kind : allowed K a (ref_in q) ≡ visible_kind a (q / number_limit / 2) (kind_of K (ref_in q))
    unfolding allowed kind_of
    seen-kind = refl

    pub reference-none : None ≡ there (kind_of K (ref_in q)) → false ≡ allowed K a (ref_in q)
    unfolding visible_kind there
    reference-none z = rw (seen-kind, none-there (kind_of K (ref_in q)) z)

    module _ (k : ℕ) (e : Some k ≡ there (kind_of K (ref_in q))) where
      its-kind : (kind_of K (ref_in q) ≡ k) × (k ≡ 0 → ⊥)
      unfolding there
      its-kind = some-there k (kind_of K (ref_in q)) e

      pub reference-own : a ≡ q / number_limit / 2 → true ≡ allowed K a (ref_in q)
      unfolding visible_kind
      reference-own o = rw (seen-kind, its-kind.0, ne_eqb k 0 its-kind.1, eq-eqb a (q / number_limit / 2) o)

      module _ (o : a ≡ q / number_limit / 2 → ⊥) where
        pub reference-isolate : k ≡ 2 → false ≡ allowed K a (ref_in q)
        unfolding visible_kind
        reference-isolate i = rw (seen-kind, its-kind.0, ne_eqb k 0 its-kind.1, ne_eqb a (q / number_limit / 2) o, eq-eqb k 2 i)

        pub reference-other : (k ≡ 2 → ⊥) → true ≡ allowed K a (ref_in q)
        unfolding visible_kind
        reference-other i = rw (seen-kind, its-kind.0, ne_eqb k 0 its-kind.1, ne_eqb a (q / number_limit / 2) o, ne_eqb k 2 i)

pub ruleset kind_laws = (rules, kind-far, kind-made, kind-unmade, kind-copied, kind-uncopied)

pub ruleset reference_laws = (rules, reference-none, reference-own, reference-isolate, reference-other)

-- ---- values
module _ (x : ℕ) (K : List ℕ) (a : ℕ) where
  pub value-null : (refs : Bool) → x / payload ≡ 1 → eqb (x % payload) 0 ≡ within (holds refs K a) (value_at x)
  unfolding within holds value_at value_in allowed unreferring
  value-null refs e = rw e (go refs (eqb (x % payload) 0))
    where
      go : (refs b : Bool) → b ≡ within (holds refs K a) (cond b (some null) none)
      go true true = refl
      go false true = refl
      go refs false = refl

  pub value-number : (refs : Bool) → x / payload ≡ 2 → true ≡ within (holds refs K a) (value_at x)
  unfolding within holds value_at value_in allowed unreferring
  value-number refs e = rw e (go refs)
    where
      small : leb (x % payload) top ≡ true
      small = le-leb (x % payload) top (omega arith)

      go : (refs : Bool) → true ≡ holds refs K a (num (x % payload))
      go true = rw small
      go false = rw small

  pub value-reference : (r refs : Bool) → x / payload ≡ 3 → refs ≡ true → r ≡ allowed K a (ref_in (x % payload)) → r ≡ within (holds refs K a) (value_at x)
  unfolding within holds value_at value_in
  value-reference r refs e t h = rw (e, t) h

  pub value-isolated : (refs : Bool) → x / payload ≡ 3 → refs ≡ false → false ≡ within (holds refs K a) (value_at x)
  unfolding within holds value_at value_in unreferring
  value-isolated refs e t = rw (e, t)

  pub value_none : (refs : Bool) → (x / payload ≡ 1 → ⊥) → (x / payload ≡ 2 → ⊥) → (x / payload ≡ 3 → ⊥) → false ≡ within (holds refs K a) (value_at x)
  unfolding within value_at value_in
  value_none refs i j k = go (x / payload) i j k
    where
      go : (n : ℕ) → (n ≡ 1 → ⊥) → (n ≡ 2 → ⊥) → (n ≡ 3 → ⊥) → false ≡ within (holds refs K a) (value_in n (x % payload))
      go zero i j k = refl
      go (suc zero) i j k = absurd (i refl)
      go (suc (suc zero)) i j k = absurd (j refl)
      go (suc (suc (suc zero))) i j k = absurd (k refl)
      go (suc (suc (suc (suc n)))) i j k = refl

pub ruleset value_laws = (rules, value-null, value-number, value-reference, value-isolated, value_none)

-- ---- the name of a call or a send
module _ (n low high : ℕ) (o : Bool) (w x : ℕ) (e : o ≡ is_name w x) where
  pub named-few : o ≡ true → n < low → false ≡ is_name w x && (leb low n && leb n high)
  named-few t l = rw (sym e ∙ t, lt-leb low n l)

  pub named-many : o ≡ true → low ≤ n → high < n → false ≡ is_name w x && (leb low n && leb n high)
  named-many t l h = rw (sym e ∙ t, le-leb low n l, lt-leb n high h)

  pub named-yes : o ≡ true → low ≤ n → n ≤ high → true ≡ is_name w x && (leb low n && leb n high)
  named-yes t l h = rw (sym e ∙ t, le-leb low n l, le-leb n high h)

  pub named-not : o ≡ false → false ≡ is_name w x && (leb low n && leb n high)
  named-not t = rw (sym e ∙ t)

module _ (x n : ℕ) where
  pub lone-yes : x ≡ 0 → n ≡ 1 → true ≡ lone x n
  unfolding lone
  lone-yes e i = rw (e, i)

  pub lone-not : x ≡ 0 → (n ≡ 1 → ⊥) → false ≡ lone x n
  unfolding lone
  lone-not e i = rw (e, ne_eqb n 1 i)

  pub lone-named : (x ≡ 0 → ⊥) → false ≡ lone x n
  unfolding lone
  lone-named e = rw (ne_eqb x 0 e)

pub ruleset named-laws = (rules, named-few, named-many, named-yes, named-not, lone-yes, lone-not, lone-named)

-- what is no name at all is none that passes
module _ (w : ℕ) (l : w ≤ 64) where
  pub name-past : (x : ℕ) → no_name ≤ x → is_name w x ≡ false
  unfolding is_name
  name-past x h = rw (le-leb 7 x (omega arith), le-ltb x (8 + w) (omega arith))

  name-within : (t : Name → Bool) (x : ℕ) (m : Name) (o : Bool) → t m ≡ is_name w x && o → is_name w x && o ≡ within t (cond (ltb x no_name) (some m) none)
  unfolding within
  name-within t x m o e = go (ltb x no_name) refl
    where
      go : (b : Bool) → ltb x no_name ≡ b → is_name w x && o ≡ within t (cond b (some m) none)
      go true i = sym e
      go false i = rw (name-past x (ltb-false x no_name i))

  lone-within : (t : Name → Bool) (x n : ℕ) (m : Name) → t m ≡ eqb n 1 → lone x n ≡ within t (cond (eqb x 0) (some m) none)
  unfolding within lone
  lone-within t x n m e = go (eqb x 0)
    where
      go : (b : Bool) → b && eqb n 1 ≡ within t (cond b (some m) none)
      go true = sym e
      go false = refl

  module _ (p : ℕ) (r : Bool) where
    plain-within : (t : Name → Bool) (m : Name) → t m ≡ is_name w (p % name_limit) && leb (p / name_limit / tag_limit) 3
        → r ≡ is_name w (p % name_limit) && (leb 0 (p / name_limit / tag_limit) && leb (p / name_limit / tag_limit) 3) → r ≡ within t (cond (ltb (p % name_limit) no_name) (some m) none)
    plain-within t m e h = h ∙ rw (le-leb 0 (p / name_limit / tag_limit) (omega arith)) (name-within t (p % name_limit) m (leb (p / name_limit / tag_limit) 3) e)

    pub send-plain : p / name_limit % tag_limit ≡ 0 → r ≡ is_name w (p % name_limit) && (leb 0 (p / name_limit / tag_limit) && leb (p / name_limit / tag_limit) 3) → r ≡ send_in w p
    unfolding send_in name_of sendable
    send-plain e h = rw e (plain-within (λ m. sendable w m (p / name_limit / tag_limit)) (plain (p % name_limit)) refl h)

    pub send-two-way : p / name_limit % tag_limit ≡ 1 → r ≡ is_name w (p % name_limit) && (leb 1 (p / name_limit / tag_limit) && leb (p / name_limit / tag_limit) 4) → r ≡ send_in w p
    unfolding send_in name_of sendable
    send-two-way e h = h ∙ rw e (name-within (λ m. sendable w m (p / name_limit / tag_limit)) (p % name_limit) (two_way (p % name_limit)) (leb 1 (p / name_limit / tag_limit) && leb (p / name_limit / tag_limit) 4) (and_assoc (is_name w (p % name_limit)) (leb 1 (p / name_limit / tag_limit)) (leb (p / name_limit / tag_limit) 4)))

    pub send-resolve : p / name_limit % tag_limit ≡ 2 → r ≡ lone (p % name_limit) (p / name_limit / tag_limit) → r ≡ send_in w p
    unfolding send_in name_of sendable
    send-resolve e h = h ∙ rw e (lone-within (λ m. sendable w m (p / name_limit / tag_limit)) (p % name_limit) (p / name_limit / tag_limit) resolve refl)

    pub send-register : (p / name_limit % tag_limit ≡ 0 → ⊥) → (p / name_limit % tag_limit ≡ 1 → ⊥) → (p / name_limit % tag_limit ≡ 2 → ⊥) → r ≡ lone (p % name_limit) (p / name_limit / tag_limit) → r ≡ send_in w p
    unfolding send_in name_of sendable
    send-register i j k h =
        let e : p / name_limit % tag_limit ≡ 3 = omega arith in
        h ∙ rw e (lone-within (λ m. sendable w m (p / name_limit / tag_limit)) (p % name_limit) (p / name_limit / tag_limit) register refl)

    pub send-lone : (p / name_limit % tag_limit ≡ 0 → ⊥) → (p / name_limit % tag_limit ≡ 1 → ⊥) → r ≡ lone (p % name_limit) (p / name_limit / tag_limit) → r ≡ send_in w p
    send-lone i j h = go (eqb (p / name_limit % tag_limit) 2) refl
      where
        go : (b : Bool) → eqb (p / name_limit % tag_limit) 2 ≡ b → r ≡ send_in w p
        go true e = send-resolve (eqb-true (p / name_limit % tag_limit) 2 e) h
        go false e = send-register i j (eqb-false (p / name_limit % tag_limit) 2 e) h

    pub call-plain : p / name_limit % tag_limit ≡ 0 → r ≡ is_name w (p % name_limit) && (leb 0 (p / name_limit / tag_limit) && leb (p / name_limit / tag_limit) 3) → r ≡ call_in w p
    unfolding call_in name_of callable
    call-plain e h = rw e (plain-within (λ m. callable w m (p / name_limit / tag_limit)) (plain (p % name_limit)) refl h)

    pub call-resolve : p / name_limit % tag_limit ≡ 2 → r ≡ lone (p % name_limit) (p / name_limit / tag_limit) → r ≡ call_in w p
    unfolding call_in name_of callable
    call-resolve e h = h ∙ rw e (lone-within (λ m. callable w m (p / name_limit / tag_limit)) (p % name_limit) (p / name_limit / tag_limit) resolve refl)

  pub call-other : (p : ℕ) → (p / name_limit % tag_limit ≡ 0 → ⊥) → (p / name_limit % tag_limit ≡ 2 → ⊥) → false ≡ call_in w p
  unfolding call_in name_of callable within
  call-other p i k = go (p / name_limit % tag_limit) refl
    where
      given-none : (b : Bool) (m : Name) → callable w m (p / name_limit / tag_limit) ≡ false → false ≡ within (λ m. callable w m (p / name_limit / tag_limit)) (cond b (some m) none)
      given-none true m e = sym e
      given-none false m e = refl

      go : (t : ℕ) → p / name_limit % tag_limit ≡ t → false ≡ within (λ m. callable w m (p / name_limit / tag_limit)) (name_of t (p % name_limit))
      go zero e = absurd (i e)
      go (suc zero) e = given-none (ltb (p % name_limit) no_name) (two_way (p % name_limit)) refl
      go (suc (suc zero)) e = absurd (k e)
      go (suc (suc (suc zero))) e = given-none (eqb (p % name_limit) 0) register refl
      go (suc (suc (suc (suc t)))) e = refl

pub ruleset message_laws = (rules, send-plain, send-two-way, send-lone, call-plain, call-resolve, call-other)
