-- A machine of numbered actors, each with a local state: moves are local, but that a message joins another's state and
-- that a new actor joins the list. Assumes nothing.
use Rattle.std.specs.Prelude.{◌≡◌, refl, ◌≢◌, Bool, true, false, cond, List, [], ◌∷◌, ◌++◌, ℕ, zero, suc, ◌+◌, ◌-◌, ◌≤◌, ◌<◌, length, get_or, set, T, eqb}
use Rattle.std.proofs.Common.{sym, ap, ◌∙◌, subst, append_assoc, arith, add-zero, length-append, length-set, get_or-append-add, get_or-set_same, get_or-set_other, ext_get_or, eqb→eq}
use mathlib.Core.HLevel.{Discrete}
use Rattle.std.proofs.Math.Option.{Option, none, some}
use Rattle.std.proofs.Math.Decide.{ℕ_discrete, dec_lt}
use Rattle.std.proofs.Math.ListN.{get_or-append}
use Rattle.std.proofs.Math.Seq.{get_or-append_seam}
use Rattle.std.proofs.lemmas.List.{set-append_left}
use Rattle.std.proofs.Math.Dec.{eqb_refl}

-- what a move does beside its own actor's new state
pub data Kind (L P Q : Type 0) : Type 0 where
  quiet : Q → Kind L P Q
  sent : ℕ → P → Kind L P Q
  made : L → Kind L P Q

module _ {L P Q : Type 0} where
  abbrev pub sent_to : ℕ → Kind L P Q → Bool
  sent_to r (quiet q) = false
  sent_to r (sent x p) = eqb x r
  sent_to r (made n) = false

  abbrev pub is_made : Kind L P Q → Bool
  is_made (quiet q) = false
  is_made (sent x p) = false
  is_made (made n) = true

  -- the message that actor x gets
  abbrev pub gets : ℕ → Kind L P Q → Option P
  gets x (quiet q) = none
  gets x (sent r p) = cond (eqb r x) (some p) none
  gets x (made n) = none

  abbrev pub extra : Kind L P Q → List L
  extra (quiet q) = []
  extra (sent r p) = []
  extra (made n) = n ∷ []

-- A language of entries (a move of an actor, or a call in which two actors have part) over a list of actors.
--   actor e       the actor whose own state the move of e replaces
--   sender e      the actor that counts as sender of its message, and as maker of a new actor
--   parts e i     actor i has part in e: the move may read all of it
--   local e s     the move of e from s, limits left out: what it does, and the new own state
--   deliver p x   x with the message p at the tail of its inbox, and the copies that come with it
--   Grows x y     what other actors may see of x is in y unchanged
--   Inv s         the actors s are a state, limits left out
pub record Actors (E L P Q : Type 0) : Type 1 where
  pub blank : L
  pub actor : E → ℕ
  pub sender : E → ℕ
  pub parts : E → ℕ → Bool
  pub local : E → List L → Option (Kind L P Q × L)
  pub deliver : P → L → L
  pub Inv : List L → Type 0
  pub Grows : L → L → Type 0

module _ {E L P Q : Type 0} (A : Actors E L P Q) where
  abbrev pub at : List L → ℕ → L
  at s x = get_or s x A.blank

  abbrev pub more : Option P → L → L
  more none x = x
  more (some p) x = A.deliver p x

  abbrev pub front : Kind L P Q → List L → List L
  front (quiet q) s = s
  front (sent r p) s = set s r (A.deliver p (at s r))
  front (made n) s = s

  -- the actors after a move of actor a
  abbrev pub after : Kind L P Q → ℕ → L → List L → List L
  after k a x s = front k (set s a x) ++ extra k

  -- t is s after another's move: the actors that have part in e got messages at most, and the others have grown
  pub record Beside (e : E) (s t : List L) (q : ℕ → Option P) : Type 0 where
    pub longer : length s ≤ length t
    pub grown : (i : ℕ) → i < length s → A.Grows (at s i) (at t i)
    pub kept : (i : ℕ) → A.parts e i ≡ true → at t i ≡ more (q i) (at s i)

-- The laws that a language proves of its own definitions.
pub record Laws (E L P Q : Type 0) (A : Actors E L P Q) : Type 0 where
  pub same? : Discrete E
  pub actor-part : (e : E) → A.parts e (A.actor e) ≡ true
  pub sender-part : (e : E) → A.parts e (A.sender e) ≡ true
  pub grows-refl : (x : L) → A.Grows x x
  pub grows-trans : (x y z : L) → A.Grows x y → A.Grows y z → A.Grows x z
  pub grows-deliver : (p : P) (x : L) → A.Grows x (A.deliver p x)
  pub grows-local : (e : E) (s : List L) (k : Kind L P Q) (y : L) → A.Inv s → A.local e s ≡ some (k, y) → A.Grows (at A s (A.actor e)) y
  -- whoever has part in a move, and whoever gets its message, is there
  pub part-there : (e : E) (s : List L) (k : Kind L P Q) (y : L) (i : ℕ) → A.Inv s → A.local e s ≡ some (k, y) → A.parts e i ≡ true → i < length s
  pub sent-there : (e : E) (s : List L) (r : ℕ) (p : P) (y : L) → A.Inv s → A.local e s ≡ some (sent r p, y) → r < length s
  -- a move stays the same move after another's
  pub stable : (e : E) (s t : List L) (k : Kind L P Q) (y : L) (q : ℕ → Option P) → A.Inv s → A.local e s ≡ some (k, y)
      → Beside A e s t q → (is_made k ≡ true → length t ≡ length s) → A.local e t ≡ some (k, more A (q (A.actor e)) y)
  pub keeps : (e : E) (s : List L) (k : Kind L P Q) (y : L) → A.Inv s → A.local e s ≡ some (k, y) → A.Inv (after A k (A.actor e) y s)

pub T→true : (b : Bool) → T b → b ≡ true
T→true true t = refl
T→true false t = absurd t

pub eqb-true : (m n : ℕ) → eqb m n ≡ true → m ≡ n
eqb-true m n p = eqb→eq m n (subst T (sym p) tt)

pub eqb_same : (n : ℕ) → eqb n n ≡ true
eqb_same n = T→true (eqb n n) (eqb_refl n)

not-true : (b : Bool) → (b ≡ true → ⊥) → b ≡ false
not-true true h = absurd (h refl)
not-true false h = refl

eqb-other : (m n : ℕ) → m ≢ n → eqb m n ≡ false
eqb-other m n h = not-true (eqb m n) (λ p. h (eqb-true m n p))

module _ {E L P Q : Type 0} (A : Actors E L P Q) where
  length_front : (k : Kind L P Q) (s : List L) → length (front A k s) ≡ length s
  length_front (quiet q) s = refl
  length_front (sent r p) s = length-set s r (A.deliver p (at A s r))
  length_front (made n) s = refl

  at_front : (k : Kind L P Q) (s : List L) (x : ℕ) → x < length s → at A (front A k s) x ≡ more A (gets x k) (at A s x)
  at_front (quiet q) s x h = refl
  at_front (made n) s x h = refl
  at_front (sent r p) s x h = go (ℕ_discrete x r)
    where
      go : Dec (x ≡ r) → at A (set s r (A.deliver p (at A s r))) x ≡ more A (cond (eqb r x) (some p) none) (at A s x)
      go (yes e) = rw (← e, eqb_same x) (get_or-set_same s x (A.deliver p (at A s x)) A.blank h)
      go (no n) = rw (eqb-other r x (λ e. n (sym e))) (get_or-set_other s r x (A.deliver p (at A s r)) A.blank n)

  own_at : (k : Kind L P Q) (s : List L) (a : ℕ) (y : L) → a < length s → at A (front A k (set s a y)) a ≡ more A (gets a k) y
  own_at k s a y h = rw (at_front k (set s a y) a (rw length-set h), get_or-set_same s a y A.blank h)

  other_at : (k : Kind L P Q) (s : List L) (a : ℕ) (y : L) (x : ℕ) → x ≢ a → x < length s
      → at A (front A k (set s a y)) x ≡ more A (gets x k) (at A s x)
  other_at k s a y x n h = rw (at_front k (set s a y) x (rw length-set h), get_or-set_other s a x y A.blank n)

  pub length-after : (k : Kind L P Q) (a : ℕ) (x : L) (s : List L) → length (after A k a x s) ≡ length s + length (extra k)
  length-after k a x s = simp (length-append, length_front, length-set)

  at_after : (k : Kind L P Q) (a : ℕ) (x : L) (s : List L) (i : ℕ) → i < length s → at A (after A k a x s) i ≡ at A (front A k (set s a x)) i
  at_after k a x s i h = get_or-append (front A k (set s a x)) (extra k) A.blank i (simp (length_front, length-set) h)

  pub own-after : (k : Kind L P Q) (a : ℕ) (y : L) (s : List L) → a < length s → at A (after A k a y s) a ≡ more A (gets a k) y
  own-after k a y s h = at_after k a y s a h ∙ own_at k s a y h

  pub other_after : (k : Kind L P Q) (a : ℕ) (y : L) (s : List L) (i : ℕ) → i ≢ a → i < length s → at A (after A k a y s) i ≡ more A (gets i k) (at A s i)
  other_after k a y s i n h = at_after k a y s i h ∙ other_at k s a y i n h

  pub new-after : (n : L) (a : ℕ) (y : L) (s : List L) → at A (after A (made n) a y s) (length s) ≡ n
  new-after n a y s = rw (← (length-set s a y)) (get_or-append_seam (set s a y) n [] A.blank)

  more-swap : (p q : Option P) (x : L) → ((u v : P) → p ≡ some u → q ≡ some v → ⊥) → more A p (more A q x) ≡ more A q (more A p x)
  more-swap none q x h = refl
  more-swap (some u) none x h = refl
  more-swap (some u) (some v) x h = absurd (h u v refl refl)

  -- a message goes to one of the first n
  abbrev pub Within : Kind L P Q → ℕ → Type 0
  Within (quiet q) n = Unit {0}
  Within (sent r p) n = r < n
  Within (made x) n = Unit {0}

  front-append : (k : Kind L P Q) (s t : List L) → Within k (length s) → front A k (s ++ t) ≡ front A k s ++ t
  front-append (quiet q) s t h = refl
  front-append (made x) s t h = refl
  front-append (sent r p) s t h = rw (get_or-append s t A.blank r h, set-append_left s t r (A.deliver p (at A s r)) h)

  extra-swap : (k l : Kind L P Q) → (is_made k ≡ true → is_made l ≡ true → ⊥) → extra k ++ extra l ≡ extra l ++ extra k
  extra-swap (quiet q) (quiet u) h = refl
  extra-swap (quiet q) (sent r p) h = refl
  extra-swap (quiet q) (made n) h = refl
  extra-swap (sent u v) (quiet q) h = refl
  extra-swap (sent u v) (sent r p) h = refl
  extra-swap (sent u v) (made n) h = refl
  extra-swap (made m) (quiet q) h = refl
  extra-swap (made m) (sent r p) h = refl
  extra-swap (made m) (made n) h = absurd (h refl refl)

  -- the actors that were there, after the move k of a and then the move l of b
  abbrev both : List L → ℕ → ℕ → Kind L P Q → Kind L P Q → L → L → List L
  both s a b k l x y = front A l (set (front A k (set s a x)) b (more A (gets b k) y))

  module _ (s : List L) (a b : ℕ) (k l : Kind L P Q) (x y : L) (la : a < length s) (lb : b < length s) (ne : b ≢ a) where
    both_at : (i : ℕ) → i < length s → i ≢ a → i ≢ b → at A (both s a b k l x y) i ≡ more A (gets i l) (more A (gets i k) (at A s i))
    both_at i h na nb = rw (other_at l (front A k (set s a x)) b (more A (gets b k) y) i nb (rw (length_front, length-set) h), other_at k s a x i na h)

    both_first : at A (both s a b k l x y) a ≡ more A (gets a l) (more A (gets a k) x)
    both_first = rw (other_at l (front A k (set s a x)) b (more A (gets b k) y) a (λ e. ne (sym e)) (rw (length_front, length-set) la), own_at k s a x la)

    both-second : at A (both s a b k l x y) b ≡ more A (gets b l) (more A (gets b k) y)
    both-second = own_at l (front A k (set s a x)) b (more A (gets b k) y) (rw (length_front, length-set) lb)

    length_both : length (both s a b k l x y) ≡ length s
    length_both = simp (length_front, length-set)

    after-after : Within l (length s)
        → after A l b (more A (gets b k) y) (after A k a x s) ≡ both s a b k l x y ++ (extra k ++ extra l)
    after-after w =
        rw (
          set-append_left (front A k (set s a x)) (extra k) b (more A (gets b k) y) (rw (length_front, length-set) lb),
          front-append l (set (front A k (set s a x)) b (more A (gets b k) y)) (extra k) (subst (Within l) (sym (simp (length_front, length-set))) w),
        )
        (append_assoc (both s a b k l x y) (extra k) (extra l))

  module _ (s : List L) (a b : ℕ) (k l : Kind L P Q) (x y : L) (la : a < length s) (lb : b < length s) (ne : b ≢ a)
      (apart : (i : ℕ) (u v : P) → gets i k ≡ some u → gets i l ≡ some v → ⊥) where
    en : a ≢ b
    en e = ne (sym e)

    swap : (i : ℕ) (z : L) → more A (gets i l) (more A (gets i k) z) ≡ more A (gets i k) (more A (gets i l) z)
    swap i z = more-swap (gets i l) (gets i k) z (λ u v p q. apart i v u q p)

    both-same-at : (i : ℕ) → i < length s → at A (both s a b k l x y) i ≡ at A (both s b a l k y x) i
    both-same-at i h = go (ℕ_discrete i a) (ℕ_discrete i b)
      where
        go : Dec (i ≡ a) → Dec (i ≡ b) → at A (both s a b k l x y) i ≡ at A (both s b a l k y x) i
        go (yes e) d = rw e (both_first s a b k l x y la lb ne ∙ swap a x ∙ sym (both-second s b a l k y x lb la en))
        go (no n) (yes e) = rw e (both-second s a b k l x y la lb ne ∙ swap b y ∙ sym (both_first s b a l k y x lb la en))
        go (no n) (no m) = both_at s a b k l x y la lb ne i h n m ∙ swap i (at A s i) ∙ sym (both_at s b a l k y x lb la en i h m n)

    both-same : both s a b k l x y ≡ both s b a l k y x
    both-same = ext_get_or A.blank (both s a b k l x y) (both s b a l k y x)
        (length_both s a b k l x y la lb ne ∙ sym (length_both s b a l k y x lb la en))
        (λ i h. both-same-at i (rw (length_both s a b k l x y la lb ne) at h))

    -- the two orders of two moves end in one list of actors
    pub commute : Within k (length s) → Within l (length s) → (is_made k ≡ true → is_made l ≡ true → ⊥)
        → after A l b (more A (gets b k) y) (after A k a x s) ≡ after A k a (more A (gets a l) x) (after A l b y s)
    commute wk wl m = after-after s a b k l x y la lb ne wl
        ∙ ap (λ t. t ++ (extra k ++ extra l)) both-same
        ∙ ap (λ t. both s b a l k y x ++ t) (extra-swap k l m)
        ∙ sym (after-after s b a l k y x lb la en wk)

module _ {E L P Q : Type 0} (A : Actors E L P Q) (law : Laws E L P Q A) where
  pub within : (e : E) (s : List L) (k : Kind L P Q) (y : L) → A.Inv s → A.local e s ≡ some (k, y) → Within A k (length s)
  within e s (quiet q) y i d = tt
  within e s (sent r p) y i d = law.sent-there e s r p y i d
  within e s (made n) y i d = tt

  pub there : (e : E) (s : List L) (k : Kind L P Q) (y : L) → A.Inv s → A.local e s ≡ some (k, y) → A.actor e < length s
  there e s k y i d = law.part-there e s k y (A.actor e) i d (law.actor-part e)

  grows-more : (q : Option P) (x : L) → A.Grows x (more A q x)
  grows-more none x = law.grows-refl x
  grows-more (some p) x = law.grows-deliver p x

  pub grown : (e : E) (s : List L) (k : Kind L P Q) (y : L) → A.Inv s → A.local e s ≡ some (k, y) → (x : ℕ) → x < length s
      → A.Grows (at A s x) (at A (after A k (A.actor e) y s) x)
  grown e s k y i d x h = go (ℕ_discrete x (A.actor e))
    where
      go : Dec (x ≡ A.actor e) → A.Grows (at A s x) (at A (after A k (A.actor e) y s) x)
      go (yes p) = rw (p, own-after A k (A.actor e) y s (there e s k y i d))
          (law.grows-trans (at A s (A.actor e)) y (more A (gets (A.actor e) k) y) (law.grows-local e s k y i d) (grows-more (gets (A.actor e) k) y))
      go (no n) = rw (other_after A k (A.actor e) y s x n h) (grows-more (gets x k) (at A s x))

  no_extra : (k : Kind L P Q) → is_made k ≡ false → length (extra k) ≡ 0
  no_extra (quiet q) p = refl
  no_extra (sent r u) p = refl
  no_extra (made n) p = let z : ◌≡◌ {A = ℕ} 0 1 = cc in absurd (omega arith)

  -- b's move can still be made after e's, if no actor has part in both
  pub second : (e b : E) (s : List L) (k l : Kind L P Q) (x y : L) → A.Inv s → A.local e s ≡ some (k, x) → A.local b s ≡ some (l, y)
      → ((i : ℕ) → A.parts e i ≡ true → A.parts b i ≡ true → ⊥) → (is_made k ≡ true → is_made l ≡ true → ⊥)
      → A.local b (after A k (A.actor e) x s) ≡ some (l, more A (gets (A.actor b) k) y)
  second e b s k l x y i d f n m =
      let a = A.actor e in
      law.stable b s (after A k a x s) l y (λ j. gets j k) i f
      (record {
        longer = omega (arith, length-after A k a x s);
        grown = grown e s k x i d;
        kept = λ j p. other_after A k a x s j (λ r. n j (rw r (law.actor-part e)) p) (law.part-there b s l y j i f p);
      })
      (λ p. length-after A k a x s ∙ rw (no_extra k (not-true (is_made k) (λ q. m q p))) (add-zero (length s)))

-- To show a fact T i x of each actor i after a move it is enough to show it of these.
module _ {E L P Q : Type 0} (A : Actors E L P Q) (T : ℕ → L → Type 0) (k : Kind L P Q) (a : ℕ) (y : L) (s : List L) (la : a < length s)
    (none-there : (i : ℕ) → length s ≤ i → T i A.blank) (own-one : T a (more A (gets a k) y))
    (others : (i : ℕ) → i < length s → i ≢ a → T i (more A (gets i k) (at A s i)))
    (new-one : (n : L) → k ≡ made n → T (length s) n) where
  extra-each : (l : Kind L P Q) → k ≡ l → (d : ℕ) → T (length s + d) (get_or (extra l) d A.blank)
  extra-each (quiet q) e d = none-there (length s + d) (omega arith)
  extra-each (sent r p) e d = none-there (length s + d) (omega arith)
  extra-each (made n) e zero = rw add-zero (new-one n e)
  extra-each (made n) e (suc d) = none-there (length s + suc d) (omega arith)

  pub after-each : (i : ℕ) → T i (at A (after A k a y s) i)
  after-each i = go (dec_lt i (length s)) (ℕ_discrete i a)
    where
      len : length (front A k (set s a y)) ≡ length s
      len = simp (length_front, length-set)

      go : Dec (i < length s) → Dec (i ≡ a) → T i (at A (after A k a y s) i)
      go (yes h) (yes e) = rw (e, own-after A k a y s la) own-one
      go (yes h) (no n) = rw (other_after A k a y s i n h) (others i h n)
      go (no h) d =
          let c : length s + (i - length s) ≡ i = omega arith in
          let g : get_or (front A k (set s a y) ++ extra k) i A.blank ≡ get_or (extra k) (i - length s) A.blank
          = ap (λ n. get_or (front A k (set s a y) ++ extra k) n A.blank) (rw len (sym c)) ∙ get_or-append-add (front A k (set s a y)) (extra k) (i - length s) A.blank in
          rw g (rw c at (extra-each k refl (i - length s)))
