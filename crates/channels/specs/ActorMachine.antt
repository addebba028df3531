-- Actors are a machine: the channels that a move uses, the move with its limits left out, and that two moves with no channel in common
-- can be made in either order. Assumes nothing.
use Rattle.std.specs.Prelude.{◌≡◌, refl, ◌≢◌, Bool, true, false, cond, List, ℕ, eqb}
use Rattle.std.proofs.Common.{sym, ap, ◌∙◌, arith}
use Rattle.std.proofs.Math.Option.{Option, none, some}
use Rattle.channels.specs.Machine.{Machine}
use Rattle.channels.specs.Actors.{Kind, quiet, sent, made, sent_to, is_made, gets, Actors, Laws, more, after, commute, within, there, second}

-- The channels: what an actor has part in, an inbox, the making of actors; and the names on them.
pub data Chan : Type 0 where
  self : ℕ → Chan
  box : ℕ → Chan
  maker : Chan

pub data Name (E : Type 0) : Type 0 where
  by : E → Name E
  from : ℕ → Name E

abbrev pub only : {W : Type 0} → Bool → W → Option W
only true w = some w
only false w = none

pub only-is : {W : Type 0} (b : Bool) (w v : W) → only b w ≡ some v → w ≡ v
only-is true w v p = cc
only-is false w v p = cc

pub only-some : {W : Type 0} (b : Bool) (w : W) → b ≡ true → only b w ≡ some w
only-some true w p = refl
only-some false w p = cc

module _ {E L P Q : Type 0} (A : Actors E L P Q) where
  abbrev pub uses : Chan → E → Kind L P Q → Option (Name E)
  uses (self i) e k = only (A.parts e i) (by e)
  uses (box r) e k = only (sent_to r k) (from (A.sender e))
  uses maker e k = only (is_made k) (from (A.sender e))

  abbrev pub freed : ℕ → List L → Option (Kind L P Q × L) → Option (Kind L P Q × List L)
  freed a s none = none
  freed a s (some r) = some (r.0, after A r.0 a r.1 s)

  -- the free move of an entry: limits are left out
  abbrev pub free : E → List L → Option (Kind L P Q × List L)
  free e s = freed (A.actor e) s (A.local e s)

  free-does : (e : E) (s : List L) (k : Kind L P Q) (z : List L) → free e s ≡ some (k, z)
      → (y : L) × ((A.local e s ≡ some (k, y)) × (z ≡ after A k (A.actor e) y s))
  free-does e s k z p = go (A.local e s) refl p
    where
      go : (o : Option (Kind L P Q × L)) → A.local e s ≡ o
          → freed (A.actor e) s o ≡ some (k, z) → (y : L) × ((A.local e s ≡ some (k, y)) × (z ≡ after A k (A.actor e) y s))
      go none f q = let z : ◌≡◌ {A = ℕ} 0 1 = cc in absurd (omega arith)
      go (some r) f q =
          let u : ◌≡◌ {A = Kind L P Q × List L} (r.0, after A r.0 (A.actor e) r.1 s) (k, z) = cc in
          let v : r.0 ≡ k = ap (λ r. r.0) u in
          let w : after A r.0 (A.actor e) r.1 s ≡ z = ap (λ r. r.1) u in
          (r.1, (rw v at f, rw v at (sym w)))

  does-free : (e : E) (s : List L) (k : Kind L P Q) (y : L) → A.local e s ≡ some (k, y) → free e s ≡ some (k, after A k (A.actor e) y s)
  does-free e s k y d = rw d

module _ {L P Q : Type 0} where
  gets-sent : (x : ℕ) (k : Kind L P Q) (u : P) → gets x k ≡ some u → sent_to x k ≡ true
  gets-sent x (quiet q) u p = let z : ◌≡◌ {A = ℕ} 0 1 = cc in absurd (omega arith)
  gets-sent x (made n) u p = let z : ◌≡◌ {A = ℕ} 0 1 = cc in absurd (omega arith)
  gets-sent x (sent r q) u p = go (eqb r x) p
    where
      go : (b : Bool) → cond b (some q) none ≡ some u → b ≡ true
      go true e = refl
      go false e = cc

module _ {E L P Q : Type 0} (A : Actors E L P Q) (law : Laws E L P Q A) where
  square-of : (e b : E) (s : List L) (l k : Kind L P Q) (x y : List L) (u v : L) → A.Inv s
      → A.local e s ≡ some (l, u) → x ≡ after A l (A.actor e) u s → A.local b s ≡ some (k, v) → y ≡ after A k (A.actor b) v s
      → ((c : Chan) (w v : Name E) → uses A c e l ≡ some w → uses A c b k ≡ some v → ⊥)
      → (z : List L) × ((free A b x ≡ some (k, z)) × (free A e y ≡ some (l, z)))
  square-of e b s l k x y u v i d eu f ev h =
      let ae = A.actor e in
      let ab = A.actor b in
      let m : is_made l ≡ true → is_made k ≡ true → ⊥
      = λ g j. h maker (from (A.sender e)) (from (A.sender b)) (only-some (is_made l) (from (A.sender e)) g) (only-some (is_made k) (from (A.sender b)) j) in
      let apart : (j : ℕ) (c o : P) → gets j l ≡ some c → gets j k ≡ some o → ⊥
      = λ j c o g t. h (box j) (from (A.sender e)) (from (A.sender b)) (only-some (sent_to j l) (from (A.sender e)) (gets-sent j l c g)) (only-some (sent_to j k) (from (A.sender b)) (gets-sent j k o t)) in
      let parts : (j : ℕ) → A.parts e j ≡ true → A.parts b j ≡ true → ⊥
      = λ j g t. h (self j) (by e) (by b) (only-some (A.parts e j) (by e) g) (only-some (A.parts b j) (by b) t) in
      let n : ab ≢ ae = λ g. parts ab (rw g (law.actor-part e)) (law.actor-part b) in
      let d₂ = second A law e b s l k u v i d f parts m in
      let f₂ = second A law b e s k l v u i f d (λ j g t. parts j t g) (λ g j. m j g) in
      let c = commute A s ae ab l k u v (there A law e s l u i d) (there A law b s k v i f) n apart (within A law e s l u i d) (within A law b s k v i f) m in (
        after A k ab (more A (gets ab l) v) (after A l ae u s),
        (
          rw eu (does-free A b (after A l ae u s) k (more A (gets ab l) v) d₂),
          rw (ev, c) (does-free A e (after A k ab v s) l (more A (gets ae k) u) f₂),
        ),
      )

  square : (e b : E) (s : List L) (l k : Kind L P Q) (x y : List L) → A.Inv s
      → free A e s ≡ some (l, x) → free A b s ≡ some (k, y)
      → ((c : Chan) (w v : Name E) → uses A c e l ≡ some w → uses A c b k ≡ some v → ⊥)
      → (z : List L) × ((free A b x ≡ some (k, z)) × (free A e y ≡ some (l, z)))
  square e b s l k x y i p q h =
      let (u, (d, eu)) = free-does A e s l x p in
      let (v, (f, ev)) = free-does A b s k y q in
      square-of e b s l k x y u v i d eu f ev h

  abbrev Clash : E → E → Kind L P Q → Kind L P Q → Type 0
  Clash e b l k = (d : Chan) × ((v : Name E) × ((u : Name E) × ((uses A d e l ≡ some v) × ((uses A d b k ≡ some u) × (v ≢ u)))))

  by-inj : (e b : E) → b ≢ e → by e ≢ by b
  by-inj e b n p = n (cc)

  -- one sender of two entries has part in both
  sender-clash : (e b : E) (l k : Kind L P Q) (w : Name E) → b ≢ e → from (A.sender e) ≡ w → from (A.sender b) ≡ w → Clash e b l k
  sender-clash e b l k w n p q =
      let s : A.sender b ≡ A.sender e = cc in (
        self (A.sender e),
        (
          by e,
          (
            by b,
            (
              only-some (A.parts e (A.sender e)) (by e) (law.sender-part e),
              (only-some (A.parts b (A.sender e)) (by b) (rw (← s) (law.sender-part b)), by-inj e b n),
            ),
          ),
        ),
      )

  clash : (c : Chan) (e b : E) (l k : Kind L P Q) (w : Name E) → b ≢ e → uses A c e l ≡ some w → uses A c b k ≡ some w → Clash e b l k
  clash (self i) e b l k w n p q = absurd (by-inj e b n (only-is (A.parts e i) (by e) w p ∙ sym (only-is (A.parts b i) (by b) w q)))
  clash (box r) e b l k w n p q = sender-clash e b l k w n (only-is (sent_to r l) (from (A.sender e)) w p) (only-is (sent_to r k) (from (A.sender b)) w q)
  clash maker e b l k w n p q = sender-clash e b l k w n (only-is (is_made l) (from (A.sender e)) w p) (only-is (is_made k) (from (A.sender b)) w q)

  keeps : (e : E) (s : List L) (l : Kind L P Q) (t : List L) → A.Inv s → free A e s ≡ some (l, t) → A.Inv t
  keeps e s l t i p = let (y, (d, q)) = free-does A e s l t p in rw q (law.keeps e s l y i d)

  own : (e : E) (l : Kind L P Q) → (c : Chan) × ((w : Name E) × (uses A c e l ≡ some w))
  own e l = (self (A.actor e), (by e, only-some (A.parts e (A.actor e)) (by e) (law.actor-part e)))

  pub machine : Machine (List L) E (Kind L P Q) Chan (Name E) (free A) (uses A) A.Inv
  machine = record { same? = law.same?; own = own; clash = clash; keeps = keeps; square = square }
