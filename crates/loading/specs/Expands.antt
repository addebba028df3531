-- Words that expand to words: w is one expression, or so many, whose expansion is s where z stands for `this`, if at most n of its
-- words lie in one another; and w is passed as so many expressions. What holds of operands holds of the form made of them.
-- Assumes nothing.
use Rattle.std.specs.Prelude.{◌≡◌}
use Rattle.std.proofs.Math.Path.{refl, ap, ap₂}
use Rattle.std.proofs.Common.{sym, ◌∙◌, subst as transp, zero-add, suc-add}
use mathlib.Core.List.{List, [], ◌∷◌, ◌++◌, append_assoc, append-nil}
use Prim.Native.Nat.{ℕ, zero, suc, ◌+◌, ◌-◌, ◌/◌, ◌%◌, ◌≤◌, ◌<◌}
use Rattle.std.proofs.Math.Numerals.{sub-one}
use native.Mathlib.Omega.{arith}
use borrow.Author.Tests.{lt-ltb, le-ltb, ne_eqb}
use Rattle.std.proofs.Math.ListN.{length, length-append}
use Rattle.std.proofs.Math.Seq.{drop_at}
use Rattle.atlite.specs.Term.{·t, ·f, ·r, ·l, ·s}
use Rattle.layout.specs.Numbers.{payload, name_limit}
use Rattle.layout.specs.Terms.{variable, binding, send_register}
use Rattle.decoding.specs.Kinds.{Kinds}
use Rattle.layout_laws.specs.Arity.{arity, ends, ends-none}
use Rattle.layout_laws.specs.KindLaws.{arity-leaf}
use Rattle.loading.specs.ExpandedWords.{leaf_in, resolver_words, waiter_words, before, after, inner, Words, emits, operands_in, form_in, resolve_in, when_in, emitted}

pub record One (n z : ℕ) (w s : List ℕ) : Type 0 where
  pub put : (r : List ℕ) → emitted n z (w ++ r) ≡ emits s r
  pub past : (r : List ℕ) (k : ℕ) → ends (w ++ r) (suc k) ≡ length w + ends r k

pub record Many (n z c : ℕ) (w s : List ℕ) : Type 0 where
  pub put : (r : List ℕ) → operands_in (emitted n z) c (w ++ r) ≡ emits s r
  pub past : (r : List ℕ) (k : ℕ) → ends (w ++ r) (c + k) ≡ length w + ends r k

-- the word h of c operands, neither a resolve nor a when: what its form brings in, and what stands for `this` in the operands
pub record Brings (z h : ℕ) (pre : List ℕ) (y c : ℕ) (post : List ℕ) : Type 0 where
  pub is_form : (7 ≤ h / payload) × (h / payload ≡ 66 → ⊥) × (h / payload ≡ 67 → ⊥)
  pub front : before z h ≡ pre
  pub self : inner z h ≡ y
  pub count : arity h ≡ c
  pub back : after h ≡ post

-- ---- operands
operands-add : (S : List ℕ → Words) (c d : ℕ) (l : List ℕ) → operands_in S (c + d) l ≡
    emits ((operands_in S c l).words ++ (operands_in S d (operands_in S c l).rest).words) (operands_in S d (operands_in S c l).rest).rest
unfolding operands_in
operands-add S zero d l = ap (λ i. operands_in S i l) (zero-add d)
operands-add S (suc c) d l =
    ap (λ i. operands_in S i l) (suc-add c d)
    ∙ (let a = operands_in S c (S l).rest in
    let b = operands_in S d a.rest in
    rw (operands-add S c d (S l).rest) (ap (λ w. emits w b.rest) (sym (append_assoc (S l).words a.words b.words))))

none-past : (r : List ℕ) (k : ℕ) → ends r (0 + k) ≡ 0 + ends r k
none-past r k = rw (zero-add k, zero-add (ends r k))

pub many-none : (n z : ℕ) → Many n z 0 [] []
unfolding operands_in
many-none n z = record { put = λ r. refl; past = none-past }

module _ (n z : ℕ) (w v s u : List ℕ) where
  pub many-cons : (c : ℕ) → One n z w s → Many n z c v u → Many n z (suc c) (w ++ v) (s ++ u)
  unfolding operands_in
  many-cons c a b = record {
    put = λ r. ap (λ l. operands_in (emitted n z) (suc c) l) (append_assoc w v r) ∙ rw (a.put (v ++ r), b.put r);
    past = λ r k.
        let e : suc c + k ≡ suc (c + k) = omega arith in
        ap₂ ends (append_assoc w v r) e ∙ a.past (v ++ r) (c + k) ∙ omega (arith, b.past r k, length-append w v);
  }

  -- operands before others
  pub many-join : (c d : ℕ) → Many n z c w s → Many n z d v u → Many n z (c + d) (w ++ v) (s ++ u)
  many-join c d a b = record {
    put = λ r. ap (λ l. operands_in (emitted n z) (c + d) l) (append_assoc w v r) ∙ operands-add (emitted n z) c d (w ++ (v ++ r)) ∙ rw (a.put (v ++ r), b.put r);
    past = λ r k.
        let e : c + d + k ≡ c + (d + k) = omega arith in
        ap₂ ends (append_assoc w v r) e ∙ a.past (v ++ r) (d + k) ∙ omega (arith, b.past r k, length-append w v);
  }

pub many-one : (n z : ℕ) (w s : List ℕ) → One n z w s → Many n z 1 w s
many-one n z w s a =
    let m = many-cons n z w [] s [] 0 a (many-none n z) in
    transp (λ l. Many n z 1 l s) (append-nil w) (transp (λ l. Many n z 1 (w ++ []) l) (append-nil s) m)

pub many-two : (n z : ℕ) (w s v u : List ℕ) → One n z w s → One n z v u → Many n z 2 (w ++ v) (s ++ u)
many-two n z w s v u a b = many-cons n z w v s u 1 a (many-one n z v u b)

-- ---- forms
pub one_same : (n z : ℕ) (w s u : List ℕ) → s ≡ u → One n z w s → One n z w u
one_same n z w s u e a = transp (One n z w) e a

module _ (z h : ℕ) where
  -- a word behind which c expressions stand is passed with them
  passed : (c : ℕ) (w : List ℕ) → arity h ≡ c → ((r : List ℕ) (k : ℕ) → ends (w ++ r) (c + k) ≡ length w + ends r k)
      → (r : List ℕ) (k : ℕ) → ends (h ∷ (w ++ r)) (suc k) ≡ suc (length w) + ends r k
  unfolding ends
  passed c w e p r k = ap (λ j. suc (ends (w ++ r) (j + k))) e ∙ omega (arith, p r k)

  pub one-leaf : (n v : ℕ) → 0 < n → h / payload < 7 → leaf_in z h ≡ v → One n z (h ∷ []) (v ∷ [])
  unfolding emitted
  one-leaf zero v d l e = absurd (omega arith)
  one-leaf (suc n) v d l e = record {
    put = λ r. rw (lt-ltb (h / payload) 7 l, e);
    past = passed 0 [] (sym (arity-leaf h l).is) none-past;
  }

  pub one_form : (n c y : ℕ) (pre post w s : List ℕ) → 0 < n → Brings z h pre y c post → Many (n - 1) y c w s → One n z (h ∷ w) (pre ++ (s ++ post))
  unfolding emitted form_in
  one_form zero c y pre post w s d b m = absurd (omega arith)
  one_form (suc n) c y pre post w s d b m =
      let m' = rw sub-one at m in
      record {
        put = λ r.
            rw (le-ltb (h / payload) 7 b.is_form.0, ne_eqb (h / payload) 66 b.is_form.1, ne_eqb (h / payload) 67 b.is_form.2, b.front, b.self, b.count, b.back, m'.put r);
        past = passed c w b.count m'.past;
      }

  -- nothing stands behind the operands
  pub one-front : (n c y : ℕ) (pre w s : List ℕ) → 0 < n → Brings z h pre y c [] → Many (n - 1) y c w s → One n z (h ∷ w) (pre ++ s)
  one-front n c y pre w s d b m = one_same n z (h ∷ w) _ _ (ap {B = List ℕ} (λ l. pre ++ l) (append-nil s)) (one_form n c y pre [] w s d b m)

  module _ (w v s u : List ℕ) where
    pub one-resolve : (n : ℕ) → 0 < n → h / payload ≡ 66 → One (n - 1) z w s → One (n - 1) z v u
        → One n z (h ∷ (w ++ v)) ((binding ·r ∷ []) ++ (s ++ (resolver_words z ++ (u ++ (variable ·l ∷ [])))))
    unfolding emitted resolve_in arity Kinds
    one-resolve zero d e a b = absurd (omega arith)
    one-resolve (suc n) d e a b =
        let a' = rw sub-one at a in
        let b' = rw sub-one at b in
        record {
          put = λ r. rw (e, append_assoc w v r, a'.put (v ++ r), b'.put r);
          past = passed 2 (w ++ v) (rw e) (many-two n z w s v u a' b').past;
        }

    pub one-when : (n : ℕ) → 0 < n → (x : ℕ) → h / payload ≡ 67 → h % name_limit ≡ x → One (n - 1) z w s → One (n - 1) (variable ·t) v u
        → One n z (h ∷ (w ++ v)) (waiter_words z x ++ (u ++ ((binding ·s ∷ send_register ∷ []) ++ (s ++ (variable ·l ∷ variable ·f ∷ [])))))
    unfolding emitted when_in arity Kinds
    one-when zero d x e f a b = absurd (omega arith)
    one-when (suc n) d x e f a b =
        let a' = rw sub-one at a in
        let b' = rw sub-one at b in
        record {
          put = λ r.
              let p : ends (w ++ (v ++ r)) 1 ≡ length w = omega (arith, a'.past (v ++ r) 0, ends-none (v ++ r)) in
              rw (e, f, append_assoc w v r, p, drop_at w (v ++ r) (length w) refl, a'.put (v ++ r), b'.put r);
          past = passed 2 (w ++ v) (rw e) (λ r k.
              let i : 2 + k ≡ suc (suc k) = omega arith in
              ap₂ ends (append_assoc w v r) i ∙ a'.past (v ++ r) (suc k) ∙ omega (arith, b'.past r k, length-append w v));
        }
