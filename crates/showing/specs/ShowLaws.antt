-- The laws of the functions that show terms: one for each way to return. Assumes nothing.
use Rattle.std.specs.Prelude.{◌≡◌, refl, cond, List, [], ◌∷◌, length, get_or, ltb}
use Prim.Native.Nat.{ℕ, zero, suc, ◌+◌, ◌-◌, ◌/◌, ◌≤◌, ◌<◌}
use Rattle.std.proofs.Common.{add-one, lt-ltb, le-ltb, drop_of_length-le, drop-cons}
use Rattle.std.proofs.Math.Numerals.{sub-one}
use Rattle.std.proofs.Math.ListN.{drop}
use Rattle.layout.specs.Numbers.{payload, no_name}
use Rattle.showing.specs.declared.writer.Writer.{Writer}
use Rattle.showing.specs.Put.{Put, put_none, then}
use Rattle.showing.specs.TextOfWords.{Text, name_in, after, count, head_in, leaf_in, operands_in, form_in, shown}
use Rattle.showing.specs.ShowContract.{Showed}

-- nothing is put, and the words stay
stays : (t : List ℕ) (i : ℕ) {a : Writer} → Showed t (record { text = []; rest = drop i t }) a a i
stays t i = record { text = put_none; rest = refl }

-- ---- one term
shown-step : (t : List ℕ) (n at : ℕ) → (n ≡ 0 → ⊥) → at < length t → shown t n (drop at t) ≡
    cond (ltb (get_or t at 0 / payload) 7) (record { text = leaf_in t (get_or t at 0); rest = drop (at + 1) t }) (form_in t (shown t (n - 1)) (get_or t at 0) (drop (at + 1) t))
unfolding shown
shown-step t zero at f h = absurd (f refl)
shown-step t (suc n) at f h = rw (sub-one, drop-cons t at 0 h, add-one)

module _ (t : List ℕ) (n at : ℕ) where
  pub node-deep : {a : Writer} → n ≡ 0 → Showed t (shown t n (drop at t)) a a at
  unfolding shown
  node-deep e = rw e (stays t at)

  pub node_end : {a : Writer} → length t ≤ at → Showed t (shown t n (drop at t)) a a at
  unfolding shown
  node_end l = rw (none n) (stays t at)
    where
      none : (n : ℕ) → shown t n (drop at t) ≡ record { text = []; rest = drop at t }
      none zero = refl
      none (suc n) = rw (drop_of_length-le t l)

  pub node-leaf : {a b : Writer} → (n ≡ 0 → ⊥) → at < length t → get_or t at 0 / payload < 7 → Put a (leaf_in t (get_or t at 0)) b
      → Showed t (shown t n (drop at t)) a b (at + 1)
  node-leaf f l k p = rw (shown-step t n at f l, lt-ltb (get_or t at 0 / payload) 7 k) (record { text = p; rest = refl })

  pub node-form : {a b : Writer} {i : ℕ} → (n ≡ 0 → ⊥) → at < length t → 7 ≤ get_or t at 0 / payload
      → Showed t (form_in t (shown t (n - 1)) (get_or t at 0) (drop (at + 1) t)) a b i → Showed t (shown t n (drop at t)) a b i
  node-form f l g p = rw (shown-step t n at f l, le-ltb (get_or t at 0 / payload) 7 g) p

-- ---- the form of a word
pub form-whole : {a b c d : Writer} (t : List ℕ) (n h at : ℕ) {i : ℕ} → Put a (head_in t h) b → Showed t (operands_in t (shown t n) (after h) (count h) (drop at t)) b c i
    → Put c (41 ∷ []) d → Showed t (form_in t (shown t n) h (drop at t)) a d i
unfolding form_in
form-whole t n h at p s q = record { text = then p (then s.text q); rest = s.rest }

-- ---- operands
-- Where the text of s is to stand behind a and b has begun it, r is what is left of it: the words that r leaves are those that s leaves.
pub record Remains (t : List ℕ) (s : Text) (a : Writer) (r : Text) (b : Writer) : Type 0 where
  pub whole : (c : Writer) (i : ℕ) → Showed t r b c i → Showed t s a c i

pub remains-all : {t : List ℕ} {a : Writer} (s : Text) → Remains t s a s a
remains-all s = record { whole = λ c i h. h }

pub operands-next : {s : Text} {a b c d e : Writer} {j : ℕ} (t : List ℕ) (n x k i : ℕ) → Remains t s a (operands_in t (shown t n) x k (drop i t)) b
    → (k ≡ 0 → ⊥) → Put b (32 ∷ []) c → Showed t (shown t n (drop i t)) c d j → Put d (name_in t x) e
    → Remains t s a (operands_in t (shown t n) no_name (k - 1) (drop j t)) e
unfolding operands_in
operands-next {b = b} {e = e} t n x k i l f p q r = record { whole = λ g m u. l.whole g m (more k f g m (rw q.rest at u)) }
  where
    more : (k : ℕ) → (k ≡ 0 → ⊥) → (g : Writer) (m : ℕ) → Showed t (operands_in t (shown t n) no_name (k - 1) (shown t n (drop i t)).rest) e g m
        → Showed t (operands_in t (shown t n) x k (drop i t)) b g m
    more zero f g m u = absurd (f refl)
    more (suc k) f g m u = let u' = rw sub-one at u in record { text = then p (then q.text (then r u'.text)); rest = u'.rest }

pub operands-end : {s : Text} {a b : Writer} (t : List ℕ) (n x k i : ℕ) → Remains t s a (operands_in t (shown t n) x k (drop i t)) b → k ≡ 0 → Showed t s a b i
unfolding operands_in
operands-end {b = b} t n x k i l e = l.whole b i (rw e (stays t i))
