-- The laws of the functions that show messages and slots: one for each way to return. Assumes nothing.
use Rattle.std.specs.Prelude.{◌≡◌, true, false, eqb, List, [], ◌∷◌, length, drop, get_or}
use Rattle.std.proofs.Math.Path.{refl}
use Rattle.std.proofs.Common.{◌∙◌, add-zero, drop_of_length-le}
use Prim.Native.Nat.{ℕ, zero, suc, ◌+◌, ◌-◌, ◌/◌, ◌%◌, ◌≤◌}
use Rattle.std.proofs.Math.Numerals.{sub-one}
use borrow.Author.Tests.{eq-eqb, ne_eqb}
use Rattle.std.proofs.Math.ListN.{get_or-eq_default}
use Rattle.std.proofs.Math.Seq.{get_or-drop, drop-drop}
use Rattle.atlite.specs.Base.{bytes}
use Rattle.layout.specs.Numbers.{payload, header, name_limit, tagged_limit, number_limit, digit_limit, slot_unit, message_size, slot_size}
use Rattle.showing.specs.declared.writer.Writer.{Writer}
use Rattle.showing.specs.Put.{Put, put_none, then, Left, left-less, left-none}
use Rattle.showing.specs.ShowLaws.{Remains}
use Rattle.showing.specs.TextOfWords.{Text, operands_in, form_in, shown}
use Rattle.lister.specs.TextOfState.{message_in, aim_in, waits, waiting_in, inbox_in, fields_in, kind_in, state_in, opening_in, Entry, parts_in, slot_in, slots_in}
use Rattle.showing.specs.ShowContract.{Showed}
use Rattle.lister.specs.SlotContract.{Slotted}

-- the word at a place
pub here : (t : List ℕ) (at : ℕ) → get_or (drop at t) 0 0 ≡ get_or t at 0
here t at = get_or-drop at t 0 0 ∙ rw add-zero

-- ---- messages
pub aim-ref : (v : ℕ) → v / payload ≡ 3 → v % number_limit ≡ aim_in v
unfolding aim_in
aim-ref v e = rw (eq-eqb (v / payload) 3 e)

pub aim-out : (t : List ℕ) (at : ℕ) → length t ≤ at → 0 ≡ aim_in (get_or t at 0)
unfolding aim_in
aim-out t at h = rw (get_or-eq_default t 0 h)

pub aim-none : (v : ℕ) → (v / payload ≡ 3 → ⊥) → 0 ≡ aim_in v
unfolding aim_in
aim-none v e = rw (ne_eqb (v / payload) 3 e)

module _ (t : List ℕ) (n at : ℕ) where
  pub waits-out : length t ≤ at → false ≡ waits n (drop at t)
  unfolding waits
  waits-out l = rw (drop_of_length-le t l)

  pub waits-kind : (get_or t at 0 / payload ≡ 14 → ⊥) → false ≡ waits n (drop at t)
  unfolding waits
  waits-kind e = rw (here t at, ne_eqb (get_or t at 0 / payload) 14 e)

  pub waits-aim : {v : ℕ} → get_or t at 0 / payload ≡ 14 → v ≡ aim_in (get_or t (at + 1) 0) → eqb v n ≡ waits n (drop at t)
  unfolding waits
  waits-aim e g = rw (here t at, get_or-drop at t 1 0, ← g, eq-eqb (get_or t at 0 / payload) 14 e)

pub message-whole : {a b c d : Writer} {i : ℕ} (t : List ℕ) (at : ℕ) → Put a (bytes "(message") b
    → Showed t (operands_in t (shown t 1) (get_or t at 0 % slot_unit) (1 + get_or t at 0 / tagged_limit % digit_limit) (drop (at + 1) t)) b c i → Put c (41 ∷ []) d
    → Put a (message_in t (drop at t)) d
unfolding message_in
message-whole t at p q r = rw (here t at, drop-drop 1 at t) (then p (then q.text r))

pub waiting-next : {s : Text} {a b c d : Writer} (t : List ℕ) (n k i : ℕ) → Remains t s a (waiting_in t k n (drop i t)) b → (k ≡ 0 → ⊥) → waits n (drop i t) ≡ true
    → Put b (32 ∷ []) c → Put c (message_in t (drop i t)) d → Remains t s a (waiting_in t (k - 1) n (drop (i + message_size) t)) d
unfolding waiting_in
waiting-next {b = b} {d = d} t n k i l f e p q = record { whole = λ g m u. l.whole g m (more k f g m u) }
  where
    more : (k : ℕ) → (k ≡ 0 → ⊥) → (g : Writer) (m : ℕ) → Showed t (waiting_in t (k - 1) n (drop (i + message_size) t)) d g m
        → Showed t (waiting_in t k n (drop i t)) b g m
    more zero f g m u = absurd (f refl)
    more (suc k) f g m u = let u' = rw sub-one at u in rw (e, drop-drop message_size i t) (record { text = then p (then q u'.text); rest = u'.rest })

pub waiting-last : {s : Text} {a b : Writer} (t : List ℕ) (n k i : ℕ) → Remains t s a (waiting_in t k n (drop i t)) b → k ≡ 0 → Showed t s a b i
unfolding waiting_in
waiting-last {b = b} t n k i l e = l.whole b i (rw e (record { text = put_none; rest = refl }))

pub waiting-other : {s : Text} {a b : Writer} (t : List ℕ) (n k i : ℕ) → Remains t s a (waiting_in t k n (drop i t)) b → waits n (drop i t) ≡ false → Showed t s a b i
unfolding waiting_in
waiting-other {b = b} t n k i l e = l.whole b i (rw (stop k) (record { text = put_none; rest = refl }))
  where
    stop : (k : ℕ) → waiting_in t k n (drop i t) ≡ record { text = []; rest = drop i t }
    stop zero = refl
    stop (suc k) = rw e

pub inbox-next : {s : List ℕ} {a b c d : Writer} (t : List ℕ) (k i : ℕ) → Left a s b (inbox_in t k (drop i t)) → (k ≡ 0 → ⊥) → Put b (message_in t (drop i t)) c
    → Put c (10 ∷ []) d → Left a s d (inbox_in t (k - 1) (drop (i + message_size) t))
unfolding inbox_in
inbox-next t zero i l f p q = absurd (f refl)
inbox-next t (suc k) i l f p q = rw (sub-one, ← drop-drop message_size i t) (left-less _ (left-less _ l p) q)

pub inbox-end : {s : List ℕ} {a b : Writer} (t : List ℕ) (k i : ℕ) → k ≡ 0 → Left a s b (inbox_in t k (drop i t)) → Put a s b
unfolding inbox_in
inbox-end t k i e l = left-none (rw e at l)

-- ---- slots
pub fields-next : {s : List ℕ} {a b c d : Writer} {j : ℕ} (t : List ℕ) (k x i : ℕ) → Left a s b (fields_in t k x (drop i t)) → (k ≡ 0 → ⊥) → Put b (32 ∷ []) c
    → Showed t (form_in t (shown t 1) (header + x % name_limit) (drop i t)) c d j → Left a s d (fields_in t (k - 1) (x / name_limit) (drop j t))
unfolding fields_in
fields-next t zero x i l f p q = absurd (f refl)
fields-next t (suc k) x i l f p q = rw (sub-one, q.rest) (left-less _ (left-less _ l p) q.text)

pub fields-end : {s : List ℕ} {a b : Writer} (t : List ℕ) (k x i : ℕ) → k ≡ 0 → Left a s b (fields_in t k x (drop i t)) → Put a s b
unfolding fields_in
fields-end t k x i e l = left-none (rw e at l)

pub kind-future : {a b : Writer} {k : ℕ} → (k ≡ 1 → ⊥) → (k ≡ 2 → ⊥) → (k ≡ 5 → ⊥) → Put a (bytes "(future ") b → Put a (kind_in k) b
unfolding kind_in
kind-future {k = k} d e f p = rw (ne_eqb k 1 d, ne_eqb k 2 e, ne_eqb k 5 f) p

pub state-none : {a : Writer} (t : List ℕ) {k : ℕ} (v : ℕ) → (k ≡ 3 → ⊥) → (k ≡ 4 → ⊥) → (k ≡ 5 → ⊥) → Put a (state_in t k v) a
unfolding state_in
state-none t {k} v d e f = rw (ne_eqb k 3 d, ne_eqb k 4 e, ne_eqb k 5 f) put_none

-- Where the slots of s are to stand behind a and b has begun them, r is what is left of them.
pub record SlotsLeft (t : List ℕ) (s : Entry) (a : Writer) (r : Entry) (b : Writer) : Type 0 where
  pub whole : (c : Writer) (i j : ℕ) → Slotted t r b c i j → Slotted t s a c i j

pub slots-all : {t : List ℕ} {a : Writer} (s : Entry) → SlotsLeft t s a s a
slots-all s = record { whole = λ c i j h. h }

pub slot_whole : {x y z : Writer} {i j : ℕ} (t : List ℕ) (a s at body wait : ℕ) → Put x (opening_in t a s (get_or t at 0) (get_or t (at + 2) 0)) y
    → Slotted t (parts_in t (get_or t at 0) (get_or t (at + 1) 0) (drop (at + 2) t) (drop body t) (drop wait t)) y z i j
    → Slotted t (slot_in t a s (drop at t) (drop body t) (drop wait t)) x z i j
unfolding slot_in
slot_whole t a s at body wait p q = rw (here t at, get_or-drop at t 1 0, get_or-drop at t 2 0, drop-drop 2 at t) (record {
  text = then p q.text;
  bodies = q.bodies;
  waiting = q.waiting;
})

pub slots-next : {e : Entry} {x y z : Writer} {l m : ℕ} (t : List ℕ) (a s k at i j : ℕ) → SlotsLeft t e x (slots_in t a s k (drop at t) (drop i t) (drop j t)) y
    → (k ≡ 0 → ⊥) → Slotted t (slot_in t a s (drop at t) (drop i t) (drop j t)) y z l m
    → SlotsLeft t e x (slots_in t a s (k - 1) (drop (at + slot_size) t) (drop l t) (drop m t)) z
unfolding slots_in
slots-next {y = y} {z = z} {l = l} {m = m} t a s k at i j h f p = record { whole = λ g u v q. h.whole g u v (more k f g u v (rw (p.bodies, p.waiting) at q)) }
  where
    more : (k : ℕ) → (k ≡ 0 → ⊥) → (g : Writer) (u v : ℕ)
        → Slotted t (slots_in t a s (k - 1) (drop (at + slot_size) t) (slot_in t a s (drop at t) (drop i t) (drop j t)).bodies (slot_in t a s (drop at t) (drop i t) (drop j t)).waiting) z g u v
        → Slotted t (slots_in t a s k (drop at t) (drop i t) (drop j t)) y g u v
    more zero f g u v q = absurd (f refl)
    more (suc k) f g u v q =
        let q' = rw sub-one at q in
        rw (drop-drop slot_size at t) (record { text = then p.text q'.text; bodies = q'.bodies; waiting = q'.waiting })

pub slots-last : {e : Entry} {x y : Writer} (t : List ℕ) (a s k at i j : ℕ) → SlotsLeft t e x (slots_in t a s k (drop at t) (drop i t) (drop j t)) y → k ≡ 0 → Slotted t e x y i j
unfolding slots_in
slots-last {y = y} t a s k at i j h e = h.whole y i j (rw e (record { text = put_none; bodies = refl; waiting = refl }))
