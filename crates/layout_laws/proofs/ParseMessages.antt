-- A message is got at a position just where its six words stand. The arguments are counted in the first word and zeros fill the
-- rest, so the words are four spans one behind the other. Assumes nothing.
use Prim.Native.Nat.{ℕ, zero, suc, ◌+◌, ◌-◌, ◌*◌, ◌≤◌, ◌<◌, ◌/◌, ◌%◌}
use Rattle.std.specs.Prelude.{◌≡◌, Bool, true, false, eqb, ltb, leb, length, drop}
use Rattle.std.proofs.Math.Path.{refl, ap}
use Rattle.std.proofs.Common.{sym, ap₂, ◌∙◌, arith, length-append, length-drop}
use mathlib.Core.List.{List, [], ◌∷◌, ◌++◌}
use Rattle.std.proofs.Math.Option.{Option, some}
use borrow.Author.Tests.{ltb-true, leb-true, eqb-true, lt-ltb, le-leb, eq-eqb}
use Rattle.std.proofs.Math.ListN.{get_or}
use Rattle.atlite.specs.Term.{Value, Name}
use Rattle.atlite.specs.State.{Message, message}
use Rattle.layout.specs.Numbers.{payload, name_limit, tag_limit, tagged_limit, message_size}
use Rattle.layout.specs.Pack.{node, zeros, pad}
use Rattle.layout_laws.specs.PackLaws.{pack-low, pack-high, pad-front, Each}
use Rattle.layout.specs.Terms.{encode_value, tagged, asked}
use Rattle.layout_laws.specs.TermLaws.{ValueFits}
use Rattle.layout_laws.specs.TermReads.{asked-small, asked-count}
use Rattle.layout.specs.Layout.{value_words, encode_message}
use Rattle.layout_laws.specs.Slots.{length-values, MessageFits, message-length}
use Rattle.layout_laws.specs.Parse.{Got, none, got, sure, value_at, name_of, before, values_at, zeros_at, parse_message}
use Rattle.layout_laws.specs.ParseWords.{Holding, ValueWord, value-word, value_read, NameWord, name-word, name-read, word-node}
use Rattle.layout_laws.proofs.ParseHeads.{asked-sum}
use Rattle.layout_laws.specs.ParseSound.{Ended}
use Rattle.layout_laws.proofs.ParseSound.{ended, ended-behind}
use Rattle.layout_laws.specs.Spans.{Spans, drop_past, drop-next, drop-first, span_none, span-end, span-word, span-join}
use Rattle.layout_laws.specs.ParseMessages.{ValuesAt, MessageAt}

both_true : (b c : Bool) → elim b as (λ x. Bool) [ true ↦ c | false ↦ false ] ≡ true → (b ≡ true) × (c ≡ true)
both_true true c e = (refl, e)
both_true false c e = (e, cc)

true-both : (b c : Bool) → b ≡ true → c ≡ true → elim b as (λ x. Bool) [ true ↦ c | false ↦ false ] ≡ true
true-both true c d e = e
true-both false c d e = d

module _ (w : List ℕ) where
  span_value : (at c : ℕ) (v : Value) (vs : List Value) → at < length w → ValueWord (get_or w at 0) v → ValuesAt w c (at + 1) vs → ValuesAt w (suc c) at (v ∷ vs)
  unfolding value_words
  span_value at c v vs l h k =
      let s : Spans w at (at + 1) (encode_value v ∷ []) = rw h.1 (span-word w at l) in
      ((h.0, k.0), ap suc k.1, span-end w at (at + 1 + c) (at + suc c) (value_words (v ∷ vs)) (span-join w at (at + 1) (at + 1 + c) (encode_value v ∷ []) (value_words vs) s k.2) (omega arith))

  before_at : (at c : ℕ) (o : Option Value) (p : Option (List Value)) → at < length w → Holding (ValueWord (get_or w at 0)) o → Holding (ValuesAt w c (at + 1)) p → Holding (ValuesAt w (suc c) at) (before o p)
  before_at at c Option.none p l h k = tt
  before_at at c (some v) Option.none l h k = tt
  before_at at c (some v) (some vs) l h k = span_value at c v vs l h k

  pub values-at : (c at : ℕ) → at + c ≤ length w → Holding (ValuesAt w c at) (values_at w c at)
  unfolding values_at value_words
  values-at zero at l = (tt, refl, span-end w at at (at + 0) [] (span_none w at) (omega arith))
  values-at (suc c) at l = before_at at c (value_at (get_or w at 0)) (values_at w c (at + 1)) (omega arith) (value-word (get_or w at 0)) (values-at c (at + 1) (omega arith))

  pub zeros-at : (c at : ℕ) → at + c ≤ length w → zeros_at w c at ≡ true → Spans w at (at + c) (zeros c)
  unfolding zeros_at zeros
  zeros-at zero at l e = span-end w at at (at + 0) [] (span_none w at) (omega arith)
  zeros-at (suc c) at l e =
      let h = both_true (eqb (get_or w at 0) 0) (zeros_at w c (at + 1)) e in
      let s : Spans w at (at + 1) (0 ∷ []) = rw (eqb-true (get_or w at 0) 0 h.0) at (span-word w at (omega arith)) in
      span-end w at (at + 1 + c) (at + suc c) (zeros (suc c)) (span-join w at (at + 1) (at + 1 + c) (0 ∷ []) (zeros c) s (zeros-at c (at + 1) (omega arith) h.1)) (omega arith)

pub ended-sure : {A : Type 0} (R : A → ℕ → Type 0) (b : Bool) (g : Got A) → (b ≡ true → Ended R g) → Ended R (sure b g)
ended-sure R true g h = h refl
ended-sure R false g h = tt

-- the first word, by its kind and its payload
first_word : (x n : ℕ) (m : Name) → x / payload ≡ 14 → tagged m ≡ x % payload % name_limit + name_limit * (x % payload / name_limit % tag_limit) → n ≡ x % payload / name_limit / tag_limit → node 14 (asked m n) ≡ x
first_word x n m k t c = ap (λ p. node 14 (tagged m + tagged_limit * p)) c ∙ ap (node 14) (asked-sum (x % payload) (tagged m) t) ∙ ap (λ k. node k (x % payload)) (sym k) ∙ word-node x

module _ (w : List ℕ) (at : ℕ) where
  -- how many arguments the first word says
  abbrev count : ℕ
  count = get_or w at 0 % payload / name_limit / tag_limit

  four-spans : (x n : ℕ) (v : Value) (m : Name) (vs : List Value) → n < 5 → node 14 (asked m (length vs)) ≡ x → Spans w at (at + 1) (x ∷ []) → Spans w (at + 1) (at + 2) (encode_value v ∷ [])
      → ValuesAt w n (at + 2) vs → Spans w (at + 2 + n) (at + 2 + n + (4 - n)) (zeros (4 - n)) → Spans w at (at + message_size) (encode_message (message v m vs))
  unfolding encode_message pad
  four-spans x n v m vs l d s t u z =
      let c : 6 - suc (suc (length (value_words vs))) ≡ 4 - n = omega (arith, length-values vs, u.1) in
      let a = span-join w at (at + 1) (at + 2) (x ∷ []) (encode_value v ∷ []) s t in
      let b = span-join w at (at + 2) (at + 2 + n) (x ∷ encode_value v ∷ []) (value_words vs) a u.2 in
      rw (c, d) (span-end w at (at + 2 + n + (4 - n)) (at + message_size) (x ∷ encode_value v ∷ (value_words vs ++ zeros (4 - n))) (span-join w at (at + 2 + n) (at + 2 + n + (4 - n)) (x ∷ encode_value v ∷ value_words vs) (zeros (4 - n)) b z) (omega arith))

  stands : (v : Value) (m : Name) (vs : List Value) → at + message_size ≤ length w → get_or w at 0 / payload ≡ 14 → count < 5 → zeros_at w (4 - count) (at + 2 + count) ≡ true
      → NameWord (get_or w at 0 % payload / name_limit % tag_limit) (get_or w at 0 % payload % name_limit) m → ValueWord (get_or w (at + 1) 0) v → ValuesAt w count (at + 2) vs → MessageAt w at (message v m vs) (at + message_size)
  stands v m vs l k c z i j u =
      let x = get_or w at 0 in
      let n = count in
      let s : Spans w (at + 1) (at + 2) (encode_value v ∷ []) = rw j.1 (span-end w (at + 1) (at + 1 + 1) (at + 2) (get_or w (at + 1) 0 ∷ []) (span-word w (at + 1) (omega arith)) (omega arith)) in (
        (j.0, i.0, omega (arith, u.1), u.0),
        four-spans x n v m vs c (first_word x (length vs) m k i.1 u.1) (span-word w at (omega arith)) s u (zeros-at w (4 - n) (at + 2 + n) (omega arith) z),
      )

  message-ended : Ended (MessageAt w at) (parse_message w at)
  unfolding parse_message
  message-ended =
      let x = get_or w at 0 in
      let p = x % payload in
      let n = count in
      ended-sure (MessageAt w at) (leb (at + message_size) (length w)) _ (λ l.
      ended-sure (MessageAt w at) (eqb (x / payload) 14) _ (λ k.
      ended-sure (MessageAt w at) (ltb n 5) _ (λ c.
      ended-sure (MessageAt w at) (zeros_at w (4 - n) (at + 2 + n)) _ (λ z.
      ended-behind (NameWord (p / name_limit % tag_limit) (p % name_limit)) (MessageAt w at) (name_of (p / name_limit % tag_limit) (p % name_limit)) _ (name-word (p / name_limit % tag_limit) (p % name_limit)) (λ m i.
      ended-behind (ValueWord (get_or w (at + 1) 0)) (MessageAt w at) (value_at (get_or w (at + 1) 0)) _ (value-word (get_or w (at + 1) 0)) (λ v j.
      ended-behind (ValuesAt w n (at + 2)) (MessageAt w at) (values_at w n (at + 2)) _ (values-at w n (at + 2) (omega (arith, leb-true (at + message_size) (length w) l, ltb-true n 5 c))) (λ vs u.
      stands v m vs (leb-true (at + message_size) (length w) l) (eqb-true (x / payload) 14 k) (ltb-true n 5 c) z i j u)))))))

pub message-sound : (w : List ℕ) (at : ℕ) (m : Message) (i : ℕ) → parse_message w at ≡ got m i → MessageAt w at m i
message-sound w at m i = ended (MessageAt w at) (parse_message w at) m i (message-ended w at)

-- ---- and what stands there is got
pub values-read : (vs : List Value) (w : List ℕ) (at : ℕ) (r : List ℕ) → Each ValueFits vs → drop at w ≡ value_words vs ++ r → values_at w (length vs) at ≡ some vs
unfolding values_at value_words
values-read [] w at r h e = refl
values-read (v ∷ vs) w at r h e =
    ap₂ before (ap value_at (drop-first w at (encode_value v) (value_words vs ++ r) e) ∙ value_read v h.0) (values-read vs w (at + 1) r h.1 (drop-next w at (encode_value v) (value_words vs ++ r) e))

pub zeros-read : (c : ℕ) (w : List ℕ) (at : ℕ) (r : List ℕ) → drop at w ≡ zeros c ++ r → zeros_at w c at ≡ true
unfolding zeros_at zeros
zeros-read zero w at r e = refl
zeros-read (suc c) w at r e =
    true-both (eqb (get_or w at 0) 0) (zeros_at w c (at + 1)) (eq-eqb (get_or w at 0) 0 (drop-first w at 0 (zeros c ++ r) e)) (zeros-read c w (at + 1) r (drop-next w at 0 (zeros c ++ r) e))

pub message-complete : (m : Message) (w : List ℕ) (at : ℕ) (r : List ℕ) → MessageFits m → drop at w ≡ encode_message m ++ r → parse_message w at ≡ got m (at + message_size)
unfolding parse_message encode_message
message-complete (message v m vs) w at r h e =
    let n = length vs in
    let x = node 14 (asked m n) in
    let k : n < 5 = omega (arith, h.2) in
    let a : asked m n < payload = omega (arith, asked-small m n h.1 (omega arith)) in
    let c : 6 - suc (suc (length (value_words vs))) ≡ 4 - n = omega (arith, length-values vs) in
    let z = zeros (4 - n) ++ r in
    let d : drop at w ≡ x ∷ encode_value v ∷ (value_words vs ++ z) = e ∙ pad-front 6 (x ∷ encode_value v ∷ value_words vs) r ∙ ap (λ i. x ∷ encode_value v ∷ (value_words vs ++ (zeros i ++ r))) c in
    let d1 : drop (at + 1) w ≡ encode_value v ∷ (value_words vs ++ z) = drop-next w at x _ d in
    let d2 : drop (at + 2) w ≡ value_words vs ++ z = drop_past w at (x ∷ encode_value v ∷ []) _ d in
    let d3 : drop (at + 2 + n) w ≡ z = rw (length-values vs) at (drop_past w (at + 2) (value_words vs) z d2) in
    let s = sym (length-drop at w) ∙ ap length e ∙ length-append (encode_message (message v m vs)) r in
    let b : at + message_size ≤ length w = omega (arith, message-length (message v m vs) h, s) in
    rw (
      le-leb (at + message_size) (length w) b,
      drop-first w at x _ d,
      drop-first w (at + 1) (encode_value v) _ d1,
      pack-high payload (asked m n) 14 a,
      pack-low payload (asked m n) 14 a,
      asked-count m n h.1,
      lt-ltb n 5 k,
      zeros-read (4 - n) w (at + 2 + n) r d3,
      name-read m n h.1,
      value_read v h.0,
      values-read vs w (at + 2) z h.3 d2,
    )
