-- No listing of 16,384 words is longer than a position may be, whatever words they are. A word of a term shows at most 128 bytes
-- that no other word shows, so a term has at most 128 bytes for each word; the rest is counted very roughly, each message, field
-- and group of methods as if it had all words of the state. Assumes nothing.
use Rattle.std.specs.Prelude.{◌≡◌, refl, Bool, cond, eqb, leb, ltb, length, drop}
use Rattle.std.proofs.Math.Bool.{true, false}
use mathlib.Core.List.{List, [], ◌∷◌, ◌++◌}
use Prim.Native.Nat.{ℕ, zero, suc, ◌+◌, ◌-◌, ◌*◌, ◌/◌, ◌%◌, ◌≤◌, min}
use native.Mathlib.Omega.{arith}
use Rattle.std.proofs.Common.{leb-true, length-drop}
use Rattle.std.proofs.Math.ListN.{get_or, length-append}
use Rattle.atlite.specs.Base.{bytes, all}
use Rattle.atlite_laws.specs.Facts.{and₂}
use Rattle.atlite.specs.Lexicon.{Bytes}
use Rattle.atlite.specs.Printer.{digits, print_number}
use Rattle.layout.specs.Numbers.{payload, header, name_limit, no_name, tagged_limit, second_place, third_place, number_limit, owner_unit, owner_limit, digit_limit, digits_limit, slot_unit, expr_at, message_size, inbox_at, waiting_at, slot_size, made_at, copied_at, bodies_at, part_size, head_size, state_words}
use Rattle.decoding.specs.Kinds.{Words, keywords, word_at, word_in as word_of}
use Rattle.showing.specs.Writer.{most}
use Rattle.showing.specs.TextOfWords.{letter_in, letters_in, known_in, word_in, tagged_in, name_in, first, second, open_in, places_in, params_in, after, count, operator_in, head_in, series_in, owner_in, ref_in, leaf_in, Text, operands_in, form_in, shown}
use Rattle.lister.specs.TextOfState.{deep, message_in, waits, waiting_in, inbox_in, fields_in, kind_in, state_in, entry_in, opening_in, Entry, parts_in, slot_in, slots_in, spaced_in, title_in, counts_in, expr_in, line_in, entities_in, actor_in, actors_in, listed_in}

-- ---- one word
either : (n : ℕ) (b : Bool) (x y : Bytes) → length x ≤ n → length y ≤ n → length (cond b x y) ≤ n
either n true x y h k = h
either n false x y h k = k

letter-bound : (b : ℕ) → length (letter_in b) ≤ 1
unfolding letter_in
letter-bound b = either 1 (eqb b 0) _ _ (omega arith) (omega arith)

letters-bound : (v : ℕ) → length (letters_in v) ≤ 4
unfolding letters_in
letters-bound v =
    let a = letter_in (v % 256) in
    let b = letter_in (v / 256 % 256) in
    let c = letter_in (v / 65536 % 256) in
    let d = letter_in (v / 16777216) in
    omega (arith, length-append a (b ++ (c ++ d)), length-append b (c ++ d), length-append c d, letter-bound (v % 256), letter-bound (v / 256 % 256), letter-bound (v / 65536 % 256), letter-bound (v / 16777216))

known-bound : (x : ℕ) → length (known_in x) ≤ 12
unfolding known_in bytes
known-bound x =
    either 12 (eqb x 0) _ _ (omega arith) (either 12 (eqb x 1) _ _ (omega arith) (either 12 (eqb x 2) _ _ (omega arith) (either 12 (eqb x 3) _ _ (omega arith)
    (either 12 (eqb x 4) _ _ (omega arith) (either 12 (eqb x 5) _ _ (omega arith) (either 12 (eqb x 6) _ _ (omega arith) (omega arith)))))))

word_bound : (t : List ℕ) (x : ℕ) → length (word_in t x) ≤ 12
unfolding word_in
word_bound t x =
    let a = letters_in (get_or t (3 * x - 22) 0) in
    let b = letters_in (get_or t (3 * x - 21) 0) in
    let c = letters_in (get_or t (3 * x - 20) 0) in
    either 12 (ltb x 8) _ _ (known-bound x) (either 12 (ltb x 72) _ _
    (omega (arith, length-append a (b ++ c), length-append b c, letters-bound (get_or t (3 * x - 22) 0), letters-bound (get_or t (3 * x - 21) 0), letters-bound (get_or t (3 * x - 20) 0)))
    (omega arith))

tagged-bound : (t : List ℕ) (c : ℕ) → length (tagged_in t c) ≤ 14
unfolding tagged_in bytes
tagged-bound t c =
    either 14 (ltb c name_limit) _ _ (omega (arith, word_bound t c)) (either 14 (ltb c 256) _ _ (omega (arith, length-append (word_in t (c - name_limit)) (46 ∷ 102 ∷ []), word_bound t (c - name_limit)))
    (either 14 (ltb c 384) _ _ (omega arith) (omega arith)))

name-bound : (t : List ℕ) (c : ℕ) → length (name_in t c) ≤ 15
unfolding name_in
name-bound t c = either 15 (eqb c no_name) _ _ (omega arith) (omega (arith, tagged-bound t c))

key-bound : (k : ℕ) → length (word_of k) ≤ 12
unfolding Words bytes all
key-bound k = go keywords refl
  where
    go : (l : List (Bytes × ℕ)) → all (λ r. leb (length r.0) 12) l ≡ true → length (word_at l k) ≤ 12
    go [] h = omega arith
    go (r ∷ rs) h = let (a, b) = and₂ (leb (length r.0) 12) _ h in either 12 (eqb r.1 k) _ _ (leb-true _ _ a) (go rs b)

places-bound : (t : List ℕ) (x y z : ℕ) → length (places_in t x y z) ≤ 45
unfolding places_in open_in
places-bound t x y z =
    omega (arith, length-append (word_in t x) (name_in t y ++ (name_in t z ++ (41 ∷ []))), length-append (name_in t y) (name_in t z ++ (41 ∷ [])), length-append (name_in t z) (41 ∷ []), word_bound t x, name-bound t y, name-bound t z)

params-bound : (t : List ℕ) (h : ℕ) → length (params_in t h) ≤ 45
unfolding params_in
params-bound t h = either 45 (ltb (h / payload) 192) _ _ (omega arith) (places-bound t (h / tagged_limit % name_limit) (h / second_place % name_limit) (h / third_place % name_limit))

head-bound : (t : List ℕ) (h : ℕ) → length (head_in t h) ≤ 88
unfolding head_in operator_in
head-bound t h =
    let k = word_of (min 192 (h / payload)) in
    let x = name_in t (first h) in
    let y = name_in t (second h) in
    omega (arith, length-append k (x ++ (y ++ params_in t h)), length-append x (y ++ params_in t h), length-append y (params_in t h), key-bound (min 192 (h / payload)), name-bound t (first h), name-bound t (second h), params-bound t h)

digits-bound : (k n : ℕ) (w : Bytes) → length (digits k n w) ≤ k + length w
unfolding digits
digits-bound zero n w = omega arith
digits-bound (suc k) n w = go (ltb n 10) (digits-bound k (n / 10) ((48 + n % 10) ∷ w))
  where
    go : (b : Bool) → length (digits k (n / 10) ((48 + n % 10) ∷ w)) ≤ k + suc (length w) → length {A = ℕ} (elim b as (λ b. Bytes) [ true ↦ (48 + n) ∷ w | false ↦ digits k (n / 10) ((48 + n % 10) ∷ w) ]) ≤ suc k + length w
    go true i = omega arith
    go false i = omega arith

pub number_bound : (n : ℕ) → length (print_number n) ≤ 8
unfolding print_number
number_bound n = digits-bound 8 n []

series-bound : (s : ℕ) → length (series_in s) ≤ 3
unfolding series_in bytes
series-bound s = either 3 (eqb s 0) _ _ (omega arith) (omega arith)

ref-bound : (h : ℕ) → length (ref_in h) ≤ 25
unfolding ref_in owner_in bytes
ref-bound h =
    let a = print_number (h / owner_unit % owner_limit) in
    let s = series_in (h / number_limit % 2) in
    let n = print_number (h % number_limit) in
    omega (arith, length-append a (s ++ (n ++ (41 ∷ []))), length-append s (n ++ (41 ∷ [])), length-append n (41 ∷ []), number_bound (h / owner_unit % owner_limit), series-bound (h / number_limit % 2), number_bound (h % number_limit))

leaf-bound : (t : List ℕ) (h : ℕ) → length (leaf_in t h) ≤ 25
unfolding leaf_in bytes
leaf-bound t h =
    either 25 (eqb (h / payload) 1) _ _ (omega arith) (either 25 (eqb (h / payload) 2) _ _ (omega (arith, number_bound (h % payload)))
    (either 25 (eqb (h / payload) 3) _ _ (ref-bound h) (omega (arith, word_bound t (h % name_limit)))))

-- ---- terms
-- a text has at most 128 bytes for each word that it took, and k more
abbrev pub Within : ℕ → List ℕ → Text → Type 0
Within k w x = length x.text + 128 * length x.rest ≤ 128 * length w + k

module _ (t : List ℕ) where
  operands-bound : (S : List ℕ → Text) → ((w : List ℕ) → Within 0 w (S w)) → (x n : ℕ) (w : List ℕ) → Within (n + length (name_in t x)) w (operands_in t S x n w)
  unfolding operands_in name_in
  operands-bound S h x zero w = omega arith
  operands-bound S h x (suc n) w =
      let a = S w in
      let b = operands_in t S no_name n a.rest in
      omega (arith, h w, operands-bound S h no_name n a.rest, length-append a.text (name_in t x ++ b.text), length-append (name_in t x) b.text)

  form-bound : (S : List ℕ → Text) → ((w : List ℕ) → Within 0 w (S w)) → (h : ℕ) (w : List ℕ) → Within 118 w (form_in t S h w)
  unfolding form_in
  form-bound S k h w =
      let a = operands_in t S (after h) (count h) w in
      omega (arith, operands-bound S k (after h) (count h) w, length-append (head_in t h) (a.text ++ (41 ∷ [])), length-append a.text (41 ∷ []), head-bound t h, name-bound t (after h))

  shown-bound : (n : ℕ) (w : List ℕ) → Within 0 w (shown t n w)
  unfolding shown
  shown-bound zero w = omega arith
  shown-bound (suc n) [] = omega arith
  shown-bound (suc n) (h ∷ w) = go (ltb (h / payload) 7) (form-bound (shown t n) (shown-bound n) h w)
    where
      go : (b : Bool) → Within 118 w (form_in t (shown t n) h w) → Within 0 (h ∷ w) (cond b (record { text = leaf_in t h; rest = w }) (form_in t (shown t n) h w))
      go true i = omega (arith, leaf-bound t h)
      go false i = omega arith

  -- ---- messages and fields
  -- no more words than a state has
  abbrev Few : List ℕ → Type 0
  Few w = length w ≤ state_words

  dropped : (n : ℕ) (w : List ℕ) → Few w → Few (drop n w)
  dropped n w h = omega (arith, length-drop n w)

  -- a text of at most n bytes that leaves no more words than a state has
  abbrev Fine : ℕ → Text → Type 0
  Fine n x = (length x.text ≤ n) × Few x.rest

  pick : (n : ℕ) (b : Bool) (x y : Text) → Fine n x → Fine n y → Fine n (cond b x y)
  pick n true x y h k = h
  pick n false x y h k = k

  leaf-forms : (h : ℕ) (w : List ℕ) → Few w → Fine 2097270 (form_in t (shown t 1) h w)
  leaf-forms h w f = let b = form-bound (shown t 1) (shown-bound 1) h w in (omega arith, omega arith)

  message-bound : (w : List ℕ) → Few w → length (message_in t w) ≤ 2097270
  unfolding message_in bytes
  message-bound w f =
      let x = get_or w 0 0 % slot_unit in
      let n = 1 + get_or w 0 0 / tagged_limit % digit_limit in
      let a = operands_in t (shown t 1) x n (drop 1 w) in
      omega (arith, length-append a.text (41 ∷ []), operands-bound (shown t 1) (shown-bound 1) x n (drop 1 w), name-bound t x, dropped 1 w f)

  waiting-bound : (k n : ℕ) (w : List ℕ) → Few w → Fine (k * 2097271) (waiting_in t k n w)
  unfolding waiting_in
  waiting-bound zero n w f = (omega arith, f)
  waiting-bound (suc k) n w f =
      let b = waiting_in t k n (drop message_size w) in
      let i = waiting-bound k n (drop message_size w) (dropped message_size w f) in
      pick (suc k * 2097271) (waits n w) _ _ (omega (arith, i.0, length-append (message_in t w) b.text, message-bound w f), i.1) (omega arith, f)

  inbox-bound : (n : ℕ) (w : List ℕ) → Few w → length (inbox_in t n w) ≤ n * 2097271
  unfolding inbox_in
  inbox-bound zero w f = omega arith
  inbox-bound (suc n) w f =
      omega (arith, length-append (message_in t w) (10 ∷ inbox_in t n (drop message_size w)), message-bound w f, inbox-bound n (drop message_size w) (dropped message_size w f))

  fields-bound : (n x : ℕ) (w : List ℕ) → Few w → length (fields_in t n x w) ≤ n * 2097271
  unfolding fields_in
  fields-bound zero x w f = omega arith
  fields-bound (suc n) x w f =
      let h = header + x % name_limit in
      let a = leaf-forms h w f in
      let y = form_in t (shown t 1) h w in
      omega (arith, a.0, length-append y.text (fields_in t n (x / name_limit) y.rest), fields-bound n (x / name_limit) y.rest a.1)

  -- ---- slots
  kind-bound : (k : ℕ) → length (kind_in k) ≤ 10
  unfolding kind_in bytes
  kind-bound k = either 10 (eqb k 1) _ _ (omega arith) (either 10 (eqb k 2) _ _ (omega arith) (either 10 (eqb k 5) _ _ (omega arith) (omega arith)))

  state-bound : (k v : ℕ) → length (state_in t k v) ≤ 26
  unfolding state_in bytes
  state-bound k v =
      either 26 (eqb k 3) _ _ (omega arith) (either 26 (eqb k 4) _ _ (omega (arith, leaf-bound t v))
      (either 26 (eqb k 5) _ _ (omega (arith, number_bound (v % payload))) (omega arith)))

  opening-bound : (a s h v : ℕ) → length (opening_in t a s h v) ≤ 55
  unfolding opening_in entry_in
  opening-bound a s h v =
      let k = kind_in (h % digit_limit) in
      let n = print_number (h / slot_unit) in
      let u = state_in t (h % digit_limit) v in
      omega (arith, length-append (k ++ print_number a) (series_in s ++ (n ++ u)), length-append k (print_number a), length-append (series_in s) (n ++ u), length-append n u, kind-bound (h % digit_limit), number_bound a, series-bound s, number_bound (h / slot_unit), state-bound (h % digit_limit) v)

  abbrev Good : ℕ → Entry → Type 0
  Good n x = (length x.text ≤ n) × Few x.bodies × Few x.waiting

  parts-bound : (h x : ℕ) (w b q : List ℕ) → Few w → Few b → Few q → Good 52000000 (parts_in t h x w b q)
  unfolding parts_in name_in
  parts-bound h x w b q f g i =
      let m = operands_in t (shown t deep) no_name (h / digits_limit % digit_limit) b in
      let u = waiting_in t 16 (h / slot_unit) q in
      let y = fields_in t (h / digit_limit % digit_limit) x w in
      let k = operands-bound (shown t deep) (shown-bound deep) no_name (h / digits_limit % digit_limit) b in
      let j = waiting-bound 16 (h / slot_unit) q i in
      let l = fields-bound (h / digit_limit % digit_limit) x w f in
      (omega (arith, k, j.0, l, length-append y (m.text ++ (u.text ++ (41 ∷ 10 ∷ []))), length-append m.text (u.text ++ (41 ∷ 10 ∷ [])), length-append u.text (41 ∷ 10 ∷ [])), omega (arith, k), j.1)

  slots-bound : (a s n : ℕ) (w b q : List ℕ) → Few w → Few b → Few q → Good (n * 52000055) (slots_in t a s n w b q)
  unfolding slots_in slot_in
  slots-bound a s zero w b q f g i = (omega arith, g, i)
  slots-bound a s (suc n) w b q f g i =
      let x = parts_in t (get_or w 0 0) (get_or w 1 0) (drop 2 w) b q in
      let k = parts-bound (get_or w 0 0) (get_or w 1 0) (drop 2 w) b q (dropped 2 w f) g i in
      let o = opening_in t a s (get_or w 0 0) (get_or w 2 0) in
      let y = slots_in t a s n (drop slot_size w) x.bodies x.waiting in
      let j = slots-bound a s n (drop slot_size w) x.bodies x.waiting (dropped slot_size w f) k.1 k.2 in
      (omega (arith, k.0, j.0, length-append (o ++ x.text) y.text, length-append o x.text, opening-bound a s (get_or w 0 0) (get_or w 2 0)), j.1, j.2)

  -- ---- actors
  line-bound : (a : ℕ) (w : List ℕ) → Few w → length (line_in t a w) ≤ 3000000
  unfolding line_in title_in counts_in expr_in spaced_in bytes
  line-bound a w f =
      let p = print_number a in
      let x = print_number (get_or w 0 0 % payload) in
      let y = print_number (get_or w 1 0 % 64) in
      let z = print_number (get_or w 2 0 % 32) in
      let e = shown t deep (drop expr_at w) in
      let u : Bytes = 32 ∷ (e.text ++ (41 ∷ 10 ∷ [])) in
      omega (arith, length-append p ((32 ∷ (x ++ (32 ∷ (y ++ (32 ∷ z))))) ++ u), length-append (x ++ (32 ∷ (y ++ (32 ∷ z)))) u, length-append x (32 ∷ (y ++ (32 ∷ z))), length-append y (32 ∷ z), length-append e.text (41 ∷ 10 ∷ []), number_bound a, number_bound (get_or w 0 0 % payload), number_bound (get_or w 1 0 % 64), number_bound (get_or w 2 0 % 32), shown-bound deep (drop expr_at w), dropped 16 w f)

  actor-bound : (a : ℕ) (w : List ℕ) → Few w → length (actor_in t a w) ≤ 6000000000
  unfolding actor_in entities_in
  actor-bound a w f =
      let n = get_or w 1 0 % 64 in
      let k = get_or w 2 0 % 32 in
      let m = slots_in t a 0 n (drop made_at w) (drop bodies_at w) (drop waiting_at w) in
      let i = slots-bound a 0 n (drop made_at w) (drop bodies_at w) (drop waiting_at w) (dropped made_at w f) (dropped bodies_at w f) (dropped waiting_at w f) in
      let c = slots_in t a 1 k (drop copied_at w) m.bodies m.waiting in
      let j = slots-bound a 1 k (drop copied_at w) m.bodies m.waiting (dropped copied_at w f) i.1 i.2 in
      let q = inbox_in t (get_or w 3 0 % 32) (drop inbox_at w) in
      let h = m.text ++ c.text in
      omega (arith, i.0, j.0, length-append (line_in t a w) (h ++ q), length-append h q, length-append m.text c.text, line-bound a w f, inbox-bound (get_or w 3 0 % 32) (drop inbox_at w) (dropped inbox_at w f))

  actors-bound : (a n : ℕ) (w : List ℕ) → Few w → length (actors_in t a n w) ≤ n * 6000000000
  unfolding actors_in
  actors-bound a zero w f = omega arith
  actors-bound a (suc n) w f =
      omega (arith, length-append (actor_in t a w) (actors_in t (a + 1) n (drop part_size w)), actor-bound a w f, actors-bound (a + 1) n (drop part_size w) (dropped part_size w f))

pub listed-bound : (t : List ℕ) → length t ≤ state_words → length (listed_in t) ≤ most
unfolding listed_in
listed-bound t f = omega (arith, actors-bound t 0 (get_or t 0 0 % 5) (drop head_size t) (dropped t head_size t f))
