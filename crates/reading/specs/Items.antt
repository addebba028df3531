-- How the text of items lies before the reader: each behind a space (32), then the closing bracket (41). With the rest of the
-- text written after them no bracketing of `◌++◌` is left, so a reader meets the next byte by computing. Then the laws of the
-- readers' first steps: a run of letters and digits, one byte, given bytes, an operator. Assumes nothing.
use Rattle.std.specs.Prelude.{◌≡◌, refl, Bool, true, false, ◌&&◌, not, ◌↔◌, List, [], ◌∷◌, ◌++◌, ℕ, zero, suc, ◌+◌, ◌≤◌, ◌<◌, length, eqb, leb, if◌then◌else◌}
use Rattle.std.proofs.Common.{sym, ap, ap₂, ◌∙◌, append_assoc, append-nil, arith, length-append, eqb-true, leb-true, eq-eqb, le-leb}
use Rattle.std.proofs.lemmas.Bool.{false≢true}
use Rattle.std.proofs.Math.Option.{none, some}
use Rattle.atlite.specs.Base.{Base, same_bytes, all}
use Rattle.atlite.specs.Lexicon.{Bytes, in_word, is_letter, is_digit, letter_first, is_word, among}
use Rattle.atlite.specs.Term.{Term·all, plain, plus, percent, same, choose, get, set, call, send, Kind, object, isolate, actor}
use Rattle.atlite.specs.Valid.{AllOf, is_name, callable, sendable, operable}
use Rattle.atlite.specs.Script.{SrcOp, kept, ask, resolve, seq, src_shape}
use Rattle.atlite.specs.Printer.{Printer, print_items, form, print_word, src_names, placed}
use Rattle.atlite.specs.Keywords.{print_kind, src_word, reserved, Operator, bare, naming, let_in, future, fn, when, literal, operators, let_word, future_word, fn_word, when_word, spelling}
use Rattle.atlite.specs.Reader.{item, eat, after, least, more, spelled}
use Rattle.atlite.specs.Table.{writable}
use Rattle.atlite_laws.specs.Facts.{none-some, and₂, both₂, same_true, Every, holds, nothing, checked}

-- items, each behind a space, then j
abbrev pub behind : List Bytes → Bytes → Bytes
behind [] j = j
behind (w ∷ ws) j = 32 ∷ (w ++ behind ws j)

-- the same with the closing bracket before j
abbrev pub closing : List Bytes → Bytes → Bytes
closing ws j = behind ws (41 ∷ j)

pub behind-append : (vs ws : List Bytes) (j : Bytes) → behind (vs ++ ws) j ≡ behind vs (behind ws j)
behind-append [] ws j = refl
behind-append (v ∷ vs) ws j = ap {B = Bytes} (λ i. 32 ∷ (v ++ i)) (behind-append vs ws j)

items-closing : (w : Bytes) (ws : List Bytes) (j : Bytes) → print_items (w ∷ ws) ++ (41 ∷ []) ++ j ≡ w ++ closing ws j
unfolding print_items
items-closing w [] j = append_assoc w (41 ∷ []) j
items-closing w (v ∷ ws) j =
    append_assoc (w ++ (32 ∷ print_items (v ∷ ws))) (41 ∷ []) j
    ∙ append_assoc w (32 ∷ print_items (v ∷ ws)) (41 ∷ j)
    ∙ ap {B = Bytes} (λ i. w ++ (32 ∷ i)) (sym (append_assoc (print_items (v ∷ ws)) (41 ∷ []) j) ∙ items-closing v ws j)

pub form-closing : (w : Bytes) (ws : List Bytes) (j : Bytes) → form (w ∷ ws) ++ j ≡ 40 ∷ (w ++ closing ws j)
unfolding form
form-closing w ws j = ap {B = Bytes} (λ i. 40 ∷ i) (items-closing w ws j)

-- every item is shorter than n
abbrev pub Within : ℕ → List Bytes → Type 0
Within n [] = Unit {0}
Within n (w ∷ ws) = (length w < n) × Within n ws

within-closing : (n : ℕ) (ws : List Bytes) → length (closing ws []) ≤ n → Within n ws
within-closing n [] h = tt
within-closing n (w ∷ ws) h = let e = length-append w (closing ws []) in (omega arith, within-closing n ws (omega arith))

pub within-form : (n : ℕ) (w : Bytes) (ws : List Bytes) → length (form (w ∷ ws)) ≤ n → Within n ws
within-form n w ws h =
    let e : length (form (w ∷ ws) ++ []) ≡ length (40 ∷ (w ++ closing ws [])) = ap length (form-closing w ws []) in
    let d : length (form (w ∷ ws) ++ []) ≡ length (form (w ∷ ws)) = ap length (append-nil (form (w ∷ ws))) in
    let f = length-append w (closing ws []) in
    within-closing n ws (omega arith)

pub within-append : (n : ℕ) (vs ws : List Bytes) → Within n (vs ++ ws) → Within n vs × Within n ws
within-append n [] ws h = (tt, h)
within-append n (v ∷ vs) ws h = let r = within-append n vs ws h.1 in ((h.0, r.0), r.1)

-- where a word or number may end: no letter or digit comes next
abbrev pub Ends : Bytes → Type 0
Ends [] = Unit {0}
Ends (b ∷ i) = in_word b ≡ false

-- A word begins with a letter and is a run of letters and digits.
pub word-parts : (w : Bytes) → is_word w ≡ true → (letter_first w ≡ true) × (all in_word w ≡ true)
unfolding is_word
word-parts w h =
    let p = and₂ (letter_first w && all in_word w && leb (length w) 12) (not (among reserved w)) h in
    let q = and₂ (letter_first w && all in_word w) (leb (length w) 12) p.0 in
    and₂ (letter_first w) (all in_word w) q.0

pub ends-closing : (ws : List Bytes) (j : Bytes) → Ends (closing ws j)
unfolding in_word is_letter is_digit
ends-closing [] j = refl
ends-closing (w ∷ ws) j = refl

pub item_in : (b : ℕ) (i : Bytes) → in_word b ≡ true → item (b ∷ i) ≡ (b ∷ (item i).0, (item i).1)
unfolding item
item_in b i h = rw (h, item)

pub item_out : (b : ℕ) (i : Bytes) → in_word b ≡ false → item (b ∷ i) ≡ ([], b ∷ i)
unfolding item
item_out b i h = rw (h, item)

pub item-whole : (i : Bytes) → (item i).0 ++ (item i).1 ≡ i
unfolding item
item-whole [] = refl
item-whole (b ∷ i) = go (in_word b) refl (item-whole i)
  where
    go : (c : Bool) → in_word b ≡ c → (item i).0 ++ (item i).1 ≡ i → (item (b ∷ i)).0 ++ (item (b ∷ i)).1 ≡ b ∷ i
    go true e ih = rw (item_in b i e) (ap {B = Bytes} (λ j. b ∷ j) ih)
    go false e ih = rw (item_out b i e)

pub item-run : (w j : Bytes) → all in_word w ≡ true → Ends j → item (w ++ j) ≡ (w, j)
unfolding item all
item-run [] [] h e = refl
item-run [] (b ∷ j) h e = item_out b j e
item-run (b ∷ w) j h e =
    let p = and₂ (in_word b) (all in_word w) h in
    item_in b (w ++ j) p.0 ∙ ap {B = Bytes × Bytes} (λ r. (b ∷ r.0, r.1)) (item-run w j p.1 e)

pub eat-reads : (b : ℕ) (i : Bytes) → Every (λ j. b ∷ j ≡ i) (eat b i)
unfolding eat
eat-reads b [] = nothing
eat-reads b (c ∷ i) = checked 2 (eqb b c) (λ e. holds (ap {B = Bytes} (λ a. a ∷ i) (eqb-true b c e)))

pub after-whole : (w i j : Bytes) → after w i ≡ some j → w ++ j ≡ i
unfolding after
after-whole [] i j h = cc
after-whole (b ∷ w) [] j h = absurd (none-some h)
after-whole (b ∷ w) (c ∷ i) j h = go (eqb b c) refl h (after-whole w i j)
  where
    go : (t : Bool) → eqb b c ≡ t → (if t then after w i else none) ≡ some j → (after w i ≡ some j → w ++ j ≡ i)
        → b ∷ (w ++ j) ≡ c ∷ i
    go true e p ih = ap₂ {C = Bytes} (λ x y. x ∷ y) (eqb-true b c e) (ih p)
    go false e p ih = absurd (none-some p)

-- names stand behind the first operand, so where there are none the operands stand alone
pub placed-none : (es : List Bytes) → placed [] es ≡ es
unfolding placed
placed-none [] = refl
placed-none (e ∷ es) = refl

-- ---- operators and their words
-- Under a dictionary of w words an operator may have n operands just where the reader takes so many and t holds, that its name is a word.
abbrev Asks : SrcOp → (ℕ → Bool) → Type 0
Asks o t =
    (w n : ℕ) → (writable w o n ≡ true)
    ↔ ((t w ≡ true) × (least (src_shape o) ≤ n) × (n ≤ least (src_shape o) + more (src_shape o)))

-- What is read behind the word w is written with that word again and with the name that was read, if any. An operator that takes a name
-- has at least one operand, since the name stands behind it.
abbrev pub Writes : Bytes → Operator → Type 0
Writes w (bare o) = (src_word o ≡ w) × ((ws : List Bytes) → src_names ws o ≡ []) × Asks o (λ w. true)
Writes w (naming c) =
    (x : ℕ) → (src_word (c x) ≡ w) × ((ws : List Bytes) → src_names ws (c x) ≡ print_word ws x ∷ [])
    × (0 < least (src_shape (c x))) × Asks (c x) (λ w. is_name w x)
Writes w let_in = let_word ≡ w
Writes w future = future_word ≡ w
Writes w fn = fn_word ≡ w
Writes w when = when_word ≡ w
Writes w (literal k) = print_kind k ≡ w

-- the two ways to ask for operands: so many, or a receiver and at most three arguments
exactly-asks : (b : Bool) (k n : ℕ) → ((b && eqb n k) ≡ true) ↔ ((b ≡ true) × (k ≤ n) × (n ≤ k + 0))
exactly-asks b k n = (
  λ h. let (t, e) = and₂ b (eqb n k) h in let i = eqb-true n k e in (t, omega arith, omega arith),
  λ (t, low, high). both₂ t (eq-eqb n k (omega arith)),
)

receiver-asks : (f : ℕ → Bool) (b : Bool) → f 0 ≡ false → ((n : ℕ) → f (suc n) ≡ (b && leb n 3)) → (n : ℕ) → (f n ≡ true) ↔ ((b ≡ true) × (0 < n) × (n ≤ 4))
receiver-asks f b z s zero = (λ h. absurd (false≢true (sym z ∙ h)), λ (t, low, high). absurd (omega arith))
receiver-asks f b z s (suc n) = (
  λ h. let (t, e) = and₂ b (leb n 3) (sym (s n) ∙ h) in let i = leb-true n 3 e in (t, omega arith, omega arith),
  λ (t, low, high). s n ∙ both₂ t (le-leb n 3 (omega arith)),
)

pub call-few : (w m n : ℕ) → operable w (call (plain m)) n ≡ true → (is_name w m ≡ true) × (0 < n) × (n ≤ 4)
unfolding callable
call-few w m n h = (receiver-asks (operable w (call (plain m))) (is_name w m) refl (λ n. refl) n).0 h

pub send-few : (w m n : ℕ) → operable w (send (plain m)) n ≡ true → (is_name w m ≡ true) × (0 < n) × (n ≤ 4)
unfolding sendable
send-few w m n h = (receiver-asks (operable w (send (plain m))) (is_name w m) refl (λ n. refl) n).0 h

-- what the words of operators and forms compute by
unfoldable pub Words : Unit {0}
unfolding Term·all Printer spelled in_word is_letter is_digit callable sendable Base
Words = tt

row : {A B : Type 0} → A → B → A × B
row h r = (h, r)

-- the table of the reader, row by row
rows : AllOf (λ o. Writes (spelling o) o) operators
unfolding Words
rows =
    row (refl, λ ws. refl, λ w n. exactly-asks true 2 n)
    (row (refl, λ ws. refl, λ w n. exactly-asks true 2 n)
    (row (λ x. (refl, λ ws. refl, omega arith, λ w n. exactly-asks (is_name w x) 1 n))
    (row (λ x. (refl, λ ws. refl, omega arith, λ w n. exactly-asks (is_name w x) 2 n))
    (row (λ x. (refl, λ ws. refl, omega arith, λ w n. receiver-asks (λ n. writable w (kept (call x)) n) (is_name w x) refl (λ n. refl) n))
    (row (λ x. (refl, λ ws. refl, omega arith, λ w n. receiver-asks (λ n. writable w (kept (send x)) n) (is_name w x) refl (λ n. refl) n))
    (row (λ x. (refl, λ ws. refl, omega arith, λ w n. receiver-asks (λ n. writable w (ask x) n) (is_name w x) refl (λ n. refl) n))
    (row refl
    (row refl
    (row refl
    (row (refl, λ ws. refl, λ w n. exactly-asks true 2 n)
    (row refl
    (row (refl, λ ws. refl, λ w n. exactly-asks true 2 n)
    (row refl
    (row refl
    (row refl
    (row (refl, λ ws. refl, λ w n. exactly-asks true 3 n)
    (row (refl, λ ws. refl, λ w n. exactly-asks true 2 n) tt)))))))))))))))))

found-writes : (os : List Operator) (w : Bytes) (o : Operator) → AllOf (λ o. Writes (spelling o) o) os → spelled os w ≡ some o → Writes w o
unfolding spelled
found-writes [] w o a h = absurd (none-some h)
found-writes (r ∷ os) w o a h = go (same_bytes (spelling r) w) refl h (found-writes os w o a.1)
  where
    go : (t : Bool) → same_bytes (spelling r) w ≡ t → (if t then some r else spelled os w) ≡ some o → (spelled os w ≡ some o → Writes w o) → Writes w o
    go true e p ih = let q : r ≡ o = cc in rw (← same_true (spelling r) w e, ← q) a.0
    go false e p ih = ih p

pub operator-writes : (w : Bytes) (o : Operator) → spelled operators w ≡ some o → Writes w o
operator-writes w o h = found-writes operators w o rows h

-- the word is read as the operator, and is a run of letters
abbrev pub Spelt : Bytes → Operator → Type 0
Spelt w o = (spelled operators w ≡ some o) × (all in_word w ≡ true)

-- how the word of an operator is read, so that the operator comes back with its name
pub data OpRead : SrcOp → Type 0 where
  nameless : {o : SrcOp} → Spelt (src_word o) (bare o) → OpRead o
  named : (c : ℕ → SrcOp) (x : ℕ) → Spelt (src_word (c x)) (naming c) → OpRead (c x)

pub op-read : (o : SrcOp) → OpRead o
unfolding Words
op-read (kept plus) = nameless (refl, refl)
op-read (kept percent) = nameless (refl, refl)
op-read (kept same) = nameless (refl, refl)
op-read (kept choose) = nameless (refl, refl)
op-read (kept (get f)) = named (λ f. kept (get f)) f (refl, refl)
op-read (kept (set f)) = named (λ f. kept (set f)) f (refl, refl)
op-read (kept (call m)) = named (λ m. kept (call m)) m (refl, refl)
op-read (kept (send m)) = named (λ m. kept (send m)) m (refl, refl)
op-read (ask m) = named ask m (refl, refl)
op-read resolve = nameless (refl, refl)
op-read seq = nameless (refl, refl)

pub literal-read : (k : Kind) → Spelt (print_kind k) (literal k)
unfolding Words
literal-read object = (refl, refl)
literal-read isolate = (refl, refl)
literal-read actor = (refl, refl)
