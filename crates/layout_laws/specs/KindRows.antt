-- What the table of kinds says of every kind, gone through once, and the row of each operator. Assumes nothing.
use Rattle.std.specs.Prelude.{ℕ, ◌≤◌, ◌<◌, ◌≡◌, refl, Bool, true, false, ◌&&◌, ◌||◌, cond, List, [], ◌∷◌, eqb, leb}
use Rattle.std.proofs.Common.{arith, eqb-true, leb-true}
use Rattle.atlite_laws.specs.Facts.{and₂}
use Rattle.atlite.specs.Keywords.{op_word}
use Rattle.atlite.specs.Term.{this, Name, Op, plus, percent, same, choose, get, set, call, send, written, Kind}
use Rattle.layout.specs.Numbers.{field_kind}
use Rattle.layout.specs.Terms.{op_kind, kind_number}
use Rattle.decoding.specs.Kinds.{Bare, Fields, Form, Kinds, Words, bare, calls, form_at, form_in, form_kind, forms, future, let_in, literal, nothing, null_value, number, on_field, reference, sends, variable, word_in}

-- ---- the table is gone through once
-- what holds of each row under its kind, and of no row at all, holds of what a kind stands for
pub by_kind : (P : ℕ → Form → Type 0) → ((k : ℕ) → P k nothing) → ((r : Form) → P (form_kind r) r) → (k : ℕ) → P k (form_in k)
unfolding form_in form_at
by_kind P z h k = go forms
  where
    found : (r : Form) (rs : List Form) (b : Bool) → eqb (form_kind r) k ≡ b → P k (form_at rs k) → P k (cond b r (form_at rs k))
    found r rs true e g = rw (← eqb-true (form_kind r) k e) (h r)
    found r rs false e g = g

    go : (rs : List Form) → P k (form_at rs k)
    go [] = z k
    go (r ∷ rs) = found r rs (eqb (form_kind r) k) refl (go rs)

-- ---- operators
-- the last kind of a term's words
abbrev pub last_kind : ℕ
last_kind = 19

-- the kinds that operators may have: none of those that bind names or have parts
unfoldable pub operating : ℕ → Bool
operating k = leb 7 k && leb k 10 || leb 13 k && leb k 14 || leb 18 k && leb k last_kind

abbrev pub Operating : ℕ → Type 0
Operating k = (7 ≤ k) × (k ≤ last_kind) × (k ≡ 11 → ⊥) × (k ≡ 12 → ⊥) × (k ≡ 15 → ⊥) × (k ≡ 16 → ⊥) × (k ≡ 17 → ⊥)

pub operates : {N : Type 0} (o : Op N) → operating (op_kind o) ≡ true
unfolding operating
operates plus = refl
operates percent = refl
operates same = refl
operates choose = refl
operates (get f) = refl
operates (set f) = refl
operates (call m) = refl
operates (send m) = refl

operating-range : (k : ℕ) → operating k ≡ true → Operating k
unfolding operating
operating-range k h = go (leb 7 k && leb k 10) refl h
  where
    later : (c : Bool) → (leb 13 k && leb k 14) ≡ c → (c || leb 18 k && leb k last_kind) ≡ true → Operating k
    later true e h = let (i, j) = and₂ (leb 13 k) (leb k 14) e in let i = leb-true 13 k i in let j = leb-true k 14 j in (omega arith, omega arith, λ z. omega arith, λ z. omega arith, λ z. omega arith, λ z. omega arith, λ z. omega arith)
    later false e h = let (i, j) = and₂ (leb 18 k) (leb k last_kind) h in let i = leb-true 18 k i in let j = leb-true k last_kind j in (omega arith, omega arith, λ z. omega arith, λ z. omega arith, λ z. omega arith, λ z. omega arith, λ z. omega arith)

    go : (c : Bool) → (leb 7 k && leb k 10) ≡ c → (c || leb 13 k && leb k 14 || leb 18 k && leb k last_kind) ≡ true → Operating k
    go true e h = let (i, j) = and₂ (leb 7 k) (leb k 10) e in let i = leb-true 7 k i in let j = leb-true k 10 j in (omega arith, omega arith, λ z. omega arith, λ z. omega arith, λ z. omega arith, λ z. omega arith, λ z. omega arith)
    go false e h = later (leb 13 k && leb k 14) refl h

pub op-kind : {N : Type 0} (o : Op N) → Operating (op_kind o)
op-kind o = operating-range (op_kind o) (operates o)

-- an operator's row, and the word of its kind
pub data Row : Op Name → Type 0 where
  is_bare : (o : Op ℕ) (n : ℕ) (e : Bare o n) → form_in (op_kind (written o)) ≡ bare o n e → word_in (op_kind (written o)) ≡ op_word (written o) → Row (written o)
  is_field : (c : ℕ → Op ℕ) (k n : ℕ) (e : Fields c k n) (f : ℕ) → form_in k ≡ on_field c k n e → word_in k ≡ op_word (written (c f)) → Row (written (c f))
  is_call : (m : Name) → Row (call m)
  is_send : (m : Name) → Row (send m)

pub row : (o : Op Name) → Row o
unfolding Kinds Words
row plus = is_bare plus 2 _ refl refl
row percent = is_bare percent 2 _ refl refl
row same = is_bare same 2 _ refl refl
row choose = is_bare choose 3 _ refl refl
row (get f) = is_field get 9 1 _ f refl refl
row (set f) = is_field set 10 2 _ f refl refl
row (call m) = is_call m
row (send m) = is_send m

-- the same for one that a script can write
pub data SrcRow : Op ℕ → Type 0 where
  is_bare : (o : Op ℕ) (n : ℕ) (e : Bare o n) → form_in (op_kind (written o)) ≡ bare o n e → SrcRow o
  is_field : (c : ℕ → Op ℕ) (k n : ℕ) (e : Fields c k n) (f : ℕ) → form_in k ≡ on_field c k n e → SrcRow (c f)
  is_call : (m : ℕ) → SrcRow (call m)
  is_send : (m : ℕ) → SrcRow (send m)

pub src-row : (o : Op ℕ) → SrcRow o
unfolding Kinds
src-row plus = SrcRow.is_bare plus 2 _ refl
src-row percent = SrcRow.is_bare percent 2 _ refl
src-row same = SrcRow.is_bare same 2 _ refl
src-row choose = SrcRow.is_bare choose 3 _ refl
src-row (get f) = SrcRow.is_field get 9 1 _ f refl
src-row (set f) = SrcRow.is_field set 10 2 _ f refl
src-row (call m) = SrcRow.is_call m
src-row (send m) = SrcRow.is_send m

pub kind-range : (k : Kind) → (15 ≤ kind_number k) × (kind_number k < 18)
unfolding kind_number
kind-range Kind.object = (omega arith, omega arith)
kind-range Kind.isolate = (omega arith, omega arith)
kind-range Kind.actor = (omega arith, omega arith)

pub kind-small : (k : Kind) → kind_number k < field_kind
kind-small k = omega (arith, (kind-range k).1)

-- nothing stands past the last kind
pub form-none : (k : ℕ) → last_kind < k → form_in k ≡ nothing
unfolding form_kind kind_number
form-none k l = by_kind (λ k r. last_kind < k → r ≡ nothing) (λ k l. refl) none k l
  where
    none : (r : Form) → last_kind < form_kind r → r ≡ nothing
    none nothing l = refl
    none null_value l = absurd (omega arith)
    none number l = absurd (omega arith)
    none reference l = absurd (omega arith)
    none variable l = absurd (omega arith)
    none (bare o n e) l = let h = op-kind (written o) in absurd (omega (arith, h.1))
    none (on_field c k n e) l = let h = op-kind (written (c this)) in absurd (omega (arith, h.1, (e.0 this).2))
    none let_in l = absurd (omega arith)
    none future l = absurd (omega arith)
    none calls l = absurd (omega arith)
    none sends l = absurd (omega arith)
    none (literal k) l = absurd (omega (arith, (kind-range k).1))
