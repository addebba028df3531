-- The laws of the words of terms: one for each kind that nothing stands behind, that has operands, or that binds names. Assumes nothing.
use Rattle.std.specs.Prelude.{ℕ, zero, suc, ◌+◌, ◌*◌, ◌/◌, ◌%◌, ◌≤◌, ◌<◌, ◌≡◌, Bool, ◌&&◌, not, Some, None, eqb}
use Rattle.std.specs.Prelude.{set}
use Rattle.std.specs.Bool.{then_some}
use Rattle.std.specs.Option.{option_and_then}
use Rattle.std.proofs.Math.Path.{refl, sym}
use Rattle.std.proofs.Common.{◌∙◌, true≢false, rules}
use Rattle.std.proofs.Math.Bool.{true, false, cond, and-false}
use mathlib.Core.List.{List, ◌∷◌}
use Rattle.std.proofs.Math.Option.{Option, some}
use Rattle.std.specs.Prelude.{Option as Maybe}
use native.Mathlib.Omega.{arith}
use borrow.Author.Tests.{lt-ltb, lt-leb, ltb-false, eq-eqb, ne_eqb}
use Rattle.std.proofs.Math.Dec.{ltb}
use Rattle.atlite_laws.specs.Facts.{and₂}
use Rattle.atlite.specs.Term.{Value, Name, plain, two_way, resolve, register, Kind, Op, call, send, written, var, let_in, future}
use Rattle.atlite.specs.Valid.{is_name, is_variable, sendable, callable, operable}
use Rattle.decoding.specs.ValidTest.{well_formed}
use Rattle.layout.specs.Numbers.{payload, name_limit, no_name, tag_limit, third_place, pair_limit}
use Rattle.layout_laws.specs.PackLaws.{pack-low}
use Rattle.layout.specs.Terms.{kind_number}
use Rattle.decoding.specs.Kinds.{Kinds, Form, nothing, null_value, number, reference, variable, bare, on_field, calls, sends, form_kind, row_of, row_in}
use Rattle.layout_laws.specs.KindRows.{by_kind as by_form}
use Rattle.layout_laws.specs.KindLaws.{bare-row, field_row, bare-found, field_found}
use Rattle.layout_laws.specs.Parse.{value_in, value_at, name_of, no_head, unary, binary, many, only, value_head, ask_head, ask_in, head_of, head_in, head_at, formed}
use Rattle.layout_laws.specs.ParseLaws.{parse}
use Rattle.checks.specs.Scope.{Swapped, Bound, Kept}
use Rattle.term_words.specs.Words.{within, send_in, call_in}
use Rattle.term_words.specs.WordLaws.{name-past}
use Rattle.term_words.specs.Ends.{end_of, Scope, Sees, bound, Arguments, two, terms_end, Leaf, Closed, Unlisted, Operands, TermEnds, FormEnds, LiteralEnds}
use Rattle.term_words.specs.ScopeLaws.{scope-bind, two-bound}
use Rattle.term_words.specs.NameLaws.{variable-below}
use Rattle.wellformed.specs.EndLaws.{ends_on, ends-pair}
use Rattle.wellformed.specs.ShapeLaws.{form_end, only_none, only-some, leaf-ends, unary-none, binary-none, many-some, many-none, by_kind}

-- ---- names with too many arguments
module _ (c : ℕ) where
  few-called : (m : Name) (n : ℕ) → 8 ≤ n → callable c m n ≡ false
  unfolding callable
  few-called (plain m) n l = rw (lt-leb n 3 (omega arith)) (and-false (is_name c m))
  few-called (two_way m) n l = refl
  few-called resolve n l = ne_eqb n 1 (λ e. omega arith)
  few-called register n l = refl

  few-sent : (m : Name) (n : ℕ) → 8 ≤ n → sendable c m n ≡ false
  unfolding sendable
  few-sent (plain m) n l = rw (lt-leb n 3 (omega arith)) (and-false (is_name c m))
  few-sent (two_way m) n l = rw (lt-leb n 4 (omega arith)) (and-false (is_name c m && ltb 0 n))
  few-sent resolve n l = ne_eqb n 1 (λ e. omega arith)
  few-sent register n l = ne_eqb n 1 (λ e. omega arith)

-- ---- leaves
value-head : (x : ℕ) → x / payload < 6 → head_at x ≡ value_head (value_at x)
unfolding head_at Kinds head_in head_of value_at value_in
value-head x h = go (x / payload) h
  where
    go : (k : ℕ) → k < 6 → head_in k (x % payload) ≡ value_head (value_in k (x % payload))
    go zero h = refl
    go (suc zero) h = refl
    go (suc (suc zero)) h = refl
    go (suc (suc (suc zero))) h = refl
    go (suc (suc (suc (suc zero)))) h = refl
    go (suc (suc (suc (suc (suc zero))))) h = refl
    go (suc (suc (suc (suc (suc (suc k)))))) h = absurd (omega arith)

module _ (c : ℕ) (p : Value → Bool) (F : List ℕ) (g h : ℕ) (o : Bool) where
  pub leaf-variable : h / payload ≡ 6 → Sees F g (h % payload) o → Leaf c p F g h o
  unfolding Leaf Sees Kinds head_in head_of well_formed
  leaf-variable k e xs s w at = by_kind c p xs w h at 6 _ k (leaf-ends c p xs w at o (ltb (h % payload) no_name) (var (h % payload)) (e xs s))

  pub leaf-value : h < 7 * payload → (h / payload ≡ 6 → ⊥) → o ≡ within p (value_at h) → Leaf c p F g h o
  unfolding Leaf formed end_of within well_formed
  leaf-value l k e xs s w at = let j : h / payload < 6 = omega arith in rw (value-head h j, e) (go (value_at h))
    where
      go : (x : Option Value) → cond (within p x) (Some at) None ≡ end_of (well_formed c p xs) (formed (value_head x) (λ i. parse w i) w at)
      go Option.none = refl
      go (some v) = refl

pub ruleset leaf_laws = (rules, leaf-variable, leaf-value)

-- ---- operators
module _ (c h n : ℕ) (o : Bool) (k : ℕ) (e : h / payload ≡ k) where
  operands-by : n ≤ third_place → (o ≡ false → (p : Value → Bool) (xs w : List ℕ) (at : ℕ) → None ≡ form_end c p xs w at (head_in k (h % payload)))
      → (o ≡ true → (p : Value → Bool) (xs w : List ℕ) (at : ℕ) → terms_end c p xs w n at ≡ form_end c p xs w at (head_in k (h % payload))) → Operands c h (then_some o n)
  unfolding Closed
  operands-by l f y = go o f y
    where
      go : (o : Bool) → (o ≡ false → (p : Value → Bool) (xs w : List ℕ) (at : ℕ) → None ≡ form_end c p xs w at (head_in k (h % payload)))
          → (o ≡ true → (p : Value → Bool) (xs w : List ℕ) (at : ℕ) → terms_end c p xs w n at ≡ form_end c p xs w at (head_in k (h % payload))) → Operands c h (then_some o n)
      go true f y = record { few = l; ends = λ p xs w at. by_kind c p xs w h at k _ e (y refl p xs w at) }
      go false f y = λ a b d g j p xs w at. by_kind c p xs w h at k None e (f refl p xs w at)

module _ (c h : ℕ) where
  abbrev q : ℕ
  q = h % payload

  abbrev k : ℕ
  k = h / payload

  -- operands alone, and no payload
  pub operands-bare : (i n : ℕ) (r : Maybe ℕ) → i ≡ (row_in k).operator → i ≡ 1 → n ≡ (row_in k).operands → r ≡ then_some (eqb q 0) n → Operands c h r
  unfolding head_in head_of
  operands-bare i n r a b v t =
      let (f, m, e, d) = bare-found k (sym a ∙ b) in
      let j : n ≡ m = v ∙ (bare-row k f m e d).0 in
      let g : head_in k q ≡ only (eqb q 0) (many (written f) m) = rw d in
      let y : operable c (written f) m ≡ true = rw e.1 (eq-eqb m m refl) in
      rw (t, j)
      (operands-by c h m (eqb q 0) k refl (omega (arith, e.3))
      (λ z p xs w at. rw g (only_none c p xs w at (eqb q 0) (many (written f) m) (λ u. absurd (true≢false (sym u ∙ z)))))
      (λ z p xs w at. rw g (only-some c p xs w at (eqb q 0) _ (many (written f) m) z (many-some c p xs w at (written f) m y))))

  module _ (m : c ≤ 64) (o : Bool) (e : o ≡ is_name c q) where
    -- a name is one of those that have a head
    named : o ≡ true → ltb q no_name ≡ true
    named z = go (ltb q no_name) refl
      where
        go : (b : Bool) → ltb q no_name ≡ b → b ≡ true
        go true i = refl
        go false i = absurd (true≢false (sym z ∙ e ∙ name-past c m q (ltb-false q no_name i)))

    pub operands-field : (i n : ℕ) → i ≡ (row_in k).operator → i ≡ 2 → n ≡ (row_in k).operands → Operands c h (then_some o n)
    unfolding head_in head_of
    operands-field i n a b v =
        let (f, m, d, u) = field_found k (sym a ∙ b) in
        let j : n ≡ m = v ∙ (field_row f k m d u).0 in
        let g : head_in k q ≡ only (ltb q no_name) (many (written (f q)) m) = rw u in
        let y : operable c (written (f q)) m ≡ is_name c q && true = rw ((d.0 q).1, eq-eqb m m refl) in
        rw j
        (operands-by c h m o k refl (omega (arith, d.2))
        (λ z p xs w at. rw g (only_none c p xs w at (ltb q no_name) (many (written (f q)) m) (λ u. many-none c p xs w at (written (f q)) m (y ∙ rw (sym e ∙ z)))))
        (λ z p xs w at. rw g (only-some c p xs w at (ltb q no_name) _ (many (written (f q)) m) (named z) (many-some c p xs w at (written (f q)) m (y ∙ rw (sym e ∙ z))))))

  -- calls and sends, by what is asked of a name with so many arguments
  module _ (f : Name → Op Name) (a : Name → ℕ → Bool) (few : (m : Name) (n : ℕ) → 8 ≤ n → a m n ≡ false) (well : (m : Name) (n : ℕ) → operable c (f m) (suc n) ≡ a m n) where
    asked-none : (p : Value → Bool) (xs w : List ℕ) (at n : ℕ) (x : Option Name) → within (λ m. a m n) x ≡ false → None ≡ form_end c p xs w at (ask_head f n x)
    unfolding within formed end_of
    asked-none p xs w at n Option.none e = refl
    asked-none p xs w at n (some m) e = many-none c p xs w at (f m) (suc n) (well m n ∙ e)

    asked-some : (p : Value → Bool) (xs w : List ℕ) (at n : ℕ) (x : Option Name) → within (λ m. a m n) x ≡ true → terms_end c p xs w (suc n) at ≡ form_end c p xs w at (ask_head f n x)
    unfolding within
    asked-some p xs w at n Option.none e = absurd (true≢false (sym e))
    asked-some p xs w at n (some m) e = many-some c p xs w at (f m) (suc n) (well m n ∙ e)

    asked-few : (n : ℕ) (x : Option Name) → within (λ m. a m n) x ≡ true → ltb n 8 ≡ true
    unfolding within
    asked-few n Option.none e = absurd (true≢false (sym e))
    asked-few n (some m) e = go (ltb n 8) refl
      where
        go : (b : Bool) → ltb n 8 ≡ b → b ≡ true
        go true i = refl
        go false i = absurd (true≢false (sym e ∙ few m n (ltb-false n 8 i)))

    operands-asked : (o : Bool) (k n : ℕ) → h / payload ≡ k → head_in k q ≡ ask_in f q → o ≡ within (λ m. a m (q / name_limit / tag_limit)) (name_of (q / name_limit % tag_limit) (q % name_limit)) → Arguments q n → Operands c h (then_some o n)
    operands-asked o k n e i j g =
        let x = name_of (q / name_limit % tag_limit) (q % name_limit) in
        let s : n ≡ suc (q / name_limit / tag_limit) = omega (arith, g.is) in
        operands-by c h n o k e g.few
        (λ z p xs w at. rw i (only_none c p xs w at (ltb (q / name_limit / tag_limit) 8) _ (λ u. asked-none p xs w at (q / name_limit / tag_limit) x (sym j ∙ z))))
        (λ z p xs w at. rw (i, s) (only-some c p xs w at (ltb (q / name_limit / tag_limit) 8) _ _ (asked-few (q / name_limit / tag_limit) x (sym j ∙ z)) (asked-some p xs w at (q / name_limit / tag_limit) x (sym j ∙ z))))

  module _ (o : Bool) (n : ℕ) (a : Arguments q n) where
    pub operands-call : h / payload ≡ 13 → o ≡ call_in c q → Operands c h (then_some o n)
    unfolding Kinds head_in head_of call_in
    operands-call k e = operands-asked call (callable c) (few-called c) (λ m n. refl) o 13 n k refl e a

    pub operands-send : h / payload ≡ 14 → o ≡ send_in c q → Operands c h (then_some o n)
    unfolding Kinds head_in head_of send_in
    operands-send k e = operands-asked send (sendable c) (few-sent c) (λ m n. refl) o 14 n k refl e a

-- a word of no other kind
abbrev Other : ℕ → Form → Type 0
Other x r = 7 ≤ x → ((row_of r).operator ≡ 1 → ⊥) × ((row_of r).operator ≡ 2 → ⊥) → (x ≡ 11 → ⊥) → (x ≡ 12 → ⊥) → (x ≡ 13 → ⊥) → (x ≡ 14 → ⊥) → (x ≡ 15 → ⊥) → (x ≡ 16 → ⊥) → (x ≡ 17 → ⊥) → (p : ℕ) → head_of r p ≡ no_head

other : (r : Form) → Other (form_kind r) r
unfolding Kinds head_of
other nothing l u k11 k12 k13 k14 k15 k16 k17 p = refl
other null_value l u k11 k12 k13 k14 k15 k16 k17 p = absurd (omega arith)
other number l u k11 k12 k13 k14 k15 k16 k17 p = absurd (omega arith)
other reference l u k11 k12 k13 k14 k15 k16 k17 p = absurd (omega arith)
other variable l u k11 k12 k13 k14 k15 k16 k17 p = absurd (omega arith)
other (bare o n e) l u k11 k12 k13 k14 k15 k16 k17 p = absurd (u.0 refl)
other (on_field c k n e) l u k11 k12 k13 k14 k15 k16 k17 p = absurd (u.1 refl)
other Form.let_in l u k11 k12 k13 k14 k15 k16 k17 p = absurd (k11 refl)
other Form.future l u k11 k12 k13 k14 k15 k16 k17 p = absurd (k12 refl)
other calls l u k11 k12 k13 k14 k15 k16 k17 p = absurd (k13 refl)
other sends l u k11 k12 k13 k14 k15 k16 k17 p = absurd (k14 refl)
other (Form.literal Kind.object) l u k11 k12 k13 k14 k15 k16 k17 p = absurd (k15 refl)
other (Form.literal Kind.isolate) l u k11 k12 k13 k14 k15 k16 k17 p = absurd (k16 refl)
other (Form.literal Kind.actor) l u k11 k12 k13 k14 k15 k16 k17 p = absurd (k17 refl)

module _ (c h : ℕ) where
  pub operands-none : (7 * payload) ≤ h → Unlisted (h / payload) → (h / payload ≡ 13 → ⊥) → (h / payload ≡ 14 → ⊥) → Operands c h None
  unfolding Closed Unlisted head_at head_in head_of formed end_of row_in
  operands-none l u k13 k14 = λ k11 k12 k15 k16 k17 p xs w at.
      rw (by_form Other (λ x l u a b d e f g j p. refl) other (h / payload) (omega arith) u k11 k12 k13 k14 k15 k16 k17 (h % payload))

  pub unlisted : (r : ℕ) → r ≡ (row_in (h / payload)).operator → (r ≡ 1 → ⊥) → (r ≡ 2 → ⊥) → Unlisted (h / payload)
  unfolding Unlisted
  unlisted r e a b = (λ z. a (e ∙ z), λ z. b (e ∙ z))

pub ruleset operand_laws = (rules, operands-bare, operands-field, operands-call, operands-send, operands-none, unlisted)

-- ---- forms
module _ (c : ℕ) (p : Value → Bool) (F : List ℕ) (g : ℕ) (w : List ℕ) (h at : ℕ) (r : Maybe ℕ) where
  pub form-let : h / payload ≡ 11 → FormEnds c p F g w 11 (h % payload) at r → FormEnds c p F g w (h / payload) (h % payload) at r
  form-let k j = rw k j

  pub form-future : h / payload ≡ 12 → FormEnds c p F g w 12 (h % payload) at r → FormEnds c p F g w (h / payload) (h % payload) at r
  form-future k j = rw k j

  module _ (j : LiteralEnds c p F g w h at r) where
    pub form-object : h / payload ≡ 15 → FormEnds c p F g w (h / payload) (h % payload) at r
    unfolding FormEnds LiteralEnds kind_number head_at Kinds head_in head_of
    form-object k xs s = by_kind c p xs w h at 15 r k (j Kind.object k xs s)

    pub form-isolate : h / payload ≡ 16 → FormEnds c p F g w (h / payload) (h % payload) at r
    unfolding FormEnds LiteralEnds kind_number head_at Kinds head_in head_of
    form-isolate k xs s = by_kind c p xs w h at 16 r k (j Kind.isolate k xs s)

    pub form-actor : h / payload ≡ 17 → FormEnds c p F g w (h / payload) (h % payload) at r
    unfolding FormEnds LiteralEnds kind_number head_at Kinds head_in head_of
    form-actor k xs s = by_kind c p xs w h at 17 r k (j Kind.actor k xs s)

  pub form-none : Closed c h → (h / payload ≡ 11 → ⊥) → (h / payload ≡ 12 → ⊥) → (h / payload ≡ 15 → ⊥) → (h / payload ≡ 16 → ⊥) → (h / payload ≡ 17 → ⊥)
      → FormEnds c p F g w (h / payload) (h % payload) at None
  unfolding FormEnds Closed head_at
  form-none o k11 k12 k15 k16 k17 xs s = o k11 k12 k15 k16 k17 p xs w at

pub ruleset form_laws = (rules, form-let, form-future, form-object, form-isolate, form-actor, form-none)

-- ---- binders
-- two names, with an empty place behind them
module _ (p : ℕ) (h : p / name_limit < no_name) where
  two-places : ((p + no_name * pair_limit) % name_limit ≡ p % name_limit) × ((p + no_name * pair_limit) / name_limit % name_limit ≡ p / name_limit) × ((p + no_name * pair_limit) / pair_limit % name_limit ≡ no_name)
  two-places =
      let a : (p + no_name * pair_limit) / name_limit ≡ p / name_limit + name_limit * no_name = omega arith in
      let b : (p + no_name * pair_limit) / pair_limit ≡ no_name = omega arith in
      (omega arith, rw a (pack-low name_limit (p / name_limit) no_name (omega arith)), rw b)

-- a variable has its place in a scope
pub let-place : (c x : ℕ) (o : Bool) → o ≡ is_variable c x → o ≡ true → c ≤ 64 → x < name_limit
let-place c x o e t m = omega (arith, variable-below c x m (sym e ∙ t))

module _ (c : ℕ) (p : Value → Bool) (F : List ℕ) (g : ℕ) (w : List ℕ) (at x : ℕ) (o : Bool) where
  pub let-not : o ≡ is_variable c x → o ≡ false → FormEnds c p F g w 11 x at None
  unfolding FormEnds Kinds head_in head_of well_formed formed
  let-not e t xs s =
      only_none c p xs w at (ltb x no_name) (binary (λ d g. let_in x d g)) (λ u. binary-none c p xs w at (λ d g. let_in x d g) (λ d g. rw (sym e ∙ t)))

  -- where both parts end, by where the first does
  let-ends : (xs : List ℕ) → o ≡ is_variable c x → o ≡ true → c ≤ 64
      → option_and_then (λ i. end_of (well_formed c p (x ∷ xs)) (parse w i)) (end_of (well_formed c p xs) (parse w at)) ≡ end_of (well_formed c p xs) (formed (head_in 11 x) (λ i. parse w i) w at)
  unfolding Kinds head_in head_of well_formed formed
  let-ends xs e t m =
      let v : is_variable c x ≡ true = sym e ∙ t in
      rw (lt-ltb x no_name (variable-below c x m v))
      (ends-pair (λ d g. let_in x d g) (well_formed c p xs) (well_formed c p xs) (well_formed c p (x ∷ xs)) (parse w at) (λ i. parse w i) (λ d n g m u w. rw v))

  pub let-none : c ≤ 64 → o ≡ is_variable c x → o ≡ true → TermEnds c p F g w at None → FormEnds c p F g w 11 x at None
  unfolding FormEnds TermEnds
  let-none m e t i xs s = rw (sym (i xs s)) at (let-ends xs e t m)

  pub let-well : (a u : ℕ) (r : Maybe ℕ) (G H : List ℕ) → c ≤ 64 → o ≡ is_variable c x → o ≡ true → TermEnds c p F g w at (Some a) → Kept F G → Swapped G x g H u → TermEnds c p H g w a r → FormEnds c p F g w 11 x at r
  unfolding FormEnds TermEnds Kept
  let-well a u r G H m e t i k b j xs s =
      let y = variable-below c x m (sym e ∙ t) in
      let n : Scope H g (x ∷ xs) = rw b.new (scope-bind G g xs (rw k s) x y) in
      j (x ∷ xs) n ∙ rw (sym (i xs s)) at (let-ends xs e t m)

  pub future-not : o ≡ two c (x % name_limit) (x / name_limit) → o ≡ false → FormEnds c p F g w 12 x at None
  unfolding FormEnds Kinds head_in head_of well_formed formed two
  future-not e t xs s =
      only_none c p xs w at (ltb (x % name_limit) no_name) (only (ltb (x / name_limit) no_name) (unary (λ d. future (x % name_limit) (x / name_limit) d)))
      (λ u. only_none c p xs w at (ltb (x / name_limit) no_name) (unary (λ d. future (x % name_limit) (x / name_limit) d)) (λ v. unary-none c p xs w at (λ d. future (x % name_limit) (x / name_limit) d) (λ d. rw (sym e ∙ t))))

  pub future-well : (r : Maybe ℕ) → c ≤ 64 → o ≡ two c (x % name_limit) (x / name_limit) → o ≡ true → TermEnds c p (bound F g (x + no_name * pair_limit)) g w at r → FormEnds c p F g w 12 x at r
  unfolding FormEnds TermEnds Kinds head_in head_of well_formed formed two
  future-well r m e t j xs s =
      let u : two c (x % name_limit) (x / name_limit) ≡ true = sym e ∙ t in
      let v = and₂ (is_variable c (x % name_limit) && is_variable c (x / name_limit)) (not (eqb (x % name_limit) (x / name_limit))) u in
      let k = and₂ (is_variable c (x % name_limit)) (is_variable c (x / name_limit)) v.0 in
      let b = variable-below c (x % name_limit) m k.0 in
      let d = variable-below c (x / name_limit) m k.1 in
      let y = two-places x d in
      let n : Scope (bound F g (x + no_name * pair_limit)) g (x % name_limit ∷ x / name_limit ∷ xs) = rw (y.0, y.1) at (two-bound F g xs s (x + no_name * pair_limit) (rw y.0 b) (rw y.1 d) y.2) in
      j (x % name_limit ∷ x / name_limit ∷ xs) n ∙ rw (lt-ltb (x % name_limit) no_name b, lt-ltb (x / name_limit) no_name d)
      (ends_on (λ d. future (x % name_limit) (x / name_limit) d) (well_formed c p xs) (well_formed c p (x % name_limit ∷ x / name_limit ∷ xs)) (parse w at) (λ d n g. rw u))

-- ---- in a scope with three names more
pub inside-ends : (c : ℕ) (p : Value → Bool) (F : List ℕ) (g : ℕ) (w : List ℕ) (at n : ℕ) (r : Maybe ℕ) (G : List ℕ) (x y z : ℕ) → Bound name_limit F n g G x y z → TermEnds c p G g w at r → TermEnds c p (bound F g n) g w at r
unfolding bound
inside-ends c p F g w at n r G x y z b j =
    let t : n / name_limit / name_limit ≡ n / pair_limit = omega arith in
    let e : G ≡ set (set (set F (n / pair_limit % name_limit) g) (n / name_limit % name_limit) g) (n % name_limit) g = rw (← t) b.new in
    rw e at j

pub ruleset binder_laws = (rules, let-not, let-place, let-none, let-well, future-not, future-well, inside-ends)
