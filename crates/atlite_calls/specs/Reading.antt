-- Reading and loading are refused with no number that is no cause. Assumes nothing.
use Prim.Native.Nat.{ℕ, zero, suc, ◌+◌}
use Rattle.std.specs.Prelude.{refl, Bool, true, false, List, [], ◌∷◌, length, eqb}
use Rattle.std.proofs.Math.Option.{Option, none, some}
use Rattle.atlite.specs.Base.{Result, bytes, same_bytes}
use Rattle.atlite.specs.Lexicon.{Bytes, open', close, space, newline, is_word, is_number, dictionary, number_of}
use Rattle.atlite.specs.Script.{Src, nil, cons, Line, expression, define, join}
use Rattle.atlite.specs.Reader.{Reading, item, eat, after, atom, read_atom, read_word, spaced, spaced_word, read_items, read_operands, read_params, read_names, read_head, read_fields, read_methods, spelled, read_form, read_expr, read_definition, read_line, read_lines, read_script}
use Rattle.atlite.specs.Keywords.{null_word, this_word, Operator, bare, naming, let_in, future, fn, when, literal, operators}
use Rattle.atlite.specs.Table.{Table, read}
use Rattle.atlite.specs.Load.{load}
use Rattle.atlite_calls.specs.Causes.{Caused, fine, stopped, asked, next, tested, either}

-- whatever text the reader R is given
abbrev Fair : {A : Type 0} → Reading A → Type 0
Fair R = (i : Bytes) → Caused (R i)

module _ {B : Type 0} where
  branch : (b : Bool) {r s : Result B} → Caused r → Caused s → Caused {A = B} (elim b as (λ x. Result B) [ true ↦ r | false ↦ s ])
  branch true h k = h
  branch false h k = k

  option : {A : Type 0} (o : Option A) {r : Result B} {f : A → Result B} → Caused r → ((x : A) → Caused (f x))
      → Caused {A = B} (elim o as (λ x. Result B) [ none ↦ r | some x ↦ f x ])
  option none h k = h
  option (some x) h k = k x

-- ---- words and what stands between them
eat-fair : (b : ℕ) (i : Bytes) → Caused (eat b i)
unfolding eat
eat-fair b [] = stopped refl
eat-fair b (c ∷ i) = tested 2 (eqb b c) refl fine

atom-fair : (ws : List Bytes) (w : Bytes) → Caused (atom ws w)
unfolding atom
atom-fair ws w = either (is_number w) fine (either (same_bytes w null_word) fine (either (same_bytes w this_word) fine (tested 2 (is_word w) refl (next (asked 2 (number_of ws w) refl) λ x. fine))))

word-fair : (ws : List Bytes) → Fair (read_word ws)
unfolding read_word
word-fair ws i = tested 2 _ refl (next (asked 2 (number_of ws (item i).0) refl) λ x. fine)

spaced-fair : {A : Type 0} (R : Reading A) → Fair R → Fair (spaced R)
unfolding spaced
spaced-fair R h i = next (eat-fair space i) λ j. h j

spaced-word-fair : (ws : List Bytes) → Fair (spaced_word ws)
unfolding spaced_word
spaced-word-fair ws i = spaced-fair (read_word ws) (word-fair ws) i

items-fair : {A L : Type 0} (end : L) (more : A → L → L) (R : Reading A) → Fair R → (k : ℕ) → Fair (read_items end more R k)
unfolding read_items
items-fair end more R h zero i = next (eat-fair close i) λ j. fine
items-fair end more R h (suc k) i = option (after (close ∷ []) i) (next (spaced-fair R h i) λ p. next (items-fair end more R h k p.1) λ q. fine) (λ j. fine)

head-fair : (ws : List Bytes) → Fair (read_head ws)
unfolding read_head read_names read_params
head-fair ws i = next (asked 2 (after (bytes " (") i) refl) λ j. option (after (close ∷ []) j) (next (word-fair ws j) λ p. next (items-fair [] ◌∷◌ (read_word ws) (word-fair ws) 2 p.1) λ q. fine) (λ k. fine)

-- ---- forms, given a reader of their expressions
module _ (ws : List Bytes) (R : Reading Src) (h : Fair R) where
  expr-fair : Fair (spaced R)
  expr-fair = spaced-fair R h

  fields-fair : (k : ℕ) → Fair (read_fields ws R k)
  unfolding read_fields
  fields-fair zero i = fine
  fields-fair (suc k) i = option (after (bytes " (field ") i) fine (λ j. next (word-fair ws j) λ p. next (expr-fair p.1) λ q. next (eat-fair close q.1) λ l. next (fields-fair k l) λ r. fine)

  methods-fair : (k : ℕ) → Fair (read_methods ws R k)
  unfolding read_methods
  methods-fair zero i = fine
  methods-fair (suc k) i = option (after (bytes " (method ") i) fine (λ j. next (word-fair ws j) λ p. next (head-fair ws p.1) λ o. next (expr-fair o.1) λ q. next (eat-fair close q.1) λ l. next (methods-fair k l) λ r. fine)

  operands-fair : (k n : ℕ) → Fair (read_operands R k n)
  unfolding read_operands
  operands-fair zero n i = items-fair nil cons R h n i
  operands-fair (suc k) n i = next (expr-fair i) λ p. next (operands-fair k n p.1) λ q. fine

  form-fair : (o : Operator) → Fair (read_form o ws R)
  unfolding read_form
  form-fair (bare o) i = next (operands-fair _ _ i) λ p. fine
  form-fair (naming c) i = next (expr-fair i) λ p. next (spaced-word-fair ws p.1) λ q. next (operands-fair _ _ q.1) λ r. fine
  form-fair let_in i = next (spaced-word-fair ws i) λ p. next (expr-fair p.1) λ q. next (expr-fair q.1) λ r. next (eat-fair close r.1) λ l. fine
  form-fair future i = next (spaced-word-fair ws i) λ p. next (spaced-word-fair ws p.1) λ q. next (expr-fair q.1) λ r. next (eat-fair close r.1) λ l. fine
  form-fair fn i = next (spaced-word-fair ws i) λ p. next (expr-fair p.1) λ q. next (eat-fair close q.1) λ l. fine
  form-fair when i = next (expr-fair i) λ p. next (spaced-word-fair ws p.1) λ q. next (expr-fair q.1) λ r. next (eat-fair close r.1) λ l. fine
  form-fair (literal k) i = next (fields-fair 4 i) λ p. next (methods-fair 4 p.1) λ q. next (eat-fair close q.1) λ l. fine

-- ---- expressions, lines, scripts
read-expr-fair : (n : ℕ) (ws : List Bytes) → Fair (read_expr operators n ws)
unfolding read_expr read_atom
read-expr-fair zero ws i = stopped refl
read-expr-fair (suc n) ws [] = stopped refl
read-expr-fair (suc n) ws (b ∷ i) = branch (eqb b open') (next (asked 2 (spelled operators (item i).0) refl) λ o. form-fair ws (λ j. read_expr operators n ws j) (read-expr-fair n ws) o (item i).1) (next (atom-fair ws (item (b ∷ i)).0) λ e. fine)

line-fair : (n : ℕ) (ws : List Bytes) → Fair (read_line operators n ws)
unfolding read_line read_definition
line-fair n ws i = option (after (bytes "(def ") i) (next (read-expr-fair n ws i) λ p. next (eat-fair newline p.1) λ l. fine) (λ j. next (word-fair ws j) λ p. next (spaced-fair (read_expr operators n ws) (read-expr-fair n ws) p.1) λ q. next (eat-fair close q.1) λ l. next (eat-fair newline l) λ m. fine)

lines-fair : (n : ℕ) (ws : List Bytes) (i : Bytes) → Caused (read_lines operators n ws i)
unfolding read_lines
lines-fair zero ws i = stopped refl
lines-fair (suc n) ws [] = fine
lines-fair (suc n) ws (b ∷ i) = next (line-fair (suc n) ws (b ∷ i)) λ p. next (lines-fair n ws p.1) λ ls. fine

join-fair : (ls : List Line) → Caused (join ls)
unfolding join
join-fair [] = stopped refl
join-fair (expression e ∷ []) = fine
join-fair (define x e ∷ []) = stopped refl
join-fair (expression e ∷ l ∷ ls) = next (join-fair (l ∷ ls)) λ d. fine
join-fair (define x e ∷ l ∷ ls) = next (join-fair (l ∷ ls)) λ d. fine

pub read-caused : (t : Bytes) → Caused (read operators t)
unfolding read read_script
read-caused t = tested 1 _ refl (next (lines-fair (length t + 1) (dictionary t) t) λ ls. next (join-fair ls) λ e. tested 3 _ refl (tested 4 _ refl (tested 5 _ refl fine)))

pub load-caused : (T : Table) → Caused (load T)
unfolding load
load-caused T = next (join-fair T.lines) λ e. tested 16 _ refl fine
