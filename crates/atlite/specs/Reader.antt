-- The reader, from the bytes of a text to the lines of its script. Assumes nothing.
--
-- Document 01, "Script text", cause 2: the reader refuses whatever is not of the grammar, and says nothing of binding, lists and limits. It
-- takes a value off the front of a text and hands on what is left. The readers of forms are given the reader of their expressions, so that
-- only two need fuel: `read_expr`, one for each bracket that it goes into, and `read_lines`, one for each line. A text's length and one more
-- is enough for both (`script-exact` of crate `reading`).
use Rattle.std.specs.Prelude.{ℕ, zero, suc, ◌+◌, ◌-◌, max, true, false, List, [], ◌∷◌, length, eqb, if◌then◌else◌}
use Rattle.std.proofs.Math.Option.{Option, none, some}
use Rattle.atlite.specs.Base.{Result, done, refused, ◌>>=◌, ◌>>◌, or_refuse, require, bytes, same_bytes}
use Rattle.atlite.specs.Term.{this, Shape, exactly, on_field, calling, sending}
use Rattle.atlite.specs.Lexicon.{Bytes, open', close, space, newline, in_word, is_word, decimal, is_number, dictionary, number_of}
use Rattle.atlite.specs.Keywords.{null_word, this_word, Operator, bare, naming, let_in, future, fn, when, literal, spelling}
use Rattle.atlite.specs.Script.{src_shape, Src, Srcs, nil, cons, SrcFields, no_field, field, SrcMethods, no_method, method, Line, expression, define}

-- how many brackets are open at once at most: n are open, and m were at most so far
unfoldable pub depth_from : ℕ → ℕ → Bytes → ℕ
depth_from n m [] = m
depth_from n m (b ∷ i) = depth_from (if eqb b open' then n + 1 else if eqb b close then n - 1 else n) (if eqb b open' then max m (n + 1) else m) i

unfoldable pub depth : Bytes → ℕ
depth t = depth_from 0 0 t

-- a reader of A
abbrev pub Reading : Type 0 → Type 0
Reading A = Bytes → Result (A × Bytes)

-- the longest run of letters and digits, and what is left
unfoldable pub item : Bytes → Bytes × Bytes
item [] = ([], [])
item (b ∷ i) = elim (in_word b) [ true ↦ (let r = item i in (b ∷ r.0, r.1)) | false ↦ ([], b ∷ i) ]

-- what is left after the byte b, which must come next
unfoldable pub eat : ℕ → Bytes → Result Bytes
eat b [] = refused 2
eat b (c ∷ i) = require 2 (eqb b c) >> done i

-- what is left after the bytes w, if they come next
unfoldable pub after : Bytes → Bytes → Option Bytes
after [] i = some i
after (b ∷ w) [] = none
after (b ∷ w) (c ∷ i) = if eqb b c then after w i else none

unfoldable pub atom : List Bytes → Bytes → Result Src
atom ws w =
    if is_number w then done (Src.num (decimal 0 w))
    else if same_bytes w null_word then done Src.null
    else if same_bytes w this_word then done (Src.var this)
    else (require 2 (is_word w) >> (or_refuse 2 (number_of ws w) >>= λ x. done (Src.var x)))

unfoldable pub read_atom : List Bytes → Reading Src
read_atom ws i = do
  e ← atom ws (item i).0
  done (e, (item i).1)

unfoldable pub read_word : List Bytes → Reading ℕ
read_word ws i = do
  require 2 (is_word (item i).0)
  x ← or_refuse 2 (number_of ws (item i).0)
  done (x, (item i).1)

-- the same behind a space
unfoldable pub spaced : {A : Type 0} → Reading A → Reading A
spaced R i = eat space i >>= λ j. R j

unfoldable pub spaced_word : List Bytes → Reading ℕ
spaced_word ws i = spaced (read_word ws) i

-- At most k items, each behind a space, then the closing bracket; `end` and `more` build their list.
unfoldable pub read_items : {A L : Type 0} → L → (A → L → L) → Reading A → ℕ → Reading L
read_items end more R zero i = eat close i >>= λ j. done (end, j)
read_items end more R (suc k) i = elim (after (close ∷ []) i) [
  | some j ↦ done (end, j)
  | none ↦ (do
    (a, i₁) ← spaced R i
    (l, i₂) ← read_items end more R k i₁
    done (more a l, i₂))
]

-- k operands, at most n more, then the closing bracket
unfoldable pub read_operands : Reading Src → ℕ → ℕ → Reading Srcs
read_operands R zero n i = read_items nil cons R n i
read_operands R (suc k) n i = do
  (e, i₁) ← spaced R i
  (es, i₂) ← read_operands R k n i₁
  done (cons e es, i₂)

-- how many operands there must be, and how many may follow: of arguments 3
abbrev pub least : Shape ℕ → ℕ
least (exactly k) = k
least (on_field f k) = k
least (calling m) = 1
least (sending m) = 1

abbrev pub more : Shape ℕ → ℕ
more (exactly k) = 0
more (on_field f k) = 0
more (calling m) = 3
more (sending m) = 3

unfoldable pub read_params : List Bytes → Reading (List ℕ)
read_params ws i = read_items [] ◌∷◌ (read_word ws) 2 i

-- parameters behind their opening bracket
unfoldable pub read_names : List Bytes → Reading (List ℕ)
read_names ws i = elim (after (close ∷ []) i) [
  | some j ↦ done ([], j)
  | none ↦ (do
    (x, i₁) ← read_word ws i
    (xs, i₂) ← read_params ws i₁
    done (x ∷ xs, i₂))
]

-- parameters in brackets, behind a space
unfoldable pub read_head : List Bytes → Reading (List ℕ)
read_head ws i = or_refuse 2 (after (bytes " (") i) >>= λ j. read_names ws j

-- at most k fields, each with the space before it
unfoldable pub read_fields : List Bytes → Reading Src → ℕ → Reading SrcFields
read_fields ws R zero i = done (no_field, i)
read_fields ws R (suc k) i = elim (after (bytes " (field ") i) [
  | none ↦ done (no_field, i)
  | some i₁ ↦ (do
    (f, i₂) ← read_word ws i₁
    (e, i₃) ← spaced R i₂
    i₄ ← eat close i₃
    (fs, i₅) ← read_fields ws R k i₄
    done (field f e fs, i₅))
]

-- at most k methods, each with the space before it
unfoldable pub read_methods : List Bytes → Reading Src → ℕ → Reading SrcMethods
read_methods ws R zero i = done (no_method, i)
read_methods ws R (suc k) i = elim (after (bytes " (method ") i) [
  | none ↦ done (no_method, i)
  | some i₁ ↦ (do
    (m, i₂) ← read_word ws i₁
    (xs, i₃) ← read_head ws i₂
    (e, i₄) ← spaced R i₃
    i₅ ← eat close i₄
    (ms, i₆) ← read_methods ws R k i₅
    done (method m xs e ms, i₆))
]

-- the operator of those taken that is spelled so
unfoldable pub spelled : List Operator → Bytes → Option Operator
spelled [] w = none
spelled (o ∷ os) w = if same_bytes (spelling o) w then some o else spelled os w

-- what stands behind an operator's word, to the closing bracket; a name stands behind the first operand
unfoldable pub read_form : Operator → List Bytes → Reading Src → Reading Src
read_form (bare o) ws R i = do
  (es, i₁) ← read_operands R (least (src_shape o)) (more (src_shape o)) i
  done (Src.op o es, i₁)
read_form (naming c) ws R i = do
  (e, i₁) ← spaced R i
  (x, i₂) ← spaced_word ws i₁
  (es, i₃) ← read_operands R (least (src_shape (c x)) - 1) (more (src_shape (c x))) i₂
  done (Src.op (c x) (cons e es), i₃)
read_form let_in ws R i = do
  (x, i₁) ← spaced_word ws i
  (e, i₂) ← spaced R i₁
  (d, i₃) ← spaced R i₂
  i₄ ← eat close i₃
  done (Src.let_in x e d, i₄)
read_form future ws R i = do
  (x, i₁) ← spaced_word ws i
  (y, i₂) ← spaced_word ws i₁
  (e, i₃) ← spaced R i₂
  i₄ ← eat close i₃
  done (Src.future x y e, i₄)
read_form fn ws R i = do
  (x, i₁) ← spaced_word ws i
  (e, i₂) ← spaced R i₁
  i₃ ← eat close i₂
  done (Src.fn x e, i₃)
read_form when ws R i = do
  (e, i₁) ← spaced R i
  (x, i₂) ← spaced_word ws i₁
  (d, i₃) ← spaced R i₂
  i₄ ← eat close i₃
  done (Src.when e x d, i₄)
read_form (literal k) ws R i = do
  (fs, i₁) ← read_fields ws R 4 i
  (ms, i₂) ← read_methods ws R 4 i₁
  i₃ ← eat close i₂
  done (Src.literal k fs ms, i₃)

-- From here on `os` are the operators that a text may have.
unfoldable pub read_expr : List Operator → ℕ → List Bytes → Reading Src
read_expr os zero ws i = refused 2
read_expr os (suc n) ws [] = refused 2
read_expr os (suc n) ws (b ∷ i) = elim (eqb b open') [
  | true ↦ (or_refuse 2 (spelled os (item i).0) >>= λ o. read_form o ws (λ j. read_expr os n ws j) (item i).1)
  | false ↦ read_atom ws (b ∷ i)
]

unfoldable pub read_definition : List Operator → ℕ → List Bytes → Reading Line
read_definition os n ws i = do
  (x, i₁) ← read_word ws i
  (e, i₂) ← spaced (read_expr os n ws) i₁
  i₃ ← eat close i₂
  i₄ ← eat newline i₃
  done (define x e, i₄)

unfoldable pub read_line : List Operator → ℕ → List Bytes → Reading Line
read_line os n ws i = elim (after (bytes "(def ") i) [
  | some i₁ ↦ read_definition os n ws i₁
  | none ↦ (do
    (e, i₁) ← read_expr os n ws i
    i₂ ← eat newline i₁
    done (expression e, i₂))
]

-- lines to the end of the text; n is above its length
unfoldable pub read_lines : List Operator → ℕ → List Bytes → Bytes → Result (List Line)
read_lines os zero ws i = refused 2
read_lines os (suc n) ws [] = done []
read_lines os (suc n) ws (b ∷ i) = do
  (l, i₁) ← read_line os (suc n) ws (b ∷ i)
  ls ← read_lines os n ws i₁
  done (l ∷ ls)

unfoldable pub read_script : List Operator → Bytes → Result (List Line)
read_script os t = read_lines os (length t + 1) (dictionary t) t

unfoldable pub Reader : Unit {0}
unfolding depth_from depth item eat after atom read_atom read_word spaced spaced_word read_items read_operands read_params read_names read_head read_fields read_methods spelled read_form read_expr read_definition read_line read_lines read_script
Reader = tt
