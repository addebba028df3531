-- Request P2, choosing: a text that a reader without the two operators takes is read to the same table, and that table has neither. A reader is
-- stated by the operators that a text may have. The words `if` and `same` are nobody's names for either reader. Assumes nothing.
use Prim.Native.Nat.{ℕ, zero, suc, ◌+◌, ◌-◌}
use Rattle.std.specs.Prelude.{◌≡◌, refl, Bool, true, false, length, drop, eqb, if◌then◌else◌}
use mathlib.Core.List.{List, [], ◌∷◌, ◌++◌}
use Rattle.std.proofs.Math.Option.{Option, none, some}
use Rattle.atlite.specs.Base.{Result, is_done, done, refused, ◌>>=◌, ◌>>◌, or_refuse, require, bytes, same_bytes}
use Rattle.atlite_laws.specs.Facts.{Every, holds, nothing, every-done}
use Rattle.atlite.specs.Lexicon.{Bytes, open', close, space, newline, is_word, is_number, dictionary, number_of}
use Rattle.atlite.specs.Keywords.{null_word, this_word, Operator, bare, naming, let_in, future, fn, when, literal, spelling, operators}
use Rattle.atlite.specs.Script.{src_shape, Src, Srcs, join}
use Rattle.atlite.specs.Reader.{Reading, item, eat, after, atom, read_atom, read_word, spaced, spaced_word, read_items, read_operands, least, more, read_head, read_fields, read_methods, spelled, read_form, read_expr, read_definition, read_line, read_lines, read_script}
use Rattle.atlite.specs.Table.{Table, read}
use Rattle.atlite.specs.Replay as P
use Rattle.atlite.specs.Valid.{AllOf}
use Rattle.changes.specs.Choosing.{is_new}
use Rattle.changes.specs.WithoutLoads.{is_new_written, WithoutSrc, WithoutSrcs, WithoutFields, WithoutBodies, WithoutLine, WithoutTable}
use Rattle.changes.specs.WithoutTexts.{former}

-- the operators that came with the request, or after it
abbrev brought : List Operator
brought = drop (length former) operators

pub all-operators : operators ≡ former ++ brought
unfolding operators former
all-operators = refl

-- what an operator's word begins is none of the two
abbrev IsFormer : Operator → Type 0
IsFormer (bare o) = is_new_written o ≡ false
IsFormer (naming c) = (x : ℕ) → is_new_written (c x) ≡ false
IsFormer let_in = Unit {0}
IsFormer future = Unit {0}
IsFormer fn = Unit {0}
IsFormer when = Unit {0}
IsFormer (literal k) = Unit {0}

formers : AllOf IsFormer former
unfolding former is_new_written is_new
formers = (refl, (refl, ((λ x. refl), ((λ x. refl), ((λ x. refl), ((λ x. refl), ((λ x. refl), (tt, (tt, (tt, (refl, (tt, (refl, (tt, (tt, (tt, tt))))))))))))))))

-- ---- two results: what the first gives the second gives, and Q holds of it
abbrev Same : {A : Type 0} → (A → Type 0) → Result A → Result A → Type 0
Same Q old new = Every (λ x. (new ≡ done x) × Q x) old

-- one step after another
bind : {A B : Type 0} {P : A → Type 0} {Q : B → Type 0} {r u : Result A} {f g : A → Result B} → Same P r u → ((x : A) → P x → Same Q (f x) (g x)) → Same Q (r >>= f) (u >>= g)
bind {Q} {f} {g} (holds {a} (e, p)) k = rw e (k a p)
bind nothing k = nothing

-- a step that is the same in both
step : {A B : Type 0} {Q : B → Type 0} (r : Result A) {f g : A → Result B} → ((x : A) → Same Q (f x) (g x)) → Same Q (r >>= f) (r >>= g)
step (done x) k = k x
step (refused n) k = nothing

sure : {B : Type 0} {Q : B → Type 0} (r : Result (Unit {0})) {u v : Result B} → Same Q u v → Same Q (r >> u) (r >> v)
sure (done x) k = k
sure (refused n) k = nothing

-- and a choice
either : {B : Type 0} {Q : B → Type 0} (b : Bool) {r s u v : Result B} → Same Q r u → Same Q s v → Same Q (if b then r else s) (if b then u else v)
either true h k = h
either false h k = k

test : {B : Type 0} {Q : B → Type 0} (b : Bool) {r s u v : Result B} → Same Q r u → Same Q s v
    → Same Q (elim b as (λ _. Result B) [ true ↦ r | false ↦ s ]) (elim b as (λ _. Result B) [ true ↦ u | false ↦ v ])
test true h k = h
test false h k = k

option : {A B : Type 0} {Q : B → Type 0} (o : Option A) {r u : Result B} {f g : A → Result B} → Same Q r u → ((x : A) → Same Q (f x) (g x))
    → Same Q (elim o as (λ _. Result B) [ some x ↦ f x | none ↦ r ]) (elim o as (λ _. Result B) [ some x ↦ g x | none ↦ u ])
option none h k = h
option (some x) h k = k x

-- ---- the readers of forms, by two readers of expressions
abbrev Reads : {A : Type 0} → (A → Type 0) → Reading A → Reading A → Type 0
Reads Q R S = (i : Bytes) → Same (λ p. Q p.0) (R i) (S i)

module _ (ws : List Bytes) (R S : Reading Src) (h : Reads WithoutSrc R S) where
  spaced-reads : Reads WithoutSrc (spaced R) (spaced S)
  unfolding spaced
  spaced-reads i = step (eat space i) λ j. h j

  items-read : (k : ℕ) → Reads WithoutSrcs (read_items Srcs.nil Srcs.cons R k) (read_items Srcs.nil Srcs.cons S k)
  unfolding read_items
  items-read zero i = step (eat close i) λ j. holds (refl, tt)
  items-read (suc k) i = option (after (close ∷ []) i) (bind (spaced-reads i) λ (e, i₁) p. bind (items-read k i₁) λ (es, i₂) q. holds (refl, (p, q))) λ j. holds (refl, tt)

  operands-read : (k n : ℕ) → Reads WithoutSrcs (read_operands R k n) (read_operands S k n)
  unfolding read_operands
  operands-read zero n i = items-read n i
  operands-read (suc k) n i = bind (spaced-reads i) λ (e, i₁) p. bind (operands-read k n i₁) λ (es, i₂) q. holds (refl, (p, q))

  fields_read : (k : ℕ) → Reads WithoutFields (read_fields ws R k) (read_fields ws S k)
  unfolding read_fields
  fields_read zero i = holds (refl, tt)
  fields_read (suc k) i = option (after (bytes " (field ") i) (holds (refl, tt)) λ i₁. step (read_word ws i₁) λ (f, i₂). bind (spaced-reads i₂) λ (e, i₃) p.
      step (eat close i₃) λ i₄. bind (fields_read k i₄) λ (fs, i₅) q. holds (refl, (p, q))

  methods-read : (k : ℕ) → Reads WithoutBodies (read_methods ws R k) (read_methods ws S k)
  unfolding read_methods
  methods-read zero i = holds (refl, tt)
  methods-read (suc k) i = option (after (bytes " (method ") i) (holds (refl, tt)) λ i₁. step (read_word ws i₁) λ (m, i₂). step (read_head ws i₂) λ (xs, i₃).
      bind (spaced-reads i₃) λ (e, i₄) p. step (eat close i₄) λ i₅. bind (methods-read k i₅) λ (ms, i₆) q. holds (refl, (p, q))

  form-reads : (o : Operator) → IsFormer o → Reads WithoutSrc (read_form o ws R) (read_form o ws S)
  unfolding read_form
  form-reads (bare o) k i = bind (operands-read (least (src_shape o)) (more (src_shape o)) i) λ (es, i₁) q. holds (refl, (k, q))
  form-reads (naming c) k i = bind (spaced-reads i) λ (e, i₁) p. step (spaced_word ws i₁) λ (x, i₂).
      bind (operands-read (least (src_shape (c x)) - 1) (more (src_shape (c x))) i₂) λ (es, i₃) q. holds (refl, (k x, (p, q)))
  form-reads let_in k i = step (spaced_word ws i) λ (x, i₁). bind (spaced-reads i₁) λ (e, i₂) p. bind (spaced-reads i₂) λ (d, i₃) q. step (eat close i₃) λ i₄. holds (refl, (p, q))
  form-reads future k i = step (spaced_word ws i) λ (x, i₁). step (spaced_word ws i₁) λ (y, i₂). bind (spaced-reads i₂) λ (e, i₃) p. step (eat close i₃) λ i₄. holds (refl, p)
  form-reads fn k i = step (spaced_word ws i) λ (x, i₁). bind (spaced-reads i₁) λ (e, i₂) p. step (eat close i₂) λ i₃. holds (refl, p)
  form-reads when k i = bind (spaced-reads i) λ (e, i₁) p. step (spaced_word ws i₁) λ (x, i₂). bind (spaced-reads i₂) λ (d, i₃) q. step (eat close i₃) λ i₄. holds (refl, (p, q))
  form-reads (literal k) n i = bind (fields_read 4 i) λ (fs, i₁) p. bind (methods-read 4 i₁) λ (ms, i₂) q. step (eat close i₂) λ i₃. holds (refl, (p, (tt, q)))

-- ---- texts, by operators os that are former ones, and by more
-- the operator that a word spells
pick : {A : Type 0} {Q : A → Type 0} (b : Bool) (x : A) (r u : Option A) → Q x → Same Q (or_refuse 2 r) (or_refuse 2 u) → Same Q (or_refuse 2 (if b then some x else r)) (or_refuse 2 (if b then some x else u))
unfolding or_refuse
pick true x r u h k = holds (refl, h)
pick false x r u h k = k

operator-reads : (os ns : List Operator) (w : Bytes) → AllOf IsFormer os → Same IsFormer (or_refuse 2 (spelled os w)) (or_refuse 2 (spelled (os ++ ns) w))
unfolding spelled or_refuse
operator-reads [] ns w h = nothing
operator-reads (o ∷ os) ns w h = pick (same_bytes (spelling o) w) o (spelled os w) (spelled (os ++ ns) w) h.0 (operator-reads os ns w h.1)

atom-reads : (ws : List Bytes) (w : Bytes) → Same WithoutSrc (atom ws w) (atom ws w)
unfolding atom
atom-reads ws w = either (is_number w) (holds (refl, tt)) (either (same_bytes w null_word) (holds (refl, tt)) (either (same_bytes w this_word) (holds (refl, tt))
    (sure (require 2 (is_word w)) (step (or_refuse 2 (number_of ws w)) λ x. holds (refl, tt)))))

module _ (os ns : List Operator) (h : AllOf IsFormer os) where
  expr-reads : (n : ℕ) (ws : List Bytes) → Reads WithoutSrc (read_expr os n ws) (read_expr (os ++ ns) n ws)
  unfolding read_expr read_atom
  expr-reads zero ws i = nothing
  expr-reads (suc n) ws [] = nothing
  expr-reads (suc n) ws (b ∷ i) = test (eqb b open')
      (bind (operator-reads os ns (item i).0 h) λ o k. form-reads ws (λ j. read_expr os n ws j) (λ j. read_expr (os ++ ns) n ws j) (expr-reads n ws) o k (item i).1)
      (bind (atom-reads ws (item (b ∷ i)).0) λ e p. holds (refl, p))

  definition-reads : (n : ℕ) (ws : List Bytes) → Reads WithoutLine (read_definition os n ws) (read_definition (os ++ ns) n ws)
  unfolding read_definition
  definition-reads n ws i = step (read_word ws i) λ (x, i₁). bind (spaced-reads ws (read_expr os n ws) (read_expr (os ++ ns) n ws) (expr-reads n ws) i₁) λ (e, i₂) p.
      step (eat close i₂) λ i₃. step (eat newline i₃) λ i₄. holds (refl, p)

  line_reads : (n : ℕ) (ws : List Bytes) → Reads WithoutLine (read_line os n ws) (read_line (os ++ ns) n ws)
  unfolding read_line
  line_reads n ws i = option (after (bytes "(def ") i) (bind (expr-reads n ws i) λ (e, i₁) p. step (eat newline i₁) λ i₂. holds (refl, p)) λ i₁. definition-reads n ws i₁

  lines-read : (n : ℕ) (ws : List Bytes) (i : Bytes) → Same (AllOf WithoutLine) (read_lines os n ws i) (read_lines (os ++ ns) n ws i)
  unfolding read_lines
  lines-read zero ws i = nothing
  lines-read (suc n) ws [] = holds (refl, tt)
  lines-read (suc n) ws (b ∷ i) = bind (line_reads (suc n) ws (b ∷ i)) λ (l, i₁) p. bind (lines-read n ws i₁) λ ls q. holds (refl, (p, q))

  text-reads : (t : Bytes) → Same WithoutTable (read os t) (read (os ++ ns) t)
  unfolding read read_script
  text-reads t = sure (require 1 _) (bind (lines-read (length t + 1) (dictionary t) t) λ ls p. step (join ls) λ e.
      sure (require 3 _) (sure (require 4 _) (sure (require 5 _) (holds (refl, p)))))

-- What a reader without the two takes, the reader takes, to the same table; so it is a table without the two.
pub read-as-before : (t : Bytes) (T : Table) → read former t ≡ done T → (read operators t ≡ done T) × WithoutTable T
read-as-before t T e = rw all-operators (every-done (text-reads former brought formers t) e)

-- By example: it takes a text with former operators, and refuses one with `if` and one with `same`.
pub takes-others : is_done (read former (bytes "(let x (object (field f 1) (method m (y) (plus y (get this f)))) (ask x m 2))\n")) ≡ true
unfolding P.All former
takes-others = refl

pub refuses-if : read former (bytes "(let x 1 (if x 2 3))\n") ≡ refused 2
unfolding P.All former
refuses-if = refl

pub refuses-same : read former (bytes "(let x 1 (same x 2))\n") ≡ refused 2
unfolding P.All former
refuses-same = refl
