-- Reading the words of a table's lines gives the lines. By induction on the expressions, which are those of the grammar in a
-- script with w words, at most 64 of them: so names and counts fit their bits. Assumes nothing.
use Rattle.std.specs.Prelude.{ℕ, suc, ◌+◌, ◌*◌, ◌≤◌, ◌<◌, ◌≡◌, refl, Bool, true, false, ◌||◌, List, [], ◌∷◌, ◌++◌, map, drop, eqb}
use Rattle.std.proofs.Common.{ap, ◌∙◌, arith}
use borrow.Author.Tests.{eqb-true, lt-ltb}
use Rattle.atlite.specs.Term.{this, Kind, plain, Op, call, send, written, shape, sending}
use Rattle.atlite.specs.Valid.{is_name}
use Rattle.atlite.specs.Table.{count_fields, count_methods, Named, Grammatical, GrammaticalAll, GrammaticalFields, GrammaticalMethods, GrammaticalLines, writable}
use Rattle.atlite.specs.Script.{SrcOp, kept, ask, resolve, seq, Src, num, null, var, op, let_in, future, fn, when, literal, Srcs, nil, cons, SrcFields, no_field, field, SrcMethods, no_method, method, Line, expression, define, count_srcs}
use Rattle.layout.specs.Numbers.{payload, field_kind, name_limit, digit_limit}
use Rattle.layout.specs.Pack.{node, zeros, flat}
use Rattle.layout.specs.Terms.{tagged, asked, arguments, op_kind, kind_number, field_header, method_header}
use Rattle.layout.specs.Tables.{src_kind, src_payload, encode_src, encode_srcs, encode_fields, encode_src_methods, encode_line}
use Rattle.decoding.specs.Kinds.{Kinds}
use Rattle.layout_laws.specs.KindRows.{SrcRow, is_bare, is_field, is_call, is_send, src-row, op-kind, kind-small}
use Rattle.decoding.specs.Reading.{Item, alone, a_field, a_method, expr_of, field_of, method_of, gather, push, stack}
use Rattle.decoding.specs.TableReading.{op_in, asked_in, literal_in, on_srcs, script_forms, src_form, src_stack, line_in}
use Rattle.layout_laws.specs.PackLaws.{pack-low, pack-high, first-digit, third-digit, NameFits}
use Rattle.layout_laws.specs.ReadLaws.{push-node, push-field, push-definition, push-method, stack-two, stack-headed, stack-list, stack-lists, stack-exprs, stack-zeros}
use Rattle.layout_laws.specs.TermLaws.{bare-count, field-payload, field-count, OpFits}
use Rattle.layout_laws.specs.TermReads.{label_small}
use Rattle.layout_laws.specs.Fitting.{each_all, name-fits, shape-fits}

-- ---- names
module _ (w : ℕ) (l : w ≤ 64) where
  pub variable-named : (x : ℕ) → (eqb x this || is_name w x) ≡ true → NameFits x
  variable-named x h = go (eqb x this) refl h
    where
      go : (b : Bool) → eqb x this ≡ b → (b || is_name w x) ≡ true → NameFits x
      go true e h = let z = eqb-true x this e in omega arith
      go false e h = name-fits w l x h

  pub named_small : (x : ℕ) → Named w x → x < payload
  named_small x h = omega (arith, name-fits w l x h)

  pub two-small : (x y : ℕ) → Named w x → Named w y → x + name_limit * y < payload
  two-small x y h g = omega (arith, name-fits w l x h, name-fits w l y g)

-- ---- what a list leaves on the stack
unfoldable pub src_items : Srcs → List (Item Src)
src_items nil = []
src_items (cons e es) = alone e ∷ src_items es

unfoldable pub field_items : SrcFields → List (Item Src)
field_items no_field = []
field_items (field f e fs) = a_field f e ∷ field_items fs

unfoldable pub method_items : SrcMethods → List (Item Src)
method_items no_method = []
method_items (method m xs e ms) = a_method m xs e ∷ method_items ms

mutual
  unfolding src_items gather count_srcs

  srcs-in : (es : Srcs) (s : List (Item Src)) → gather (expr_of cons) nil (count_srcs es) (src_items es ++ s) ≡ es
  srcs-in nil s = refl
  srcs-in (cons e es) s = ap (cons e) (srcs-in es s)

mutual
  unfolding src_items count_srcs

  srcs-past : (es : Srcs) (s : List (Item Src)) → drop (count_srcs es) (src_items es ++ s) ≡ s
  srcs-past nil s = refl
  srcs-past (cons e es) s = srcs-past es s

mutual
  unfolding field_items gather count_fields

  fields_in_lem : (fs : SrcFields) (s : List (Item Src)) → gather (field_of field) no_field (count_fields fs) (field_items fs ++ s) ≡ fs
  fields_in_lem no_field s = refl
  fields_in_lem (field f e fs) s = ap (field f e) (fields_in_lem fs s)

mutual
  unfolding field_items count_fields

  fields-past : (fs : SrcFields) (s : List (Item Src)) → drop (count_fields fs) (field_items fs ++ s) ≡ s
  fields-past no_field s = refl
  fields-past (field f e fs) s = fields-past fs s

mutual
  unfolding method_items gather count_methods

  methods-in : (ms : SrcMethods) (s : List (Item Src)) → gather (method_of method) no_method (count_methods ms) (method_items ms ++ s) ≡ ms
  methods-in no_method s = refl
  methods-in (method m xs e ms) s = ap (method m xs e) (methods-in ms s)

mutual
  unfolding method_items count_methods

  methods-past : (ms : SrcMethods) (s : List (Item Src)) → drop (count_methods ms) (method_items ms ++ s) ≡ s
  methods-past no_method s = refl
  methods-past (method m xs e ms) s = methods-past ms s

-- ---- operators
pub src-kind-small : (o : SrcOp) → src_kind o < field_kind
src-kind-small (kept o) = omega (arith, (op-kind (written o)).1)
src-kind-small (ask m) = omega arith
src-kind-small resolve = omega arith
src-kind-small seq = omega arith

pub src-payload-small : (w : ℕ) → w ≤ 64 → (o : SrcOp) (n : ℕ) → writable w o n ≡ true → src_payload o n < payload
src-payload-small w l (kept o) n h = label_small (shape (written o)) n (shape-fits w l (shape (written o)) n h)
src-payload-small w l (ask m) n h = label_small (sending (plain m)) n (shape-fits w l (sending (plain m)) n h)
src-payload-small w l resolve n h = omega arith
src-payload-small w l seq n h = omega arith

op-in : (o : SrcOp) (n : ℕ) (es : Srcs) (s : List (Item Src)) → count_srcs es ≡ n → op_in o n (src_items es ++ s) ≡ alone (op o es) ∷ s
op-in o n es s h = rw (← h, srcs-in es s, srcs-past es s)

asked_in_lem : (f : ℕ → SrcOp) (m : ℕ) (es : Srcs) (s : List (Item Src)) → OpFits (send (plain m)) (count_srcs es)
    → asked_in f (asked (plain m) (arguments (count_srcs es))) (src_items es ++ s) ≡ alone (op (f m) es) ∷ s
unfolding tagged count_srcs
asked_in_lem f m nil s h = absurd h
asked_in_lem f m (cons e es) s h =
    let l : m < name_limit = omega (arith, h.0) in
    let n = count_srcs es in
    rw (first-digit m 0 n l (omega arith), third-digit m 0 n l (omega arith)) (op-in (f m) (suc n) (cons e es) s refl)

module _ (w : ℕ) (l : w ≤ 64) where
  fits : (o : Op ℕ) (n : ℕ) → writable w (kept o) n ≡ true → OpFits (written o) n
  fits o n h = shape-fits w l (shape (written o)) n h

  kept-form : (o : Op ℕ) → SrcRow o → (es : Srcs) (s : List (Item Src)) → writable w (kept o) (count_srcs es) ≡ true
      → src_form (src_kind (kept o)) (src_payload (kept o) (count_srcs es)) (src_items es ++ s) ≡ alone (op (kept o) es) ∷ s
  unfolding Kinds src_form on_srcs
  kept-form _ (is_bare o n e f) es s h =
      let k : op_kind (written o) < 64 = omega (arith, (op-kind (written o)).1) in
      rw (lt-ltb (op_kind (written o)) 64 k, f) (op-in (kept o) n es s (bare-count o n (count_srcs es) e (fits o (count_srcs es) h)))
  kept-form _ (is_field c k n e x f) es s h =
      let i : k < 64 = omega (arith, (op-kind (written (c x))).1, (e.0 x).2) in
      rw ((e.0 x).2, lt-ltb k 64 i, f, field-payload c k n e x (count_srcs es)) (op-in (kept (c x)) n es s (field-count c k n e x (count_srcs es) (fits (c x) (count_srcs es) h)).1)
  kept-form _ (is_call m) es s h = asked_in_lem (λ m. kept (call m)) m es s (fits (call m) (count_srcs es) h)
  kept-form _ (is_send m) es s h = asked_in_lem (λ m. kept (send m)) m es s (fits (send m) (count_srcs es) h)

  op-form : (o : SrcOp) (es : Srcs) (s : List (Item Src)) → writable w o (count_srcs es) ≡ true
      → src_form (src_kind o) (src_payload o (count_srcs es)) (src_items es ++ s) ≡ alone (op o es) ∷ s
  unfolding src_form script_forms
  op-form (kept o) es s h = kept-form o (src-row o) es s h
  op-form (ask m) es s h = asked_in_lem ask m es s (fits (send m) (count_srcs es) h)
  op-form resolve es s h = op-in resolve 2 es s (eqb-true (count_srcs es) 2 h)
  op-form seq es s h = op-in seq 2 es s (eqb-true (count_srcs es) 2 h)

literal-in : (k : Kind) (fs : SrcFields) (ms : SrcMethods) (s : List (Item Src)) → count_fields fs ≤ 4
    → literal_in k (count_fields fs + digit_limit * count_methods ms) (field_items fs ++ (method_items ms ++ s)) ≡ alone (literal k fs ms) ∷ s
literal-in k fs ms s h =
    let i : count_fields fs < digit_limit = omega arith in
    rw (
      pack-low digit_limit (count_fields fs) (count_methods ms) i,
      pack-high digit_limit (count_fields fs) (count_methods ms) i,
      fields_in_lem fs (method_items ms ++ s),
      fields-past fs (method_items ms ++ s),
      methods-in ms s,
      methods-past ms s,
    )

literal-form : (k : Kind) (fs : SrcFields) (ms : SrcMethods) (s : List (Item Src)) → count_fields fs ≤ 4
    → src_form (kind_number k) (count_fields fs + digit_limit * count_methods ms) (field_items fs ++ (method_items ms ++ s)) ≡ alone (literal k fs ms) ∷ s
unfolding Kinds src_form on_srcs
literal-form Kind.object fs ms s h = literal-in Kind.object fs ms s h
literal-form Kind.isolate fs ms s h = literal-in Kind.isolate fs ms s h
literal-form Kind.actor fs ms s h = literal-in Kind.actor fs ms s h

future-form : (x y : ℕ) (e : Src) (s : List (Item Src)) → NameFits x → src_form 12 (x + name_limit * y) (alone e ∷ s) ≡ alone (future x y e) ∷ s
unfolding src_form Kinds on_srcs
future-form x y e s h = let l : x < name_limit = omega (arith, h) in rw (pack-low name_limit x y l, pack-high name_limit x y l)

-- ---- the law
mutual
  unfolding encode_src stack Grammatical src_items field_items method_items src_form Kinds on_srcs script_forms

  pub read-src : (e : Src) (w : ℕ) (r : List ℕ) → w ≤ 64 → Grammatical w e → src_stack (encode_src e ++ r) ≡ alone e ∷ src_stack r
  read-src null w r l h = push-node null src_form 1 0 (src_stack r) (omega arith) (omega arith)
  read-src (num n) w r l h = push-node null src_form 2 n (src_stack r) (omega (arith, h)) (omega arith)
  read-src (var x) w r l h = push-node null src_form 6 x (src_stack r) (omega (arith, variable-named w l x h)) (omega arith)
  read-src (op o es) w r l h =
      let n = count_srcs es in
      stack-list null src_form (src_kind o) (src_payload o n) (src-kind-small o) (src-payload-small w l o n h.0) (encode_srcs es) r (src_items es) _ (read-srcs es w r l h.1) (op-form w l o es (src_stack r) h.0)
  read-src (let_in x a b) w r l h =
      stack-exprs null src_form 11 x (omega arith) (named_small w l x h.0) (encode_src a) (encode_src b) r a b (let_in x a b) (read-src a w (encode_src b ++ r) l h.1) (read-src b w r l h.2) refl
  read-src (future x y e) w r l h =
      stack-list null src_form 12 (x + name_limit * y) (omega arith) (two-small w l x y h.0 h.1) (encode_src e) r (alone e ∷ []) _ (read-src e w r l h.2) (future-form x y e (src_stack r) (name-fits w l x h.0))
  read-src (literal k fs ms) w r l h =
      stack-lists null src_form (kind_number k) (count_fields fs + digit_limit * count_methods ms) (kind-small k) (omega (arith, h.0, h.2)) (encode_fields fs) (encode_src_methods ms) r (field_items fs) (method_items ms) _
      (read-fields fs w (encode_src_methods ms ++ r) l h.1) (read-methods ms w r l h.3) (literal-form k fs ms (src_stack r) h.0)
  read-src (fn x e) w r l h = stack-list null src_form 65 x (omega arith) (named_small w l x h.0) (encode_src e) r (alone e ∷ []) _ (read-src e w r l h.1) refl
  read-src (when a x b) w r l h =
      stack-exprs null src_form 67 x (omega arith) (named_small w l x h.1) (encode_src a) (encode_src b) r a b (when a x b) (read-src a w (encode_src b ++ r) l h.0) (read-src b w r l h.2) refl

  read-srcs : (es : Srcs) (w : ℕ) (r : List ℕ) → w ≤ 64 → GrammaticalAll w es → src_stack (encode_srcs es ++ r) ≡ src_items es ++ src_stack r
  read-srcs nil w r l h = refl
  read-srcs (cons e es) w r l h =
      stack-two null src_form (encode_src e) (encode_srcs es) r _ _ (read-src e w (encode_srcs es ++ r) l h.0) (ap (λ s. alone e ∷ s) (read-srcs es w r l h.1))

  read-fields : (fs : SrcFields) (w : ℕ) (r : List ℕ) → w ≤ 64 → GrammaticalFields w fs → src_stack (encode_fields fs ++ r) ≡ field_items fs ++ src_stack r
  read-fields no_field w r l h = refl
  read-fields (field f e fs) w r l h =
      stack-headed null src_form (field_header f) (encode_src e) (encode_fields fs) r (a_field f e) e (field_items fs) (λ s. push-field null src_form f (alone e ∷ s) (name-fits w l f h.0))
      (read-src e w (encode_fields fs ++ r) l h.1) (read-fields fs w r l h.2)

  read-methods : (ms : SrcMethods) (w : ℕ) (r : List ℕ) → w ≤ 64 → GrammaticalMethods w ms → src_stack (encode_src_methods ms ++ r) ≡ method_items ms ++ src_stack r
  read-methods no_method w r l h = refl
  read-methods (method m xs e ms) w r l h =
      stack-headed null src_form (method_header m xs) (encode_src e) (encode_src_methods ms) r (a_method m xs e) e (method_items ms)
      (λ s. push-method null src_form m xs (alone e ∷ s) (name-fits w l m h.0) (each_all NameFits (is_name w) (name-fits w l) xs h.2) h.1)
      (read-src e w (encode_src_methods ms ++ r) l h.3) (read-methods ms w r l h.4)

-- ---- lines
pub read-zeros : (n : ℕ) → src_stack (zeros n) ≡ []
unfolding src_form Kinds on_srcs
read-zeros n = stack-zeros null src_form refl n

pub read-lines : (w : ℕ) → w ≤ 64 → (ls : List Line) (r : List ℕ) → GrammaticalLines w ls → map line_in (src_stack (flat encode_line ls ++ r)) ≡ ls ++ map line_in (src_stack r)
unfolding flat encode_line GrammaticalLines stack
read-lines w l [] r h = refl
read-lines w l (expression e ∷ ls) r h =
    let rest = flat encode_line ls ++ r in
    ap (map line_in) (stack-two null src_form (encode_src e) (flat encode_line ls) r _ _ (read-src e w rest l h.0) refl)
    ∙ ap (λ s. expression e ∷ s) (read-lines w l ls r h.1)
read-lines w l (define x e ∷ ls) r h =
    let rest = flat encode_line ls ++ r in
    ap (λ s. map line_in (push null src_form (node 130 x) s)) (stack-two null src_form (encode_src e) (flat encode_line ls) r _ _ (read-src e w rest l h.1) refl)
    ∙ ap (map line_in) (push-definition null src_form x (alone e ∷ src_stack rest) (name-fits w l x h.0))
    ∙ ap (λ s. define x e ∷ s) (read-lines w l ls r h.2)
