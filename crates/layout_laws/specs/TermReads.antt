-- Reading the words of a term gives the term, if it fits. By induction on the term: its words leave it on top of what the words
-- behind it leave. Assumes nothing.
use Rattle.std.specs.Prelude.{ℕ, zero, suc, ◌+◌, ◌-◌, ◌*◌, ◌≤◌, ◌<◌, ◌/◌, ◌%◌, ◌≡◌, refl, List, [], ◌∷◌, ◌++◌, length, drop}
use Rattle.std.proofs.Common.{ap, ap₂, ◌∙◌, arith}
use Rattle.atlite.specs.Term.{Series, made, copied, Value, null, num, ref, Name, plain, two_way, resolve, register, Op, call, send, written, Shape, exactly, on_field, calling, sending, shape, Kind, Term, val, var, op, let_in, future, literal, Terms, nil, cons, Inits, no_field, Methods, no_method, method, count_terms}
use Rattle.layout.specs.Numbers.{payload, name_limit, tag_limit, number_limit, digit_limit}
use Rattle.layout.specs.Pack.{zeros, pad}
use Rattle.layout.specs.Terms.{count_inits, count_methods, series_bit, encode_value, tagged, asked, arguments, label_number, op_kind, op_payload, kind_number, field_header, method_header, encode_term, encode_terms, encode_inits, encode_methods}
use Rattle.decoding.specs.Kinds.{Kinds}
use Rattle.layout_laws.specs.KindRows.{Row, is_bare, is_field, is_call, is_send, row, op-kind, kind-small}
use Rattle.decoding.specs.Reading.{Item, alone, a_field, a_method, gather, first, push, stack}
use Rattle.decoding.specs.TermReading.{terms_in, inits_in, methods_in, name_in, ref_in, none, op_in, asked_in, literal_in, on_terms, term_form, term_stack, term_at, decode_value}
use Rattle.layout_laws.specs.PackLaws.{pack-low, pack-high, first-digit, second-digit, third-digit, NameFits}
use Rattle.layout_laws.specs.ReadLaws.{push-node, push-field, push-method, stack-two, stack-headed, stack-list, stack-lists, stack-exprs, stack-zeros}
use Rattle.layout_laws.specs.TermLaws.{bare-count, field-payload, field-count, ValueFits, NameOk, ShapeFits, OpFits, Fits, FitsAll, FitsInits, FitsMethods}

-- ---- values
pub ref_back : (a : ℕ) (s : Series) (n : ℕ) → ValueFits (ref a s n) → ref_in (n + number_limit * (series_bit s + 2 * a)) ≡ ref a s n
unfolding series_bit
ref_back a made n h = rw (pack-low number_limit n (0 + 2 * a) h.0, pack-high number_limit n (0 + 2 * a) h.0, pack-low 2 0 a (omega arith), pack-high 2 0 a (omega arith))
ref_back a copied n h = rw (pack-low number_limit n (1 + 2 * a) h.0, pack-high number_limit n (1 + 2 * a) h.0, pack-low 2 1 a (omega arith), pack-high 2 1 a (omega arith))

pub bit : (s : Series) → series_bit s < 2
unfolding series_bit
bit made = omega arith
bit copied = omega arith

pub value-back : (v : Value) → ValueFits v → decode_value (encode_value v) ≡ v
unfolding decode_value encode_value
value-back null h = refl
value-back (num n) h = rw (pack-low payload n 2 h, pack-high payload n 2 h)
value-back (ref a s n) h =
    let p = n + number_limit * (series_bit s + 2 * a) in
    let l : p < payload = omega (arith, h, bit s) in
    rw (pack-low payload p 3 l, pack-high payload p 3 l) (ref_back a s n h)

-- a word 0 is never a value
pub value-nonzero : (v : Value) → 1 ≤ encode_value v
unfolding encode_value
value-nonzero null = omega arith
value-nonzero (num n) = omega arith
value-nonzero (ref a s n) = omega arith

push-value : (v : Value) (s : List (Item Term)) → ValueFits v → push none term_form (encode_value v) s ≡ alone (val v) ∷ s
unfolding encode_value Kinds on_terms term_form
push-value null s h = push-node none term_form 1 0 s (omega arith) (omega arith)
push-value (num n) s h = push-node none term_form 2 n s h (omega arith)
push-value (ref a t n) s h =
    let p = n + number_limit * (series_bit t + 2 * a) in
    let l : p < payload = omega (arith, h, bit t) in
    push-node none term_form 3 p s l (omega arith) ∙ ap (λ v. alone (val v) ∷ s) (ref_back a t n h)

-- ---- names with a tag and a count
pub asked-small : (m : Name) (n : ℕ) → NameOk m → n < 8 → asked m n < 4096
unfolding tagged
asked-small (plain m) n h l = omega (arith, h)
asked-small (two_way m) n h l = omega (arith, h)
asked-small resolve n h l = omega arith
asked-small register n h l = omega arith

pub asked-name : (m : Name) (n : ℕ) → NameOk m → name_in (asked m n / name_limit % tag_limit) (asked m n % name_limit) ≡ m
unfolding tagged
asked-name (plain m) n h = let l : m < name_limit = omega (arith, h) in ap₂ name_in (second-digit m 0 n l (omega arith)) (first-digit m 0 n l (omega arith))
asked-name (two_way m) n h = let l : m < name_limit = omega (arith, h) in ap₂ name_in (second-digit m 1 n l (omega arith)) (first-digit m 1 n l (omega arith))
asked-name resolve n h = ap₂ name_in (second-digit 0 2 n (omega arith) (omega arith)) (first-digit 0 2 n (omega arith) (omega arith))
asked-name register n h = ap₂ name_in (second-digit 0 3 n (omega arith) (omega arith)) (first-digit 0 3 n (omega arith) (omega arith))

pub asked-count : (m : Name) (n : ℕ) → NameOk m → asked m n / name_limit / tag_limit ≡ n
unfolding tagged
asked-count (plain m) n h = third-digit m 0 n (omega (arith, h)) (omega arith)
asked-count (two_way m) n h = third-digit m 1 n (omega (arith, h)) (omega arith)
asked-count resolve n h = third-digit 0 2 n (omega arith) (omega arith)
asked-count register n h = third-digit 0 3 n (omega arith) (omega arith)

-- ---- what a list of terms, fields or methods leaves on the stack
unfoldable pub term_items : Terms → List (Item Term)
term_items nil = []
term_items (cons e es) = alone e ∷ term_items es

unfoldable pub init_items : Inits → List (Item Term)
init_items no_field = []
init_items (Inits.field f e fs) = a_field f e ∷ init_items fs

unfoldable pub method_items : Methods → List (Item Term)
method_items no_method = []
method_items (method m xs e ms) = a_method m xs e ∷ method_items ms

mutual
  unfolding term_items gather count_terms

  terms-in : (es : Terms) (s : List (Item Term)) → terms_in (count_terms es) (term_items es ++ s) ≡ es
  terms-in nil s = refl
  terms-in (cons e es) s = ap (cons e) (terms-in es s)

mutual
  unfolding term_items count_terms

  terms-past : (es : Terms) (s : List (Item Term)) → drop (count_terms es) (term_items es ++ s) ≡ s
  terms-past nil s = refl
  terms-past (cons e es) s = terms-past es s

mutual
  unfolding init_items gather count_inits

  inits-in : (fs : Inits) (s : List (Item Term)) → inits_in (count_inits fs) (init_items fs ++ s) ≡ fs
  inits-in no_field s = refl
  inits-in (Inits.field f e fs) s = ap (Inits.field f e) (inits-in fs s)

mutual
  unfolding init_items count_inits

  inits-past : (fs : Inits) (s : List (Item Term)) → drop (count_inits fs) (init_items fs ++ s) ≡ s
  inits-past no_field s = refl
  inits-past (Inits.field f e fs) s = inits-past fs s

mutual
  unfolding method_items gather count_methods

  pub methods-in : (ms : Methods) (s : List (Item Term)) → methods_in (count_methods ms) (method_items ms ++ s) ≡ ms
  methods-in no_method s = refl
  methods-in (method m xs e ms) s = ap (method m xs e) (methods-in ms s)

mutual
  unfolding method_items count_methods

  pub methods-past : (ms : Methods) (s : List (Item Term)) → drop (count_methods ms) (method_items ms ++ s) ≡ s
  methods-past no_method s = refl
  methods-past (method m xs e ms) s = methods-past ms s

-- ---- the forms whose payload has digits
pub label_small : (s : Shape Name) (n : ℕ) → ShapeFits s n → label_number asked s n < payload
label_small (exactly k) n h = omega arith
label_small (on_field f k) n h = omega (arith, h.0)
label_small (calling m) zero h = absurd h
label_small (calling m) (suc n) h = omega (arith, asked-small m n h.0 h.1)
label_small (sending m) zero h = absurd h
label_small (sending m) (suc n) h = omega (arith, asked-small m n h.0 h.1)

op-in : (o : Op Name) (n : ℕ) (es : Terms) (s : List (Item Term)) → count_terms es ≡ n → op_in o n (term_items es ++ s) ≡ alone (op o es) ∷ s
op-in o n es s h = rw (← h, terms-in es s, terms-past es s)

asked-form : (c : Name → Op Name) (m : Name) (es : Terms) (s : List (Item Term)) → ShapeFits (sending m) (count_terms es)
    → asked_in c (asked m (arguments (count_terms es))) (term_items es ++ s) ≡ alone (op (c m) es) ∷ s
unfolding count_terms
asked-form c m nil s h = absurd h
asked-form c m (cons e es) s h = let n = count_terms es in rw (asked-name m n h.0, asked-count m n h.0) (op-in (c m) (suc n) (cons e es) s refl)

op-form : (o : Op Name) → Row o → (es : Terms) (s : List (Item Term)) → OpFits o (count_terms es) → term_form (op_kind o) (op_payload o (count_terms es)) (term_items es ++ s) ≡ alone (op o es) ∷ s
unfolding Kinds on_terms term_form
op-form _ (is_bare o n e f w) es s h = rw f (op-in (written o) n es s (bare-count o n (count_terms es) e h))
op-form _ (is_field c k n e x f w) es s h = rw ((e.0 x).2, f, field-payload c k n e x (count_terms es)) (op-in (written (c x)) n es s (field-count c k n e x (count_terms es) h).1)
op-form _ (is_call m) es s h = asked-form call m es s h
op-form _ (is_send m) es s h = asked-form send m es s h

literal-in : (k : Kind) (fs : Inits) (ms : Methods) (s : List (Item Term)) → count_inits fs < digit_limit
    → literal_in k (count_inits fs + digit_limit * count_methods ms) (init_items fs ++ (method_items ms ++ s)) ≡ alone (literal k fs ms) ∷ s
literal-in k fs ms s h =
    rw (
      pack-low digit_limit (count_inits fs) (count_methods ms) h,
      pack-high digit_limit (count_inits fs) (count_methods ms) h,
      inits-in fs (method_items ms ++ s),
      inits-past fs (method_items ms ++ s),
      methods-in ms s,
      methods-past ms s,
    )

literal-form : (k : Kind) (fs : Inits) (ms : Methods) (s : List (Item Term)) → count_inits fs < digit_limit
    → term_form (kind_number k) (count_inits fs + digit_limit * count_methods ms) (init_items fs ++ (method_items ms ++ s)) ≡ alone (literal k fs ms) ∷ s
unfolding Kinds on_terms term_form
literal-form Kind.object fs ms s h = literal-in Kind.object fs ms s h
literal-form Kind.isolate fs ms s h = literal-in Kind.isolate fs ms s h
literal-form Kind.actor fs ms s h = literal-in Kind.actor fs ms s h

future-form : (x y : ℕ) (e : Term) (s : List (Item Term)) → NameFits x → term_form 12 (x + name_limit * y) (alone e ∷ s) ≡ alone (future x y e) ∷ s
unfolding Kinds on_terms term_form
future-form x y e s h = let l : x < name_limit = omega (arith, h) in rw (pack-low name_limit x y l, pack-high name_limit x y l)

-- ---- the law
mutual
  unfolding encode_term stack Fits term_items init_items method_items Kinds on_terms term_form

  pub read-term : (e : Term) (r : List ℕ) → Fits e → term_stack (encode_term e ++ r) ≡ alone e ∷ term_stack r
  read-term (val v) r h = push-value v (term_stack r) h
  read-term (var x) r h = push-node none term_form 6 x (term_stack r) (omega (arith, h)) (omega arith)
  read-term (op o es) r h =
      let n = count_terms es in
      stack-list none term_form (op_kind o) (op_payload o n) (omega (arith, (op-kind o).1)) (label_small (shape o) n h.0) (encode_terms es) r (term_items es) _ (read-terms es r h.1) (op-form o (row o) es (term_stack r) h.0)
  read-term (let_in x a b) r h =
      stack-exprs none term_form 11 x (omega arith) (omega (arith, h.0)) (encode_term a) (encode_term b) r a b (let_in x a b) (read-term a (encode_term b ++ r) h.1) (read-term b r h.2) refl
  read-term (future x y e) r h =
      stack-list none term_form 12 (x + name_limit * y) (omega arith) (omega (arith, h.0, h.1)) (encode_term e) r (alone e ∷ []) _ (read-term e r h.2) (future-form x y e (term_stack r) h.0)
  read-term (literal k fs ms) r h =
      stack-lists none term_form (kind_number k) (count_inits fs + digit_limit * count_methods ms) (kind-small k) (omega (arith, h.0, h.1)) (encode_inits fs) (encode_methods ms) r (init_items fs) (method_items ms) _
      (read-inits fs (encode_methods ms ++ r) h.2) (read-methods ms r h.3) (literal-form k fs ms (term_stack r) h.0)

  pub read-terms : (es : Terms) (r : List ℕ) → FitsAll es → term_stack (encode_terms es ++ r) ≡ term_items es ++ term_stack r
  read-terms nil r h = refl
  read-terms (cons e es) r h = stack-two none term_form (encode_term e) (encode_terms es) r _ _ (read-term e (encode_terms es ++ r) h.0) (ap (λ s. alone e ∷ s) (read-terms es r h.1))

  pub read-inits : (fs : Inits) (r : List ℕ) → FitsInits fs → term_stack (encode_inits fs ++ r) ≡ init_items fs ++ term_stack r
  read-inits no_field r h = refl
  read-inits (Inits.field f e fs) r h =
      stack-headed none term_form (field_header f) (encode_term e) (encode_inits fs) r (a_field f e) e (init_items fs) (λ s. push-field none term_form f (alone e ∷ s) h.0)
      (read-term e (encode_inits fs ++ r) h.1) (read-inits fs r h.2)

  pub read-methods : (ms : Methods) (r : List ℕ) → FitsMethods ms → term_stack (encode_methods ms ++ r) ≡ method_items ms ++ term_stack r
  read-methods no_method r h = refl
  read-methods (method m xs e ms) r h =
      stack-headed none term_form (method_header m xs) (encode_term e) (encode_methods ms) r (a_method m xs e) e (method_items ms) (λ s. push-method none term_form m xs (alone e ∷ s) h.0 h.1 h.2)
      (read-term e (encode_methods ms ++ r) h.3) (read-methods ms r h.4)

-- zeros are read as nothing
pub read-zeros : (n : ℕ) → term_stack (zeros n) ≡ []
unfolding Kinds on_terms term_form
read-zeros n = stack-zeros none term_form refl n

pub term-back : (n : ℕ) (e : Term) → Fits e → term_at (pad n (encode_term e)) ≡ e
unfolding term_at pad
term-back n e h = ap (first none) (read-term e (zeros (n - length (encode_term e))) h)
