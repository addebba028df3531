-- The words of a script's expression expand to the words of its expansion. By induction on the expressions of the grammar under a
-- dictionary of at most 64 words. Assumes nothing.
use Rattle.std.specs.Prelude.{◌≡◌, Bool, true, false, List, [], ◌∷◌, ◌++◌, eqb, if◌then◌else◌}
use Rattle.std.proofs.Math.Path.{refl}
use Rattle.std.proofs.Common.{sym, ap, ◌∙◌, subst as transp, append_assoc, append-nil, ne_eqb, eqb-true}
use Rattle.std.proofs.lemmas.Bool.{false≢true, eqb-false}
use Prim.Native.Nat.{ℕ, suc, ◌+◌, ◌-◌, ◌*◌, ◌/◌, ◌%◌, ◌≤◌, ◌<◌}
use native.Mathlib.Omega.{arith}
use Rattle.atlite.specs.Term.{this, ·t, ·f, ·r, ·l, ·s, ·x, apply, Kind, Name, plain, Op, call, send, written, Term, Terms, cons, one, two as both, seq, append, var, op, count_terms, shape}
use Rattle.atlite.specs.Script.{SrcOp, kept, ask, resolve, Src, num, null, var, op, let_in, future, fn, when, literal, Srcs, nil, cons, SrcFields, no_field, field, SrcMethods, no_method, method, count_srcs}
use Rattle.atlite.specs.Expansion.{asking, of_two}
use Rattle.atlite_laws.specs.Closures.{closure, resolving_with}
use Rattle.atlite.specs.Valid.{operable}
use Rattle.atlite.specs.Table.{count_fields, count_methods, Grammatical, GrammaticalAll, GrammaticalFields, GrammaticalMethods, writable}
use Rattle.layout.specs.Numbers.{payload, name_limit, tagged_limit, digit_limit}
use Rattle.layout.specs.Pack.{node}
use Rattle.reading.specs.Items.{send-few}
use Rattle.layout_laws.specs.Fitting.{name-fits, shape-fits}
use Rattle.layout_laws.specs.TableReads.{variable-named}
use Rattle.layout.specs.Terms.{op_kind, op_node, count_methods as count_bodies, variable, tagged, asked, kind_number, field_header, method_header, encode_term, encode_terms, encode_inits, encode_methods, encode_value, count_inits, null_word, binding, object_word, send_register}
use Rattle.layout.specs.Tables.{encode_src, encode_srcs, encode_fields, encode_src_methods}
use Rattle.layout_laws.specs.TermReads.{label_small}
use Rattle.layout_laws.specs.KindRows.{op-kind, kind-range}
use Rattle.layout_laws.specs.Parse.{unary, binary, many, parts}
use Rattle.layout_laws.proofs.ParseHeads.{head-op, head-let, head-future, head-literal}
use Rattle.layout_laws.proofs.Arity.{head-wants}
use Rattle.printer.specs.Nesting.{nesting, nesting_all, nesting_fields, nesting_methods}
use Rattle.loading.specs.Expanding.{expand_op_with, Self, outside, held, itself, self_term, expand_with, expand_all_with, expand_fields_with, expand_methods_with}
use Rattle.loading.specs.ExpandedWords.{leaf_in, closure_words, ask_words, resolver_words, waiter_words}
use Rattle.loading.specs.Expands.{One, Many, Brings, many-none, many-cons, many-join, many-one, many-two, one_same, one-leaf, one_form, one-front, one-resolve, one-when}
use Rattle.loading.specs.FormWords.{brings-copy, brings-literal, brings-header, brings-fn, brings-ask, brings-seq}

-- ---- the word that stands for `this`
unfoldable pub self_word : Self → ℕ
self_word outside = null_word
self_word held = variable ·t
self_word itself = variable this

self-words : (s : Self) → encode_term (self_term s) ≡ self_word s ∷ []
unfolding self_word self_term encode_term encode_value
self-words outside = refl
self-words held = refl
self-words itself = refl

-- a variable
variable-one : (n x : ℕ) (s : Self) → 0 < n → x < name_limit → One n (self_word s) (node 6 x ∷ []) (encode_term (expand_with (var x) s))
unfolding expand_with encode_term leaf_in
variable-one n x s d l = go (eqb this x) refl
  where
    go : (b : Bool) → eqb this x ≡ b → One n (self_word s) (node 6 x ∷ []) (encode_term (if b then self_term s else var x))
    go true e =
        let z : x ≡ 0 = sym (eqb-true this x e) in
        transp (λ y. One n (self_word s) (node 6 y ∷ []) (encode_term (self_term s))) (sym z)
        (one_same n (self_word s) _ _ _ (sym (self-words s)) (one-leaf (self_word s) (node 6 0) n (self_word s) d (omega arith) refl))
    go false e = one-leaf (self_word s) (node 6 x) n _ d (omega arith) (rw (ne_eqb (x + payload * 6) (variable this) (λ f. eqb-false this x e (omega arith))))

-- ---- lists
all-count : (es : Srcs) (s : Self) → count_terms (expand_all_with es s) ≡ count_srcs es
unfolding expand_all_with count_terms count_srcs
all-count nil s = refl
all-count (cons e es) s = ap suc (all-count es s)

fields-count : (fs : SrcFields) → count_inits (expand_fields_with fs) ≡ count_fields fs
unfolding expand_fields_with count_inits count_fields
fields-count no_field = refl
fields-count (field f e fs) = ap suc (fields-count fs)

methods-count : (ms : SrcMethods) → count_bodies (expand_methods_with ms) ≡ count_methods ms
unfolding expand_methods_with count_bodies count_methods
methods-count no_method = refl
methods-count (method m xs e ms) = ap suc (methods-count ms)

-- an argument more
last-count : (es : Terms) (x : ℕ) → count_terms (append es (one (var x))) ≡ suc (count_terms es)
unfolding append count_terms
last-count Terms.nil x = refl
last-count (Terms.cons e es) x = ap suc (last-count es x)

last-words : (es : Terms) (x : ℕ) → encode_terms (append es (one (var x))) ≡ encode_terms es ++ (variable x ∷ [])
unfolding append encode_terms
last-words Terms.nil x = refl
last-words (Terms.cons e es) x = ap {B = List ℕ} (λ l. encode_term e ++ l) (last-words es x) ∙ sym (append_assoc (encode_term e) _ _)

-- ---- the forms that are written out
closure-words : (s : Self) (x : ℕ) (e : Term) → encode_term (closure (self_term s) x e) ≡ closure_words (self_word s) x ++ encode_term e
unfolding closure encode_term count_inits count_bodies kind_number closure_words
closure-words s x e = rw (self-words s) (ap (λ l. binding ·t ∷ self_word s ∷ object_word ∷ method_header apply (x ∷ []) ∷ l) (append-nil (encode_term e)))

module _ (s : Self) where
  resolve-words : (a b : Src)
      → (binding ·r ∷ []) ++ (encode_term (expand_with a s) ++ (resolver_words (self_word s) ++ (encode_term (expand_with b s) ++ (variable ·l ∷ []))))
      ≡ encode_term (resolving_with (self_term s) (expand_with a s) (expand_with b s))
  unfolding resolving_with encode_term resolver_words closure_words tagged count_terms
  resolve-words a b = rw (closure-words s ·x (op (send Name.resolve) (both (var ·r) (var ·x))))

  when-words : (x : ℕ) (a b : Src)
      → waiter_words (self_word s) x ++ (encode_term (expand_with b held) ++ ((binding ·s ∷ send_register ∷ []) ++ (encode_term (expand_with a s) ++ (variable ·l ∷ variable ·f ∷ []))))
      ≡ encode_term (expand_with (when a x b) s)
  unfolding expand_with encode_term waiter_words tagged count_terms
  when-words x a b = rw (closure-words s x (op (call Name.resolve) (both (var ·r) (expand_with b held)))) (simp (append_assoc, append-nil))

  ask-words : (m : ℕ) (es : Srcs) (n : ℕ) → count_srcs es ≡ suc n → m < name_limit → n ≤ 3
      → ask_words (node 64 (asked (plain m) n)) ++ (encode_terms (expand_all_with es s) ++ (variable ·r ∷ variable ·f ∷ [])) ≡ encode_term (asking m (expand_all_with es s))
  unfolding asking encode_term ask_words tagged
  ask-words m es n e l k =
      let h : (m + name_limit * 0 + tagged_limit * n + payload * 64) % payload + name_limit + tagged_limit + payload * 14 ≡ m + name_limit * 1 + tagged_limit * suc n + payload * 14 = omega arith in
      rw (h, last-count (expand_all_with es s) ·r, last-words (expand_all_with es s) ·r, all-count es s, e)
      (simp append_assoc)

  literal-words : (k : Kind) (fs : SrcFields) (ms : SrcMethods)
      → node (kind_number k) (count_fields fs + digit_limit * count_methods ms) ∷ (encode_inits (expand_fields_with fs) ++ encode_methods (expand_methods_with ms))
      ≡ encode_term (expand_with (literal k fs ms) s)
  unfolding expand_with encode_term
  literal-words k fs ms = rw (fields-count fs, methods-count ms)

  -- an operator that stands as it is
  kept-words : (o : Op ℕ) (es : Srcs) → op_node (written o) (count_srcs es) ∷ encode_terms (expand_all_with es s) ≡ encode_term (op (written o) (expand_all_with es s))
  unfolding encode_term
  kept-words o es = rw (all-count es s)

method-high : (m : ℕ) (xs : List ℕ) → 192 ≤ method_header m xs / payload
unfolding method_header
method-high m xs = omega arith

-- ---- expressions
module _ (w : ℕ) (l : w ≤ 64) where
  abbrev Expands : ℕ → Self → Src → Type 0
  Expands n s e = One n (self_word s) (encode_src e) (encode_term (expand_with e s))

  kept-brings : (z : ℕ) (o : Op ℕ) (n : ℕ) → operable w (written o) n ≡ true → Brings z (op_node (written o) n) (op_node (written o) n ∷ []) z n []
  kept-brings z o n g =
      let b = written o in
      let f = shape-fits w l (shape b) n g in
      let s = label_small (shape b) n f in
      let (low, high, _, _, p, q, r) = op-kind b in
      let e : op_node b n / payload ≡ op_kind b = omega arith in
      brings-copy z (op_node b n) n (omega arith) (omega arith) (λ d. p (omega arith)) (λ d. q (omega arith)) (λ d. r (omega arith)) (head-wants _ (many b n) (head-op b n f)).0

  -- all of a list
  unfoldable Each : ℕ → Self → Srcs → Type 0
  Each n s nil = Unit {0}
  Each n s (cons e es) = Expands n s e × Each n s es

  each-many : (n : ℕ) (s : Self) (es : Srcs) → Each n s es → Many n (self_word s) (count_srcs es) (encode_srcs es) (encode_terms (expand_all_with es s))
  unfolding Each count_srcs encode_src encode_term expand_with
  each-many n s nil h = many-none n (self_word s)
  each-many n s (cons e es) h = many-cons n (self_word s) _ _ _ _ (count_srcs es) h.0 (each-many n s es h.1)

  -- the two operands of a resolve or a seq
  pair_one : (x : ℕ) (F : Term → Term → Term) (es : Srcs) (n : ℕ) (s : Self) → count_srcs es ≡ 2 → Each (n - 1) s es
      → ((a b : Src) → Expands (n - 1) s a → Expands (n - 1) s b → One n (self_word s) (x ∷ (encode_src a ++ encode_src b)) (encode_term (F (expand_with a s) (expand_with b s))))
      → One n (self_word s) (x ∷ encode_srcs es) (encode_term (of_two F (expand_all_with es s)))
  unfolding encode_src expand_with of_two count_srcs Each
  pair_one x F nil n s g h f = absurd (omega arith)
  pair_one x F (cons a nil) n s g h f = absurd (omega arith)
  pair_one x F (cons a (cons b nil)) n s g h f = rw (append-nil (encode_src b)) (f a b h.0 h.1.0)
  pair_one x F (cons a (cons b (cons c es))) n s g h f = absurd (omega arith)

  op-one : (o : SrcOp) (es : Srcs) (n : ℕ) (s : Self) → writable w o (count_srcs es) ≡ true → 0 < n → Each (n - 1) s es → Expands n s (op o es)
  unfolding encode_src encode_term expand_with expand_op_with count_srcs tagged
  op-one (kept o) es n s g d h =
      one_same n (self_word s) _ _ _ (kept-words s o es)
      (one-front (self_word s) _ n (count_srcs es) (self_word s) _ _ _ d (kept-brings (self_word s) o (count_srcs es) g) (each-many (n - 1) s es h))
  op-one (ask m) nil n s g d h = absurd (false≢true g)
  op-one (ask m) (cons e es) n s g d h =
      let (i, z, k) = send-few w m (suc (count_srcs es)) g in
      let f = name-fits w l m i in
      let c = count_srcs es in
      let x = node 64 (asked (plain m) c) in
      one_same n (self_word s) _ _ _ (ask-words s m (cons e es) c refl (omega arith) (omega arith))
      (one_form (self_word s) x n (suc c) (self_word s) (ask_words x) (variable ·r ∷ variable ·f ∷ []) _ _ d (brings-ask (self_word s) x c (omega arith) (omega arith)) (each-many (n - 1) s (cons e es) h))
  op-one resolve es n s g d h =
      pair_one (node 66 0) (resolving_with (self_term s)) es n s (eqb-true (count_srcs es) 2 g) h
      (λ a b p q. one_same n (self_word s) _ _ _ (resolve-words s a b) (one-resolve (self_word s) (node 66 0) _ _ _ _ n d (omega arith) p q))
  op-one SrcOp.seq es n s g d h =
      pair_one (node 68 0) seq es n s (eqb-true (count_srcs es) 2 g) h
      (λ a b p q. one-front (self_word s) (node 68 0) n 2 (self_word s) (binding ·s ∷ []) _ _ d (brings-seq (self_word s)) (many-two (n - 1) (self_word s) _ _ _ _ p q))

  mutual
    unfolding encode_src encode_term encode_value expand_with Grammatical nesting count_fields count_methods Each self_word leaf_in

    pub emit-src : (e : Src) (n : ℕ) (s : Self) → Grammatical w e → nesting e < n → One n (self_word s) (encode_src e) (encode_term (expand_with e s))
    emit-src (num m) n s g d = one-leaf (self_word s) (node 2 m) n _ (omega arith) (omega (arith, g)) (rw (ne_eqb (m + payload * 2) (variable this) (λ e. omega (arith, g))))
    emit-src null n s g d = one-leaf (self_word s) (node 1 0) n _ (omega arith) (omega arith) refl
    emit-src (var x) n s g d = let f = variable-named w l x g in variable-one n x s (omega arith) (omega arith)
    emit-src (op o es) n s g d = op-one o es n s g.0 (omega arith) (emit-each es (n - 1) s g.1 (omega arith))
    emit-src (let_in x a b) n s g d =
        let f = name-fits w l x g.0 in
        one-front (self_word s) (node 11 x) n 2 (self_word s) (node 11 x ∷ []) _ _ (omega arith)
        (brings-copy (self_word s) (node 11 x) 2 (omega arith) (omega arith) (λ z. omega arith) (λ z. omega arith) (λ z. omega arith) (head-wants _ (binary (λ a b. Term.let_in x a b)) (head-let x f)).0)
        (many-two (n - 1) (self_word s) _ _ _ _ (emit-src a (n - 1) s g.1 (omega arith)) (emit-src b (n - 1) s g.2 (omega arith)))
    emit-src (future x y e) n s g d =
        let f = name-fits w l x g.0 in
        let f' = name-fits w l y g.1 in
        let h = node 12 (x + name_limit * y) in
        one-front (self_word s) h n 1 (self_word s) (h ∷ []) _ _ (omega arith) (brings-copy (self_word s) h 1 (omega arith) (omega arith) (λ z. omega arith) (λ z. omega arith) (λ z. omega arith) (head-wants _ (unary (λ e. Term.future x y e)) (head-future x f y f')).0)
        (many-one (n - 1) (self_word s) _ _ (emit-src e (n - 1) s g.2 (omega arith)))
    emit-src (fn x e) n s g d =
        let f = name-fits w l x g.0 in
        one_same n (self_word s) _ _ _ (sym (closure-words s x (expand_with e held)))
        (one-front (self_word s) (node 65 x) n 1 (self_word held) (closure_words (self_word s) x) _ _ (omega arith)
        (brings-fn (self_word s) (node 65 x) x (omega arith) (omega arith)) (many-one (n - 1) (self_word held) _ _ (emit-src e (n - 1) held g.1 (omega arith))))
    emit-src (when a x b) n s g d =
        let f = name-fits w l x g.1 in
        one_same n (self_word s) _ _ _ (when-words s x a b)
        (one-when (self_word s) (node 67 x) _ _ _ _ n (omega arith) x (omega arith) (omega arith) (emit-src a (n - 1) s g.0 (omega arith)) (emit-src b (n - 1) held g.2 (omega arith)))
    emit-src (literal k fs ms) n s g d =
        let a = count_fields fs in
        let b = count_methods ms in
        let h = node (kind_number k) (a + digit_limit * b) in
        let r = kind-range k in
        let p = g.0 in
        let q = g.2 in
        one_same n (self_word s) _ _ _ (literal-words s k fs ms)
        (one-front (self_word s) h n (a + b) (self_word itself) (h ∷ []) _ _ (omega arith)
        (brings-literal (self_word s) h (a + b) (omega arith) (omega arith) (head-wants _ (parts k a b) (head-literal k a b (omega arith) (omega arith))).0)
        (many-join (n - 1) (self_word itself) _ _ _ _ a b (emit-fields fs (n - 1) g.1 (omega arith)) (emit-methods ms (n - 1) g.3 (omega arith))))

    emit-each : (es : Srcs) (n : ℕ) (s : Self) → GrammaticalAll w es → nesting_all es < n → Each n s es
    emit-each nil n s g d = tt
    emit-each (cons e es) n s g d = (emit-src e n s g.0 (omega arith), emit-each es n s g.1 (omega arith))

    emit-fields : (fs : SrcFields) (n : ℕ) → GrammaticalFields w fs → nesting_fields fs < n → Many n (self_word itself) (count_fields fs) (encode_fields fs) (encode_inits (expand_fields_with fs))
    emit-fields no_field n g d = many-none n (self_word itself)
    emit-fields (field f e fs) n g d =
        let x = name-fits w l f g.0 in
        many-cons n (self_word itself) (field_header f ∷ encode_src e) (encode_fields fs) (field_header f ∷ encode_term (expand_with e itself)) _ (count_fields fs)
        (one-front (self_word itself) (field_header f) n 1 (self_word itself) (field_header f ∷ []) _ _ (omega arith)
        (brings-header (self_word itself) (field_header f) (omega arith) (λ z. omega arith)) (many-one (n - 1) (self_word itself) _ _ (emit-src e (n - 1) itself g.1 (omega arith))))
        (emit-fields fs n g.2 (omega arith))

    emit-methods : (ms : SrcMethods) (n : ℕ) → GrammaticalMethods w ms → nesting_methods ms < n → Many n (self_word itself) (count_methods ms) (encode_src_methods ms) (encode_methods (expand_methods_with ms))
    emit-methods no_method n g d = many-none n (self_word itself)
    emit-methods (method m xs e ms) n g d =
        let x = method-high m xs in
        many-cons n (self_word itself) (method_header m xs ∷ encode_src e) (encode_src_methods ms) (method_header m xs ∷ encode_term (expand_with e itself)) _ (count_methods ms)
        (one-front (self_word itself) (method_header m xs) n 1 (self_word itself) (method_header m xs ∷ []) _ _ (omega arith)
        (brings-header (self_word itself) (method_header m xs) (omega arith) (λ z. omega arith)) (many-one (n - 1) (self_word itself) _ _ (emit-src e (n - 1) itself g.3 (omega arith))))
        (emit-methods ms n g.4 (omega arith))
