-- The head that a word is, exactly. `Reads` says of a head what a term made with it must be: fitting, where its parts are, and laid
-- out as this word and then the parts; every word's head is such a head, and every term's first word has the head of that term.
-- By the table of kinds, one clause a form. Assumes nothing.
use Rattle.std.specs.Prelude.{ℕ, zero, suc, ◌+◌, ◌*◌, ◌<◌, ◌/◌, ◌%◌, ◌≡◌, refl, Bool, true, false, List, [], ◌∷◌, ◌++◌, eqb, ltb}
use Rattle.std.proofs.Math.Path.{sym, ap, ap₂}
use Rattle.std.proofs.Common.{◌∙◌, subst as transp, arith}
use Rattle.std.proofs.Math.Option.{Option, none, some}
use Rattle.std.proofs.Math.Nat.{mod-add-div}
use borrow.Author.Tests.{ltb-true, eqb-true, lt-ltb}
use Rattle.atlite.specs.Term.{Value, null, num, ref, Name, Op, call, send, written, shape, sending, Kind, Term, val, var, op, let_in, future, literal, Terms, Inits, Methods, count_terms}
use Rattle.layout.specs.Numbers.{payload, name_limit, no_name, tag_limit, tagged_limit, number_limit, digit_limit}
use Rattle.layout.specs.Pack.{node}
use Rattle.layout.specs.Terms.{count_inits, count_methods, series_bit, encode_value, tagged, asked, arguments, op_kind, op_payload, kind_number, encode_term, encode_terms, encode_inits, encode_methods}
use Rattle.decoding.specs.Kinds.{Kinds, Bare, Fields, Form, nothing, null_value, number, reference, variable, bare, on_field, calls, sends, form_kind}
use Rattle.layout_laws.specs.KindRows.{by_kind, Row, is_bare, is_field, is_call, is_send, row}
use Rattle.layout_laws.specs.PackLaws.{pack-low, pack-high, NameFits}
use Rattle.layout_laws.specs.TermLaws.{bare-payload, bare-count, field-payload, field-count, ValueFits, NameOk, ShapeFits, OpFits, Fits, FitsAll, FitsInits, FitsMethods}
use Rattle.layout_laws.specs.TermReads.{bit, ref_back, label_small, asked-count}
use Rattle.layout_laws.specs.Parse.{value_in, name_of, Head, no_head, leaf, unary, binary, many, parts, only, value_head, ask_head, ask_in, literal_head, head_of, head_in, head_at}
use Rattle.layout_laws.specs.ParseWords.{Holding, word-node, payload-small, of_node, ValueWord, value_in_lem, NameWord, name-word, name-read}
use Rattle.layout_laws.specs.ParseHeads.{Is, Reads}

reads_only : (x : ℕ) (b : Bool) (h : Head) → (b ≡ true → Reads x h) → Reads x (only b h)
reads_only x true h r = r refl
reads_only x false h r = tt

reads-lt : (x m n : ℕ) (h : Head) → (m < n → Reads x h) → Reads x (only (ltb m n) h)
reads-lt x m n h r = reads_only x (ltb m n) h (λ t. r (ltb-true m n t))

reads-eq : (x m n : ℕ) (h : Head) → (m ≡ n → Reads x h) → Reads x (only (eqb m n) h)
reads-eq x m n h r = reads_only x (eqb m n) h (λ t. r (eqb-true m n t))

-- a value alone
reads-value : (x : ℕ) (o : Option Value) → Holding (ValueWord x) o → Reads x (value_head o)
unfolding Fits encode_term
reads-value x none h = tt
reads-value x (some v) h = (h.0, ap (λ y. y ∷ []) h.1)

-- a call or a send, by what its payload comes to
pub asked-sum : (p t : ℕ) → t ≡ p % name_limit + name_limit * (p / name_limit % tag_limit) → t + tagged_limit * (p / name_limit / tag_limit) ≡ p
asked-sum p t e = omega arith

module _ (k : ℕ) (f : Name → Op Name) where
  -- that the operator is laid out under this kind
  abbrev Asking : Type 0
  Asking = (m : Name) (n : ℕ) (es : Terms) → NameOk m → n < 8 → FitsAll es → count_terms es ≡ suc n → Is (op (f m) es) (node k (asked m n) ∷ encode_terms es)

  reads-name : Asking → (p : ℕ) (o : Option Name) → p / name_limit / tag_limit < 8 → Holding (NameWord (p / name_limit % tag_limit) (p % name_limit)) o → Reads (node k p) (ask_head f (p / name_limit / tag_limit) o)
  reads-name g p none l h = tt
  reads-name g p (some m) l h = λ es j c.
      let r = g m (p / name_limit / tag_limit) es h.0 l j c in
      (r.0, r.1 ∙ ap (λ n. node k n ∷ encode_terms es) (asked-sum p (tagged m) h.1))

  reads-ask : Asking → (p : ℕ) → Reads (node k p) (ask_in f p)
  reads-ask g p = reads-lt (node k p) (p / name_limit / tag_limit) 8 _ (λ l. reads-name g p (name_of (p / name_limit % tag_limit) (p % name_limit)) l (name-word (p / name_limit % tag_limit) (p % name_limit)))

reads-literal : (k : Kind) (p : ℕ) → Reads (node (kind_number k) p) (literal_head k p)
unfolding Fits encode_term
reads-literal k p = reads-lt _ (p / digit_limit) digit_limit (parts k (p % digit_limit) (p / digit_limit)) (λ l fs ms i j c d.
    let q : count_inits fs + digit_limit * count_methods ms ≡ p = omega arith in
    ((omega arith, omega arith, i, j), ap (λ n. node (kind_number k) n ∷ (encode_inits fs ++ encode_methods ms)) q))

-- ---- by the table of kinds
module _ (p : ℕ) (h : p < payload) where
  bare-reads : (o : Op ℕ) (n : ℕ) → Bare o n → Reads (node (op_kind (written o)) p) (only (eqb p 0) (many (written o) n))
  unfolding Fits encode_term
  bare-reads o n e = reads-eq _ p 0 (many (written o) n) (λ z es i c.
      ((transp (λ s. ShapeFits s (count_terms es)) (sym e.1) c, i), ap (λ q. node (op_kind (written o)) q ∷ encode_terms es) (bare-payload o n (count_terms es) e ∙ sym z)))

  field-reads : (c : ℕ → Op ℕ) (k n : ℕ) → Fields c k n → Reads (node k p) (only (ltb p no_name) (many (written (c p)) n))
  unfolding Fits encode_term
  field-reads c k n e = reads-lt _ p no_name (many (written (c p)) n) (λ l es i d. (
    (transp (λ s. ShapeFits s (count_terms es)) (sym (e.0 p).1) (l, d), i),
    ap₂ (λ j q. node j q ∷ encode_terms es) (e.0 p).2 (field-payload c k n e p (count_terms es)),
  ))

  form-reads : (r : Form) → Reads (node (form_kind r) p) (head_of r p)
  unfolding form_kind head_of Fits encode_term
  form-reads nothing = tt
  form-reads null_value = reads-value (node 1 p) (value_in 1 p) (value_in_lem 1 p h)
  form-reads number = reads-value (node 2 p) (value_in 2 p) (value_in_lem 2 p h)
  form-reads reference = reads-value (node 3 p) (value_in 3 p) (value_in_lem 3 p h)
  form-reads variable = reads-lt (node 6 p) p no_name (leaf (var p)) (λ l. (l, refl))
  form-reads (bare o n e) = bare-reads o n e
  form-reads (on_field c k n e) = field-reads c k n e
  form-reads Form.let_in = reads-lt (node 11 p) p no_name (binary (λ e d. let_in p e d)) (λ l e d i j. ((l, i, j), refl))
  form-reads Form.future =
      reads-lt (node 12 p) (p % name_limit) no_name _ (λ l. reads-lt (node 12 p) (p / name_limit) no_name (unary (λ e. future (p % name_limit) (p / name_limit) e)) (λ b e i. ((l, b, i), ap (λ n. node 12 n ∷ encode_term e) (mod-add-div p name_limit))))
  form-reads calls = reads-ask 13 call (λ m n es a b i c. (rw c ((a, b), i), rw c refl)) p
  form-reads sends = reads-ask 14 send (λ m n es a b i c. (rw c ((a, b), i), rw c refl)) p
  form-reads (Form.literal k) = reads-literal k p

pub head-reads : (x : ℕ) → Reads x (head_at x)
unfolding head_at head_in head_of
head-reads x =
    let p = x % payload in
    rw (word-node x) at (by_kind (λ k r. Reads (node k p) (head_of r p)) (λ k. tt) (form-reads p (payload-small x)) (x / payload))

-- a kind that was found, and the kinds past the table
pub head-kind : (x k : ℕ) → x / payload ≡ k → head_at x ≡ head_in k (x % payload)
unfolding head_at
head-kind x k e = ap (λ i. head_in i (x % payload)) e

-- ---- and every term's first word has its head
pub head-value : (v : Value) → ValueFits v → head_at (encode_value v) ≡ leaf (val v)
unfolding head_at Kinds head_in head_of value_in encode_value
head-value null h = refl
head-value (num n) h = of_node head_in 2 n h
head-value (ref a s n) h =
    let p = n + number_limit * (series_bit s + 2 * a) in
    let l : p < payload = omega (arith, h, bit s) in
    of_node head_in 3 p l ∙ ap (λ v. leaf (val v)) (ref_back a s n h)

module _ (x : ℕ) (h : NameFits x) where
  -- a name is a payload
  small : x < payload
  small = omega (arith, h)

  pub head-var : head_at (node 6 x) ≡ leaf (var x)
  unfolding head_at Kinds head_in head_of
  head-var = of_node head_in 6 x small ∙ rw (lt-ltb x no_name h)

  pub head-let : head_at (node 11 x) ≡ binary (λ e d. let_in x e d)
  unfolding head_at Kinds head_in head_of
  head-let = of_node head_in 11 x small ∙ rw (lt-ltb x no_name h)

  pub head-future : (y : ℕ) → NameFits y → head_at (node 12 (x + name_limit * y)) ≡ unary (λ e. future x y e)
  unfolding head_at Kinds head_in head_of
  head-future y g =
      let l : x < name_limit = omega (arith, h) in
      of_node head_in 12 (x + name_limit * y) (omega (arith, h, g)) ∙ rw (pack-low name_limit x y l, pack-high name_limit x y l, lt-ltb x no_name h, lt-ltb y no_name g)

ask_in_lem : (f : Name → Op Name) (m : Name) (n : ℕ) → NameOk m → n < 8 → ask_in f (asked m n) ≡ many (f m) (suc n)
ask_in_lem f m n h l = rw (asked-count m n h, name-read m n h, lt-ltb n 8 l)

ask-head : (f : Name → Op Name) (m : Name) (n : ℕ) → ShapeFits (sending m) n → ask_in f (asked m (arguments n)) ≡ many (f m) n
ask-head f m zero h = absurd h
ask-head f m (suc n) h = ask_in_lem f m n h.0 h.1

row-head : (o : Op Name) → Row o → (n : ℕ) → OpFits o n → head_in (op_kind o) (op_payload o n) ≡ many o n
unfolding Kinds head_in head_of
row-head _ (is_bare o m e f w) n h = rw (f, bare-payload o m n e, bare-count o m n e h)
row-head _ (is_field c k m e x f w) n h = let (l, i) = field-count c k m e x n h in rw ((e.0 x).2, f, field-payload c k m e x n, lt-ltb x no_name l, i)
row-head _ (is_call m) n h = ask-head call m n h
row-head _ (is_send m) n h = ask-head send m n h

pub head-op : (o : Op Name) (n : ℕ) → OpFits o n → head_at (node (op_kind o) (op_payload o n)) ≡ many o n
unfolding head_at
head-op o n h = of_node head_in (op_kind o) (op_payload o n) (label_small (shape o) n h) ∙ row-head o (row o) n h

pub head-literal : (k : Kind) (n m : ℕ) → n < 8 → m < 8 → head_at (node (kind_number k) (n + digit_limit * m)) ≡ parts k n m
unfolding head_at Kinds head_in head_of
head-literal k n m i j = of_node head_in (kind_number k) (n + digit_limit * m) (omega arith) ∙ go k
  where
    literal-in : (k : Kind) → literal_head k (n + digit_limit * m) ≡ parts k n m
    literal-in k = rw (pack-low digit_limit n m i, pack-high digit_limit n m i, lt-ltb m 8 j)

    go : (k : Kind) → head_in (kind_number k) (n + digit_limit * m) ≡ parts k n m
    go Kind.object = literal-in Kind.object
    go Kind.isolate = literal-in Kind.isolate
    go Kind.actor = literal-in Kind.actor
