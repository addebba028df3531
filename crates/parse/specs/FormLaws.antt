-- Expressions by their first byte and their operator. The reader takes an operator's operands as a list of so many; at a known operator
-- that computes to the parts that the functions of the descent read one after another. Assumes nothing.
use Rattle.std.specs.Prelude.{◌≡◌, Bool, true, false, List, [], ◌∷◌, ◌++◌, eqb, drop, if◌then◌else◌, Option, Some, None}
use Rattle.std.proofs.Math.Path.{refl}
use Rattle.std.proofs.Common.{sym, ap, ◌∙◌, append-nil, eqb-true, ne_eqb}
use Rattle.std.proofs.Math.Option.{Option as Maybe, none, some}
use Prim.Native.Nat.{ℕ, zero, suc, ◌+◌, ◌-◌, ◌≤◌}
use native.Mathlib.Omega.{arith}
use Rattle.std.proofs.lemmas.Bool.{eqb-false}
use Rattle.std.proofs.Math.ListN.{length}
use Rattle.std.proofs.Math.Seq.{slice}
use Rattle.atlite.specs.Base.{Base, refused, or_refuse, ◌>>=◌}
use Rattle.atlite.specs.Term.{Shape, exactly, Kind, call, send}
use Rattle.atlite.specs.Lexicon.{Bytes, dictionary, is_number, is_word, letter_first}
use Rattle.atlite.specs.Keywords.{Operator, naming, operators}
use Rattle.atlite.specs.Script.{SrcOp, kept, ask, resolve, seq, src_shape, Src, op, Srcs, nil, cons, count_srcs}
use Rattle.atlite.specs.Reader.{Reading, item, after, atom, read_atom, read_items, least, more, read_operands, read_form, read_expr}
use Rattle.layout.specs.Terms.{kind_number, label_number}
use Rattle.layout.specs.Tables.{src_kind}
use Rattle.decoding.specs.Kinds.{Words, kind_in, row_in}
use Rattle.words.specs.Wide.{wide, pair, wide_payload, wide_src, wide_srcs}
use Rattle.scan.specs.Runs.{Run, Starts, Kinded}
use Rattle.lexemes.specs.declared.names.Name.{Name}
use Rattle.lexemes.specs.declared.scratch.Step.{Step}
use Rattle.lexemes.specs.Atoms.{SpacedName}
use Rattle.lexemes.specs.Operators.{operator_of, operator-kind, is-bare, is-naming, own_kinds, Unformed, no-operator, no-kind}
use Rattle.lexemes.specs.DescentContract.{Took, Reads, exprs, brackets, form_by, forms, read_one, ones, one_words, Parts, read_parts, parts, part_words, head_words, read_mid, mids, mid_words, Follow, read_args, read_send, sends, send_words, read_literal, literals, literal_words}
use Rattle.lexemes.specs.NameLaws.{starts-room, spaced-read, spaced-refused}
use Rattle.lexemes.specs.DescentLaws.{shift, bind_assoc, under, took-under}
use Rattle.parse.specs.PartLaws.{whole}

-- ---- the first byte
open-byte : (i j : Bytes) → after (40 ∷ []) i ≡ some j → i ≡ 40 ∷ j
unfolding after
open-byte [] j e = absurd (let z : ◌≡◌ {A = ℕ} 0 1 = cc in omega arith)
open-byte (c ∷ i) j e = go (eqb 40 c) refl e
  where
    go : (b : Bool) → eqb 40 c ≡ b → (if b then some i else none) ≡ some j → ◌≡◌ {A = Bytes} (c ∷ i) (40 ∷ j)
    go true p q = let z = eqb-true 40 c p in let y : i ≡ j = cc in rw (← z, y)
    go false p q = absurd (let z : ◌≡◌ {A = ℕ} 0 1 = cc in omega arith)

not-open : (n : ℕ) (ws : List Bytes) (i : Bytes) → after (40 ∷ []) i ≡ none → read_expr operators (suc n) ws i ≡ read_atom ws i
unfolding after read_expr read_atom atom item is_number is_word letter_first Base
not-open n ws [] e = refl
not-open n ws (c ∷ i) e = go (eqb 40 c) refl e
  where
    go : (b : Bool) → eqb 40 c ≡ b → (if b then some i else none) ≡ none → read_expr operators (suc n) ws (c ∷ i) ≡ read_atom ws (c ∷ i)
    go true p q = absurd (let z : ◌≡◌ {A = ℕ} 0 1 = cc in omega arith)
    go false p q = rw (ne_eqb c 40 (λ z. let y = eqb-false 40 c p in y (sym z)), read_expr)

module _ (t : Bytes) (at o : ℕ) (old new : List ℕ) (r : Bool) (s : Starts t at (40 ∷ []) r) (a : Option Step) where
  opened : (n : ℕ) → r ≡ true → read_expr operators (suc n) (dictionary t) (drop at t) ≡ brackets t n (drop (at + 1) t)
  unfolding Starts read_expr brackets
  opened n k = let z = open-byte (drop at t) (drop (at + 1) t) (rw k at s).0 in rw z

  pub expr-open : r ≡ true → Reads wide_src (brackets t) t (at + 1) o old new a → Reads wide_src (exprs t) t at o old new a
  unfolding Reads exprs
  expr-open k h n l =
      let z : suc (n - 1) ≡ n = omega arith in
      shift Src wide_src t at o old new (at + 1) _ _ a (omega arith)
      (ap (λ (m : ℕ). read_expr operators m (dictionary t) (drop at t)) (sym z) ∙ opened (n - 1) k) (h (n - 1) (omega (arith, room)))
    where
      room : at + 1 ≤ length t
      room = starts-room t at 1 (40 ∷ []) r s k refl

  pub expr-atom : r ≡ false → Took wide_src t at o old new (read_atom (dictionary t) (drop at t)) a → Reads wide_src (exprs t) t at o old new a
  unfolding Reads exprs Starts
  expr-atom k h n l =
      let z : suc (n - 1) ≡ n = omega arith in
      shift Src wide_src t at o old new at _ _ a (omega arith)
      (ap (λ (m : ℕ). read_expr operators m (dictionary t) (drop at t)) (sym z) ∙ not-open (n - 1) (dictionary t) (drop at t) (rw k at s)) h

-- ---- the operator
module _ (t : Bytes) (at e o k : ℕ) (old new : List ℕ) (a : Option Step) where
  operator-form : (n : ℕ) → Run t at e → k ≡ kind_in (slice at e t) → brackets t n (drop at t) ≡ forms k t n (drop e t)
  unfolding brackets forms form_by or_refuse
  operator-form n h p = rw (h.is, h.rest, operator-kind (slice at e t), ← p) (go (operator_of operators k))
    where
      go : (x : Maybe Operator) → (or_refuse 2 x >>= λ q. read_form q (dictionary t) (read_expr operators n (dictionary t)) (drop e t))
          ≡ (elim x [ none ↦ refused 2 | some q ↦ read_form q (dictionary t) (read_expr operators n (dictionary t)) (drop e t) ])
      go none = refl
      go (some q) = refl

  pub bracket-form : Run t at e → Kinded (slice at e t) (Some k) → Reads wide_src (forms k t) t e o old new a → Reads wide_src (brackets t) t at o old new a
  unfolding Reads Kinded
  bracket-form h p s n l =
      let f = h.from in
      shift Src wide_src t at o old new e _ _ a f (operator-form n h p.0) (s n (omega arith))

  pub bracket-none : Run t at e → Kinded (slice at e t) None → Reads wide_src (brackets t) t at o old new None
  unfolding Reads Took Kinded brackets or_refuse
  bracket-none h p n l = rw (h.is, operator-kind (slice at e t), ← p, no-kind)

-- ---- forms by their shapes
unfoldable part_srcs : (n : ℕ) → Parts n → Srcs
part_srcs zero v = nil
part_srcs (suc n) v = cons v.0 (part_srcs n v.1)

operands-parts : (n : ℕ) (R : Reading Src) (i : Bytes) → read_operands R n 0 i ≡ (read_parts n R i >>= under (part_srcs n))
unfolding read_operands read_items read_parts part_srcs
operands-parts zero R i = simp bind_assoc
operands-parts (suc n) R i = simp (operands-parts n, bind_assoc)

parts-words : (n : ℕ) (v : Parts n) → wide_srcs (part_srcs n v) ≡ part_words n v
unfolding wide_src part_srcs part_words
parts-words zero v = refl
parts-words (suc n) v = ap (λ w. wide_src v.0 ++ w) (parts-words n v.1)

payload-none : (q : SrcOp) (n m : ℕ) → src_shape q ≡ exactly n → wide_payload q m ≡ 0
unfolding wide_payload
payload-none q n m e = ap (λ s. label_number pair s m) e

payload-field : (q : SrcOp) (f n m : ℕ) → src_shape q ≡ Shape.on_field f n → wide_payload q m ≡ f
unfolding wide_payload
payload-field q f n m e = ap (λ s. label_number pair s m) e

-- what a form's reader and its words compute by
unfoldable Forms : Unit {0}
unfolding forms form_by read_form read_operands read_items wide_src wide_payload count_srcs parts read_parts part_words head_words mids mid_words read_mid sends send_words read_send read_args literals literal_words read_literal kind_number ones one_words read_one operator_of Words
Forms = tt

forms-is : (q : Operator) (k : ℕ) (t : Bytes) (n : ℕ) (i : Bytes) → operator_of operators k ≡ some q → forms k t n i ≡ read_form q (dictionary t) (read_expr operators n (dictionary t)) i
unfolding forms form_by
forms-is q k t n i h = rw (h, form_by)

module _ (ws : List Bytes) (R : Reading Src) (i : Bytes) where
  bare-is : (q : SrcOp) (n : ℕ) → src_shape q ≡ exactly n → read_form (Operator.bare q) ws R i ≡ (read_parts n R i >>= under (λ v. op q (part_srcs n v)))
  unfolding read_form
  bare-is q n e = go (src_shape q) e
    where
      go : (s : Shape ℕ) → s ≡ exactly n → (read_operands R (least s) (more s) i >>= under (op q)) ≡ (read_parts n R i >>= under (λ v. op q (part_srcs n v)))
      go s e = rw e (simp (operands-parts n, bind_assoc))

  named-is : (c : ℕ → SrcOp) (n : ℕ) → ((f : ℕ) → src_shape (c f) ≡ Shape.on_field f n)
      → read_form (naming c) ws R i ≡ (read_mid (n - 1) ws R i >>= under (λ v. op (c v.1) (cons v.0 (part_srcs (n - 1) v.2))))
  unfolding read_form read_mid
  named-is c n e = simp (e, operands-parts (n - 1), bind_assoc)

kind-of : (c : Kind) (k : ℕ) → k ≡ kind_number c → operator_of operators k ≡ some (Operator.literal c)
unfolding Words operator_of
kind-of Kind.object k e = rw e
kind-of Kind.isolate k e = rw e
kind-of Kind.actor k e = rw e

module _ (t : Bytes) (at o : ℕ) (old new : List ℕ) (a : Option Step) where
  -- behind the operator of kind k its parts are read, from b on
  form-as : {A : Type 0} (f : A → Src) (enc : A → List ℕ) → ((v : A) → wide_src (f v) ≡ enc v) → (b : ℕ) → at ≤ b → (R : ℕ → Reading A) (k : ℕ)
      → ((n : ℕ) → forms k t n (drop at t) ≡ (R n (drop b t) >>= under f)) → Reads enc R t b o old new a → Reads wide_src (forms k t) t at o old new a
  unfolding Reads
  form-as f enc h b l R k q s n m = took-under f enc wide_src h t at b o old new l _ _ a (q n) (s n (omega arith))

  -- n operands
  form-parts : (q : SrcOp) (k n : ℕ) → operator_of operators k ≡ some (Operator.bare q) → src_shape q ≡ exactly n → src_kind q ≡ k
      → Follow k n t at (o + 1) old o new a → Reads wide_src (forms k t) t at o old new a
  unfolding wide_src head_words parts
  form-parts q k n b c d s =
      form-as (λ v. op q (part_srcs n v)) (head_words k n) (λ v. rw (parts-words n v, d, payload-none q n _ c) (ap (λ w. w ∷ part_words n v) (omega arith)))
      at (omega arith) (parts n t) k (λ m. forms-is _ k t m _ b ∙ bare-is _ _ _ q n c) (whole t at o k n old new a s)

  -- an operand, a name, and the other operands
  form-named : (c : ℕ → SrcOp) (k n : ℕ) → operator_of operators k ≡ some (naming c) → ((f : ℕ) → src_shape (c f) ≡ Shape.on_field f n) → ((f : ℕ) → src_kind (c f) ≡ k)
      → Reads (mid_words k (n - 1)) (mids (n - 1) t) t at o old new a → Reads wide_src (forms k t) t at o old new a
  unfolding wide_src mid_words mids read_mid
  form-named c k n b h d s =
      form-as (λ v. op (c v.1) (cons v.0 (part_srcs (n - 1) v.2))) (mid_words k (n - 1))
      (λ v. rw (parts-words (n - 1) v.2, d v.1, payload-field (c v.1) v.1 n _ (h v.1)))
      at (omega arith) (mids (n - 1) t) k (λ m. forms-is _ k t m _ b ∙ named-is _ _ _ c n h) s

  module _ (k f n : ℕ) (p : f ≡ (row_in k).operator) (m : n ≡ (row_in k).operands) where
    pub form-bare : f ≡ 1 → Follow k n t at (o + 1) old o new a → Reads wide_src (forms k t) t at o old new a
    form-bare e s = let h = is-bare k f n p m e in form-parts h.operator k n h.found h.shape h.kind s

    pub form-field : f ≡ 2 → Reads (mid_words k (n - 1)) (mids (n - 1) t) t at o old new a → Reads wide_src (forms k t) t at o old new a
    form-field e s = let h = is-naming k f n p m e in form-named h.operator k n h.found h.shape h.kind s

  pub form-resolve : (k : ℕ) → k ≡ 66 → Follow k 2 t at (o + 1) old o new a → Reads wide_src (forms k t) t at o old new a
  unfolding Words operator_of
  form-resolve k e s = form-parts resolve k 2 (rw e) refl (sym e) s

  pub form-seq : (k : ℕ) → k ≡ 68 → Follow k 2 t at (o + 1) old o new a → Reads wide_src (forms k t) t at o old new a
  unfolding Words operator_of
  form-seq k e s = form-parts seq k 2 (rw e) refl (sym e) s

  pub form-when : (k : ℕ) → k ≡ 67 → Reads (mid_words k 1) (mids 1 t) t at o old new a → Reads wide_src (forms k t) t at o old new a
  unfolding Forms
  form-when k e s =
      form-as (λ v. Src.when v.0 v.1 v.2.0) (mid_words k 1) (λ v. rw e (ap (λ w. wide 67 v.1 ∷ (wide_src v.0 ++ w)) (sym (append-nil (wide_src v.2.0)))))
      at (omega arith) (mids 1 t) k (λ n. forms-is Operator.when k t n _ (rw e) ∙ simp bind_assoc) s

  -- a receiver, a name and arguments
  form-send : (c : ℕ → SrcOp) (k : ℕ) → operator_of operators k ≡ some (naming c) → ((m n : ℕ) → wide (src_kind (c m)) (wide_payload (c m) (suc n)) ≡ wide k (pair m n))
      → ((m : ℕ) → least (src_shape (c m)) ≡ 1) → ((m : ℕ) → more (src_shape (c m)) ≡ 3) → Reads (send_words k) (sends t) t at o old new a → Reads wide_src (forms k t) t at o old new a
  unfolding sends read_send read_args send_words wide_src count_srcs read_form read_operands
  form-send c k b h p q s =
      form-as (λ v. op (c v.1) (cons v.0 v.2)) (send_words k) (λ v. rw (h v.1 (count_srcs v.2))) at (omega arith) (sends t) k
      (λ n. forms-is _ k t n _ b ∙ simp (p, q, bind_assoc)) s

  pub form-call : (k : ℕ) → k ≡ 13 → Reads (send_words k) (sends t) t at o old new a → Reads wide_src (forms k t) t at o old new a
  unfolding Words operator_of wide_payload
  form-call k e s = form-send (λ m. kept (call m)) k (rw e) (λ m n. rw e) (λ m. refl) (λ m. refl) s

  pub form-message : (k : ℕ) → k ≡ 14 → Reads (send_words k) (sends t) t at o old new a → Reads wide_src (forms k t) t at o old new a
  unfolding Words operator_of wide_payload
  form-message k e s = form-send (λ m. kept (send m)) k (rw e) (λ m n. rw e) (λ m. refl) (λ m. refl) s

  pub form-ask : (k : ℕ) → k ≡ 64 → Reads (send_words k) (sends t) t at o old new a → Reads wide_src (forms k t) t at o old new a
  unfolding Words operator_of wide_payload
  form-ask k e s = form-send ask k (rw e) (λ m n. rw e) (λ m. refl) (λ m. refl) s

  form-literal : (c : Kind) (k : ℕ) → k ≡ kind_number c → Reads (literal_words k) (literals t) t at o old new a → Reads wide_src (forms k t) t at o old new a
  unfolding Forms
  form-literal c k e s =
      form-as (λ v. Src.literal c v.0 v.1) (literal_words k) (λ v. rw e) at (omega arith) (literals t) k
      (λ n. forms-is (Operator.literal c) k t n _ (kind-of c k e) ∙ simp bind_assoc) s

  pub form-object : (k : ℕ) → k ≡ 15 → Reads (literal_words k) (literals t) t at o old new a → Reads wide_src (forms k t) t at o old new a
  unfolding kind_number
  form-object k e s = form-literal Kind.object k e s

  pub form-isolate : (k : ℕ) → k ≡ 16 → Reads (literal_words k) (literals t) t at o old new a → Reads wide_src (forms k t) t at o old new a
  unfolding kind_number
  form-isolate k e s = form-literal Kind.isolate k e s

  pub form-actor : (k : ℕ) → k ≡ 17 → Reads (literal_words k) (literals t) t at o old new a → Reads wide_src (forms k t) t at o old new a
  unfolding kind_number
  form-actor k e s = form-literal Kind.actor k e s

  -- the forms of functions of their own
  pub form-own : (k j : ℕ) → k ≡ j → Reads wide_src (forms j t) t at o old new a → Reads wide_src (forms k t) t at o old new a
  form-own k j e s = rw e s

pub form-rest : (t : Bytes) (at o k : ℕ) (old new : List ℕ) → ((row_in k).operator ≡ 1 → ⊥) → ((row_in k).operator ≡ 2 → ⊥) → Unformed own_kinds k → Reads wide_src (forms k t) t at o old new None
unfolding Reads Took forms form_by
form-rest t at o k old new x y h n l = rw (no-operator k x y h, form_by)

-- ---- words before expressions
module _ (t : Bytes) (at o : ℕ) (old new : List ℕ) where
  pub let-bad : SpacedName t at None → Reads wide_src (forms 11 t) t at o old new None
  unfolding Reads Took Forms
  let-bad s n l = rw (spaced-refused t at s)

  pub future-bad : SpacedName t at None → Reads wide_src (forms 12 t) t at o old new None
  unfolding Reads Took Forms
  future-bad s n l = rw (spaced-refused t at s)

  pub fn-bad : SpacedName t at None → Reads wide_src (forms 65 t) t at o old new None
  unfolding Reads Took Forms
  fn-bad s n l = rw (spaced-refused t at s)

  module _ (x : Name) (s : SpacedName t at (Some x)) where
    pub let-done : (w : ℕ) (a : Option Step) → w ≡ wide 11 x.number → Follow w 2 t x.end (o + 1) old o new a → Reads wide_src (forms 11 t) t at o old new a
    unfolding Forms
    let-done w a h u =
        let r = spaced-read t at x s in
        form-as t at o old new a (λ v. Src.let_in x.number v.0 v.1.0) (head_words w 2)
        (λ v. rw h (ap (λ z. wide 11 x.number ∷ (wide_src v.0 ++ z)) (sym (append-nil (wide_src v.1.0)))))
        x.end (omega arith) (parts 2 t) 11 (λ n. rw r.is (simp bind_assoc)) (whole t x.end o w 2 old new a u)

    pub fn-done : (w : ℕ) (a : Option Step) → w ≡ wide 65 x.number → Reads (one_words w) (ones t) t x.end o old new a → Reads wide_src (forms 65 t) t at o old new a
    unfolding Forms
    fn-done w a h u =
        let r = spaced-read t at x s in
        form-as t at o old new a (Src.fn x.number) (one_words w) (λ v. rw h) x.end (omega arith) (ones t) 65 (λ n. rw r.is (simp bind_assoc)) u

    pub future-later-bad : SpacedName t x.end None → Reads wide_src (forms 12 t) t at o old new None
    unfolding Reads Took Forms
    future-later-bad d n l = let r = spaced-read t at x s in rw r.is (rw (spaced-refused t x.end d))

    pub future-done : (y : Name) (w : ℕ) (a : Option Step) → SpacedName t x.end (Some y) → w ≡ wide 12 (pair x.number y.number) → Reads (one_words w) (ones t) t y.end o old new a
        → Reads wide_src (forms 12 t) t at o old new a
    unfolding Forms
    future-done y w a q h u =
        let r = spaced-read t at x s in
        let r' = spaced-read t x.end y q in
        form-as t at o old new a (Src.future x.number y.number) (one_words w) (λ v. rw h) y.end (omega arith) (ones t) 12 (λ n. rw r.is (rw r'.is (simp bind_assoc))) u
