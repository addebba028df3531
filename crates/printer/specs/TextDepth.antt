-- The depth of a text is the nesting of what it prints. A text that closes all its brackets leaves as many open as there were, and
-- raises the most that were open. By induction on the expressions of the grammar under the dictionary ws. Assumes nothing.
use Rattle.std.specs.Prelude.{◌≡◌, Bool, ◌||◌, ltb, length, if◌then◌else◌}
use Rattle.std.proofs.Math.Path.{refl, ap, subst as transp}
use Rattle.std.proofs.Common.{sym, ap₂, ◌∙◌, ne_eqb, eqb-true}
use Rattle.std.proofs.Math.Bool.{true, false}
use Rattle.std.proofs.lemmas.Bool.{false≢true}
use mathlib.Core.List.{List, [], ◌∷◌, ◌++◌, append_assoc, append-nil, map}
use Prim.Native.Nat.{ℕ, zero, suc, ◌+◌, ◌-◌, ◌/◌, ◌%◌, ◌≤◌, max}
use native.Mathlib.Omega.{arith}
use Rattle.std.proofs.Math.Dec.{eqb}
use Rattle.atlite.specs.Base.{Base, bytes, all}
use Rattle.atlite.specs.Term.{this, Kind}
use Rattle.atlite.specs.Lexicon.{Bytes, in_word, is_letter, is_digit}
use Rattle.atlite.specs.Valid.{is_name, words_hold}
use Rattle.atlite.specs.Script.{SrcOp, Src, num, null, var, op, let_in, future, fn, when, literal, Srcs, nil, cons, SrcFields, no_field, field, SrcMethods, no_method, method, Line, expression, define, count_srcs}
use Rattle.atlite.specs.Printer.{Printer, src_names, placed, digits, print_number, print_items, form, print_word, print, print_all, print_fields, print_methods, print_line, print_script}
use Rattle.atlite.specs.Keywords.{src_word, print_kind, bare, naming}
use Rattle.atlite.specs.Table.{writable, Named, Grammatical, GrammaticalAll, GrammaticalFields, GrammaticalMethods, GrammaticalLines}
use Rattle.atlite.specs.Reader.{depth_from, depth}
use Rattle.atlite_laws.specs.Facts.{and₂}
use Rattle.reading.specs.Items.{word-parts, operator-writes, OpRead, nameless, named, op-read}
use Rattle.reading.specs.Words.{name-word}
use Rattle.printer.specs.Nesting.{nesting, nesting_all, nesting_fields, nesting_methods, nesting_line, nesting_lines}

-- ---- texts that close all their brackets
record Passes (s : Bytes) (d : ℕ) : Type 0 where
  pub run : (n m : ℕ) (i : Bytes) → n ≤ m → depth_from n m (s ++ i) ≡ depth_from n (max m (n + d)) i

most : (n m k : ℕ) (i : Bytes) → m ≡ k → depth_from n m i ≡ depth_from n k i
most n m k i e = ap (λ j. depth_from n j i) e

passes : {s : Bytes} {a b : ℕ} → Passes s a → a ≡ b → Passes s b
passes {s} {a} {b} p e = record { run = λ n m i h. p.run n m i h ∙ most n _ _ i (omega arith) }

pass-none : Passes [] 0
pass-none = record { run = λ n m i h. most n _ _ i (omega arith) }

pass-two : {s u : Bytes} {a b : ℕ} → Passes s a → Passes u b → Passes (s ++ u) (max a b)
pass-two {s} {u} {a} {b} p q = record {
  run = λ n m i h.
      ap (λ v. depth_from n m v) (append_assoc s u i) ∙ p.run n m (u ++ i) h ∙ q.run n (max m (n + a)) i (omega arith) ∙ most n _ _ i (omega arith);
}

pass-byte : (b : ℕ) → (b ≡ 40 → ⊥) → (b ≡ 41 → ⊥) → Passes (b ∷ []) 0
unfolding depth_from
pass-byte b o c = record {
  run = λ n m i h.
      let p : (if eqb b 40 then n + 1 else if eqb b 41 then n - 1 else n) ≡ n = rw (ne_eqb b 40 o, ne_eqb b 41 c) in
      let q : (if eqb b 40 then max m (n + 1) else m) ≡ max m (n + 0) = rw (ne_eqb b 40 o) (omega arith) in
      ap₂ (λ j k. depth_from j k i) p q;
}

pass-brackets : {s : Bytes} {d : ℕ} → Passes s d → Passes (40 ∷ (s ++ (41 ∷ []))) (suc d)
unfolding depth_from
pass-brackets {s} {d} p = record {
  run = λ n m i h.
      ap (λ v. depth_from (n + 1) (max m (n + 1)) v) (append_assoc s (41 ∷ []) i)
      ∙ p.run (n + 1) (max m (n + 1)) (41 ∷ i) (omega arith)
      ∙ (let y : (n + 1) - 1 ≡ n = omega arith in
      let z : max (max m (n + 1)) (n + 1 + d) ≡ max m (n + suc d) = omega arith in
      ap₂ (λ j k. depth_from j k i) y z);
}

-- ---- words and numbers
in-word : (b : ℕ) → in_word b ≡ true → (b ≡ 40 → ⊥) × (b ≡ 41 → ⊥)
unfolding in_word is_letter is_digit
in-word b h = (λ e. false≢true (transp (λ c. in_word c ≡ true) e h), λ e. false≢true (transp (λ c. in_word c ≡ true) e h))

pass-word : (w : Bytes) → all in_word w ≡ true → Passes w 0
unfolding all
pass-word [] h = pass-none
pass-word (b ∷ w) h =
    let p = and₂ (in_word b) (all in_word w) h in
    let q = in-word b p.0 in
    passes (pass-two (pass-byte b q.0 q.1) (pass-word w p.1)) (omega arith)

pass-digit : (b : ℕ) (w : Bytes) → 48 ≤ b → Passes w 0 → Passes (b ∷ w) 0
pass-digit b w h p = passes (pass-two (pass-byte b (λ z. omega arith) (λ z. omega arith)) p) (omega arith)

pass-digits : (k n : ℕ) (w : Bytes) → Passes w 0 → Passes (digits k n w) 0
unfolding digits
pass-digits zero n w p = p
pass-digits (suc k) n w p = go (ltb n 10) refl (pass-digits k (n / 10) ((48 + n % 10) ∷ w) (pass-digit (48 + n % 10) w (omega arith) p))
  where
    go : (b : Bool) → ltb n 10 ≡ b → Passes (digits k (n / 10) ((48 + n % 10) ∷ w)) 0 → Passes (digits (suc k) n w) 0
    go true e q = rw (e, digits) (pass-digit (48 + n) w (omega arith) p)
    go false e q = rw (e, digits) q

-- ---- items
data Most : List Bytes → ℕ → Type 0 where
  none : Most [] 0
  more : {s : Bytes} {items : List Bytes} {a b : ℕ} → Passes s a → Most items b → Most (s ∷ items) (max a b)

most-as : {items : List Bytes} {a b : ℕ} → Most items a → a ≡ b → Most items b
most-as {items} p e = transp (λ k. Most items k) e p

most-append : {us vs : List Bytes} {a b : ℕ} → Most us a → Most vs b → Most (us ++ vs) (max a b)
most-append none q = most-as q (omega arith)
most-append (more p r) q = most-as (more p (most-append r q)) (omega arith)

pass-items : (items : List Bytes) {d : ℕ} → Most items d → Passes (print_items items) d
unfolding print_items
pass-items [] none = pass-none
pass-items (s ∷ []) (more p none) = passes p (omega arith)
pass-items (s ∷ v ∷ vs) (more p q) = passes (pass-two p (pass-two (pass-byte 32 (λ z. omega arith) (λ z. omega arith)) (pass-items (v ∷ vs) q))) (omega arith)

pass-form : {items : List Bytes} {d k : ℕ} → Most items d → suc d ≡ k → Passes (form items) k
unfolding form
pass-form {items} p e = passes (pass-brackets (pass-items items p)) e

-- ---- expressions
module _ (ws : List Bytes) (w : words_hold ws ≡ true) where
  name-passes : (x : ℕ) → Named (length ws) x → Passes (print_word ws x) 0
  name-passes x g = pass-word (print_word ws x) (word-parts (print_word ws x) (name-word ws x w g)).1

  variable-passes : (x : ℕ) → (eqb x this || is_name (length ws) x) ≡ true → Passes (print_word ws x) 0
  unfolding Printer Base in_word is_letter is_digit
  variable-passes x h = go (eqb x this) refl h
    where
      go : (b : Bool) → eqb x this ≡ b → (b || is_name (length ws) x) ≡ true → Passes (print_word ws x) 0
      go true e h = transp (λ y. Passes (print_word ws y) 0) (sym (eqb-true x this e)) (pass-word (bytes "this") refl)
      go false e h = name-passes x h

  names-pass : (xs : List ℕ) → all (is_name (length ws)) xs ≡ true → Most (map (print_word ws) xs) 0
  unfolding all
  names-pass [] h = none
  names-pass (x ∷ xs) h =
      let p = and₂ (is_name (length ws) x) (all (is_name (length ws)) xs) h in
      most-as (more (name-passes x p.0) (names-pass xs p.1)) (omega arith)

  kind-passes : (k : Kind) → Passes (print_kind k) 0
  unfolding print_kind Base in_word is_letter is_digit
  kind-passes Kind.object = pass-word (bytes "object") refl
  kind-passes Kind.isolate = pass-word (bytes "isolate") refl
  kind-passes Kind.actor = pass-word (bytes "actor") refl

  -- an operator before items
  headed : (key : Bytes) {items : List Bytes} {d k : ℕ} → all in_word key ≡ true → Most items d → suc d ≡ k → Passes (form (key ∷ items)) k
  headed key h p e = pass-form (more (pass-word key h) p) (omega arith)

  -- an operator's word is a run of letters, and its names stand behind the first operand
  op-passes : (o : SrcOp) (n : ℕ) → OpRead o → writable (length ws) o n ≡ true → (all in_word (src_word o) ≡ true) × Most (src_names ws o) 0
  op-passes o n (nameless s) h = let (_, names, _) = operator-writes (src_word o) (bare o) s.0 in (s.1, rw (names ws) none)
  op-passes o n (named c x s) h =
      let (_, names, _, asks) = operator-writes (src_word (c x)) (naming c) s.0 x in
      (s.1, rw (names ws) (most-as (more (name-passes x ((asks (length ws) n).0 h).0) none) (omega arith)))

  placed-pass : {ns es : List Bytes} {d : ℕ} → Most ns 0 → Most es d → Most (placed ns es) d
  unfolding placed
  placed-pass p none = p
  placed-pass p (more q r) = most-as (more q (most-append p r)) (omega arith)

  mutual
    unfolding print Grammatical nesting bytes Base in_word is_letter is_digit print_number

    src-passes : (e : Src) → Grammatical (length ws) e → Passes (print ws e) (nesting e)
    src-passes (num n) g = pass-digits 8 n [] pass-none
    src-passes null g = pass-word (bytes "null") refl
    src-passes (var x) g = variable-passes x g
    src-passes (op o es) g = let p = op-passes o (count_srcs es) (op-read o) g.0 in headed (src_word o) p.0 (placed-pass p.1 (srcs-pass es g.1)) refl
    src-passes (let_in x a b) g = headed (bytes "let") refl (more (name-passes x g.0) (more (src-passes a g.1) (more (src-passes b g.2) none))) (omega arith)
    src-passes (future x y e) g = headed (bytes "future") refl (more (name-passes x g.0) (more (name-passes y g.1) (more (src-passes e g.2) none))) (omega arith)
    src-passes (fn x e) g = headed (bytes "fn") refl (more (name-passes x g.0) (more (src-passes e g.1) none)) (omega arith)
    src-passes (when a x b) g = headed (bytes "when") refl (more (src-passes a g.0) (more (name-passes x g.1) (more (src-passes b g.2) none))) (omega arith)
    src-passes (literal k fs ms) g = pass-form (more (kind-passes k) (most-append (fields-pass fs g.1) (methods-pass ms g.3))) (omega arith)

    srcs-pass : (es : Srcs) → GrammaticalAll (length ws) es → Most (print_all ws es) (nesting_all es)
    srcs-pass nil g = none
    srcs-pass (cons e es) g = more (src-passes e g.0) (srcs-pass es g.1)

    fields-pass : (fs : SrcFields) → GrammaticalFields (length ws) fs → Most (print_fields ws fs) (nesting_fields fs)
    fields-pass no_field g = none
    fields-pass (field f e fs) g =
        more {a = suc (nesting e)} (headed (bytes "field") refl (more (name-passes f g.0) (more (src-passes e g.1) none)) (omega arith)) (fields-pass fs g.2)

    methods-pass : (ms : SrcMethods) → GrammaticalMethods (length ws) ms → Most (print_methods ws ms) (nesting_methods ms)
    methods-pass no_method g = none
    methods-pass (method m xs e ms) g =
        more {a = suc (max 1 (nesting e))} (headed (bytes "method") refl
        (more (name-passes m g.0) (more (pass-form (names-pass xs g.2) refl) (more (src-passes e g.3) none))) (omega arith))
        (methods-pass ms g.4)

  -- ---- lines
  line-passes : (l : Line) (ls : List Line) → GrammaticalLines (length ws) (l ∷ ls) → Passes (print_line ws l) (nesting_line l) × GrammaticalLines (length ws) ls
  unfolding print_line GrammaticalLines nesting_line Base in_word is_letter is_digit
  line-passes (expression e) ls g = (passes (pass-two (src-passes e g.0) (pass-byte 10 (λ z. omega arith) (λ z. omega arith))) (omega arith), g.1)
  line-passes (define x e) ls g = (
    passes (pass-two (headed (bytes "def") {k = suc (nesting e)} refl (more (name-passes x g.0) (more (src-passes e g.1) none)) (omega arith)) (pass-byte 10 (λ z. omega arith) (λ z. omega arith))) (omega arith),
    g.2,
  )

  lines-pass : (ls : List Line) → GrammaticalLines (length ws) ls → Passes (print_script ws ls) (nesting_lines ls)
  unfolding print_script nesting_lines
  lines-pass [] g = pass-none
  lines-pass (l ∷ ls) g = let p = line-passes l ls g in pass-two p.0 (lines-pass ls p.1)

  pub depth-script : (ls : List Line) → GrammaticalLines (length ws) ls → depth (print_script ws ls) ≡ nesting_lines ls
  unfolding depth depth_from
  depth-script ls g = ap depth (sym (append-nil (print_script ws ls))) ∙ (lines-pass ls g).run 0 0 [] (omega arith) ∙ omega arith
