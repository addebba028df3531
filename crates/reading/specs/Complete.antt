-- What is grammatical is read back from its text, by induction on the script: each form is read back if its expressions are,
-- and fuel above the length of the text is enough, since every item of a form is shorter than the form. Assumes nothing.
use Rattle.std.specs.Prelude.{◌≡◌, true, length}
use Rattle.std.proofs.Math.Path.{refl, ap}
use Rattle.std.proofs.Common.{sym, ◌∙◌, subst}
use Rattle.std.proofs.Math.Option.{Option, none, some}
use mathlib.Core.List.{List, [], ◌∷◌, ◌++◌, map, append_assoc}
use Prim.Native.Nat.{ℕ, zero, suc, ◌+◌, ◌-◌, ◌≤◌, ◌<◌}
use native.Mathlib.Omega.{arith}
use Rattle.std.proofs.Math.ListN.{length-append}
use Rattle.atlite.specs.Base.{Base, done, refused, or_refuse, bytes}
use Rattle.atlite.specs.Lexicon.{Bytes, in_word, is_letter, is_digit}
use Rattle.atlite.specs.Script.{SrcOp, Src, Srcs, nil, cons, SrcFields, no_field, field, SrcMethods, no_method, method, Line, expression, define, src_shape, count_srcs}
use Rattle.atlite.specs.Printer.{Printer, form, print_word, print, print_all, print_fields, print_methods, print_line, print_script, placed, src_names}
use Rattle.atlite.specs.Keywords.{Keywords, print_kind, src_word, Operator, bare, naming, let_in, future, fn, when, literal, operators}
use Rattle.atlite.specs.Reader.{item, eat, after, spaced, spaced_word, read_operands, read_fields, read_methods, least, more, spelled, read_form, read_expr, read_definition, read_line, read_lines}
use Rattle.atlite.specs.Valid.{words_hold}
use Rattle.atlite.specs.Table.{writable, count_fields, count_methods, Grammatical, GrammaticalAll, GrammaticalFields, GrammaticalMethods, GrammaticalLines}
use Rattle.atlite_laws.specs.Facts.{refused-done}
use Rattle.reading.specs.Items.{after-whole, behind, closing, behind-append, form-closing, Within, within-form, within-append, ends-closing, item-run, placed-none, operator-writes, Spelt, OpRead, nameless, named, op-read, literal-read, Words}
use Rattle.reading.specs.Sound.{GrammaticalLine, lines-grammatical}
use Rattle.reading.specs.ReadBack.{Takes, word-takes, num-takes, null-takes, var-takes, items-end, items_more, head-takes}

module _ (ws : List Bytes) (held : words_hold ws ≡ true) where
  -- a form is read back if what stands behind its operator's word is
  form-takes : (v : Bytes) (o : Operator) (items : List Bytes) (e : Src) (n : ℕ) (j : Bytes) → Spelt v o → length (form (v ∷ items)) < n
      → ((m : ℕ) → Within m items → read_form o ws (read_expr operators m ws) (closing items j) ≡ done (e, j))
      → read_expr operators n ws (form (v ∷ items) ++ j) ≡ done (e, j)
  unfolding read_expr or_refuse
  form-takes v o items e zero j s l k = absurd (omega arith)
  form-takes v o items e (suc m) j s l k = ap (read_expr operators (suc m) ws) (form-closing v items j)
      ∙ rw (item-run v (closing items j) s.1 (ends-closing items j), s.0) (k m (within-form m v items (omega arith)))

  -- the expression e is read back with any fuel above the length of its text, and so are all of es
  abbrev Back : Src → Type 0
  Back e = (m : ℕ) → length (print ws e) < m → Takes (read_expr operators m ws) (print ws e) e

  abbrev BackAll : Srcs → Type 0
  BackAll nil = Unit {0}
  BackAll (cons e es) = Back e × BackAll es

  operands-take : (es : Srcs) (m k n : ℕ) → BackAll es → k ≤ count_srcs es → count_srcs es ≤ k + n → Within m (print_all ws es) → (j : Bytes)
      → read_operands (read_expr operators m ws) k n (closing (print_all ws es) j) ≡ done (es, j)
  unfolding read_operands print count_srcs spaced eat Base
  operands-take nil m zero n p a b l j = items-end nil cons (read_expr operators m ws) n j
  operands-take nil m (suc k) n p a b l j = absurd (omega arith)
  operands-take (cons e es) m zero zero p a b l j = absurd (omega arith)
  operands-take (cons e es) m zero (suc n) p a b l j =
      let i = closing (print_all ws es) j in
      items_more nil cons (read_expr operators m ws) n (print ws e) e es i j (p.0 m l.0 i (ends-closing (print_all ws es) j))
      (operands-take es m zero n p.1 (omega arith) (omega arith) l.1 j)
  operands-take (cons e es) m (suc k) n p a b l j =
      rw (
        p.0 m l.0 (closing (print_all ws es) j) (ends-closing (print_all ws es) j),
        operands-take es m k n p.1 (omega arith) (omega arith) l.1 j,
      )

  op-takes : (o : SrcOp) (es : Srcs) (n : ℕ) → OpRead o → writable (length ws) o (count_srcs es) ≡ true → BackAll es
      → length (print ws (Src.op o es)) < n → Takes (read_expr operators n ws) (print ws (Src.op o es)) (Src.op o es)
  unfolding print placed read_form count_srcs spaced spaced_word eat Words
  op-takes o es n (nameless s) h p l j d =
      let (word, names, asks) = operator-writes (src_word o) (bare o) s.0 in
      let (_, low, high) = (asks (length ws) (count_srcs es)).0 h in
      let z = names ws in
      let items : placed (src_names ws o) (print_all ws es) ≡ print_all ws es = ap (λ i. placed i (print_all ws es)) z ∙ placed-none (print_all ws es) in
      let v = subst (λ i. length (form (src_word o ∷ i)) < n) items l in
      subst (λ i. read_expr operators n ws (form (src_word o ∷ i) ++ j) ≡ done (Src.op o es, j)) (sym items) (form-takes (src_word o) (bare o) (print_all ws es) (Src.op o es) n j s v (λ m w.
      rw (operands-take es m _ _ p low high w j)))
  op-takes o nil n (named c x s) h p l j d =
      let (word, names, first, asks) = operator-writes (src_word (c x)) (naming c) s.0 x in
      let (_, low, high) = (asks (length ws) 0).0 h in
      absurd (omega arith)
  op-takes o (cons e es) n (named c x s) h p l j d =
      let (word, names, first, asks) = operator-writes (src_word (c x)) (naming c) s.0 x in
      let (name, low, high) = (asks (length ws) (count_srcs (cons e es))).0 h in
      let z = names ws in
      let v = rw z at l in
      let i = closing (print_all ws es) j in
      rw z (form-takes (src_word (c x)) (naming c) (print ws e ∷ print_word ws x ∷ print_all ws es) (Src.op (c x) (cons e es)) n j s v (λ m w.
      rw (
        p.0 m w.0 (closing (print_word ws x ∷ print_all ws es) j) refl,
        word-takes ws held x name i (ends-closing (print_all ws es) j),
        operands-take es m (least (src_shape (c x)) - 1) (more (src_shape (c x))) p.1 (omega arith) (omega arith) w.1.1 j,
      )))

  -- what follows the fields of a literal is no field
  no-field : (ms : SrcMethods) (j : Bytes) → after (bytes " (field ") (closing (print_methods ws ms) j) ≡ none
  unfolding after Printer Base
  no-field no_method j = refl
  no-field (method m xs e ms) j = refl

  mutual
    unfolding print read_form Grammatical count_fields count_methods read_fields read_methods spaced spaced_word eat after Words

    pub expr-takes : (e : Src) (n : ℕ) → Grammatical (length ws) e → length (print ws e) < n → Takes (read_expr operators n ws) (print ws e) e
    expr-takes (Src.num m) n g l = num-takes ws held n m (omega arith) g
    expr-takes Src.null n g l = null-takes ws held n (omega arith)
    expr-takes (Src.var x) n g l = var-takes ws held n x (omega arith) g
    expr-takes (Src.op o es) n g l = op-takes o es n (op-read o) g.0 (all_take es g.1) l
    expr-takes (Src.let_in x e d) n g l = λ j u.
        form-takes (bytes "let") let_in (print_word ws x ∷ print ws e ∷ print ws d ∷ []) (Src.let_in x e d) n j (refl, refl) l (λ m w.
        rw (
          word-takes ws held x g.0 (closing (print ws e ∷ print ws d ∷ []) j) refl,
          expr-takes e m g.1 w.1.0 (closing (print ws d ∷ []) j) refl,
          expr-takes d m g.2 w.1.1.0 (41 ∷ j) refl,
        ))
    expr-takes (Src.future x y e) n g l = λ j d.
        form-takes (bytes "future") future (print_word ws x ∷ print_word ws y ∷ print ws e ∷ []) (Src.future x y e) n j (refl, refl) l (λ m w.
        rw (
          word-takes ws held x g.0 (closing (print_word ws y ∷ print ws e ∷ []) j) refl,
          word-takes ws held y g.1 (closing (print ws e ∷ []) j) refl,
          expr-takes e m g.2 w.1.1.0 (41 ∷ j) refl,
        ))
    expr-takes (Src.fn x e) n g l = λ j d.
        form-takes (bytes "fn") fn (print_word ws x ∷ print ws e ∷ []) (Src.fn x e) n j (refl, refl) l (λ m w.
        rw (word-takes ws held x g.0 (closing (print ws e ∷ []) j) refl, expr-takes e m g.1 w.1.0 (41 ∷ j) refl))
    expr-takes (Src.when e x d) n g l = λ j u.
        form-takes (bytes "when") when (print ws e ∷ print_word ws x ∷ print ws d ∷ []) (Src.when e x d) n j (refl, refl) l (λ m w.
        rw (
          expr-takes e m g.0 w.0 (closing (print_word ws x ∷ print ws d ∷ []) j) refl,
          word-takes ws held x g.1 (closing (print ws d ∷ []) j) refl,
          expr-takes d m g.2 w.1.1.0 (41 ∷ j) refl,
        ))
    expr-takes (Src.literal k fs ms) n g l = λ j d.
        form-takes (print_kind k) (literal k) (print_fields ws fs ++ print_methods ws ms) (Src.literal k fs ms) n j (literal-read k) l (λ m w.
        let v = within-append m (print_fields ws fs) (print_methods ws ms) w in
        ap (read_form (literal k) ws (read_expr operators m ws)) (behind-append (print_fields ws fs) (print_methods ws ms) (41 ∷ j))
        ∙ rw (
          fields-take fs m 4 g.1 g.0 v.0 (closing (print_methods ws ms) j) (no-field ms j),
          methods-take ms m 4 g.3 g.2 v.1 j,
        ))

    all_take : (es : Srcs) → GrammaticalAll (length ws) es → BackAll es
    all_take nil g = tt
    all_take (cons e es) g = (λ m l. expr-takes e m g.0 l, all_take es g.1)

    fields-take : (fs : SrcFields) (n k : ℕ) → GrammaticalFields (length ws) fs → count_fields fs ≤ k → Within n (print_fields ws fs)
        → (i : Bytes)
        → after (bytes " (field ") i ≡ none → read_fields ws (read_expr operators n ws) k (behind (print_fields ws fs) i) ≡ done (fs, i)
    fields-take no_field n zero g c l i h = refl
    fields-take no_field n (suc k) g c l i h = rw (h, read_fields)
    fields-take (field f e fs) n zero g c l i h = absurd (omega arith)
    fields-take (field f e fs) n (suc k) g c l i h =
        let p = l.0 in
        let items = print_word ws f ∷ print ws e ∷ [] in
        let v = within-form n (bytes "field") items (omega arith) in
        let j = behind (print_fields ws fs) i in
        ap (λ t. read_fields ws (read_expr operators n ws) (suc k) (32 ∷ t)) (form-closing (bytes "field") items j)
        ∙ rw (
          word-takes ws held f g.0 (closing (print ws e ∷ []) j) refl,
          expr-takes e n g.1 v.1.0 (41 ∷ j) refl,
          fields-take fs n k g.2 (omega arith) l.1 i h,
        )

    methods-take : (ms : SrcMethods) (n k : ℕ) → GrammaticalMethods (length ws) ms → count_methods ms ≤ k
        → Within n (print_methods ws ms) → (j : Bytes)
        → read_methods ws (read_expr operators n ws) k (closing (print_methods ws ms) j) ≡ done (ms, 41 ∷ j)
    methods-take no_method n zero g c l j = refl
    methods-take no_method n (suc k) g c l j = refl
    methods-take (method m xs e ms) n zero g c l j = absurd (omega arith)
    methods-take (method m xs e ms) n (suc k) g c l j =
        let p = l.0 in
        let t = form (map (print_word ws) xs) in
        let items = print_word ws m ∷ t ∷ print ws e ∷ [] in
        let v = within-form n (bytes "method") items (omega arith) in
        let i = closing (print_methods ws ms) j in
        ap (λ u. read_methods ws (read_expr operators n ws) (suc k) (32 ∷ u)) (form-closing (bytes "method") items i)
        ∙ rw (
          word-takes ws held m g.0 (closing (t ∷ print ws e ∷ []) i) refl,
          head-takes ws held xs g.1 g.2 (closing (print ws e ∷ []) i),
          expr-takes e n g.3 v.1.1.0 (41 ∷ i) refl,
          methods-take ms n k g.4 (omega arith) l.1 j,
        )

  -- a definition's line is no expression, so an expression's is no definition
  def-refused : (n : ℕ) (i : Bytes) → read_expr operators n ws (bytes "(def " ++ i) ≡ refused 2
  unfolding read_expr Keywords spelled item in_word is_letter is_digit Base
  def-refused zero i = refl
  def-refused (suc n) i = refl

  no-def : (n : ℕ) (i : Bytes) (r : Src × Bytes) → read_expr operators n ws i ≡ done r → after (bytes "(def ") i ≡ none
  no-def n i r h = go (after (bytes "(def ") i) refl
    where
      go : (o : Option Bytes) → after (bytes "(def ") i ≡ o → o ≡ none
      go none e = refl
      go (some k) e = absurd (refused-done (sym (def-refused n k) ∙ ap (read_expr operators n ws) (after-whole (bytes "(def ") i k e) ∙ h))

  line-takes : (l : Line) (n : ℕ) → GrammaticalLine ws l → length (print_line ws l) ≤ n → (j : Bytes)
      → read_line operators n ws (print_line ws l ++ j) ≡ done (l, j)
  unfolding read_line read_definition print_line spaced eat after Words
  line-takes (expression e) n g l j =
      let k = length-append (print ws e) (10 ∷ []) in
      let p = expr-takes e n g (omega arith) (10 ∷ j) refl in
      ap (read_line operators n ws) (append_assoc (print ws e) (10 ∷ []) j) ∙ rw (no-def n (print ws e ++ (10 ∷ j)) (e, 10 ∷ j) p, read_line) (rw p)
  line-takes (define x e) n g l j =
      let w = form (bytes "def" ∷ print_word ws x ∷ print ws e ∷ []) in
      let k = length-append w (10 ∷ []) in
      let v = within-form n (bytes "def") (print_word ws x ∷ print ws e ∷ []) (omega arith) in
      ap (read_line operators n ws) (append_assoc w (10 ∷ []) j ∙ form-closing (bytes "def") (print_word ws x ∷ print ws e ∷ []) (10 ∷ j))
      ∙ rw (
        word-takes ws held x g.0 (closing (print ws e ∷ []) (10 ∷ j)) refl,
        expr-takes e n g.1 v.1.0 (41 ∷ 10 ∷ j) refl,
      )

  lines_step : (n : ℕ) (i : Bytes) (l : Line) (j : Bytes) (ls : List Line) → read_line operators (suc n) ws i ≡ done (l, j)
      → read_lines operators n ws j ≡ done ls → read_lines operators (suc n) ws i ≡ done (l ∷ ls)
  unfolding read_lines read_line read_expr after Base
  lines_step n [] l j ls p q = absurd (refused-done p)
  lines_step n (b ∷ i) l j ls p q = rw (p, q)

  line-length : (l : Line) → 0 < length (print_line ws l)
  unfolding print_line
  line-length (expression e) = let k = length-append (print ws e) (10 ∷ []) in omega arith
  line-length (define x e) = let k = length-append (form (bytes "def" ∷ print_word ws x ∷ print ws e ∷ [])) (10 ∷ []) in omega arith

  pub lines-take : (ls : List Line) (n : ℕ) → GrammaticalLines (length ws) ls → length (print_script ws ls) < n
      → read_lines operators n ws (print_script ws ls) ≡ done ls
  unfolding print_script read_lines
  lines-take ls zero g l = absurd (omega arith)
  lines-take [] (suc n) g l = refl
  lines-take (x ∷ ls) (suc n) g l =
      let p = (lines-grammatical ws x ls).0 g in
      let k = length-append (print_line ws x) (print_script ws ls) in
      let z = line-length x in
      lines_step n (print_line ws x ++ print_script ws ls) x (print_script ws ls) ls
      (line-takes x (suc n) p.0 (omega arith) (print_script ws ls)) (lines-take ls n p.1 (omega arith))
