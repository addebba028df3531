-- The words of an expression show the text that it prints, if they may lie as deep in one another as its brackets. By induction on
-- the expressions, which are those of the grammar under the dictionary ws; t is a table from its second word on, and spells the
-- words of ws. Assumes nothing.
use Rattle.std.specs.Prelude.{◌≡◌, true, ℕ, suc, ◌-◌, ◌≤◌, ◌<◌, length}
use Rattle.std.proofs.Math.Path.{refl, ap}
use Rattle.std.proofs.Common.{sym, ◌∙◌, arith}
use mathlib.Core.List.{List, [], ◌∷◌, ◌++◌, append_assoc}
use Rattle.atlite.specs.Base.{all}
use Rattle.atlite.specs.Term.{Value}
use Rattle.atlite.specs.Valid.{is_name}
use Rattle.atlite.specs.Lexicon.{Bytes}
use Rattle.atlite.specs.Printer.{placed, print, print_all, print_fields, print_methods, print_line, print_script}
use Rattle.atlite.specs.Listing.{print_value}
use Rattle.atlite.specs.Script.{Src, num, null, var, op, let_in, future, fn, when, literal, Srcs, nil, cons, SrcFields, no_field, field, SrcMethods, no_method, method, Line, expression, define, count_srcs}
use Rattle.atlite.specs.Table.{Named, count_fields, count_methods, Grammatical, GrammaticalAll, GrammaticalFields, GrammaticalMethods, GrammaticalLines}
use Rattle.atlite_laws.specs.Facts.{and₂}
use Rattle.reading.specs.Items.{placed-none}
use Rattle.layout.specs.Pack.{flat}
use Rattle.layout_laws.specs.PackLaws.{NameFits, Each}
use Rattle.layout_laws.specs.Fitting.{name-fits}
use Rattle.layout_laws.specs.TableReads.{variable-named}
use Rattle.layout.specs.Terms.{encode_value, field_header, method_header}
use Rattle.layout.specs.Tables.{encode_src, encode_srcs, encode_fields, encode_src_methods, encode_line}
use Rattle.printer.specs.Nesting.{nesting, nesting_all, nesting_fields, nesting_methods, nesting_line, nesting_lines}
use Rattle.showing.specs.TextOfWords.{shown}
use Rattle.showing.specs.Spelling.{Spells}
use Rattle.showing.specs.Says.{showing}
use Rattle.showing.specs.Words.{value-shown, variable-shown, let-says, fn-says, field-says, def-says, when-says, future-says, literal-says, header-says}
use Rattle.showing.specs.Forms.{Operands, none, more, last, join, show-form}
use Rattle.showing.specs.Operators.{src-says}
use Rattle.printer.specs.TextOfLines.{lines_in}

module _ (t : List ℕ) (ws : List Bytes) (sp : Spells t ws) where
  fits : (x : ℕ) → Named (length ws) x → NameFits x
  fits = name-fits (length ws) sp.few

  all_fit : (xs : List ℕ) → all (is_name (length ws)) xs ≡ true → Each NameFits xs
  unfolding all
  all_fit [] a = tt
  all_fit (x ∷ xs) a = let b = and₂ (is_name (length ws) x) _ a in (fits x b.0, all_fit xs b.1)

  mutual
    unfolding encode_src encode_value print print_value Grammatical nesting count_srcs count_fields count_methods placed

    pub show-src : (e : Src) (n : ℕ) (r : List ℕ) → Grammatical (length ws) e → nesting e < n → shown t n (encode_src e ++ r) ≡ showing (print ws e) r
    show-src (num m) n r g d = value-shown t ws sp (Value.num m) n r (omega (arith, g)) (omega arith)
    show-src null n r g d = value-shown t ws sp Value.null n r tt (omega arith)
    show-src (var x) n r g d = variable-shown t ws sp x n r (variable-named (length ws) sp.few x g) (omega arith)
    show-src (op o es) n r g d =
        show-form (src-says t ws sp o (count_srcs es) g.0) (n - 1) n (omega arith) (show-srcs es (n - 1) r g.1 (omega arith))
    show-src (let_in x a b) n r g d =
        show-form (let-says t ws sp x (fits x g.0)) (n - 1) n (omega arith)
        (more (encode_src a) (show-src a (n - 1) (encode_src b ++ r) g.1 (omega arith)) (last (encode_src b) (show-src b (n - 1) r g.2 (omega arith))))
    show-src (when a x b) n r g d =
        show-form (when-says t ws sp x (fits x g.1)) (n - 1) n (omega arith)
        (more (encode_src a) (show-src a (n - 1) (encode_src b ++ r) g.0 (omega arith)) (last (encode_src b) (show-src b (n - 1) r g.2 (omega arith))))
    show-src (future x y e) n r g d =
        show-form (future-says t ws sp x (fits x g.0) y (fits y g.1)) (n - 1) n (omega arith) (last (encode_src e) (show-src e (n - 1) r g.2 (omega arith)))
    show-src (fn x e) n r g d = show-form (fn-says t ws sp x (fits x g.0)) (n - 1) n (omega arith) (last (encode_src e) (show-src e (n - 1) r g.1 (omega arith)))
    show-src (literal k fs ms) n r g d =
        rw (← placed-none (print_fields ws fs ++ print_methods ws ms))
        (show-form (literal-says t ws sp k (count_fields fs) (count_methods ms) (omega (arith, g.0)) (omega (arith, g.2))) (n - 1) n (omega arith)
        (join (show-fields fs (n - 1) (encode_src_methods ms ++ r) g.1 (omega arith)) (show-methods ms (n - 1) r g.3 (omega arith))))

    show-srcs : (es : Srcs) (n : ℕ) (r : List ℕ) → GrammaticalAll (length ws) es → nesting_all es < n → Operands (shown t n) r (count_srcs es) (encode_srcs es) (print_all ws es)
    show-srcs nil n r g d = none
    show-srcs (cons e es) n r g d = more (encode_src e) (show-src e n (encode_srcs es ++ r) g.0 (omega arith)) (show-srcs es n r g.1 (omega arith))

    show-fields : (fs : SrcFields) (n : ℕ) (r : List ℕ) → GrammaticalFields (length ws) fs → nesting_fields fs < n
        → Operands (shown t n) r (count_fields fs) (encode_fields fs) (print_fields ws fs)
    show-fields no_field n r g d = none
    show-fields (field f e fs) n r g d =
        more (field_header f ∷ encode_src e)
        (show-form (field-says t ws sp f (fits f g.0)) (n - 1) n (omega arith) (last (encode_src e) (show-src e (n - 1) (encode_fields fs ++ r) g.1 (omega arith))))
        (show-fields fs n r g.2 (omega arith))

    show-methods : (ms : SrcMethods) (n : ℕ) (r : List ℕ) → GrammaticalMethods (length ws) ms → nesting_methods ms < n
        → Operands (shown t n) r (count_methods ms) (encode_src_methods ms) (print_methods ws ms)
    show-methods no_method n r g d = none
    show-methods (method m xs e ms) n r g d =
        more (method_header m xs ∷ encode_src e)
        (show-form (header-says t ws sp m xs (fits m g.0) (all_fit xs g.2) g.1) (n - 1) n (omega arith) (last (encode_src e) (show-src e (n - 1) (encode_src_methods ms ++ r) g.3 (omega arith))))
        (show-methods ms n r g.4 (omega arith))

  -- ---- lines
  show-line : (l : Line) (ls : List Line) (r : List ℕ) → GrammaticalLines (length ws) (l ∷ ls) → nesting_line l ≤ 32
      → ((shown t 33 (encode_line l ++ r)).text ++ (10 ∷ []) ≡ print_line ws l) × ((shown t 33 (encode_line l ++ r)).rest ≡ r) × GrammaticalLines (length ws) ls
  unfolding encode_line GrammaticalLines nesting_line print_line placed
  show-line (expression e) ls r g d =
      let q = show-src e 33 r g.0 (omega arith) in
      (ap {B = Bytes} (λ s. s.text ++ (10 ∷ [])) q, ap {B = List ℕ} (λ s. s.rest) q, g.1)
  show-line (define x e) ls r g d =
      let q = show-form (def-says t ws sp x (fits x g.0)) 32 33 (omega arith) (last (encode_src e) (show-src e 32 r g.1 (omega arith))) in
      (ap {B = Bytes} (λ s. s.text ++ (10 ∷ [])) q, ap {B = List ℕ} (λ s. s.rest) q, g.2)

  pub show-lines : (ls : List Line) (r : List ℕ) → GrammaticalLines (length ws) ls → nesting_lines ls ≤ 32
      → lines_in t (length ls) (flat encode_line ls ++ r) ≡ print_script ws ls
  unfolding lines_in flat print_script nesting_lines
  show-lines [] r g d = refl
  show-lines (l ∷ ls) r g d =
      let p = show-line l ls (flat encode_line ls ++ r) g (omega arith) in
      ap (λ w. lines_in t (suc (length ls)) w) (append_assoc (encode_line l) (flat encode_line ls) r)
      ∙ rw (p.1, show-lines ls r p.2 (omega arith))
      (sym (append_assoc (shown t 33 (encode_line l ++ (flat encode_line ls ++ r))).text (10 ∷ []) (print_script ws ls)) ∙ ap {B = Bytes} (λ u. u ++ print_script ws ls) p.0)
