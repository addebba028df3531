-- What the words of operators say, one clause a shape of operator. Assumes nothing.
use Rattle.std.specs.Prelude.{◌≡◌, true, false, ltb, length}
use Rattle.std.proofs.Math.Path.{refl, subst as transp}
use Rattle.std.proofs.Common.{sym}
use Rattle.std.proofs.lemmas.Bool.{false≢true}
use mathlib.Core.List.{List, [], ◌∷◌, ◌++◌}
use Prim.Native.Nat.{ℕ, zero, suc, ◌/◌, min}
use native.Mathlib.Omega.{arith}
use borrow.Author.Tests.{lt-ltb, le-ltb, ne_eqb, eqb-true}
use Rattle.atlite.specs.Base.{bytes}
use Rattle.atlite.specs.Lexicon.{Bytes}
use Rattle.atlite.specs.Printer.{print_word, print_name, labelled, op_names, src_names}
use Rattle.atlite.specs.Keywords.{op_word, src_word}
use Rattle.atlite.specs.Table.{writable}
use Rattle.atlite.specs.Valid.{operable}
use Rattle.atlite.specs.Script.{SrcOp, kept, ask, resolve, seq}
use Rattle.atlite.specs.Term.{Name, plain, Op, call, send, written, shape}
use Rattle.layout.specs.Numbers.{payload, field_kind, no_name}
use Rattle.layout.specs.Pack.{node}
use Rattle.layout.specs.Terms.{tagged, op_kind, op_node}
use Rattle.layout_laws.specs.TermLaws.{bare-count, field-payload, field-count, OpFits}
use Rattle.layout_laws.specs.TermReads.{label_small}
use Rattle.layout.specs.Tables.{src_kind, src_payload}
use Rattle.decoding.specs.Kinds.{row_in, word_in}
use Rattle.layout_laws.specs.KindRows.{op-kind, Row, is_bare, is_field, is_call, is_send, row, SrcRow, src-row}
use Rattle.layout_laws.specs.KindLaws.{Unasked, bare-row, bare-unasked, field_row}
use Rattle.layout_laws.specs.Parse.{many}
use Rattle.layout_laws.proofs.ParseHeads.{head-op}
use Rattle.layout_laws.specs.Arity.{arity}
use Rattle.layout_laws.proofs.Arity.{head-wants}
use Rattle.layout_laws.specs.Fitting.{shape-fits}
use Rattle.showing.specs.TextOfWords.{name_in, first_in, second, params_in, after, after_in, operator_in, head_in, TextOfWords·all}
use Rattle.showing.specs.Spelling.{Spells}
use Rattle.showing.specs.Says.{Says, plainly, naming}
use Rattle.showing.specs.Words.{name-shown, tag-shown, asked-parts}

module _ (t : List ℕ) (ws : List Bytes) (sp : Spells t ws) where
  fits : (o : Op Name) (n : ℕ) → operable (length ws) o n ≡ true → OpFits o n
  fits o n h = shape-fits (length ws) sp.few (shape o) n h

  -- the word of an operator: no name stands before its operands
  module _ (o : Op Name) (n : ℕ) (f : OpFits o n) where
    kind : op_node o n / payload ≡ op_kind o
    kind = let l = label_small (shape o) n f in omega arith

    count : arity (op_node o n) ≡ n
    count = (head-wants _ (many o n) (head-op o n f)).0

    is_form : ltb (op_node o n / payload) 7 ≡ false
    is_form = le-ltb (op_node o n / payload) 7 (omega (arith, kind, (op-kind o).0))

    opened : word_in (op_kind o) ≡ op_word o → head_in t (op_node o n) ≡ (40 ∷ []) ++ (op_word o ++ [])
    unfolding head_in operator_in first_in second params_in name_in
    opened w =
        let k = op_kind o in
        let (_, l, a, b, _, _, _) = op-kind o in
        let low : min 192 k ≡ k = omega arith in
        rw (kind, low, lt-ltb k 192 (omega arith), lt-ltb k field_kind (omega arith), ne_eqb k 11 a, ne_eqb k 12 b, ne_eqb k 65 (λ e. omega arith), w)

    unnamed : (row_in (op_kind o)).operator ≡ 1 → Unasked (op_kind o) → after (op_node o n) ≡ no_name
    unfolding after_in
    unnamed r u =
        let k = op_kind o in
        let l = (op-kind o).1 in
        rw (kind, r, ne_eqb k 13 (λ e. u (omega arith) (omega arith)), ne_eqb k 14 (λ e. u (omega arith) (omega arith)), ne_eqb k 64 (λ e. omega arith), ne_eqb k 67 (λ e. omega arith))

  module _ (m : Name) where
    call-says : (n : ℕ) → OpFits (call m) n → Says t (op_node (call m) n) (op_word (call m)) [] (print_name ws m ∷ []) n
    unfolding op_word TextOfWords·all bytes
    call-says zero f = absurd f
    call-says (suc n) f =
        let (e, a, _, _) = asked-parts 13 m n f.0 f.1 in
        naming (rw e) (tagged m) (tag-shown t ws sp m f.0) (rw e) (rw (e, a)) (count (call m) (suc n) f) (omega arith) (omega (arith, f.1))

    send-says : (n : ℕ) → OpFits (send m) n → Says t (op_node (send m) n) (op_word (send m)) [] (print_name ws m ∷ []) n
    unfolding op_word TextOfWords·all bytes
    send-says zero f = absurd f
    send-says (suc n) f =
        let (e, a, _, _) = asked-parts 14 m n f.0 f.1 in
        naming (rw e) (tagged m) (tag-shown t ws sp m f.0) (rw e) (rw (e, a)) (count (send m) (suc n) f) (omega arith) (omega (arith, f.1))

  -- one clause a shape
  row-says : {o : Op Name} → Row o → (n : ℕ) → OpFits o n → Says t (op_node o n) (op_word o) [] (labelled (print_word ws) (print_name ws) (shape o)) n
  unfolding after_in
  row-says (is_bare o k e r w) n f =
      let b = written o in
      let i = op_kind b in
      transp (λ s. Says t (op_node b n) (op_word b) [] (labelled (print_word ws) (print_name ws) s) n) (sym e.1)
      (plainly (is_form b n f) (opened b n f w) (unnamed b n f (bare-row i o k e r).1 (bare-unasked i o k e r)) (count b n f) (omega (arith, bare-count o k n e f, e.3)))
  row-says (is_field c k m e x r w) n f =
      let b = written (c x) in
      let (g, z) = field-count c k m e x n f in
      let i : op_kind b ≡ k = (e.0 x).2 in
      let p = field-payload c k m e x n in
      transp (λ s. Says t (op_node b n) (op_word b) [] (labelled (print_word ws) (print_name ws) s) n) (sym (e.0 x).1)
      (naming (is_form b n f) x (name-shown t ws sp x g) (opened b n f (rw i w)) (rw (kind b n f, i, (field_row c k m e r).1) (omega arith)) (count b n f) (omega (arith, e.1)) (omega (arith, e.2)))
  row-says (is_call m) n f = call-says m n f
  row-says (is_send m) n f = send-says m n f

  pub op-says : (o : Op Name) (n : ℕ) → OpFits o n → Says t (op_node o n) (op_word o) [] (op_names ws o) n
  unfolding op_names
  op-says o n f = row-says (row o) n f

  kept-names : (o : Op ℕ) → SrcRow o → src_names ws (kept o) ≡ op_names ws (written o)
  unfolding src_names op_names print_name
  kept-names _ (SrcRow.is_bare o n e r) = rw (e.0, e.1)
  kept-names _ (SrcRow.is_field c k n e f r) = rw ((e.0 f).0, (e.0 f).1)
  kept-names _ (SrcRow.is_call m) = refl
  kept-names _ (SrcRow.is_send m) = refl

  pub src-says : (o : SrcOp) (n : ℕ) → writable (length ws) o n ≡ true → Says t (node (src_kind o) (src_payload o n)) (src_word o) [] (src_names ws o) n
  unfolding src_word src_names print_name TextOfWords·all bytes
  src-says (kept o) n h = transp (λ ns. Says t (op_node (written o) n) (op_word (written o)) [] ns n) (sym (kept-names o (src-row o))) (op-says (written o) n (fits (written o) n h))
  src-says (ask m) zero h = absurd (false≢true h)
  src-says (ask m) (suc n) h =
      let f = fits (send (plain m)) (suc n) h in
      let (e, a, c, _) = asked-parts 64 (plain m) n f.0 f.1 in
      naming (rw e) (tagged (plain m)) (tag-shown t ws sp (plain m) f.0) (rw e) (rw (e, a)) (rw (e, c) (omega arith)) (omega arith) (omega (arith, f.1))
  src-says resolve n h = plainly refl refl refl (sym (eqb-true n 2 h)) (omega (arith, eqb-true n 2 h))
  src-says seq n h = plainly refl refl refl (sym (eqb-true n 2 h)) (omega (arith, eqb-true n 2 h))
