-- The kinds of operators, as the passes over a script's words meet them: they bind no name, list none, and are no literal; and how many
-- operands an operator's word says that it has, and how it stands in a table. Assumes nothing.
use Rattle.std.specs.Prelude.{ℕ, zero, suc, ◌+◌, ◌/◌, ◌%◌, ◌≤◌, ◌<◌, ◌≡◌, true, ◌≢◌, eqb}
use Rattle.std.proofs.Common.{sym, ◌∙◌, subst as transp, arith, eqb-true, ne_eqb}
use Rattle.std.proofs.lemmas.Bool.{false≢true}
use Rattle.atlite_laws.specs.Facts.{and₂}
use Rattle.atlite.specs.Term.{Op, written}
use Rattle.atlite.specs.Script.{SrcOp, kept, ask, resolve, seq}
use Rattle.atlite.specs.Table.{writable}
use Rattle.atlite.specs.Valid.{is_name, shapely}
use Rattle.reading.specs.Items.{call-few, send-few}
use Rattle.layout.specs.Numbers.{field_kind}
use Rattle.layout.specs.Terms.{op_kind}
use Rattle.layout.specs.Tables.{src_kind}
use Rattle.layout_laws.specs.KindRows.{Operating, SrcRow, is_bare, is_field, is_call, is_send, src-row, op-kind}
use Rattle.decoding.specs.Kinds.{row_in}
use Rattle.layout_laws.specs.KindLaws.{Unasked, bare-row, bare-unasked, field_row, field-unasked}
use Rattle.words.specs.Wide.{pair, wide_payload, wide_limit}
use Rattle.checks.specs.Names.{named}
use Rattle.checks.specs.Trees.{outer_by}

pub record Passed (k : ℕ) : Type 0 where
  pub above : 6 < k
  pub below : k < field_kind
  pub no_let : k ≢ 11
  pub no_future : k ≢ 12
  pub no_object : k ≢ 15
  pub no_isolate : k ≢ 16
  pub no_actor : k ≢ 17
  pub no_fn : k ≢ 65
  pub no_when : k ≢ 67

passed : (k : ℕ) → Operating k → Passed k
passed k h = record {
  above = omega (arith, h.0);
  below = omega (arith, h.1);
  no_let = h.2;
  no_future = h.3;
  no_object = h.4;
  no_isolate = h.5;
  no_actor = h.6;
  no_fn = λ e. omega (arith, h.1, e);
  no_when = λ e. omega (arith, h.1, e);
}

pub op-passed : (o : SrcOp) → Passed (src_kind o)
op-passed (kept o) = passed (op_kind (written o)) (op-kind (written o))
op-passed (ask m) = omega arith
op-passed resolve = omega arith
op-passed seq = omega arith

sent : (w m n : ℕ) → w ≤ 4000 → (is_name w m ≡ true) × (0 < suc n) × (suc n ≤ 4) → suc n ≡ 1 + pair m n / wide_limit % 4
sent w m n l h =
    let b = (named w m h.0).below in
    let f = h.2 in
    let a : pair m n / wide_limit ≡ n = omega arith in
    rw a (omega arith)

-- of a kind in the table
outer-operands : (k p : ℕ) → Operating k → Unasked k → (row_in k).operands ≡ outer_by k p
outer-operands k p h u =
    rw (
      ne_eqb k 11 h.2,
      ne_eqb k 12 h.3,
      ne_eqb k 13 (λ e. u (omega (arith, e)) (omega (arith, e))),
      ne_eqb k 14 (λ e. u (omega (arith, e)) (omega (arith, e))),
      ne_eqb k 15 h.4,
      ne_eqb k 16 h.5,
      ne_eqb k 17 h.6,
      ne_eqb k 64 (λ e. omega (arith, h.1, e)),
      ne_eqb k 66 (λ e. omega (arith, h.1, e)),
      ne_eqb k 67 (λ e. omega (arith, h.1, e)),
      ne_eqb k 68 (λ e. omega (arith, h.1, e)),
      ne_eqb k field_kind (λ e. omega (arith, h.1, e)),
    )

kept-outer : (w : ℕ) → w ≤ 4000 → (o : Op ℕ) → SrcRow o → (n : ℕ) → writable w (kept o) n ≡ true → n ≡ outer_by (src_kind (kept o)) (wide_payload (kept o) n)
unfolding wide_payload
kept-outer w l _ (is_bare o m e f) n h =
    eqb-true n m (transp (λ s. shapely w s n ≡ true) e.1 h) ∙ sym (bare-row _ o m e f).0 ∙ outer-operands _ _ (op-kind (written o)) (bare-unasked _ o m e f)
kept-outer w l _ (is_field c k m e x f) n h =
    let z = (e.0 x).2 in
    let g = transp (λ s. shapely w s n ≡ true) (e.0 x).1 h in
    eqb-true n m (and₂ (is_name w x) (eqb n m) g).1 ∙ sym (field_row c k m e f).0 ∙ rw z (outer-operands k _ (rw z at (op-kind (written (c x)))) (field-unasked c k m e f))
kept-outer w l _ (is_call m) zero h = absurd (false≢true h)
kept-outer w l _ (is_call m) (suc n) h = sent w m n l (call-few w m (suc n) h)
kept-outer w l _ (is_send m) zero h = absurd (false≢true h)
kept-outer w l _ (is_send m) (suc n) h = sent w m n l (send-few w m (suc n) h)

pub op-outer : (w : ℕ) → w ≤ 4000 → (o : SrcOp) (n : ℕ) → writable w o n ≡ true → n ≡ outer_by (src_kind o) (wide_payload o n)
unfolding wide_payload
op-outer w l (kept o) n h = kept-outer w l o (src-row o) n h
op-outer w l (ask m) zero h = absurd (false≢true h)
op-outer w l (ask m) (suc n) h = sent w m n l (send-few w m (suc n) h)
op-outer w l resolve n h = eqb-true n 2 h
op-outer w l seq n h = eqb-true n 2 h
