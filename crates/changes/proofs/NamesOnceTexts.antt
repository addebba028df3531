-- Request P3, one name with several counts: what the reader before the request gave for a text is what the present one gives, refusals too, unless it
-- refused the text with 4; and a table that it gave has no method's name twice, so the script runs as it did. Assumes nothing.
--
-- A reader is stated by any test for cause 4, and that test by any test for the signatures of a list of methods (`specs/NamesOnceTexts`): by the present
-- one both are the present ones.
use Rattle.std.specs.Prelude.{ℕ, ◌≡◌, refl, Bool, true, ◌&&◌, not, List, [], ◌++◌, ◌⊎◌, eqb}
use Rattle.std.proofs.Common.{sym, ap, ap₂, ◌∙◌, ⊎_elim}
use Rattle.std.proofs.Math.Path.{fun_ext}
use Rattle.atlite.specs.Base.{done, refused, require, distinct, distinct_by}
use Rattle.atlite_laws.specs.Facts.{and₂, and₃, and₄, both₂, both₃, both₄, refused-done, Every, holds, every-done, given, every_bind, checked}
use Rattle.atlite.specs.Term.{Signature, same_signature}
use Rattle.atlite.specs.State.{State}
use Rattle.atlite.specs.Keywords.{Operator, operators}
use Rattle.atlite.specs.Lexicon.{Bytes}
use Rattle.atlite.specs.Script.{Src, num, null, var, op, let_in, future, fn, when, literal, Srcs, nil, cons, SrcFields, no_field, field, SrcMethods, no_method, method, join}
use Rattle.atlite.specs.Scope.{bound, field_names, signatures, single, single_all, single_fields, single_methods}
use Rattle.atlite.specs.Reader.{read_script}
use Rattle.atlite.specs.Table.{Table, read, IsTable}
use Rattle.atlite.specs.Load.{load}
use Rattle.atlite.specs.Run.{run}
use Rattle.reading.specs.Exact.{read_table}
use Rattle.layout.specs.Tables.{encode_table}
use Rattle.promises.specs.Meaning.{table_in}
use Rattle.layout_laws.specs.MeaningLaws.{table-lent}
use Rattle.changes.specs.MoveBy.{run_by}
use Rattle.changes.specs.ThroughoutLoads.{AnyWritten, ThroughoutSrc, ThroughoutSrcs, ThroughoutFields, ThroughoutWritten}
use Rattle.changes.specs.NamesOnce.{names, Once, once-distinct, OnceTable, rule_before}
use Rattle.changes.specs.NamesOnceTexts.{single_by, single_all_by, single_fields_by, single_methods_by, read_by, read_before, was-step, was-sure, was-four}
use Rattle.changes.proofs.ThroughoutLoads.{lines-throughout}
use Rattle.changes.proofs.NamesOnce.{script-as-before}

-- ---- cause 4 by a test for the signatures of a list of methods
-- by the test for signatures it is the present one
mutual
  unfolding single single_by

  pub single-now : (e : Src) → single_by (distinct_by same_signature) e ≡ single e
  single-now (num n) = refl
  single-now null = refl
  single-now (var x) = refl
  single-now (op o es) = all-now es
  single-now (let_in x e d) = ap₂ ◌&&◌ (single-now e) (single-now d)
  single-now (future x y e) = ap (λ b. not (eqb x y) && b) (single-now e)
  single-now (fn x e) = single-now e
  single-now (when e x d) = ap₂ ◌&&◌ (single-now e) (single-now d)
  single-now (literal k fs ms) = ap₂ (λ b c. distinct (field_names fs) && distinct_by same_signature (signatures ms) && b && c) (fields-now fs) (methods-now ms)

  all-now : (es : Srcs) → single_all_by (distinct_by same_signature) es ≡ single_all es
  all-now nil = refl
  all-now (cons e es) = ap₂ ◌&&◌ (single-now e) (all-now es)

  fields-now : (fs : SrcFields) → single_fields_by (distinct_by same_signature) fs ≡ single_fields fs
  fields-now no_field = refl
  fields-now (field f e fs) = ap₂ ◌&&◌ (single-now e) (fields-now fs)

  methods-now : (ms : SrcMethods) → single_methods_by (distinct_by same_signature) ms ≡ single_methods ms
  methods-now no_method = refl
  methods-now (method m xs e ms) = ap₂ (λ b c. distinct xs && b && c) (single-now e) (methods-now ms)

-- two tests, each with what it says
with₂ : {b c : Bool} {X Y : Type 0} → (b ≡ true) × X → (c ≡ true) × Y → ((b && c) ≡ true) × (X × Y)
with₂ r q = (both₂ r.0 q.0, (r.1, q.1))

-- A script that passes by D passes by C, if D allows no more than C; and each of its lists of methods passes D.
module _ (D C : List Signature → Bool) (w : (l : List Signature) → D l ≡ true → C l ≡ true) where
  mutual
    unfolding single_by

    pub single-wider : (e : Src) → single_by D e ≡ true → (single_by C e ≡ true) × ThroughoutSrc AnyWritten (λ l. D l ≡ true) e
    single-wider (num n) h = (refl, tt)
    single-wider null h = (refl, tt)
    single-wider (var x) h = (refl, tt)
    single-wider (op o es) h = let r = all-wider es h in (r.0, (tt, r.1))
    single-wider (let_in x e d) h = let i = and₂ (single_by D e) (single_by D d) h in with₂ (single-wider e i.0) (single-wider d i.1)
    single-wider (future x y e) h = let i = and₂ (not (eqb x y)) (single_by D e) h in let r = single-wider e i.1 in (both₂ i.0 r.0, r.1)
    single-wider (fn x e) h = single-wider e h
    single-wider (when e x d) h = let i = and₂ (single_by D e) (single_by D d) h in with₂ (single-wider e i.0) (single-wider d i.1)
    single-wider (literal k fs ms) h =
        let i = and₄ (distinct (field_names fs)) (D (signatures ms)) (single_fields_by D fs) (single_methods_by D ms) h in
        let r = fields-wider fs i.2 in
        let q = methods-wider ms i.3 in
        (both₄ i.0 (w (signatures ms) i.1) r.0 q.0, (r.1, (i.1, q.1)))

    all-wider : (es : Srcs) → single_all_by D es ≡ true → (single_all_by C es ≡ true) × ThroughoutSrcs AnyWritten (λ l. D l ≡ true) es
    all-wider nil h = (refl, tt)
    all-wider (cons e es) h = let i = and₂ (single_by D e) (single_all_by D es) h in with₂ (single-wider e i.0) (all-wider es i.1)

    fields-wider : (fs : SrcFields) → single_fields_by D fs ≡ true → (single_fields_by C fs ≡ true) × ThroughoutFields AnyWritten (λ l. D l ≡ true) fs
    fields-wider no_field h = (refl, tt)
    fields-wider (field f e fs) h = let i = and₂ (single_by D e) (single_fields_by D fs) h in with₂ (single-wider e i.0) (fields-wider fs i.1)

    methods-wider : (ms : SrcMethods) → single_methods_by D ms ≡ true → (single_methods_by C ms ≡ true) × ThroughoutWritten AnyWritten (λ l. D l ≡ true) ms
    methods-wider no_method h = (refl, tt)
    methods-wider (method m xs e ms) h =
        let i = and₃ (distinct xs) (single_by D e) (single_methods_by D ms) h in
        let r = single-wider e i.1 in
        let q = methods-wider ms i.2 in
        (both₃ i.0 r.0 q.0, (r.1, q.1))

-- ---- a reader by any test for cause 4
pub read-now : (os : List Operator) (t : Bytes) → read_by (single_by (distinct_by same_signature)) os t ≡ read os t
unfolding read_by read
read-now os t = ap (λ S. read_by S os t) (fun_ext single-now)

-- ---- the reader before the request: no two methods of a list had one name
single-before : (e : Src) → single_by (λ l. distinct (names l)) e ≡ true → (single e ≡ true) × ThroughoutSrc AnyWritten Once e
single-before e h = let r = single-wider (λ l. distinct (names l)) (distinct_by same_signature) once-distinct e h in (sym (single-now e) ∙ r.0, r.1)

-- For every text the present reader gives what the former one gave, refusals too, unless that was a refusal with 4.
pub read-was : (t : Bytes) → (read_before t ≡ read operators t) ⊎ (read_before t ≡ refused 4)
unfolding read_by read
read-was t = was-sure (require 1 _) (was-step (read_script operators t) λ ls. was-step (join ls) λ e. was-sure (require 3 (bound [] e))
    (was-four (single_by (λ l. distinct (names l)) e) (single e) _ (λ h. (single-before e h).0)))

-- A table that it gave has no method's name twice.
once-read : (t : Bytes) → Every OnceTable (read_before t)
unfolding read_by
once-read t = checked 1 _ λ _. given (read_script operators t) λ ls _. every_bind (lines-throughout AnyWritten Once ls) λ e k. checked 3 _ λ _.
    checked 4 (single_by (λ l. distinct (names l)) e) λ h. checked 5 _ λ _. holds (k (single-before e h).1)

-- So what the former reader takes, the reader takes, to the same table, which has no method's name twice,
pub read-as-before : (t : Bytes) (T : Table) → read_before t ≡ done T → (read operators t ≡ done T) × OnceTable T
read-as-before t T e = (⊎_elim (λ q. sym q ∙ e) (λ q. absurd (refused-done (sym q ∙ e))) (read-was t), every-done (once-read t) e)

-- what was a table is one still, and its words are lent as they were,
pub table-still : (t : Bytes) (T : Table) → read_before t ≡ done T → IsTable T
table-still t T e = read_table t T (read-as-before t T e).0

pub table-lent-still : (t : Bytes) (T : Table) (r : List ℕ) → read_before t ≡ done T → table_in (encode_table T ++ r) ≡ done T
table-lent-still t T r e = table-lent T r (table-still t T e)

-- and the script runs as it did.
pub text-as-before : (t : Bytes) (T : Table) (σ : State) (es : List ℕ) → read_before t ≡ done T → load T ≡ done σ → run_by rule_before σ es ≡ run σ es
text-as-before t T σ es e l = script-as-before T σ es (read-as-before t T e).1 l
