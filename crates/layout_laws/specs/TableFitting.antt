-- What is a table fits the layout of tables. Assumes nothing.
-- A line of n nodes has at most 2 n words, its header counted, and the nodes of the joined script are those of the lines and
-- one for each line but the last: 512 nodes make at most 1,024 words.
use Rattle.std.specs.Prelude.{◌+◌, ◌*◌, ◌≤◌, ◌≡◌, List, [], ◌∷◌, length}
use Rattle.std.proofs.Common.{ap, arith, length-append}
use Rattle.atlite.specs.Base.{done}
use Rattle.atlite.specs.Table.{GrammaticalLines, IsTable, Table}
use Rattle.atlite.specs.Script.{seq, Src, num, null, var, op, let_in, future, fn, when, literal, Srcs, nil, cons, SrcFields, no_field, field, SrcMethods, no_method, method, Line, expression, define, size, size_all, size_fields, size_methods, join}
use Rattle.atlite_laws.specs.Facts.{refused-done}
use Rattle.reading.specs.Exact.{table-count, table-words}
use Rattle.layout.specs.Numbers.{expr_size, lines_size}
use Rattle.layout.specs.Pack.{flat}
use Rattle.layout.specs.Tables.{encode_src, encode_srcs, encode_fields, encode_src_methods, encode_line}
use Rattle.layout_laws.specs.PackLaws.{Each}
use Rattle.layout_laws.specs.Results.{done-same, bind_done}
use Rattle.layout_laws.specs.StateReads.{WordFits}
use Rattle.layout_laws.specs.StateFits.{words-fit}

-- ---- lengths
mutual
  unfolding size encode_src

  pub src-length : (e : Src) → length (encode_src e) + 1 ≤ 2 * size e
  src-length null = omega arith
  src-length (num n) = omega arith
  src-length (var x) = omega arith
  src-length (op o es) = omega (arith, srcs-length es)
  src-length (let_in x a b) = rw (length-append (encode_src a) (encode_src b)) (omega (arith, src-length a, src-length b))
  src-length (future x y e) = omega (arith, src-length e)
  src-length (literal k fs ms) = rw (length-append (encode_fields fs) (encode_src_methods ms)) (omega (arith, fields-length fs, methods-length ms))
  src-length (fn x e) = omega (arith, src-length e)
  src-length (when a x b) = rw (length-append (encode_src a) (encode_src b)) (omega (arith, src-length a, src-length b))

  srcs-length : (es : Srcs) → length (encode_srcs es) ≤ 2 * size_all es
  srcs-length nil = omega arith
  srcs-length (cons e es) = rw (length-append (encode_src e) (encode_srcs es)) (omega (arith, src-length e, srcs-length es))

  fields-length : (fs : SrcFields) → length (encode_fields fs) ≤ 2 * size_fields fs
  fields-length no_field = omega arith
  fields-length (field f e fs) = rw (length-append (encode_src e) (encode_fields fs)) (omega (arith, src-length e, fields-length fs))

  methods-length : (ms : SrcMethods) → length (encode_src_methods ms) ≤ 2 * size_methods ms
  methods-length no_method = omega arith
  methods-length (method m xs e ms) = rw (length-append (encode_src e) (encode_src_methods ms)) (omega (arith, src-length e, methods-length ms))

-- the words of the lines, and how many lines there are
pub lines-length : (ls : List Line) (e : Src) → join ls ≡ done e → (length (flat encode_line ls) + 1 ≤ 2 * size e) × (length ls ≤ size e)
unfolding join flat encode_line size
lines-length [] e j = absurd (refused-done j)
lines-length (expression d ∷ []) e j =
    let z : d ≡ e = done-same d e j in
    let q = length-append (encode_src d) [] in
    (omega (arith, src-length d, ap size z), omega (arith, src-length d, ap size z))
lines-length (define x d ∷ []) e j = absurd (refused-done j)
lines-length (expression d ∷ l ∷ ls) e j =
    let q = bind_done (join (l ∷ ls)) (λ b. done (op seq (cons d (cons b nil)))) e j in
    let z : op seq (cons d (cons q.0 nil)) ≡ e = done-same (op seq (cons d (cons q.0 nil))) e q.2 in
    let i = lines-length (l ∷ ls) q.0 q.1 in
    let n = length-append (encode_src d) (flat encode_line (l ∷ ls)) in
    (omega (arith, src-length d, ap size z, i.0), omega (arith, src-length d, ap size z, i.1))
lines-length (define x d ∷ l ∷ ls) e j =
    let q = bind_done (join (l ∷ ls)) (λ b. done (let_in x d b)) e j in
    let z : let_in x d q.0 ≡ e = done-same (let_in x d q.0) e q.2 in
    let i = lines-length (l ∷ ls) q.0 q.1 in
    let n = length-append (encode_src d) (flat encode_line (l ∷ ls)) in
    (omega (arith, src-length d, ap size z, i.0), omega (arith, src-length d, ap size z, i.1))

-- ---- tables
pub record TableFits (T : Table) : Type 0 where
  pub word_count : length T.words ≤ 64
  pub words_fit : Each WordFits T.words
  pub lines_fit : GrammaticalLines (length T.words) T.lines
  pub line_count : length T.lines ≤ expr_size
  pub line_words : length (flat encode_line T.lines) ≤ lines_size

pub table_fits : (T : Table) → IsTable T → TableFits T
table_fits T h =
    let n = lines-length T.lines h.script h.joined in
    record {
      word_count = table-count T h;
      words_fit = words-fit T.words (table-words T h);
      lines_fit = h.grammar;
      line_count = omega (arith, n.1, h.nodes);
      line_words = omega (arith, n.0, h.nodes);
    }
