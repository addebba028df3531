-- Every word of a table is below 2^32. By induction on the expressions of its lines. Assumes nothing.
use Rattle.std.specs.Prelude.{ℕ, ◌+◌, ◌*◌, ◌≤◌, List, [], ◌∷◌, length}
use Rattle.std.proofs.Common.{arith}
use Rattle.atlite.specs.Valid.{is_name}
use Rattle.atlite.specs.Table.{count_fields, count_methods, Grammatical, GrammaticalAll, GrammaticalFields, GrammaticalMethods, GrammaticalLines, IsTable, Table}
use Rattle.atlite.specs.Script.{Src, num, null, var, op, let_in, future, fn, when, literal, Srcs, nil, cons, SrcFields, no_field, field, SrcMethods, no_method, method, Line, expression, define, count_srcs}
use Rattle.layout.specs.Numbers.{name_limit, digit_limit, lines_at, lines_size}
use Rattle.layout.specs.Pack.{pad, flat}
use Rattle.layout.specs.Terms.{kind_number}
use Rattle.layout.specs.Layout.{encode_word}
use Rattle.layout.specs.Tables.{src_kind, src_payload, encode_src, encode_srcs, encode_fields, encode_src_methods, encode_line, encode_table}
use Rattle.layout_laws.specs.PackLaws.{each_map, NameFits}
use Rattle.layout_laws.specs.KindRows.{kind-small}
use Rattle.layout_laws.specs.Fitting.{each_all, name-fits}
use Rattle.layout_laws.specs.StateReads.{WordFits}
use Rattle.layout_laws.specs.Bits.{Small, both, pad-small, flat-small, node-small, name-small, method-small, header-small, word_small}
use Rattle.layout_laws.specs.TableReads.{variable-named, two-small, src-kind-small, src-payload-small}
use Rattle.layout_laws.specs.TableFitting.{table_fits}

mutual
  unfolding encode_src Grammatical

  src-small : (e : Src) (w : ℕ) → w ≤ 64 → Grammatical w e → Small (encode_src e)
  src-small null w l h = (omega arith, tt)
  src-small (num n) w l h = (omega (arith, h), tt)
  src-small (var x) w l h = (name-small 6 x (omega arith) (variable-named w l x h), tt)
  src-small (op o es) w l h =
      let n = count_srcs es in
      (node-small (src_kind o) (src_payload o n) (omega (arith, src-kind-small o)) (src-payload-small w l o n h.0), srcs-small es w l h.1)
  src-small (let_in x a b) w l h = (name-small 11 x (omega arith) (name-fits w l x h.0), both (encode_src a) (encode_src b) (src-small a w l h.1) (src-small b w l h.2))
  src-small (future x y e) w l h = (node-small 12 (x + name_limit * y) (omega arith) (two-small w l x y h.0 h.1), src-small e w l h.2)
  src-small (literal k fs ms) w l h = (
    node-small (kind_number k) (count_fields fs + digit_limit * count_methods ms) (omega (arith, kind-small k)) (omega (arith, h.0, h.2)),
    both (encode_fields fs) (encode_src_methods ms) (fields-small fs w l h.1) (methods-small ms w l h.3),
  )
  src-small (fn x e) w l h = (name-small 65 x (omega arith) (name-fits w l x h.0), src-small e w l h.1)
  src-small (when a x b) w l h = (name-small 67 x (omega arith) (name-fits w l x h.1), both (encode_src a) (encode_src b) (src-small a w l h.0) (src-small b w l h.2))

  srcs-small : (es : Srcs) (w : ℕ) → w ≤ 64 → GrammaticalAll w es → Small (encode_srcs es)
  srcs-small nil w l h = tt
  srcs-small (cons e es) w l h = both (encode_src e) (encode_srcs es) (src-small e w l h.0) (srcs-small es w l h.1)

  fields-small : (fs : SrcFields) (w : ℕ) → w ≤ 64 → GrammaticalFields w fs → Small (encode_fields fs)
  fields-small no_field w l h = tt
  fields-small (field f e fs) w l h = (header-small f (name-fits w l f h.0), both (encode_src e) (encode_fields fs) (src-small e w l h.1) (fields-small fs w l h.2))

  methods-small : (ms : SrcMethods) (w : ℕ) → w ≤ 64 → GrammaticalMethods w ms → Small (encode_src_methods ms)
  methods-small no_method w l h = tt
  methods-small (method m xs e ms) w l h = (
    method-small m xs (name-fits w l m h.0) (each_all NameFits (is_name w) (name-fits w l) xs h.2) h.1,
    both (encode_src e) (encode_src_methods ms) (src-small e w l h.3) (methods-small ms w l h.4),
  )

lines-small : (w : ℕ) → w ≤ 64 → (ls : List Line) → GrammaticalLines w ls → Small (flat encode_line ls)
unfolding flat encode_line GrammaticalLines
lines-small w l [] h = tt
lines-small w l (expression e ∷ ls) h = both (encode_src e) (flat encode_line ls) (src-small e w l h.0) (lines-small w l ls h.1)
lines-small w l (define x e ∷ ls) h =
    (name-small 130 x (omega arith) (name-fits w l x h.0), both (encode_src e) (flat encode_line ls) (src-small e w l h.1) (lines-small w l ls h.2))

pub table-words-small : (T : Table) → IsTable T → Small (encode_table T)
unfolding encode_table
table-words-small T h =
    let f = table_fits T h in
    let a = f.word_count in
    let b = f.line_count in
    let c = f.line_words in
    both (pad lines_at _) _ (pad-small lines_at _ (omega arith, (omega arith, (omega arith, flat-small encode_word T.words (each_map WordFits (λ w. Small (encode_word w)) word_small T.words f.words_fit)))))
    (pad-small lines_size _ (lines-small (length T.words) a T.lines f.lines_fit))
