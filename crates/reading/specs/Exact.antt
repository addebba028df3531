-- The reader is exact: it gives a table for a text just where the table is one and prints as that text. So a table's text is
-- read back as the table, and reading what words and lines print tells whether they are a table. Assumes nothing.
use Rattle.std.specs.Prelude.{◌≡◌, true, ◌&&◌, ◌↔◌, List, [], ◌+◌, ◌≤◌, ◌<◌, length, leb, ltb}
use Rattle.std.proofs.Common.{sym, ap, ◌∙◌, subst as transp, arith, leb-true, ltb-true, le-leb, lt-ltb}
use Rattle.atlite.specs.Base.{done, require}
use Rattle.atlite.specs.Lexicon.{Bytes, words_of, dictionary}
use Rattle.atlite.specs.Script.{Src, Line, size, join}
use Rattle.atlite.specs.Scope.{bound, single}
use Rattle.atlite.specs.Printer.{print_script}
use Rattle.atlite.specs.Keywords.{operators}
use Rattle.atlite.specs.Reader.{depth, read_lines, read_script}
use Rattle.atlite.specs.Valid.{words_hold}
use Rattle.atlite.specs.Table.{Table, read, text_of, GrammaticalLines, IsTable}
use Rattle.atlite_laws.specs.Facts.{and₂, Every, holds, every-done, every_bind, given, checked}
use Rattle.reading.specs.Dictionary.{dictionary-holds, dictionary-length}
use Rattle.reading.specs.Sound.{lines-sound}
use Rattle.reading.specs.Complete.{lines-take}

-- cause 2 by itself: the lines that are read are the grammatical ones that print as the text under its dictionary
pub script-exact : (t : Bytes) (ls : List Line)
    → (read_script operators t ≡ done ls) ↔ (GrammaticalLines (length (dictionary t)) ls × (print_script (dictionary t) ls ≡ t))
unfolding read_script
script-exact t ls = (
  λ h. every-done (lines-sound (dictionary t) (length t + 1) t) h,
  λ h.
      let l : length (print_script (dictionary t) ls) ≡ length t = ap length h.1 in
      ap (read_lines operators (length t + 1) (dictionary t)) (sym h.1)
      ∙ lines-take (dictionary t) (dictionary-holds t) ls (length t + 1) h.0 (omega arith),
)

limits : (t : Bytes) (e : Src) → (leb (depth t) 32 && leb (length (words_of t)) 64 && leb (size e) 512) ≡ true
    → (depth t ≤ 32) × (length (words_of t) ≤ 64) × (size e ≤ 512)
limits t e h =
    let p = and₂ (leb (depth t) 32 && leb (length (words_of t)) 64) (leb (size e) 512) h in
    let q = and₂ (leb (depth t) 32) (leb (length (words_of t)) 64) p.0 in
    (leb-true (depth t) 32 q.0, leb-true (length (words_of t)) 64 q.1, leb-true (size e) 512 p.1)

-- From the reader to the table: each test that was passed is a condition of `IsTable`, carried over to the text printed.
read-sound : (t : Bytes) → Every (λ T. IsTable T × (text_of T ≡ t)) (read operators t)
unfolding read read_script text_of
read-sound t =
    checked 1 (ltb 0 (length t) && leb (length t) 4096) (λ h₁. every_bind (lines-sound (dictionary t) (length t + 1) t) (λ ls p.
    given (join ls) (λ e h₂. checked 3 (bound [] e) (λ h₃. checked 4 (single e) (λ h₄.
    checked 5 (leb (depth t) 32 && leb (length (words_of t)) 64 && leb (size e) 512) (λ h₅.
    let a = and₂ (ltb 0 (length t)) (leb (length t) 4096) h₁ in
    let b = limits t e h₅ in
    let q = sym p.1 in
    holds {a = record { words = dictionary t; lines = ls }} (
      record {
        text =
            (transp (λ i. 0 < length i) q (ltb-true 0 (length t) a.0), transp (λ i. length i ≤ 4096) q (leb-true (length t) 4096 a.1));
        grammar = p.0;
        words = ap dictionary q;
        script = e;
        joined = h₂;
        binding = h₃;
        lists = h₄;
        brackets = transp (λ i. depth i ≤ 32) q b.0;
        known = transp (λ i. length (words_of i) ≤ 64) q b.1;
        nodes = b.2;
      },
      p.1,
    )))))))

-- from the table to the reader: all tests pass
read_of : (t : Bytes) (ls : List Line) (e : Src) → 0 < length t → length t ≤ 4096 → read_script operators t ≡ done ls → join ls ≡ done e
    → bound [] e ≡ true → single e ≡ true
    → depth t ≤ 32 → length (words_of t) ≤ 64 → size e ≤ 512 → read operators t ≡ done (record { words = dictionary t; lines = ls })
unfolding read require
read_of t ls e a b r j x y c d f =
    rw (
      lt-ltb 0 (length t) a,
      le-leb (length t) 4096 b,
      r,
      j,
      x,
      y,
      le-leb (depth t) 32 c,
      le-leb (length (words_of t)) 64 d,
      le-leb (size e) 512 f,
    )

pub table-words : (T : Table) → IsTable T → words_hold T.words ≡ true
table-words T h = transp (λ ws. words_hold ws ≡ true) (sym h.words) (dictionary-holds (text_of T))

pub table-count : (T : Table) → IsTable T → length T.words ≤ 64
table-count T h =
    let l = dictionary-length (text_of T) in
    let k = h.known in
    transp (λ ws. length ws ≤ 64) (sym h.words) (omega arith)

pub table-read : (T : Table) → IsTable T → read operators (text_of T) ≡ done T
unfolding text_of
table-read T h =
    let t = text_of T in
    let g = transp (λ ws. GrammaticalLines (length ws) T.lines) h.words h.grammar in
    let p = ap (λ ws. print_script ws T.lines) (sym h.words) in
    read_of t T.lines h.script h.text.0 h.text.1 ((script-exact t T.lines).1 (g, p))
    h.joined h.binding h.lists h.brackets h.known h.nodes
    ∙ ap (λ ws. done (record { words = ws; lines = T.lines })) (sym h.words)

-- The law of the reader, and what follows at once.
pub read-exact : (t : Bytes) (T : Table) → (read operators t ≡ done T) ↔ (IsTable T × (text_of T ≡ t))
read-exact t T = (λ h. every-done (read-sound t) h, λ h. transp (λ i. read operators i ≡ done T) h.1 (table-read T h.0))

pub read_table : (t : Bytes) (T : Table) → read operators t ≡ done T → IsTable T
read_table t T h = ((read-exact t T).0 h).0

pub print-read : (t : Bytes) (T : Table) → read operators t ≡ done T → text_of T ≡ t
print-read t T h = ((read-exact t T).0 h).1
