-- The words of a table show its text: its dictionary spells the words, and its lines lie in one another no deeper than the text has
-- brackets. Assumes nothing.
use Rattle.std.specs.Prelude.{◌≡◌, List, ◌∷◌, ◌++◌, drop}
use Rattle.std.proofs.Math.Path.{ap, ap₂}
use Rattle.std.proofs.Common.{◌∙◌}
use Prim.Native.Nat.{ℕ, suc, ◌+◌, ◌-◌, ◌*◌}
use native.Mathlib.Omega.{arith}
use Rattle.std.proofs.Math.ListN.{length, get_or}
use Rattle.std.proofs.Math.Seq.{drop-drop}
use Rattle.atlite.specs.Table.{Table, IsTable, text_of}
use Rattle.reading.specs.Exact.{table-words}
use Rattle.layout.specs.Numbers.{lines_at, lines_size}
use Rattle.layout.specs.Pack.{pad, zeros, flat}
use Rattle.layout_laws.specs.PackLaws.{pad-front, drop-pad, length-flat}
use Rattle.layout.specs.Layout.{encode_word}
use Rattle.layout.specs.Tables.{encode_line, encode_table}
use Rattle.layout_laws.specs.StateReads.{words-three}
use Rattle.layout_laws.specs.TableFitting.{table_fits}
use Rattle.showing.specs.Spelling.{Spells, entry_at}
use Rattle.printer.specs.TextOfLines.{lines_in}
use Rattle.printer.specs.TextDepth.{depth-script}
use Rattle.printer.specs.ExpressionText.{show-lines}

-- ---- a table's words, of which t has all behind the first
head : Table → List ℕ
head T = length T.words ∷ length T.lines ∷ length (flat encode_line T.lines) ∷ flat encode_word T.words

module _ (t : List ℕ) (T : Table) (i : IsTable T) (e : t ≡ drop 1 (encode_table T)) where
  front : t ≡ drop 1 (head T ++ (zeros (lines_at - length (head T)) ++ pad lines_size (flat encode_line T.lines)))
  unfolding encode_table head
  front = e ∙ ap (drop 1) (pad-front lines_at (head T) (pad lines_size (flat encode_line T.lines)))

  head-length : length (head T) ≡ 3 + 3 * length T.words
  unfolding head
  head-length = let n = length-flat encode_word 3 T.words (words-three T.words) in omega arith

  pub table-count : get_or t 0 0 ≡ length T.lines
  unfolding head
  table-count = ap (λ l. get_or l 0 0) front

  spells : Spells t T.words
  unfolding head
  spells = let f = table_fits T i in record {
    few = f.word_count;
    fit = f.words_fit;
    entries = λ k j l b.
        let z : 2 + (3 * k + j) ≡ suc (suc (3 * k + j)) = omega arith in
        ap₂ (λ l n. get_or l n 0) front z ∙ entry_at T.words (lines_at - length (head T)) _ k j (omega (arith, f.word_count, head-length)) b;
  }

  lines-front : drop 255 t ≡ flat encode_line T.lines ++ zeros (lines_size - length (flat encode_line T.lines))
  unfolding encode_table pad head
  lines-front =
      ap (drop 255) e ∙ drop-drop 255 1 (encode_table T)
      ∙ drop-pad lines_at (head T) (pad lines_size (flat encode_line T.lines)) (omega (arith, head-length, (table_fits T i).word_count))

pub table-text : (t : List ℕ) (T : Table) → IsTable T → t ≡ drop 1 (encode_table T) → lines_in t (get_or t 0 0) (drop 255 t) ≡ text_of T
unfolding text_of
table-text t T i e =
    let d = depth-script T.words (table-words T i) T.lines i.grammar in
    rw (table-count t T i e, lines-front t T i e) (show-lines t T.words (spells t T i e) T.lines _ i.grammar (omega (arith, i.brackets)))
