-- A table has one layout of 1,280 words, and words are the layout of at most one table. Assumes nothing.
-- Which words are a table is asked by reading what they print, so that the laws here rest on the reader being exact (`read-exact`).
use Rattle.std.specs.Prelude.{ℕ, ◌-◌, ◌≤◌, ◌≡◌, refl, Bool, true, false, List, ◌∷◌, ◌++◌, map, ◌↔◌, length, drop, if◌then◌else◌}
use Rattle.std.proofs.Common.{sym, ap₂, ◌∙◌, subst as transp, append-nil}
use Rattle.std.proofs.Math.Path.{ap}
use Rattle.std.proofs.Math.Option.{none, some}
use native.Mathlib.Omega.{arith}
use Rattle.std.proofs.Math.ListN.{get_or, length-append}
use Rattle.atlite.specs.Base.{Result, done, refused, same_bytes}
use Rattle.atlite.specs.Keywords.{operators}
use Rattle.atlite.specs.Table.{text_of, IsTable, Table, read}
use Rattle.atlite.specs.Lexicon.{Bytes}
use Rattle.atlite_laws.specs.Facts.{none-some, same_true, same_refl}
use Rattle.reading.specs.Exact.{read-exact}
use Rattle.layout.specs.Numbers.{lines_at, lines_size, table_words}
use Rattle.layout.specs.Pack.{zeros, pad, flat}
use Rattle.layout.specs.Layout.{encode_word}
use Rattle.layout.specs.Tables.{encode_line, encode_table}
use Rattle.decoding.specs.Reading.{cut}
use Rattle.decoding.specs.Decode.{decode_word}
use Rattle.decoding.specs.TableReading.{src_stack, line_in, decode_table, same_table, table_of}
use Rattle.layout_laws.specs.PackLaws.{length-pad, pad-front, drop-pad, length-flat, cut-flat}
use Rattle.layout_laws.specs.StateReads.{words-cut, words-three}
use Rattle.layout_laws.specs.TableReads.{read-lines, read-zeros}
use Rattle.layout_laws.specs.TableFitting.{TableFits, table_fits}

-- ---- there and back
module _ (T : Table) (f : TableFits T) where
  abbrev line_words_of : List ℕ
  line_words_of = flat encode_line T.lines

  abbrev top_words : List ℕ
  top_words = length T.words ∷ length T.lines ∷ length line_words_of ∷ flat encode_word T.words

  head-words : length top_words ≤ lines_at
  head-words = omega (arith, length-flat encode_word 3 T.words (words-three T.words), f.word_count)

  encode-length : length (encode_table T) ≡ table_words
  unfolding encode_table
  encode-length =
      let a = length-append (pad lines_at top_words) (pad lines_size line_words_of) in
      let b = length-pad lines_at top_words head-words in
      let c = length-pad lines_size line_words_of f.line_words in
      omega arith

  module _ (w : List ℕ) (is : w ≡ encode_table T) where
    count : get_or w 0 0 ≡ length T.words
    unfolding encode_table pad
    count = ap (λ l. get_or l 0 0) is

    words-at : drop 3 w ≡ flat encode_word T.words ++ (zeros (lines_at - length top_words) ++ pad lines_size line_words_of)
    unfolding encode_table
    words-at = ap (drop 3) (is ∙ pad-front lines_at top_words _)

    words_are : cut decode_word 3 (get_or w 0 0) (drop 3 w) ≡ T.words
    words_are = ap₂ (cut decode_word 3) count words-at ∙ cut-flat encode_word decode_word 3 T.words _ (words-cut T.words f.words_fit)

    lines_at_lem : drop lines_at w ≡ line_words_of ++ zeros (lines_size - length line_words_of)
    unfolding encode_table pad
    lines_at_lem = ap (drop lines_at) is ∙ drop-pad lines_at top_words _ head-words

    lines_are : map line_in (src_stack (drop lines_at w)) ≡ T.lines
    lines_are =
        ap (λ l. map line_in (src_stack l)) lines_at_lem
        ∙ read-lines (length T.words) f.word_count T.lines _ f.lines_fit
        ∙ ap (λ s. T.lines ++ map line_in s) (read-zeros _)
        ∙ append-nil T.lines

    table-read : decode_table w ≡ T
    unfolding decode_table
    table-read = λ i. record { words = words_are i; lines = lines_are i }

pub table-length : (T : Table) → IsTable T → length (encode_table T) ≡ table_words
table-length T h = encode-length T (table_fits T h)

pub decode-encode-table : (T : Table) → IsTable T → decode_table (encode_table T) ≡ T
decode-encode-table T h = table-read T (table_fits T h) (encode_table T) refl

pub encode-table-injective : (T U : Table) → IsTable T → IsTable U → encode_table T ≡ encode_table U → T ≡ U
encode-table-injective T U h k e = sym (decode-encode-table T h) ∙ ap decode_table e ∙ decode-encode-table U k

-- ---- which words are a table
pub table-of : (T : Table) → IsTable T → table_of (encode_table T) ≡ some T
unfolding table_of same_table
table-of T h = rw (decode-encode-table T h, (read-exact (text_of T) T).1 (h, refl), same_refl (encode_table T))

pub of-table : (w : List ℕ) (T : Table) → table_of w ≡ some T → IsTable T × (encode_table T ≡ w)
unfolding table_of same_table
of-table w T e = go (read operators t) refl e
  where
    t : Bytes
    t = text_of (decode_table w)

    same : (U : Table) (b : Bool) → read operators t ≡ done U → same_bytes (encode_table U) w ≡ b → (if b then some U else none) ≡ some T → IsTable T × (encode_table T ≡ w)
    same U true p q e =
        let d : U ≡ T = cc in
        transp (λ S. IsTable S × (encode_table S ≡ w)) d (((read-exact t U).0 p).0, same_true (encode_table U) w q)
    same U false p q e = absurd (none-some e)

    go : (r : Result Table) → read operators t ≡ r → same_table w r ≡ some T → IsTable T × (encode_table T ≡ w)
    go (done U) p e = same U (same_bytes (encode_table U) w) p refl e
    go (refused n) p e = absurd (none-some e)

pub table-of-iff : (w : List ℕ) (T : Table) → (table_of w ≡ some T) ↔ (IsTable T × (encode_table T ≡ w))
table-of-iff w T = (of-table w T, λ h. transp (λ l. table_of l ≡ some T) h.1 (table-of T h.0))
