-- The dictionary in a table's words, which is tested before a text is made: the test's two ways to return, and that a table passes.
-- Assumes nothing.
use Rattle.std.specs.Prelude.{◌≡◌, Bool, true, false, ◌&&◌, List, ℕ, ◌≤◌, ◌<◌, leb, length, get_or}
use Rattle.std.proofs.Common.{ap, ◌∙◌, rules, le-leb}
use Rattle.std.proofs.lemmas.Bool.{lt-leb}
use Rattle.atlite.specs.Table.{Table, IsTable}
use Rattle.reading.specs.Exact.{table-words, table-count}
use Rattle.layout.specs.Pack.{pad}
use Rattle.layout.specs.Tables.{encode_table}
use Rattle.decoding.specs.TableReading.{decode_table}
use Rattle.layout_laws.specs.TableLaws.{decode-encode-table}
use Rattle.dictionary.specs.Entries.{entries_at, entries_hold}

-- Behind the three counts stands a dictionary that a script can have: at most 64 words, none reserved and none twice.
unfoldable pub names_hold : List ℕ → Bool
names_hold w = leb (get_or w 0 0) 64 && entries_hold w 3 (get_or w 0 0)

module _ (w : List ℕ) where
  pub names-many : 64 < get_or w 0 0 → false ≡ names_hold w
  unfolding names_hold
  names-many h = rw (lt-leb (get_or w 0 0) 64 h)

  pub names-told : get_or w 0 0 ≤ 64 → (r : Bool) → r ≡ entries_hold w 3 (get_or w 0 0) → r ≡ names_hold w
  unfolding names_hold
  names-told h r e = rw (le-leb (get_or w 0 0) 64 h) e

pub table-names : (w : List ℕ) (T : Table) → IsTable T → w ≡ encode_table T → names_hold w ≡ true
unfolding names_hold entries_hold entries_at decode_table encode_table pad
table-names w T i e =
    let n : get_or w 0 0 ≡ length T.words = ap (λ l. get_or l 0 0) e in
    let d = ap (λ l. (decode_table l).words) e ∙ ap (λ U. U.words) (decode-encode-table T i) in
    rw (d, n, le-leb (length T.words) 64 (table-count T i)) (table-words T i)

pub ruleset laws = (rules, names-many, names-told)
