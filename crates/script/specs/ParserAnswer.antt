-- What the parser's answer means for the reader: a script whose lines stand in the scratch words, or cause 2. Assumes nothing.
use Rattle.std.specs.Prelude.{ℕ, ◌≤◌, ◌≡◌, Bool, Some, None, Err, List, length, take}
use Rattle.std.proofs.Common.{arith, rules}
use Rattle.atlite.specs.Lexicon.{dictionary}
use Rattle.atlite.specs.declared.Cause.TheVariants as C
use Rattle.layout.specs.Numbers.{table_words}
use Rattle.scan.specs.WordNumbers.{Holds, Dictionary}
use Rattle.scan.specs.WordNumberLaws.{front-holds}
use Rattle.parse.specs.declared.Parsed.{Parsed}
use Rattle.parse.specs.TextLaws.{Parses}
use Rattle.script.specs.ReadContract.{Reads, no_room, no_text, long-text, no-script}
use Rattle.script.specs.ReaderCauses.{Sized, Grammar, rows-within}

module _ (t old : List ℕ) where
  -- what the parser asks: the words of the dictionary, which are lent to it as slices of the arrays, and that they are few
  pub held : (low high : List ℕ) (count : ℕ) (apply : Bool) → Dictionary t low high count apply → Holds (dictionary t) low high count
  held low high count apply d = d.held

  pub front-held : (low high : List ℕ) (count : ℕ) (apply : Bool) → Dictionary t low high count apply → (low' high' : List ℕ)
      → length low' ≡ count → low' ≡ take count low → high' ≡ take count high → Holds (dictionary t) low' high' (length low')
  front-held low high count apply d low' high' e a b = front-holds low high low' high' count e a b (dictionary t) (held low high count apply d)

  pub known-few : (low high : List ℕ) (count : ℕ) (apply : Bool) → Dictionary t low high count apply → count ≤ 2048
  known-few low high count apply d = d.room

  pub parsed : (s low high : List ℕ) (count : ℕ) (apply : Bool) (p : Parsed) → Sized t old → Dictionary t low high count apply
      → Parses t s (Some p) → Grammar t old s low high p.words p.lines count apply
  unfolding Parses
  parsed s low high count apply p z d q =
      record {
        room = z.room;
        some = z.some;
        short = z.short;
        dict = d;
        ls = q.script;
        e = q.whole;
        script = q.read;
        joined = q.joined;
        stands = record { here = q.written; used = q.used; count = q.counted };
        few = q.room;
        rows = omega (arith, q.counted, q.used, q.room, rows-within q.script);
      }

  pub unparsed : (s : List ℕ) → Sized t old → Parses t s None → Reads t old (Err C.Grammar) old
  unfolding Parses
  unparsed s z p = no-script t old z.room z.some z.short p

  pub sized : table_words ≤ length old → (length t ≡ 0 → ⊥) → length t ≤ 4096 → Sized t old
  sized a b c = record { room = a; some = b; short = c }

pub ruleset laws = (rules, held, front-held, known-few, parsed, unparsed, sized, no_room, no_text, long-text)
