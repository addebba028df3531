-- The four ways that printing a table returns. Assumes nothing.
use Rattle.std.specs.Prelude.{◌≡◌, refl, Option, Some, None, Bool, true, false, List, [], ◌∷◌, ℕ, ◌-◌, ◌≤◌, ◌<◌, length, take, drop, get_or}
use Rattle.std.proofs.Common.{sym, ap, ◌∙◌, subst as transp, zero-add, arith, rules}
use Rattle.std.proofs.lemmas.Bool.{false≢true}
use Rattle.std.proofs.lemmas.List.Edits.{sets-eq}
use Rattle.atlite.specs.Table.{Table, IsTable, text_of}
use Rattle.layout.specs.Numbers.{table_words}
use Rattle.layout.specs.Tables.{encode_table}
use Rattle.layout_laws.specs.TableFitting.{table_fits}
use Rattle.showing.specs.Writer.{Wrote}
use Rattle.printer.specs.Names.{names_hold, table-names}
use Rattle.printer.specs.TextOfLines.{lines_in}
use Rattle.printer.specs.PrintContract.{Printed}
use Rattle.printer.specs.Tables.{table-count, table-text}

-- ---- the ways to return
-- giving up is no answer
no_answer : (n : ℕ) → None ≡ Some n → n ≤ 4096
no_answer n e = let z : ◌≡◌ {A = ℕ} 0 1 = cc in omega arith

behind-first : (w : List ℕ) → take (table_words - 1) (drop 1 w) ≡ drop 1 (take table_words w)
behind-first [] = refl
behind-first (x ∷ w) = refl

module _ (w old : List ℕ) (b : Bool) (s : b ≡ names_hold (take table_words w)) where
  pub printed-none : b ≡ false → Printed w old old None
  printed-none z = record {
    table = λ T i e. absurd (false≢true (sym z ∙ s ∙ table-names (take table_words w) T i e));
    names = λ _. (refl, refl);
    fits = no_answer;
    kept = refl;
  }

  -- the words behind the first, of a table's
  published : (T : Table) → take table_words w ≡ encode_table T → take (table_words - 1) (drop 1 w) ≡ drop 1 (encode_table T)
  published T e = behind-first w ∙ ap (drop 1) e

  module _ (y : b ≡ true) where
    -- the dictionary does hold
    held : {A : Type 0} → names_hold (take table_words w) ≡ false → A
    held z = absurd (false≢true (sym z ∙ sym s ∙ y))

    pub printed-many : 512 < get_or (take (table_words - 1) (drop 1 w)) 0 0 → Printed w old old None
    printed-many h = record {
      table = λ T i e. absurd (omega (arith, table-count (take (table_words - 1) (drop 1 w)) T i (published T e), (table_fits T i).line_count));
      names = held;
      fits = no_answer;
      kept = refl;
    }

    module _ (new : List ℕ) (o : ℕ)
        (p : Wrote old 0 (lines_in (take (table_words - 1) (drop 1 w)) (get_or (take (table_words - 1) (drop 1 w)) 0 0) (drop 255 (take (table_words - 1) (drop 1 w)))) new o)
      where
        text-is : (T : Table) → IsTable T → take table_words w ≡ encode_table T → Wrote old 0 (text_of T) new o
        text-is T i e = transp (λ s. Wrote old 0 s new o) (table-text (take (table_words - 1) (drop 1 w)) T i (published T e)) p

        -- where the writer stopped
        stop : (T : Table) → IsTable T → take table_words w ≡ encode_table T → o ≡ length (text_of T)
        stop T i e = (text-is T i e).next (omega (arith, i.text.1)) ∙ zero-add (length (text_of T))

        module _ (k : length old ≡ 4096) (same : length new ≡ length old) where
          pub printed-long : 4096 < o → Printed w old new None
          printed-long h = record {
            table = λ T i e. absurd (omega (arith, stop T i e, i.text.1));
            names = held;
            fits = no_answer;
            kept = same;
          }

          pub printed-whole : o ≤ 4096 → Printed w old new (Some o)
          printed-whole h = record {
            table = λ T i e. (
              ap {B = Option ℕ} Some (stop T i e),
              (text-is T i e).is (omega (arith, i.text.1)) ∙ sets-eq (text_of T) old 0 (omega (arith, i.text.1)) ∙ rw zero-add,
            );
            names = held;
            fits = λ m e. let z : o ≡ m = cc in omega arith;
            kept = same;
          }

pub ruleset laws = (rules, printed-none, printed-many, printed-long, printed-whole)
