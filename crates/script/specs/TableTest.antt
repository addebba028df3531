-- Words are a table exactly if they print into 4,096 bytes, which the text of every table fits. Assumes nothing.
use Rattle.std.specs.Prelude.{ℕ, ◌≡◌, true, Ok, Err, List, ◌++◌, length, take, drop}
use Rattle.std.proofs.Math.Path.{refl, ap}
use Rattle.std.proofs.Common.{sym, ◌∙◌, arith, rules, take-append-drop}
use Rattle.std.proofs.Math.Bool.{false}
use Rattle.std.proofs.Math.Option.{Option, none, some}
use Rattle.atlite.specs.Base.{done, or_refuse, is_done}
use Rattle.atlite.specs.Table.{Table, text_of}
use Rattle.atlite_laws.specs.Facts.{refused-done}
use Rattle.atlite.specs.Answers.{Returned, print_answer}
use Rattle.atlite.specs.declared.Cause.{Cause}
use Rattle.layout.specs.Numbers.{table_words}
use Rattle.decoding.specs.TableReading.{table_of}
use Rattle.layout_laws.specs.TableLaws.{table-of-iff}
use Rattle.promises.specs.Meaning.{table_in, print_call}
use Rattle.layout_laws.specs.Outcomes.{answer-writes}
use Rattle.layout_laws.specs.MeaningLaws.{print-outcome, print-leaves}
use Rattle.script.specs.PrintContract.{Prints}

module _ (t old : List ℕ) where
  -- a table's words print
  prints-whole : (T : Table) → length old ≡ 4096 → table_of (take table_words t) ≡ some T → (print_call t old).result ≡ done (length (text_of T))
  prints-whole T l e =
      let h = (table-of-iff (take table_words t) T).0 e in
      let s = sym (take-append-drop table_words t) ∙ ap (λ w. w ++ drop table_words t) (sym h.1) in
      ap (λ w. (print_call w old).result) s ∙ ap (λ c. c.result) (print-leaves T (drop table_words t) old h.0 (omega (arith, h.0.text.1)))

  module _ (r : Returned ℕ) (new : List ℕ) (p : Prints t old r new) where
    pub printed-told : (n : ℕ) → r ≡ Ok n → true ≡ is_done (table_in t)
    unfolding Prints print_answer table_in or_refuse is_done
    printed-told n e =
        let q = answer-writes old _ (print_call t old) n (print-outcome t old) (sym p.0 ∙ ap print_answer e) in
        rw ((table-of-iff (take table_words t) q.1.0).1 (q.1.1, q.1.2))

    pub unprinted-told : length old ≡ 4096 → (c : Cause) → r ≡ Err c → false ≡ is_done (table_in t)
    unfolding Prints print_answer table_in or_refuse is_done
    unprinted-told l c e = go (table_of (take table_words t)) refl
      where
        go : (o : Option Table) → table_of (take table_words t) ≡ o → false ≡ is_done (or_refuse 7 o)
        go none f = refl
        go (some T) f = absurd (refused-done (sym (ap print_answer e) ∙ p.0 ∙ prints-whole T l f))

pub ruleset laws = (rules, printed-told, unprinted-told)
