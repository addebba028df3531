-- Where methods and an expression end, as the crate `wellformed` answers it, says where they stand. Assumes nothing.
use Rattle.std.specs.Prelude.{ℕ, ◌≤◌, ◌≡◌, Bool, true, false, Option, List, [], ◌∷◌, length}
use Rattle.std.proofs.Math.Path.{refl}
use Rattle.std.proofs.Common.{sym, arith}
use Rattle.atlite.specs.Term.{this, Value, signatures}
use Rattle.atlite.specs.State.{Tag, shared, isolated}
use Rattle.atlite.specs.Valid.{methods_named, HeldBy, unreferring}
use Rattle.decoding.specs.ValidTest.{well_formed, well_formed_methods}
use Rattle.atlite_laws.specs.Facts.{and₂, both₂}
use Rattle.invariant.specs.TermTests.{Is, wf-to, wf-from, methods-to, methods-from}
use Rattle.layout_laws.specs.Parse.{got, parse_methods}
use Rattle.layout_laws.specs.ParseLaws.{parse}
use Rattle.layout_laws.proofs.ParseLaws.{parse-iff, methods-iff}
use Rattle.term_words.specs.Kinds.{allowed}
use Rattle.term_words.specs.Words.{holds}
use Rattle.term_words.specs.Ends.{end_of, methods_hold}
use Rattle.wellformed.specs.EndLaws.{ends-got, ends_at}
use Rattle.actor.specs.Objects.{Judges}
use Rattle.actor.specs.PartContract.{Ends}

-- where n methods at b end, and where the expression of a region does
unfoldable pub methods_reach : Bool → List ℕ → ℕ → ℕ → List ℕ → ℕ → ℕ → Option ℕ
methods_reach refs K a W B n b = end_of (methods_hold W (holds refs K a)) (parse_methods (length B) B n b)

unfoldable pub expr_reach : List ℕ → ℕ → ℕ → List ℕ → Option ℕ
expr_reach K a W R = end_of (well_formed W (allowed K a) []) (parse R 0)

module _ (K : List ℕ) (a W : ℕ) (w B : List ℕ) (few : W ≤ 64) where
  judge : (t : Tag) (p : Value → Bool) → (Is p ≡ HeldBy t (Is (allowed K a))) → Judges K a W w B few t (λ m b. end_of (methods_hold W p) (parse_methods (length B) B m b))
  unfolding methods_hold
  judge t p same = record {
    sound = λ m b e h.
        let r = ends_at (methods_hold W p) (parse_methods (length B) B m b) e (sym h) in
        let q = and₂ (methods_named W (signatures r.0)) (well_formed_methods W p (this ∷ []) r.0) r.2 in
        (r.0, (methods-iff (length B) B b (omega arith) m r.0 _).0 r.1, q.0, rw same at (methods-to r.0 W p (this ∷ []) q.1));
    complete = λ m b e M h n k.
        let g : parse_methods (length B) B m b ≡ got M e = (methods-iff (length B) B b (omega arith) m M e).1 h in
        ends-got (methods_hold W p) (parse_methods (length B) B m b) M e g (both₂ n (methods-from M W p (this ∷ []) (rw (← same) at k)));
  }

  pub judges-objects : Judges K a W w B few shared (methods_reach true K a W B)
  unfolding methods_reach holds
  judges-objects = judge shared (allowed K a) refl

  pub judges-isolates : Judges K a W w B few isolated (methods_reach false K a W B)
  unfolding methods_reach holds
  judges-isolates = judge isolated unreferring refl

pub ends-expression : (K : List ℕ) (a W : ℕ) (R : List ℕ) → Ends K a W R (expr_reach K a W R)
unfolding expr_reach
ends-expression K a W R = record {
  sound = λ e h.
      let r = ends_at (well_formed W (allowed K a) []) (parse R 0) e (sym h) in
      (r.0, (parse-iff R 0 r.0 _).0 r.1, wf-to r.0 W (allowed K a) [] r.2);
  complete = λ t i h k. ends-got (well_formed W (allowed K a) []) (parse R 0) t i ((parse-iff R 0 t i).1 h) (wf-from t W (allowed K a) [] k);
}
