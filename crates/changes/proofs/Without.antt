-- Request P2, choosing: of terms that have neither of the two operators anywhere the redex is neither, and the rules bring neither in. Assumes nothing.
use Rattle.std.specs.Prelude.{◌≡◌, refl, false}
use Rattle.atlite.specs.Term.{Term, val, var, op, let_in, future, literal}
use Rattle.atlite.specs.Redex.{redex}
use Rattle.changes.specs.Choosing.{is_new, chooses}
use Rattle.changes.specs.Throughout.{Allows, AnyMethods, redex-throughout}
use Rattle.changes.specs.Without.{Neither, Without}

neither : (e : Term) → Without e → chooses e ≡ false
unfolding chooses
neither (val v) h = refl
neither (var x) h = refl
neither (op o es) h = h.0
neither (let_in x e d) h = refl
neither (future x y e) h = refl
neither (literal k fs ms) h = refl

-- so the redex is neither of the two
pub redex-neither : (e : Term) → Without e → chooses (redex e) ≡ false
redex-neither e h = neither (redex e) (redex-throughout Neither AnyMethods e h)

-- what rules and abbreviations form is neither
pub neither-formed : Allows Neither AnyMethods
unfolding is_new
neither-formed = record { sets = λ f. refl; calls = λ m. refl; sends = λ m. refl; function = λ s. tt }
