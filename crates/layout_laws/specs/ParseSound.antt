-- Where a term, or the parts of one, stands in words, from one position to another. Assumes nothing.
use Rattle.std.specs.Prelude.{ℕ, ◌≡◌, List}
use Rattle.atlite.specs.Term.{Term, Terms, Inits, Methods, count_terms}
use Rattle.layout.specs.Terms.{count_inits, count_methods, encode_term, encode_terms, encode_inits, encode_methods}
use Rattle.layout_laws.specs.TermLaws.{Fits, FitsAll, FitsInits, FitsMethods}
use Rattle.layout_laws.specs.Parse.{Got, none, got}
use Rattle.layout_laws.specs.Spans.{Spans}

-- ---- answers
abbrev pub Ended : {A : Type 0} → (A → ℕ → Type 0) → Got A → Type 0
Ended Q none = Unit {0}
Ended Q (got a i) = Q a i

-- ---- what stands at a position
abbrev pub TermAt : List ℕ → ℕ → Term → ℕ → Type 0
TermAt w at e i = Fits e × Spans w at i (encode_term e)

abbrev pub TermsAt : List ℕ → ℕ → ℕ → Terms → ℕ → Type 0
TermsAt w c at es i = FitsAll es × (count_terms es ≡ c) × Spans w at i (encode_terms es)

abbrev pub InitsAt : List ℕ → ℕ → ℕ → Inits → ℕ → Type 0
InitsAt w c at fs i = FitsInits fs × (count_inits fs ≡ c) × Spans w at i (encode_inits fs)

abbrev pub MethodsAt : List ℕ → ℕ → ℕ → Methods → ℕ → Type 0
MethodsAt w c at ms i = FitsMethods ms × (count_methods ms ≡ c) × Spans w at i (encode_methods ms)
