-- The reader of positions is exact: with fuel for the words that are left, a term is got at a position, with an end, just where it
-- fits and its words stand from the one to the other. From its two halves (`ParseComplete`, `ParseSound`); hence how much fuel there
-- is does not matter, and the other way of reading (`term_at`) agrees. Assumes nothing.
use Rattle.std.specs.Prelude.{ℕ, suc, ◌+◌, ◌-◌, ◌≤◌, ◌≡◌, refl, List, ◌↔◌, length, drop, get_or}
use Rattle.std.proofs.Common.{sym, ap, ◌∙◌, arith}
use Rattle.atlite.specs.Term.{Term, Methods, val, var, op, let_in, future, literal}
use Rattle.layout.specs.Terms.{count_methods, encode_term, encode_methods}
use Rattle.layout_laws.specs.Parse.{Got, none, got, head_at, formed, parse_term, parse_methods}
use Rattle.layout_laws.specs.Spans.{Spans, span-short}
use Rattle.layout_laws.specs.ParseComplete.{Meets}
use Rattle.layout_laws.proofs.ParseComplete.{term-complete, methods-complete}
use Rattle.layout_laws.specs.ParseSound.{TermAt, MethodsAt}
use Rattle.layout_laws.proofs.ParseSound.{term-sound, methods-sound}
use Rattle.layout_laws.specs.ParseLaws.{Enough, parse}

meets-span : {A : Type 0} (p : ℕ → ℕ → Got A) (w xs : List ℕ) (a : A) → Meets p w xs a → (n at i : ℕ) → Enough n w at → Spans w at i xs → p n at ≡ got a i
meets-span p w xs a h n at i l s = h n at (drop i w) (span-short w at i n xs s l) s.0 ∙ ap (got a) (sym s.1)

-- ---- exactly
module _ (n : ℕ) (w : List ℕ) (at : ℕ) (l : Enough n w at) where
  pub term-iff : (e : Term) (i : ℕ) → (parse_term n w at ≡ got e i) ↔ TermAt w at e i
  term-iff e i = (term-sound n w at e i, λ h. meets-span (λ n at. parse_term n w at) w (encode_term e) e (term-complete e w h.0) n at i l h.1)

  pub methods-iff : (c : ℕ) (ms : Methods) (i : ℕ) → (parse_methods n w c at ≡ got ms i) ↔ MethodsAt w c at ms i
  methods-iff c ms i = (
    methods-sound n w c at ms i,
    λ h. ap (λ k. parse_methods n w k at) (sym h.1) ∙ meets-span (λ n at. parse_methods n w (count_methods ms) at) w (encode_methods ms) ms (methods-complete ms w h.0) n at i l h.2,
  )

-- ---- the fuel does not matter
-- two answers of which the same is said
one_answer : {A : Type 0} (Q : A → ℕ → Type 0) (g h : Got A) → ((a : A) (i : ℕ) → (g ≡ got a i) ↔ Q a i) → ((a : A) (i : ℕ) → (h ≡ got a i) ↔ Q a i) → g ≡ h
one_answer Q none none p q = refl
one_answer Q none (got a i) p q = (p a i).1 ((q a i).0 refl)
one_answer Q (got a i) h p q = sym ((q a i).1 ((p a i).0 refl))

module _ (n m : ℕ) (w : List ℕ) (at : ℕ) (l : Enough n w at) (k : Enough m w at) where
  pub term-fuel : parse_term n w at ≡ parse_term m w at
  term-fuel = one_answer (TermAt w at) (parse_term n w at) (parse_term m w at) (term-iff n w at l) (term-iff m w at k)

pub enough : (w : List ℕ) (at : ℕ) → Enough (length w) w at
enough w at = omega arith

pub parse-step : (w : List ℕ) (at : ℕ) → parse w at ≡ formed (head_at (get_or w at 0)) (λ i. parse w i) w (at + 1)
unfolding parse_term
parse-step w at = term-fuel (length w) (suc (length w)) w at (enough w at) (omega arith)

pub parse-iff : (w : List ℕ) (at : ℕ) (e : Term) (i : ℕ) → (parse w at ≡ got e i) ↔ TermAt w at e i
parse-iff w at = term-iff (length w) w at (enough w at)

-- ---- where a term is got
pub term_words : (e : Term) → 1 ≤ length (encode_term e)
unfolding encode_term
term_words (val v) = omega arith
term_words (var x) = omega arith
term_words (op o es) = omega arith
term_words (let_in x e d) = omega arith
term_words (future x y e) = omega arith
term_words (literal k fs ms) = omega arith
