-- Lines: an expression or a definition, with the end of the line. Assumes nothing.
use Rattle.std.specs.Prelude.{◌≡◌, Bool, true, false, List, [], ◌∷◌, ℕ, ◌+◌, ◌≤◌, length, drop, Option, Some, None}
use Rattle.std.proofs.Math.Path.{refl}
use Rattle.std.proofs.Common.{sym, ap, ◌∙◌, arith, rules}
use Rattle.std.proofs.lemmas.List.Edits.{sets}
use Rattle.atlite.specs.Base.{Result, done, refused, ◌>>=◌, bytes}
use Rattle.atlite.specs.Lexicon.{Bytes, newline, dictionary}
use Rattle.atlite.specs.Script.{Src, Line, expression, define}
use Rattle.atlite.specs.Keywords.{operators}
use Rattle.atlite.specs.Reader.{Reading, eat, read_expr, read_definition, read_line}
use Rattle.words.specs.Wide.{wide, wide_src, wide_line}
use Rattle.scan.specs.Runs.{Starts}
use Rattle.lexemes.specs.declared.names.Name.{Name}
use Rattle.lexemes.specs.declared.scratch.Step.{Step}
use Rattle.lexemes.specs.Atoms.{NameOf}
use Rattle.lexemes.specs.NameLaws.{eat-starts, eat-not, starts-room, name-read, name-refused, name-small, name-far, name-within}
use Rattle.lexemes.specs.DescentContract.{stepped, Read, Took, Reads, exprs, read_one, ones, one_words}
use Rattle.lexemes.specs.DescentLaws.{bind_assoc, step-within, shift}

pub record EndsAt (t : Bytes) (j q i p : ℕ) : Type 0 where
  pub is : eat 10 (drop j t) ≡ done (drop i t)
  pub next : i ≡ j + 1
  pub within : i ≤ length t
  pub ends : p ≡ q

unfoldable pub LineEnd : Bytes → ℕ → ℕ → Option Step → Type 0
LineEnd t j q (Some s) = EndsAt t j q s.at s.out
LineEnd t j q None = eat 10 (drop j t) ≡ refused 2

unfoldable pub definitions : Bytes → ℕ → Reading Line
definitions t n i = read_definition operators n (dictionary t) i

unfoldable pub sentences : Bytes → ℕ → Reading Line
sentences t n i = do
  (e, i₁) ← read_expr operators n (dictionary t) i
  i₂ ← eat newline i₁
  done (expression e, i₂)

unfoldable pub line_of : Bytes → ℕ → Reading Line
line_of t n i = read_line operators n (dictionary t) i

-- ---- the end of a line
module _ (t : Bytes) (at p : ℕ) (r : Bool) (s : Starts t at (10 ∷ []) r) where
  pub newline-so : r ≡ true → LineEnd t at p (stepped (at + 1) p)
  unfolding LineEnd
  newline-so k = record { is = eat-starts t at 10 r s k; next = refl; within = starts-room t at 1 (10 ∷ []) r s k refl; ends = refl }

  pub newline-not : r ≡ false → LineEnd t at p None
  unfolding LineEnd
  newline-not k = eat-not t at 10 r s k

-- ---- behind what was read as v
ending : (A : Type 0) (enc : A → List ℕ) (f : A → Line) (t : Bytes) (at b o : ℕ) (old new : List ℕ) (R : Result (A × Bytes)) (Q : Result (Line × Bytes)) (i p : ℕ) (a : Option Step)
    → ((v : A) → wide_line (f v) ≡ enc v) → at ≤ b → (x : Read enc t b o old new R i p)
    → Q ≡ ◌>>=◌ {B = Line × Bytes} (eat 10 (drop i t)) (λ j. done (f x.value, j)) → LineEnd t i p a → Took wide_line t at o old new Q a
unfolding Took LineEnd
ending A enc f t at b o old new R Q i p (Some s) h l x e z =
    let b₁ = x.short in
    let f₁ = x.far in
    let n = z.next in
    let a₁ = z.ends in
    let a₂ = x.ends in
    record {
      value = f x.value;
      is = e ∙ rw z.is;
      far = omega arith;
      within = z.within;
      wrote = x.wrote ∙ ap (sets old o) (sym (h x.value));
      ends = a₁ ∙ a₂ ∙ ap (λ (w : List ℕ). o + length w) (sym (h x.value));
      short = omega arith;
    }
ending A enc f t at b o old new R Q i p None h l x e z = e ∙ rw z

module _ (t : Bytes) (at o : ℕ) (old new : List ℕ) where
  sentence-core : (n i p : ℕ) (r : Option Step) → Read wide_src t at o old new (read_expr operators n (dictionary t) (drop at t)) i p → LineEnd t i p r
      → Took wide_line t at o old new (sentences t n (drop at t)) r
  unfolding sentences wide_line
  sentence-core n i p r x z = ending Src wide_src expression t at at o old new _ _ i p r (λ v. refl) (omega arith) x (rw x.is) z

  pub sentence-done : (e : Step) (r : Option Step) → Reads wide_src (exprs t) t at o old new (Some e) → LineEnd t e.at e.out r → Reads wide_line (sentences t) t at o old new r
  unfolding Reads Took exprs
  sentence-done e r s z n l = sentence-core n e.at e.out r (s n l) z

  pub sentence-bad : Reads wide_src (exprs t) t at o old new None → Reads wide_line (sentences t) t at o old new None
  unfolding Reads Took exprs sentences
  sentence-bad s n l = let z = s n l in rw z

  module _ (x : Name) (v : NameOf t at (Some x)) (w : ℕ) (h : w ≡ wide 130 x.number) where
    definitions-is : (n : ℕ) → definitions t n (drop at t) ≡ (◌>>=◌ {B = Line × Bytes} (read_one (read_expr operators n (dictionary t)) (drop x.end t)) (λ r. ◌>>=◌ {B = Line × Bytes} (eat 10 r.1) (λ j. done (define x.number r.0, j))))
    unfolding definitions read_definition read_one
    definitions-is n = let g = name-read t at x v in rw g.is (simp bind_assoc)

    definition-core : (n j p : ℕ) (r : Option Step) → Read (one_words w) t x.end o old new (read_one (read_expr operators n (dictionary t)) (drop x.end t)) j p → LineEnd t j p r
        → Took wide_line t at o old new (definitions t n (drop at t)) r
    unfolding wide_line one_words
    definition-core n j p r z u =
        let g = name-read t at x v in
        let f = g.far in
        ending Src (one_words w) (define x.number) t at x.end o old new _ _ j p r (λ d. rw h) (omega arith) z (definitions-is n ∙ rw z.is) u

    pub definition-done : (e : Step) (r : Option Step) → Reads (one_words w) (ones t) t x.end o old new (Some e) → LineEnd t e.at e.out r
        → Reads wide_line (definitions t) t at o old new r
    unfolding Reads Took ones
    definition-done e r s u n l = let g = name-read t at x v in let f = g.far in definition-core n e.at e.out r (s n (omega arith)) u

    pub definition-bad : Reads (one_words w) (ones t) t x.end o old new None → Reads wide_line (definitions t) t at o old new None
    unfolding Reads Took ones
    definition-bad s n l = let g = name-read t at x v in let f = g.far in let z = s n (omega arith) in definitions-is n ∙ rw z

pub definition-none : (t : Bytes) (at o : ℕ) (old new : List ℕ) → NameOf t at None → Reads wide_line (definitions t) t at o old new None
unfolding Reads Took definitions read_definition
definition-none t at o old new v n l = let z = name-refused t at v in rw z

module _ (t : Bytes) (at o : ℕ) (old new : List ℕ) (r : Bool) (s : Starts t at (40 ∷ 100 ∷ 101 ∷ 102 ∷ 32 ∷ []) r) (a : Option Step) where
  pub line-definition : r ≡ true → Reads wide_line (definitions t) t (at + 5) o old new a → Reads wide_line (line_of t) t at o old new a
  unfolding Reads Starts line_of read_line bytes definitions
  line-definition k h n l = let y = rw k at s in shift Line wide_line t at o old new (at + 5) _ _ a (omega arith) (rw (y.0, line_of, read_line)) (h n (omega arith))

  pub line-sentence : r ≡ false → Reads wide_line (sentences t) t at o old new a → Reads wide_line (line_of t) t at o old new a
  unfolding Reads Starts line_of read_line bytes sentences
  line-sentence k h n l = let y = rw k at s in shift Line wide_line t at o old new at _ _ a (omega arith) (rw (y, line_of, read_line)) (h n l)

pub ruleset laws = (rules, starts-room, newline-so, newline-not, name-small, name-far, name-within, step-within, sentence-done, sentence-bad, definition-none, definition-done, definition-bad, line-definition, line-sentence)
