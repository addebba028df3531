-- A whole text: its lines one after the other, of which the last must be an expression. Assumes nothing.
use Rattle.std.specs.Prelude.{◌≡◌, refl, Bool, drop}
use Rattle.std.proofs.Math.Path.{sym, ap}
use Rattle.std.proofs.Common.{◌∙◌, rules, length-append, drop-cons}
use Rattle.std.proofs.Math.Bool.{true, false}
use Rattle.std.proofs.lemmas.Bool.{false≢true}
use Rattle.std.specs.Prelude.{Option, Some, None}
use Rattle.std.proofs.Math.Option.{none, some}
use mathlib.Core.List.{List, [], ◌∷◌, ◌++◌, append-nil, append_assoc}
use Prim.Native.Nat.{ℕ, suc, ◌+◌, ◌-◌, ◌≤◌, ◌<◌}
use Rattle.std.proofs.Math.Nat.{sub-zero}
use native.Mathlib.Omega.{arith}
use Rattle.std.proofs.Math.ListN.{length, take, drop_of_length-le}
use Rattle.std.proofs.Math.Seq.{sets, sets-eq, length-sets, take-append_seam}
use Rattle.atlite.specs.Base.{Result, done, refused, ◌>>=◌, bytes}
use Rattle.atlite.specs.Lexicon.{Bytes, dictionary}
use Rattle.atlite.specs.Script.{seq, Src, op, nil, cons, Line, expression, define, join}
use Rattle.atlite.specs.Keywords.{operators}
use Rattle.atlite.specs.Reader.{eat, after, spaced, read_word, read_expr, read_definition, read_line, read_lines, read_script}
use Rattle.atlite_laws.specs.Facts.{Every, holds, every-done, given}
use Rattle.layout.specs.Pack.{flat}
use Rattle.words.specs.Wide.{wide_line, wide_lines}
use Rattle.scan.specs.Runs.{Starts}
use Rattle.lexemes.specs.declared.scratch.Step.{Step}
use Rattle.parse.specs.declared.Parsed.{Parsed}
use Rattle.lexemes.specs.DescentContract.{Read, Took, Reads}
use Rattle.layout_laws.specs.Writes.{sets-append}
use Rattle.parse.specs.Lines.{line_of}

-- no definition comes next
unfoldable pub Closing : Bytes → ℕ → Bool → Type 0
Closing t at true = after (bytes "(def ") (drop at t) ≡ none
Closing t at false = (j : Bytes) × (after (bytes "(def ") (drop at t) ≡ some j)

-- the words of the text's lines stand in front
pub record ParsedAs (t : Bytes) (out : List ℕ) (words lines : ℕ) : Type 0 where
  pub script : List Line
  pub whole : Src
  pub read : read_script operators t ≡ done script
  pub joined : join script ≡ done whole
  pub written : take words out ≡ wide_lines script
  pub used : words ≡ length (wide_lines script)
  pub counted : lines ≡ length script
  pub room : words ≤ 4096

-- the answer of so many words and lines
abbrev pub parsed_as : ℕ → ℕ → Option Parsed
parsed_as w n = Some (record { words = w; lines = n })

unfoldable pub Parses : Bytes → List ℕ → Option Parsed → Type 0
Parses t out (Some p) = ParsedAs t out p.words p.lines
Parses t out None = (read_script operators t >>= join) ≡ refused 2

-- ---- the last line
unfoldable pub is_expression : Line → Bool
is_expression (expression e) = true
is_expression (define x e) = false

unfoldable pub ends_well : List Line → Bool
ends_well [] = false
ends_well (l ∷ []) = is_expression l
ends_well (l ∷ k ∷ ls) = ends_well (k ∷ ls)

ends_last : (ls : List Line) (l : Line) → ends_well (ls ++ (l ∷ [])) ≡ is_expression l
unfolding ends_well
ends_last [] l = refl
ends_last (k ∷ []) l = refl
ends_last (k ∷ m ∷ ls) l = ends_last (m ∷ ls) l

join-good : (ls : List Line) → ends_well ls ≡ true → (e : Src) × (join ls ≡ done e)
unfolding ends_well join is_expression
join-good [] h = absurd (false≢true h)
join-good (expression e ∷ []) h = (e, refl)
join-good (define x e ∷ []) h = absurd (false≢true h)
join-good (expression e ∷ l ∷ ls) h = let r = join-good (l ∷ ls) h in (op seq (cons e (cons r.0 nil)), rw r.1)
join-good (define x e ∷ l ∷ ls) h = let r = join-good (l ∷ ls) h in (Src.let_in x e r.0, rw r.1)

join-bad : (ls : List Line) → ends_well ls ≡ false → join ls ≡ refused 2
unfolding ends_well join is_expression
join-bad [] h = refl
join-bad (expression e ∷ []) h = absurd (false≢true (sym h))
join-bad (define x e ∷ []) h = refl
join-bad (expression e ∷ l ∷ ls) h = rw (join-bad (l ∷ ls) h)
join-bad (define x e ∷ l ∷ ls) h = rw (join-bad (l ∷ ls) h)

-- ---- the lines so far
pub record Lining (t : Bytes) (at o n : ℕ) (last : Bool) (out : List ℕ) : Type 0 where
  pub lines : List Line
  pub old : List ℕ
  pub left : read_script operators t ≡ ◌>>=◌ {B = List Line} (read_lines operators (length t + 1 - n) (dictionary t) (drop at t)) (λ ms. done (lines ++ ms))
  pub counted : n ≡ length lines
  pub wrote : out ≡ sets old 0 (wide_lines lines)
  pub ends : o ≡ length (wide_lines lines)
  pub within : at ≤ length t
  pub behind : o ≤ at
  pub fewer : n ≤ at
  pub room : length out ≡ 4096
  pub well : last ≡ ends_well lines

bind_done : (x : Result (List Line)) → x ≡ ◌>>=◌ {B = List Line} x (λ ms. done ms)
bind_done (done a) = refl
bind_done (refused n) = refl

module _ (t : Bytes) (at : ℕ) (r : Bool) (s : Starts t at (40 ∷ 100 ∷ 101 ∷ 102 ∷ 32 ∷ []) r) where
  pub closing-not : r ≡ true → Closing t at false
  unfolding Closing Starts bytes
  closing-not k = let y = rw k at s in (drop (at + 5) t, y.0)

  pub closing_so : r ≡ false → Closing t at true
  unfolding Closing Starts bytes
  closing_so k = rw k at s

-- a line is an expression if no definition comes next
Kind : Bool → Line × Bytes → Type 0
Kind b r = is_expression r.0 ≡ b

sentence-every : (n : ℕ) (ws : List Bytes) (i : Bytes) → after (bytes "(def ") i ≡ none → Every (Kind true) (read_line operators n ws i)
unfolding read_line is_expression Kind
sentence-every n ws i k = rw (k, read_line) (given (read_expr operators n ws i) (λ r p. given (eat 10 r.1) (λ j q. holds refl)))

definition-every : (n : ℕ) (ws : List Bytes) (i i' : Bytes) → after (bytes "(def ") i ≡ some i' → Every (Kind false) (read_line operators n ws i)
unfolding read_line read_definition is_expression Kind
definition-every n ws i i' k =
    rw (k, read_line) (given (read_word ws i') (λ r p. given (spaced (read_expr operators n ws) r.1) (λ r₁ p₁. given (eat 41 r₁.1) (λ j₁ q₁. given (eat 10 j₁) (λ j q. holds refl)))))

line-kind : (n : ℕ) (ws : List Bytes) (i j : Bytes) (v : Line) → read_line operators n ws i ≡ done (v, j) → after (bytes "(def ") i ≡ none → is_expression v ≡ true
unfolding Kind
line-kind n ws i j v h k = every-done (sentence-every n ws i k) h

definition-kind : (n : ℕ) (ws : List Bytes) (i i' j : Bytes) (v : Line) → read_line operators n ws i ≡ done (v, j) → after (bytes "(def ") i ≡ some i' → is_expression v ≡ false
unfolding Kind
definition-kind n ws i i' j v h k = every-done (definition-every n ws i i' k) h

snoc : (x : Result (List Line)) (ls : List Line) (v : Line)
    → ◌>>=◌ {B = List Line} (◌>>=◌ {B = List Line} x (λ ms. done (v ∷ ms))) (λ ms. done (ls ++ ms)) ≡ ◌>>=◌ {B = List Line} x (λ ms. done ((ls ++ (v ∷ [])) ++ ms))
snoc (done ms) ls v = ap done (sym (append_assoc ls (v ∷ []) ms))
snoc (refused n) ls v = refl

module _ (t : Bytes) where
  pub lining-none : (out : List ℕ) → length out ≡ 4096 → Lining t 0 0 0 false out
  unfolding read_script wide_lines flat ends_well
  lining-none out h = record {
    lines = [];
    old = out;
    left = rw (sub-zero (length t + 1)) (bind_done (read_lines operators (length t + 1) (dictionary t) t));
    counted = refl;
    wrote = refl;
    ends = refl;
    within = omega arith;
    behind = omega arith;
    fewer = omega arith;
    room = h;
    well = refl;
  }

  module _ (at o n : ℕ) (last : Bool) (out : List ℕ) (s : Lining t at o n last out) where
    end-left : length t ≤ at → read_script operators t ≡ done s.lines
    unfolding read_lines
    end-left h =
        let w = s.within in
        let f = s.fewer in
        let z : length t + 1 - n ≡ suc (length t - n) = omega arith in
        s.left ∙ rw (z, drop_of_length-le t h) (ap done (append-nil s.lines))

    pub parsed-good : length t ≤ at → last ≡ true → length t ≤ 4096 → Parses t out (parsed_as o n)
    unfolding Parses
    parsed-good h e k =
        let j = join-good s.lines (sym s.well ∙ e) in
        let b = s.behind in
        let w = s.within in
        let r = s.room in
        let x = s.ends in
        let l = ap length s.wrote ∙ length-sets s.old 0 (wide_lines s.lines) in
        record {
          script = s.lines;
          whole = j.0;
          read = end-left h;
          joined = j.1;
          written = front s.old (wide_lines s.lines) out o s.wrote x (omega arith);
          used = x;
          counted = s.counted;
          room = omega arith;
        }
      where
        front : (l xs m : List ℕ) (k : ℕ) → m ≡ sets l 0 xs → k ≡ length xs → 0 + length xs ≤ length l → take k m ≡ xs
        front l xs m k p q h = rw (p, q, sets-eq xs l 0 h) (take-append_seam xs (drop (0 + length xs) l))

    pub parsed-bad : length t ≤ at → last ≡ false → Parses t out None
    unfolding Parses
    parsed-bad h e = rw (end-left h) (join-bad s.lines (sym s.well ∙ e))

    module _ (new : List ℕ) (h : at < length t) where
      fuel : length t + 1 - n ≡ suc (length t - n)
      fuel = let f = s.fewer in omega arith

      next-line : read_lines operators (suc (length t - n)) (dictionary t) (drop at t)
          ≡ ◌>>=◌ {B = List Line} (read_line operators (suc (length t - n)) (dictionary t) (drop at t)) (λ r. ◌>>=◌ {B = List Line} (read_lines operators (length t - n) (dictionary t) r.1) (λ ls. done (r.0 ∷ ls)))
      unfolding read_lines
      next-line = rw (drop-cons t at 0 h)

      pub lining-bad : (new' : List ℕ) (r : Option Parsed) → r ≡ None → Reads wide_line (line_of t) t at o out new None → Parses t new' r
      unfolding Parses Reads Took line_of
      lining-bad new' r e u =
          let f = s.fewer in
          let z = u (suc (length t - n)) (omega arith) in
          rw e (rw (s.left, fuel, next-line, z))

      abbrev LineAt : ℕ → ℕ → Type 0
      LineAt i p = Read wide_line t at o out new (read_line operators (suc (length t - n)) (dictionary t) (drop at t)) i p

      line_at : (l : Step) → Reads wide_line (line_of t) t at o out new (Some l) → LineAt l.at l.out
      unfolding Reads Took line_of
      line_at l u = let f = s.fewer in u (suc (length t - n)) (omega arith)

      kind : (i p : ℕ) (b : Bool) (x : LineAt i p) → Closing t at b → b ≡ is_expression x.value
      unfolding Closing
      kind i p true x c = sym (line-kind _ _ _ _ x.value x.is c)
      kind i p false x c = sym (definition-kind _ _ _ c.0 _ x.value x.is c.1)

      wide-last : (ls : List Line) (l : Line) → wide_lines (ls ++ (l ∷ [])) ≡ wide_lines ls ++ wide_line l
      unfolding wide_lines flat
      wide-last [] l = append-nil (wide_line l)
      wide-last (k ∷ ls) l = ap (λ (w : List ℕ). wide_line k ++ w) (wide-last ls l) ∙ sym (append_assoc (wide_line k) (wide_lines ls) (wide_line l))

      more-core : (i p : ℕ) (b : Bool) (x : LineAt i p) → Closing t at b → Lining t i p (n + 1) b new
      more-core i p b x c =
          let f = s.fewer in
          let g = x.far in
          let b₁ = x.short in
          let b₂ = s.behind in
          let w = x.within in
          let e₁ = s.ends in
          let e₂ = x.ends in
          let m = s.counted in
          let q = wide-last s.lines x.value in
          let e₀ : o ≡ 0 + length (wide_lines s.lines) = omega arith in
          let y : length t + 1 - (n + 1) ≡ length t - n = omega arith in
          record {
            lines = s.lines ++ (x.value ∷ []);
            old = s.old;
            left = s.left ∙ rw (fuel, next-line, x.is, y) (snoc (read_lines operators (length t - n) (dictionary t) (drop i t)) s.lines x.value);
            counted = omega (arith, length-append s.lines (x.value ∷ []));
            wrote = x.wrote ∙ ap (λ (z : List ℕ). sets z o (wide_line x.value)) s.wrote ∙ rw e₀ (sets-append (wide_lines s.lines) (wide_line x.value) s.old 0) ∙ ap (sets s.old 0) (sym q);
            ends = omega (arith, ap length q, length-append (wide_lines s.lines) (wide_line x.value));
            within = w;
            behind = omega arith;
            fewer = omega arith;
            room = ap length x.wrote ∙ length-sets out o (wide_line x.value) ∙ s.room;
            well = kind i p b x c ∙ sym (ends_last s.lines x.value);
          }

      pub lining-more : (l : Step) (b : Bool) → Reads wide_line (line_of t) t at o out new (Some l) → Closing t at b → Lining t l.at l.out (n + 1) b new
      lining-more l b u c = more-core l.at l.out b (line_at l u) c

pub lining-falls : (t : Bytes) (at o : ℕ) (old new : List ℕ) (l : Step) → Reads wide_line (line_of t) t at o old new (Some l) → length t - l.at < length t - at
unfolding Reads Took
lining-falls t at o old new l s =
    let r = s (length t - at + 1) (omega arith) in let f = r.far in let w = r.within in omega arith

pub ruleset laws = (rules, lining-falls, closing-not, closing_so, lining-none, parsed-good, parsed-bad, lining-bad, lining-more)
