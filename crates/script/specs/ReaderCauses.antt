-- The reader after the grammar: what is known of a text when its causes 3, 4 and 5 are looked for, and what each finding then means.
-- Assumes nothing.
use Rattle.std.specs.Prelude.{ℕ, ◌+◌, ◌≤◌, ◌<◌, ◌≡◌, Bool, true, false, Ok, Err, List, [], ◌∷◌, length, if◌then◌else◌}
use Rattle.std.proofs.Common.{sym, ap, ◌∙◌, arith, rules, length-append}
use Rattle.atlite.specs.Base.{done}
use Rattle.atlite.specs.Lexicon.{dictionary}
use Rattle.atlite.specs.Script.{Src, Line, expression, define, size, join}
use Rattle.atlite.specs.Scope.{bound, single}
use Rattle.atlite.specs.Keywords.{operators}
use Rattle.atlite.specs.Reader.{depth, read_script}
use Rattle.atlite.specs.Table.{GrammaticalLines}
use Rattle.atlite.specs.declared.Cause.TheVariants as C
use Rattle.reading.specs.Exact.{script-exact}
use Rattle.layout.specs.Numbers.{lines_size, table_words}
use Rattle.layout.specs.Pack.{flat}
use Rattle.layout.specs.Tables.{encode_line}
use Rattle.layout_laws.specs.TableFitting.{lines-length}
use Rattle.words.specs.Wide.{wide_src, wide_line, wide_lines}
use Rattle.checks.specs.Narrow.{narrow-lines, length-narrow}
use Rattle.checks.specs.LinesAt.{Stands}
use Rattle.checks.specs.Size.{Size}
use Rattle.checks.specs.SingleLines.{Single}
use Rattle.checks.specs.BoundLines.{AllBound}
use Rattle.checks.specs.TableWriteLaws.{Numbers}
use Rattle.checks.specs.TableRegions.{Written}
use Rattle.scan.specs.WordNumbers.{low_part, high_part, Dictionary}
use Rattle.script.specs.ReadContract.{Reads, unbound, twice, too-deep, too-many-words, too_large, accepted}

-- The text t is a script whose lines stand in the words s, its dictionary stands in low and high, and the table old has room.
pub record Grammar (t old s low high : List ℕ) (words lines count : ℕ) (apply : Bool) : Type 0 where
  pub room : table_words ≤ length old
  pub some : length t ≡ 0 → ⊥
  pub short : length t ≤ 4096
  pub dict : Dictionary t low high count apply
  pub ls : List Line
  pub e : Src
  pub script : read_script operators t ≡ done ls
  pub joined : join ls ≡ done e
  pub stands : Stands s words lines ls
  pub few : words ≤ 4096
  pub rows : lines ≤ 4096

-- and its variables are bound
pub record Scoped (t old s low high : List ℕ) (words lines count : ℕ) (apply : Bool) : Type 0 where
  pub grammar : Grammar t old s low high words lines count apply
  pub scoped : bound [] grammar.e ≡ true

-- and its lists name nothing twice
pub record Sound (t old s low high : List ℕ) (words lines count : ℕ) (apply : Bool) : Type 0 where
  pub grammar : Grammar t old s low high words lines count apply
  pub scoped : bound [] grammar.e ≡ true
  pub lists : single grammar.e ≡ true

module _ (t old s low high : List ℕ) (words lines count : ℕ) (apply : Bool) where
  module _ (g : Grammar t old s low high words lines count apply) where
    lined : GrammaticalLines (length (dictionary t)) g.ls
    lined = ((script-exact t g.ls).0 g.script).0

    fewer : length (dictionary t) ≤ 4000
    fewer = omega (arith, g.dict.room, g.dict.held.counted)

    bound-is : (b : Bool) → AllBound s words lines b → b ≡ bound [] g.e
    unfolding AllBound
    bound-is b a = a g.ls g.e (length (dictionary t)) g.stands g.joined fewer lined

    single-is : (b : Bool) → Single s words lines b → b ≡ single g.e
    unfolding Single
    single-is b a = a g.ls g.e (length (dictionary t)) g.stands g.joined fewer lined

    size_is : (n : ℕ) → Size s words lines n → n ≡ size g.e
    unfolding Size
    size_is n a = a g.ls g.e g.stands g.joined

  pub not-bound : Grammar t old s low high words lines count apply → (b : Bool) → AllBound s words lines b → b ≡ false → Reads t old (Err C.Unbound) old
  not-bound g b a f = unbound t old g.room g.some g.short g.ls g.e g.script g.joined (sym (bound-is g b a) ∙ f)

  pub is_bound : Grammar t old s low high words lines count apply → (b : Bool) → AllBound s words lines b → b ≡ true → Scoped t old s low high words lines count apply
  is_bound g b a f = record { grammar = g; scoped = sym (bound-is g b a) ∙ f }

  pub not-single : Scoped t old s low high words lines count apply → (b : Bool) → Single s words lines b → b ≡ false → Reads t old (Err C.Repeated) old
  not-single h b a f = let g = h.grammar in twice t old g.room g.some g.short g.ls g.e g.script g.joined h.scoped (sym (single-is g b a) ∙ f)

  pub is-single : Scoped t old s low high words lines count apply → (b : Bool) → Single s words lines b → b ≡ true → Sound t old s low high words lines count apply
  is-single h b a f = record { grammar = h.grammar; scoped = h.scoped; lists = sym (single-is h.grammar b a) ∙ f }

  pub deep : Sound t old s low high words lines count apply → (n : ℕ) → n ≡ depth t → 32 < n → Reads t old (Err C.Oversized) old
  deep h n e l =
      let g = h.grammar in
      too-deep t old g.room g.some g.short g.ls g.e g.script g.joined h.scoped h.lists (omega arith)

  pub many : Sound t old s low high words lines count apply → (n : ℕ) → n ≡ count + (if apply then 1 else 0) → 64 < n → Reads t old (Err C.Oversized) old
  many h n e l =
      let g = h.grammar in
      too-many-words t old g.room g.some g.short g.ls g.e g.script g.joined h.scoped h.lists (omega (arith, g.dict.total))

  pub large : Sound t old s low high words lines count apply → (n : ℕ) → Size s words lines n → 512 < n → Reads t old (Err C.Oversized) old
  large h n a l =
      let g = h.grammar in
      let z = size_is g n a in
      too_large t old g.room g.some g.short g.ls g.e g.script g.joined h.scoped h.lists (omega arith)

  -- within the limits the table fits
  module _ (h : Sound t old s low high words lines count apply) (n : ℕ) (c : n ≡ count + (if apply then 1 else 0)) (l : n ≤ 64) where
    pub few-names : count ≤ 64
    few-names = omega arith

    dictionary-within : length (dictionary t) ≤ 64
    dictionary-within = omega (arith, h.grammar.dict.held.counted)

    module _ (z : ℕ) (a : Size s words lines z) (k : z ≤ 512) where
      long : length (flat encode_line h.grammar.ls) ≤ lines_size × (length h.grammar.ls ≤ 512)
      long =
          let g = h.grammar in
          let e = size_is g z a in
          let q = lines-length g.ls g.e g.joined in
          (omega (arith, q.0), omega (arith, q.1))

      pub few_words_lem : words ≤ lines_size
      few_words_lem =
          let g = h.grammar in
          let e = ap length (narrow-lines g.ls (length (dictionary t)) dictionary-within (lined g)) in
          let w = length-narrow (wide_lines g.ls) in
          omega (arith, g.stands.used, long.0)

      numbers : Numbers low high (dictionary t)
      unfolding low_part high_part
      numbers =
          let d = h.grammar.dict.held in
          record {
            low-is = λ i j. d.lows i (omega (arith, d.counted));
            high_is = λ i j. d.highs i (omega (arith, d.counted));
          }

      pub table_done : (new : List ℕ) (m : ℕ) → m ≡ depth t → m ≤ 32 → Written s words lines low high count old new → Reads t old (Ok tt) new
      unfolding Written
      table_done new m e p w =
          let g = h.grammar in
          let y = size_is g z a in
          accepted t old g.room g.some g.short g.ls g.e g.script g.joined new h.scoped h.lists (omega arith) (omega (arith, g.dict.total)) (omega arith)
          (w (dictionary t) g.ls g.dict.held.counted numbers g.stands (lined g))

-- a line has a word at least
src-some : (e : Src) → 1 ≤ length (wide_src e)
unfolding wide_src
src-some (Src.num n) = omega arith
src-some Src.null = omega arith
src-some (Src.var x) = omega arith
src-some (Src.op o es) = omega arith
src-some (Src.let_in x e d) = omega arith
src-some (Src.future x y e) = omega arith
src-some (Src.fn x e) = omega arith
src-some (Src.when e x d) = omega arith
src-some (Src.literal k fs ms) = omega arith

line-some : (l : Line) → 1 ≤ length (wide_line l)
unfolding wide_line
line-some (expression e) = src-some e
line-some (define x e) = omega arith

pub rows-within : (ls : List Line) → length ls ≤ length (wide_lines ls)
unfolding wide_lines flat
rows-within [] = omega arith
rows-within (l ∷ ls) = omega (arith, line-some l, rows-within ls, length-append (wide_line l) (flat wide_line ls))

-- ---- before the grammar
-- the table has room and the text a length that is allowed
pub record Sized (t old : List ℕ) : Type 0 where
  pub room : table_words ≤ length old
  pub some : length t ≡ 0 → ⊥
  pub short : length t ≤ 4096

pub ruleset laws = (rules, not-bound, is_bound, not-single, is-single, deep, many, large, few-names, few_words_lem, table_done)
