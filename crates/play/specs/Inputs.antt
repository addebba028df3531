-- A program may stop reading at 8,194 bytes: the longest input that is not refused has 8,193, a line of 4,096 bytes, its end and a script of
-- 4,096 bytes, and what is longer is refused for what stands in front. One law of the line and the script serves both programs. Assumes nothing.
use Rattle.std.specs.Prelude.{ℕ, zero, suc, ◌+◌, ◌-◌, ◌≤◌, ◌<◌, ◌≡◌, refl, Bool, true, false, List, [], ◌∷◌, length, take, eqb, leb, ltb, if◌then◌else◌}
use Rattle.std.proofs.Common.{sym, ap, ◌∙◌, arith, lt-ltb, le-ltb, ltb-true, ltb-false, leb-true, leb-false, length-take, take_all}
use Rattle.std.proofs.Math.Option.{Option, none, some}
use Rattle.std.proofs.lemmas.Bool.{lt-leb}
use Rattle.atlite.specs.Base.{Result, refused, ◌>>=◌, or_refuse, require}
use Rattle.atlite.specs.Lexicon.{Bytes, newline}
use Rattle.atlite.specs.Table.{read}
use Rattle.atlite.specs.Run.{run}
use Rattle.atlite.specs.Program.{Input, longer, split, short, started, listed, shown}
use Rattle.atlite.specs.Loops.{schedule, played, loops}
use Rattle.atlite.specs.Replay.{tokens, calls, replayed, told, told_of, replay}
use Rattle.input_line.specs.Limits.{longest, script_most, input_room}

-- what is left of an input that is cut off behind k bytes: its line, if that ends before
abbrev kept : ℕ → Input → Input
kept k i = record { line = i.line; script = take (k - (length i.line + 1)) i.script }

unfoldable shorter : ℕ → Input → Bool → Option Input
shorter k i true = some (kept k i)
shorter k i false = none

unfoldable cut : ℕ → Option Input → Option Input
cut k none = none
cut k (some i) = shorter k i (ltb (length i.line) k)

cut-longer : (b k : ℕ) (o : Option Input) → longer b (cut k o) ≡ cut (suc k) (longer b o)
unfolding cut shorter longer
cut-longer b k none = refl
cut-longer b k (some i) = go (ltb (length i.line) k) refl
  where
    go : (c : Bool) → ltb (length i.line) k ≡ c → longer b (cut k (some i)) ≡ cut (suc k) (longer b (some i))
    go true e =
        let z : suc k - (suc (length i.line) + 1) ≡ k - (length i.line + 1) = omega arith in
        rw (e, lt-ltb (suc (length i.line)) (suc k) (omega (arith, ltb-true (length i.line) k e)), z)
    go false e = rw (e, le-ltb (suc (length i.line)) (suc k) (omega (arith, ltb-false (length i.line) k e)))

-- the first byte is kept
split_step : (b : ℕ) (w : List ℕ) (k : ℕ) → split (take k w) ≡ cut k (split w) → split (b ∷ take k w) ≡ cut (suc k) (split (b ∷ w))
unfolding split cut shorter
split_step b w k h = go (eqb b newline)
  where
    first : List ℕ → Bool → Option Input
    first t c = if c then some (record { line = []; script = t }) else longer b (split t)

    go : (c : Bool) → first (take k w) c ≡ cut (suc k) (first w c)
    go true = let z : suc k - (0 + 1) ≡ k = omega arith in rw (lt-ltb 0 (suc k) (omega arith), z)
    go false = ap (longer b) h ∙ cut-longer b k (split w)

split-take : (w : List ℕ) (k : ℕ) → split (take k w) ≡ cut k (split w)
unfolding split cut shorter
split-take [] zero = refl
split-take [] (suc k) = refl
split-take (b ∷ w) zero = go (split (b ∷ w))
  where
    go : (o : Option Input) → none ≡ cut 0 o
    go none = refl
    go (some i) = rw (le-ltb (length i.line) 0 (omega arith))
split-take (b ∷ w) (suc k) = split_step b w k (split-take w k)

-- ---- what both programs look at
-- The two inputs begin with the same line, or with none, and their scripts start alike.
data Alike : Option Input → Option Input → Type 0 where
  neither : Alike none none
  both : (i j : Input) → i.line ≡ j.line → started i.script ≡ started j.script → Alike (some i) (some j)

started-long : (t : Bytes) → script_most < length t → started t ≡ refused 1
unfolding started read require
started-long t h = rw (lt-ltb 0 (length t) (omega arith), lt-leb (length t) script_most h)

-- of a script behind a line that is not too long all is kept, or too much
started-kept : (i : Input) → length i.line ≤ longest → started (kept input_room i).script ≡ started i.script
started-kept i h = go (leb (length i.script) script_most) refl
  where
    k : ℕ
    k = input_room - (length i.line + 1)

    go : (c : Bool) → leb (length i.script) script_most ≡ c → started (take k i.script) ≡ started i.script
    go true d = ap started (take_all k i.script (omega (arith, leb-true (length i.script) script_most d)))
    go false d =
        let l : script_most < length i.script = leb-false (length i.script) script_most d in
        started-long (take k i.script) (omega (arith, length-take k i.script)) ∙ sym (started-long i.script l)

cut-alike : (o : Option Input) → Alike (short (cut input_room o)) (short o)
unfolding cut shorter short
cut-alike none = neither
cut-alike (some i) = go (leb (length i.line) longest) refl
  where
    go : (c : Bool) → leb (length i.line) longest ≡ c → Alike (short (cut input_room (some i))) (short (some i))
    go true d =
        let l : length i.line ≤ longest = leb-true (length i.line) longest d in
        rw (lt-ltb (length i.line) input_room (omega arith), d) (both (kept input_room i) i refl (started-kept i l))
    go false d = by (ltb (length i.line) input_room) refl
      where
        by : (e : Bool) → ltb (length i.line) input_room ≡ e → Alike (short (cut input_room (some i))) (short (some i))
        by true e = rw (e, d) neither
        by false e = rw (e, d) neither

input-take : (w : List ℕ) → Alike (short (split (take input_room w))) (short (split w))
input-take w = rw (split-take w input_room) (cut-alike (split w))

-- ---- the first 8,194 bytes decide what is written
pub loops-take : (w : List ℕ) → loops (take input_room w) ≡ loops w
unfolding loops played or_refuse
loops-take w = ap shown (go (short (split (take input_room w))) (short (split w)) (input-take w))
  where
    behind : Input → Result Bytes
    behind i = or_refuse 2 (schedule i.line) >>= λ es. (started i.script >>= λ σ. listed (run σ es).state)

    go : (o p : Option Input) → Alike o p → (or_refuse 2 o >>= behind) ≡ (or_refuse 2 p >>= behind)
    go o p neither = refl
    go o p (both i j e d) = rw (e, d)

pub replay-take : (w : List ℕ) → replay (take input_room w) ≡ replay w
unfolding replay told_of told replayed
replay-take w = go (short (split (take input_room w))) (short (split w)) (input-take w)
  where
    same : (t u : Bytes) → started t ≡ started u → (o : Option (List ℕ)) → told o t ≡ told o u
    same t u d none = refl
    same t u d (some es) = rw d

    go : (o p : Option Input) → Alike o p → told_of o ≡ told_of p
    go o p neither = refl
    go o p (both i j e d) = ap (λ l. told (calls (tokens l)) i.script) e ∙ same i.script j.script d (calls (tokens j.line))
