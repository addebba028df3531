-- The bytes of one read more follow those of the reads before.
use Rattle.std.proofs.Common.{arith, ℕ, ◌+◌, ◌-◌, ◌≡◌, List, ◌++◌, take, drop, slice_range, ap, sym, ◌∙◌, subst}
use Rattle.std.proofs.Math.Seq.{take-add}
use Rattle.std.proofs.KnownBytes.{Consumes-trans}
use Rattle.std.specs.Io.KnownBytes.{Consumes}
use Rattle.input.proofs.read_all.Goals as goal

take_longer : (a n : ℕ) (old new : List ℕ) → take a new ≡ take a old → take a old ++ slice_range new a (a + n) ≡ take (a + n) new
take_longer a n old new front =
    let same : (a + n) - a ≡ n = omega arith in
    ap (λ l. l ++ slice_range new a (a + n)) (sym front) ∙ ap (λ k. take a new ++ take k (drop a new)) same ∙ sym (take-add a n new)

pub loop-at-preserved-in-Some : goal.loop-at-preserved-in-Some
loop-at-preserved-in-Some g c =
    let read = c.in-Some.ensures.given in (
      omega (arith, read.0, c.get.auto.buffer),
      subst (Consumes _ _) (take_longer _ _ _ _ c.get.ensures.front) (Consumes-trans _ _ _ _ _ c.loop-at.invariant.1 read.1.0),
    )
