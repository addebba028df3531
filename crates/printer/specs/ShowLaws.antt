-- The laws of the function that shows lines: one for each way to return. Assumes nothing.
use Rattle.std.specs.Prelude.{◌≡◌, refl, drop}
use Rattle.std.proofs.Common.{sym, ◌∙◌, arith}
use Rattle.std.proofs.Math.Path.{ap, subst as transp}
use mathlib.Core.List.{List, [], ◌∷◌, ◌++◌, append-nil, append_assoc}
use Prim.Native.Nat.{ℕ, zero, suc, ◌-◌, ◌<◌}
use Rattle.std.proofs.Math.Numerals.{sub-one}
use Rattle.showing.specs.declared.writer.Writer.{Writer}
use Rattle.showing.specs.Put.{Put, put_none, then}
use Rattle.showing.specs.TextOfWords.{shown}
use Rattle.showing.specs.ShowContract.{Showed}
use Rattle.printer.specs.TextOfLines.{lines_in}
use Rattle.printer.specs.LineContract.{Lined}

module _ (t : List ℕ) (n : ℕ) where
  pub lines_start : {a : Writer} → Lined t n a n a 255
  lines_start = record { so = []; text = put_none; whole = refl }

  pub lines_more : {a b c d : Writer} (k at : ℕ) {i : ℕ} → 0 < k → Lined t n a k b at → Showed t (shown t 33 (drop at t)) b c i
      → Put c (10 ∷ []) d → Lined t n a (k - 1) d i
  unfolding lines_in
  lines_more zero at h a s p = absurd (omega arith)
  lines_more (suc k) at h a s p =
      let line = shown t 33 (drop at t) in
      rw sub-one (record {
        so = a.so ++ (line.text ++ (10 ∷ []));
        text = then a.text (then s.text p);
        whole = rw s.rest (append_assoc a.so _ _ ∙ ap {B = List ℕ} (λ l. a.so ++ l) (append_assoc line.text _ _) ∙ a.whole);
      })

  pub lines_end : {a b : Writer} (k at : ℕ) → k ≡ 0 → Lined t n a k b at → Put a (lines_in t n (drop 255 t)) b
  unfolding lines_in
  lines_end {a} {b} k at h s = transp (λ l. Put a l b) (sym (append-nil s.so) ∙ rw h at s.whole) s.text
