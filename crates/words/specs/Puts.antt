-- Words put back into the slice that they are a part of. Assumes nothing.
use Rattle.std.specs.Prelude.{ℕ, ◌+◌, ◌-◌, ◌≤◌, ◌≡◌, List, ◌++◌, length, take, drop}
use Rattle.std.proofs.Common.{sym, ◌∙◌, append_assoc, arith, drop-drop}
use Rattle.std.proofs.lemmas.List.Edits.{sets, sets-eq}

-- a part of a slice that was lent, back with other words
pub put_back : (w x y : List ℕ) (at : ℕ) → at + length x ≤ length w → y ≡ x → take at w ++ (y ++ drop (at + length x - at) (drop at w)) ≡ sets w at x
put_back w x y at h e =
    let d : at + (at + length x - at) ≡ at + length x = omega arith in
    rw (e, drop-drop (at + length x - at) at w, d) (sym (sets-eq x w at h ∙ append_assoc (take at w) x (drop (at + length x) w)))

pub ruleset laws = (put_back)
