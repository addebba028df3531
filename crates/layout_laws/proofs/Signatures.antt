-- Two signatures as numbers are equal exactly if the signatures are, so that code compares one number where the definitions compare two.
-- Assumes nothing.
use Rattle.std.specs.Prelude.{ℕ, ◌+◌, ◌*◌, ◌%◌, ◌/◌, ◌<◌, ◌≤◌, ◌≡◌, Bool, false, ◌&&◌, eqb, length, if◌then◌else◌}
use Rattle.std.proofs.Math.Path.{refl, ap₂}
use Rattle.std.proofs.Common.{sym, ap, ◌∙◌, arith, eqb-true, eq-eqb}
use Rattle.std.proofs.Math.Bool.{true, not}
use mathlib.Core.List.{List, [], ◌∷◌, map}
use Rattle.std.proofs.lemmas.Bool.{eqb-false}
use Rattle.atlite.specs.Base.{any, distinct_by, distinct}
use Rattle.atlite.specs.Term.{Signature, same_signature}
use Rattle.layout.specs.Numbers.{name_limit, tagged_limit, places_limit}
use Rattle.layout.specs.Pack.{places}
use Rattle.layout_laws.specs.Signatures.{signed, Below}
use Rattle.layout_laws.specs.PackLaws.{pack-low, pack-high, Each}
use Rattle.layout.specs.Terms.{method_header}

module _ (L : ℕ) where
  pub signed_same : (s t : Signature) → Below L s → Below L t → eqb (signed L s) (signed L t) ≡ same_signature s t
  signed_same s t i j = go (eqb (signed L s) (signed L t)) refl
    where
      differ : (a b : Bool) → eqb s.0 t.0 ≡ a → eqb s.1 t.1 ≡ b → (signed L s ≡ signed L t → ⊥) → false ≡ a && b
      differ true true x y d = absurd (d (ap₂ (λ m k. signed L (m, k)) (eqb-true s.0 t.0 x) (eqb-true s.1 t.1 y)))
      differ true false x y d = refl
      differ false b x y d = refl

      go : (b : Bool) → eqb (signed L s) (signed L t) ≡ b → b ≡ same_signature s t
      go true e =
          let q = eqb-true (signed L s) (signed L t) e in
          let m : s.0 ≡ t.0 = sym (pack-low L s.0 s.1 i) ∙ ap (λ n. n % L) q ∙ pack-low L t.0 t.1 j in
          let k : s.1 ≡ t.1 = sym (pack-high L s.0 s.1 i) ∙ ap (λ n. n / L) q ∙ pack-high L t.0 t.1 j in
          rw (eq-eqb s.0 t.0 m, eq-eqb s.1 t.1 k)
      go false e = differ (eqb s.0 t.0) (eqb s.1 t.1) refl refl (eqb-false (signed L s) (signed L t) e)

  pub signed-any : (s : Signature) (ss : List Signature) → Below L s → Each (Below L) ss → any (eqb (signed L s)) (map (signed L) ss) ≡ any (same_signature s) ss
  unfolding any
  signed-any s [] i h = refl
  signed-any s (t ∷ ss) i h = ap₂ (λ b r. if b then true else r) (signed_same s t i h.0) (signed-any s ss i h.1)

  pub signed-distinct : (ss : List Signature) → Each (Below L) ss → distinct (map (signed L) ss) ≡ distinct_by same_signature ss
  unfolding distinct_by
  signed-distinct [] h = refl
  signed-distinct (s ∷ ss) h = ap₂ (λ a d. not a && d) (signed-any s ss h.0 h.1) (signed-distinct ss h.1)

-- a method's header begins with its signature
pub header-signed : (m : ℕ) (xs : List ℕ) → m < name_limit → length xs ≤ 3 → method_header m xs % tagged_limit ≡ signed name_limit (m, length xs)
unfolding method_header
header-signed m xs h l =
    let r = places xs + places_limit * 3 in
    let e : m + name_limit * (length xs + 4 * r) ≡ (m + name_limit * length xs) + tagged_limit * r = omega arith in
    ap (λ n. n % tagged_limit) e ∙ pack-low tagged_limit (m + name_limit * length xs) r (omega arith)
