-- A table's words are written region by region: the head, the dictionary, zeros, the lines, zeros. Each loop's invariant is that
-- what is left to write, written, gives what was asked. Assumes nothing.
use Rattle.std.specs.Prelude.{ℕ, suc, ◌+◌, ◌-◌, ◌*◌, ◌/◌, ◌%◌, ◌≤◌, ◌<◌, ◌≡◌, refl, List, [], ◌∷◌, ◌++◌, length, get_or, set, take, drop, replicate}
use Rattle.std.proofs.Math.Path.{sym}
use Rattle.std.proofs.Common.{ap, ◌∙◌, add-one, append_assoc, arith, rules, drop_of_length-le, drop-cons, drop-drop, length-drop, length-take-le}
use borrow.Author.Tests.{eq-eqb, ne_eqb}
use Rattle.std.proofs.lemmas.List.Edits.{sets, sets-eq}
use Rattle.std.proofs.lemmas.List.{length-replicate}
use borrow.Rule.Slice.PartMut.{put_mid}
use Rattle.std.proofs.Math.Seq.{slice, slice-cons, slice_empty}
use Rattle.atlite.specs.Lexicon.{Bytes}
use Rattle.layout.specs.Numbers.{payload, method_unit, name_limit, no_name, tagged_limit, lines_at}
use Rattle.layout.specs.Pack.{zeros, flat}
use Rattle.layout_laws.specs.PackLaws.{pack-low, pack-high}
use Rattle.layout.specs.Layout.{bytes_number, three_words, encode_word}
use Rattle.words.specs.Wide.{wide_kinds, wide_limit, wide_params_at, wide_third}
use Rattle.checks.specs.Narrow.{table_word, placed, method_word, pair_word, narrow_by, narrow, narrow_all}

pub record Placed (x r : ℕ) : Type 0 where
  pub is : r ≡ placed x
  pub within : r ≤ x + no_name

pub record MethodWord (p r : ℕ) : Type 0 where
  pub is : r ≡ method_word p

pub placed-none : (x : ℕ) → x ≡ 0 → Placed x no_name
unfolding placed
placed-none x e = record { is = rw (eq-eqb x 0 e); within = omega arith }

pub placed-some : (x : ℕ) → (x ≡ 0 → ⊥) → Placed x x
unfolding placed
placed-some x e = record { is = rw (ne_eqb x 0 e); within = omega arith }

pub table-word : (k p : ℕ) → p % payload + payload * k ≡ table_word k p
unfolding table_word
table-word k p = refl

pub method-word : (p x y z : ℕ) → Placed (p / wide_params_at % wide_limit) x → Placed (p / wide_params_at / wide_limit % wide_limit) y → Placed (p / wide_params_at / wide_third % wide_limit) z
    → MethodWord p ((p % wide_limit + name_limit * (p / wide_limit % 4 + 4 * (x + name_limit * (y + name_limit * z)))) % method_unit + 3 * method_unit)
unfolding method_word
method-word p x y z hx hy hz = record { is = rw (hx.is, hy.is, hz.is) }

module _ (h r : ℕ) where
  pub narrow-future : h % wide_kinds ≡ 12 → r ≡ table_word (h % wide_kinds) (h / wide_kinds % wide_limit + name_limit * (h / wide_kinds / wide_limit % wide_limit)) → r ≡ narrow h
  unfolding narrow narrow_by pair_word
  narrow-future e i = i ∙ rw e

  sent : narrow_by (h % wide_kinds) (h / wide_kinds) ≡ pair_word tagged_limit (h % wide_kinds) (h / wide_kinds) → r ≡ table_word (h % wide_kinds) (h / wide_kinds % wide_limit + tagged_limit * (h / wide_kinds / wide_limit % wide_limit)) → r ≡ narrow h
  unfolding narrow pair_word
  sent e i = i ∙ sym e

  pub narrow-call : h % wide_kinds ≡ 13 → r ≡ table_word (h % wide_kinds) (h / wide_kinds % wide_limit + tagged_limit * (h / wide_kinds / wide_limit % wide_limit)) → r ≡ narrow h
  unfolding narrow_by
  narrow-call e = sent (rw e)

  pub narrow-send : h % wide_kinds ≡ 14 → r ≡ table_word (h % wide_kinds) (h / wide_kinds % wide_limit + tagged_limit * (h / wide_kinds / wide_limit % wide_limit)) → r ≡ narrow h
  unfolding narrow_by
  narrow-send e = sent (rw e)

  pub narrow-ask : h % wide_kinds ≡ 64 → r ≡ table_word (h % wide_kinds) (h / wide_kinds % wide_limit + tagged_limit * (h / wide_kinds / wide_limit % wide_limit)) → r ≡ narrow h
  unfolding narrow_by
  narrow-ask e = sent (rw e)

  pub narrow-method : h % wide_kinds ≡ 192 → MethodWord (h / wide_kinds) r → r ≡ narrow h
  unfolding narrow narrow_by
  narrow-method e i = i.is ∙ rw e

  pub narrow-other : (h % wide_kinds ≡ 12 → ⊥) → (h % wide_kinds ≡ 13 → ⊥) → (h % wide_kinds ≡ 14 → ⊥) → (h % wide_kinds ≡ 64 → ⊥) → (h % wide_kinds ≡ 192 → ⊥) → r ≡ table_word (h % wide_kinds) (h / wide_kinds) → r ≡ narrow h
  unfolding narrow narrow_by
  narrow-other a b c d e i = i ∙ rw (ne_eqb (h % wide_kinds) 12 a, ne_eqb (h % wide_kinds) 13 b, ne_eqb (h % wide_kinds) 14 c, ne_eqb (h % wide_kinds) 64 d, ne_eqb (h % wide_kinds) 192 e)

-- ---- regions
unfoldable pub Cleared : List ℕ → ℕ → ℕ → List ℕ → Type 0
Cleared old a b new = new ≡ sets old a (zeros (b - a))

unfoldable pub LinesPut : List ℕ → List ℕ → ℕ → List ℕ → Type 0
LinesPut old s words new = words ≤ length s → new ≡ sets old lines_at (narrow_all (take words s))

-- the k-th word's number is that of its bytes
pub record Numbers (low high : List ℕ) (ws : List Bytes) : Type 0 where
  pub low-is : (k : ℕ) → k < length ws → get_or low k 0 ≡ bytes_number (get_or ws k []) % 18446744073709551616
  pub high_is : (k : ℕ) → k < length ws → get_or high k 0 ≡ bytes_number (get_or ws k []) / 18446744073709551616

unfoldable pub WordsPut : List ℕ → List ℕ → List ℕ → ℕ → List ℕ → Type 0
WordsPut old low high count new = (ws : List Bytes) → count ≡ length ws → Numbers low high ws → new ≡ sets old 3 (flat encode_word ws)

unfoldable pub WordPut : List ℕ → ℕ → ℕ → ℕ → List ℕ → Type 0
WordPut old at low high new = new ≡ sets old at (low % 4294967296 ∷ low / 4294967296 ∷ high ∷ [])

-- a part of the words that is filled with zeros
pub cleared : (old : List ℕ) (a b : ℕ) (new : List ℕ) → a ≤ b → b ≤ length old → new ≡ replicate (length (take (b - a) (drop a old))) 0 → Cleared old a b (put_mid a (b - a) old new)
unfolding Cleared zeros
cleared old a b new l h e =
    let zs : List ℕ = replicate (b - a) 0 in
    let n : length (take (b - a) (drop a old)) ≡ b - a = length-take-le (b - a) (drop a old) (omega (arith, length-drop a old)) in
    let z : length zs ≡ b - a = length-replicate {A = ℕ} (b - a) 0 in
    rw (e, n, drop-drop (b - a) a old)
    (sym (sets-eq zs old a (omega (arith, z)) ∙ rw z (append_assoc (take a old) zs (drop (a + (b - a)) old))))

-- ---- the lines
unfoldable pub Lining : List ℕ → List ℕ → ℕ → List ℕ → ℕ → Type 0
Lining old s words new i = words ≤ length s → sets new (lines_at + i) (narrow_all (slice i words s)) ≡ sets old lines_at (narrow_all (take words s))

pub line-start : (old s : List ℕ) (words : ℕ) → Lining old s words old 0
unfolding Lining
line-start old s words l = refl

pub line_on : (old s : List ℕ) (words : ℕ) (new : List ℕ) (i v : ℕ) (next : List ℕ) → Lining old s words new i → i < words → v ≡ narrow (get_or s i 0) → next ≡ set new (lines_at + i) v → Lining old s words next (i + 1)
unfolding Lining narrow_all
line_on old s words new i v next h l ev en b =
    let e : lines_at + (i + 1) ≡ suc (lines_at + i) = omega arith in
    let p : narrow_all (slice i words s) ≡ narrow (get_or s i 0) ∷ narrow_all (slice (suc i) words s) = ap narrow_all (slice-cons i words s 0 l b) in
    rw (en, ev, e, add-one i) (ap (sets new (lines_at + i)) (sym p) ∙ h b)

pub line-done : (old s : List ℕ) (words : ℕ) (new : List ℕ) (i : ℕ) → Lining old s words new i → i ≤ words → words ≤ i → LinesPut old s words new
unfolding Lining LinesPut narrow_all
line-done old s words new i h a z b =
    let e : i ≡ words = omega arith in
    ap (λ w. sets new (lines_at + i) (narrow_all w)) (sym (ap (λ j. slice j words s) e ∙ slice_empty words s)) ∙ h b

-- ---- the dictionary
pub word-put : (old : List ℕ) (at low high a b : ℕ) (l₁ l₂ l₃ : List ℕ) → a ≡ low % 4294967296 → l₁ ≡ set old at a → b ≡ low / 4294967296 → l₂ ≡ set l₁ (at + 1) b
    → l₃ ≡ set l₂ (at + 2) high → WordPut old at low high l₃
unfolding WordPut
word-put old at low high a b l₁ l₂ l₃ ea e₁ eb e₂ e₃ =
    let p : at + 1 ≡ suc at = omega arith in
    let q : at + 2 ≡ suc (suc at) = omega arith in
    rw (e₃, e₂, e₁, ea, eb, p, q)

three : (n low high : ℕ) → low ≡ n % 18446744073709551616 → high ≡ n / 18446744073709551616
    → ◌≡◌ {A = List ℕ} (low % 4294967296 ∷ low / 4294967296 ∷ high ∷ []) (three_words n)
unfolding three_words
three n low high e f =
    let c : high ≡ n / 4294967296 / 4294967296 = omega arith in
    let d : low ≡ n % 4294967296 + 4294967296 * (n / 4294967296 % 4294967296) = omega arith in
    let a : low % 4294967296 ≡ n % 4294967296 = ap (λ k. k % 4294967296) d ∙ pack-low 4294967296 (n % 4294967296) _ (omega arith) in
    let b : low / 4294967296 ≡ n / 4294967296 % 4294967296 = ap (λ k. k / 4294967296) d ∙ pack-high 4294967296 (n % 4294967296) _ (omega arith) in
    rw (a, b, c)

unfoldable pub Wording : List ℕ → List ℕ → List ℕ → ℕ → List ℕ → ℕ → Type 0
Wording old low high count new k = (ws : List Bytes) → count ≡ length ws → Numbers low high ws → sets new (3 * k + 3) (flat encode_word (drop k ws)) ≡ sets old 3 (flat encode_word ws)

pub word-start : (old low high : List ℕ) (count : ℕ) → Wording old low high count old 0
unfolding Wording
word-start old low high count ws e n = refl

pub word_on : (old low high : List ℕ) (count : ℕ) (new : List ℕ) (k : ℕ) (next : List ℕ) → Wording old low high count new k → k < count → WordPut new (3 * k + 3) (get_or low k 0) (get_or high k 0) next → Wording old low high count next (k + 1)
unfolding Wording WordPut flat encode_word
word_on old low high count new k next h l p ws e n =
    let z : k < length ws = omega arith in
    let t = three (bytes_number (get_or ws k [])) (get_or low k 0) (get_or high k 0) (n.low-is k z) (n.high_is k z) in
    let q : 3 * (k + 1) + 3 ≡ suc (suc (suc (3 * k + 3))) = omega arith in
    rw (p, q, add-one k)
    (ap (λ w. sets new (3 * k + 3) (w ++ flat encode_word (drop (suc k) ws))) t
    ∙ ap (λ w. sets new (3 * k + 3) (flat encode_word w)) (sym (drop-cons ws k [] z)) ∙ h ws e n)

pub word-done : (old low high : List ℕ) (count : ℕ) (new : List ℕ) (k : ℕ) → Wording old low high count new k → count ≤ k → WordsPut old low high count new
unfolding Wording WordsPut flat
word-done old low high count new k h l ws e n =
    let z : length ws ≤ k = omega arith in
    ap (λ w. sets new (3 * k + 3) (flat encode_word w)) (sym (drop_of_length-le ws z)) ∙ h ws e n

pub ruleset laws = (rules, placed-none, placed-some, table-word, method-word, narrow-future, narrow-call, narrow-send, narrow-ask, narrow-method, narrow-other, word-put, word-start, word_on, word-done)

pub ruleset line_laws = (rules, line-start, line_on, line-done)
