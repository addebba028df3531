-- What was put into a word or a place is got back, and a region has its length. By induction on the list that was put there.
-- Assumes nothing.
use Rattle.std.specs.Prelude.{ℕ, suc, ◌+◌, ◌-◌, ◌*◌, ◌≤◌, ◌<◌, ◌/◌, ◌%◌, ◌≡◌, refl, List, [], ◌∷◌, ◌++◌, length, take, drop}
use Rattle.std.proofs.Common.{ap, ◌∙◌, append_assoc, mod-eq_of_lt, arith, length-append, take_at, drop_at}
use Rattle.std.proofs.Math.Nat.{add-mul-mod_self_left, add-mul-div_left, div-eq_of_lt}
use Rattle.std.proofs.lemmas.List.{length-replicate}
use Rattle.layout.specs.Numbers.{name_limit, no_name, tag_limit, tagged_limit, places_limit, names_limit}
use Rattle.layout.specs.Pack.{zeros, pad, flat, names, places}
use Rattle.decoding.specs.Reading.{cut, names_in}

-- ---- two digits of one number
pub pack-low : (m a b : ℕ) → a < m → (a + m * b) % m ≡ a
pack-low m a b h = add-mul-mod_self_left a m b ∙ mod-eq_of_lt h

pub pack-high : (m a b : ℕ) → a < m → (a + m * b) / m ≡ b
pack-high m a b h = let p : 0 < m = omega arith in add-mul-div_left a b p ∙ rw (div-eq_of_lt h) (omega arith)

-- three digits, as a message's name, its tag and a count stand
module _ (x t n : ℕ) (h : x < name_limit) (l : t < 4) where
  nested : x + name_limit * t + tagged_limit * n ≡ x + name_limit * (t + 4 * n)
  nested = omega arith

  pub first-digit : (x + name_limit * t + tagged_limit * n) % name_limit ≡ x
  first-digit = ap (λ w. w % name_limit) nested ∙ pack-low name_limit x (t + 4 * n) h

  others : (x + name_limit * t + tagged_limit * n) / name_limit ≡ t + 4 * n
  others = ap (λ w. w / name_limit) nested ∙ pack-high name_limit x (t + 4 * n) h

  pub second-digit : (x + name_limit * t + tagged_limit * n) / name_limit % tag_limit ≡ t
  second-digit = ap (λ w. w % 4) others ∙ pack-low 4 t n l

  pub third-digit : (x + name_limit * t + tagged_limit * n) / name_limit / tag_limit ≡ n
  third-digit = ap (λ w. w / 4) others ∙ pack-high 4 t n l

-- ---- regions
pub length-zeros : (n : ℕ) → length (zeros n) ≡ n
unfolding zeros
length-zeros n = length-replicate n 0

pub length-pad : (n : ℕ) (xs : List ℕ) → length xs ≤ n → length (pad n xs) ≡ n
unfolding pad
length-pad n xs h = length-append xs (zeros (n - length xs)) ∙ rw (length-zeros (n - length xs)) (omega arith)

-- what a region begins with
pub pad-front : (n : ℕ) (xs r : List ℕ) → pad n xs ++ r ≡ xs ++ (zeros (n - length xs) ++ r)
unfolding pad
pad-front n xs r = append_assoc xs _ r

pub take-pad : (n : ℕ) (xs r : List ℕ) → length xs ≤ n → take n (pad n xs ++ r) ≡ pad n xs
take-pad n xs r h = take_at (pad n xs) r n (length-pad n xs h)

pub drop-pad : (n : ℕ) (xs r : List ℕ) → length xs ≤ n → drop n (pad n xs ++ r) ≡ r
drop-pad n xs r h = drop_at (pad n xs) r n (length-pad n xs h)

-- ---- a property of each element
abbrev pub Each : {A : Type 0} → (A → Type 0) → List A → Type 0
Each P [] = Unit {0}
Each P (x ∷ xs) = P x × Each P xs

pub each_map : {A : Type 0} (P Q : A → Type 0) → ((x : A) → P x → Q x) → (xs : List A) → Each P xs → Each Q xs
each_map P Q f [] h = tt
each_map P Q f (x ∷ xs) h = (f x h.0, each_map P Q f xs h.1)

pub each_append : {A : Type 0} (P : A → Type 0) (xs ys : List A) → Each P xs → Each P ys → Each P (xs ++ ys)
each_append P [] ys h k = k
each_append P (x ∷ xs) ys h k = (h.0, each_append P xs ys h.1 k)

-- ---- equal parts
pub length-flat : {A : Type 0} (g : A → List ℕ) (s : ℕ) (xs : List A) → Each (λ x. length (g x) ≡ s) xs → length (flat g xs) ≡ length xs * s
unfolding flat
length-flat g s [] h = omega arith
length-flat g s (x ∷ xs) h =
    let i = length-flat g s xs h.1 in
    let j = h.0 in
    length-append (g x) (flat g xs) ∙ omega arith

pub cut-flat : {A : Type 0} (g : A → List ℕ) (f : List ℕ → A) (s : ℕ) (xs : List A) (r : List ℕ)
    → Each (λ x. (length (g x) ≡ s) × (f (g x) ≡ x)) xs → cut f s (length xs) (flat g xs ++ r) ≡ xs
unfolding cut flat
cut-flat g f s [] r h = refl
cut-flat g f s (x ∷ xs) r h =
    let e : (g x ++ flat g xs) ++ r ≡ g x ++ (flat g xs ++ r) = append_assoc (g x) (flat g xs) r in
    rw (e, take_at (g x) (flat g xs ++ r) s h.0.0, drop_at (g x) (flat g xs ++ r) s h.0.0, h.0.1, cut-flat g f s xs r h.1)

-- ---- names
-- 127 is no name
abbrev pub NameFits : ℕ → Type 0
NameFits x = x < no_name

name_in_lem : (n x r : ℕ) (xs : List ℕ) → NameFits x → names_in n r ≡ xs → names_in (suc n) (x + name_limit * r) ≡ x ∷ xs
unfolding names_in
name_in_lem n x r xs h e = let l : x < name_limit = omega (arith, h) in rw (pack-low name_limit x r l, pack-high name_limit x r l, e)

name-last : (x : ℕ) → NameFits x → names_in 1 x ≡ x ∷ []
unfolding names_in
name-last x h = let l : x < name_limit = omega (arith, h) in rw (mod-eq_of_lt l)

pub names-back : (xs : List ℕ) → Each NameFits xs → names_in (length xs) (names xs) ≡ xs
unfolding names names_in
names-back [] h = refl
names-back (x ∷ xs) h = name_in_lem (length xs) x (names xs) xs h.0 (names-back xs h.1)

pub places-back : (xs : List ℕ) → length xs ≤ 3 → Each NameFits xs → names_in (length xs) (places xs) ≡ xs
unfolding places names_in
places-back [] l h = refl
places-back (x ∷ []) l h = name_in_lem 0 x (no_name + name_limit * no_name) [] h.0 refl
places-back (x ∷ y ∷ []) l h = name_in_lem 1 x _ (y ∷ []) h.0 (name_in_lem 0 y no_name [] h.1.0 refl)
places-back (x ∷ y ∷ z ∷ []) l h = name_in_lem 2 x _ (y ∷ z ∷ []) h.0 (name_in_lem 1 y _ (z ∷ []) h.1.0 (name-last z h.1.1.0))
places-back (x ∷ y ∷ z ∷ u ∷ xs) l h = absurd (omega arith)

-- three names in 21 bits, empty places too
pub places-small : (xs : List ℕ) → length xs ≤ 3 → Each NameFits xs → places xs < places_limit
unfolding places
places-small [] l h = omega arith
places-small (x ∷ []) l h = omega (arith, h.0)
places-small (x ∷ y ∷ []) l h = omega (arith, h.0, h.1.0)
places-small (x ∷ y ∷ z ∷ []) l h = omega (arith, h.0, h.1.0, h.1.1.0)
places-small (x ∷ y ∷ z ∷ u ∷ xs) l h = absurd (omega arith)

-- four names in 28 bits
pub names-small : (xs : List ℕ) → length xs ≤ 4 → Each NameFits xs → names xs < names_limit
unfolding names
names-small [] l h = omega arith
names-small (x ∷ []) l h = omega (arith, h.0)
names-small (x ∷ y ∷ []) l h = omega (arith, h.0, h.1.0)
names-small (x ∷ y ∷ z ∷ []) l h = omega (arith, h.0, h.1.0, h.1.1.0)
names-small (x ∷ y ∷ z ∷ u ∷ []) l h = omega (arith, h.0, h.1.0, h.1.1.0, h.1.1.1.0)
names-small (x ∷ y ∷ z ∷ u ∷ t ∷ xs) l h = absurd (omega arith)
