-- One word read alone, exactly: what is read of it fits and has just this word, and what fits is read of its word. A table of
-- choices is gone through once (`along-get_or`), each choice under its test. Assumes nothing.
use Rattle.std.specs.Prelude.{ℕ, zero, suc, ◌+◌, ◌*◌, ◌≤◌, ◌<◌, ◌/◌, ◌%◌, ◌≡◌, refl, Bool, true, false, List, [], ◌∷◌, eqb, ltb, length, get_or}
use Rattle.std.proofs.Common.{sym, ap, ◌∙◌, arith, ltb-true, eqb-true, lt-ltb}
use Rattle.std.proofs.Math.Option.{Option, none, some}
use Rattle.std.proofs.Math.Nat.{mod-add-div, div-div-eq-div-mul}
use Rattle.atlite.specs.Term.{Value, null, num, ref, Name, plain, two_way, resolve, register}
use Rattle.layout.specs.Numbers.{payload, field_kind, method_unit, name_limit, no_name, tag_limit, tagged_limit, second_place, third_place, places_limit, number_limit}
use Rattle.layout.specs.Pack.{node, places}
use Rattle.layout.specs.Terms.{series_bit, encode_value, tagged, asked, field_header, method_header}
use Rattle.decoding.specs.TermReading.{series_in, ref_in}
use Rattle.layout_laws.specs.PackLaws.{pack-low, pack-high, first-digit, second-digit, NameFits, Each, places-small}
use Rattle.layout_laws.specs.TermLaws.{ValueFits, NameOk}
use Rattle.layout_laws.specs.TermReads.{ref_back, bit}
use Rattle.layout_laws.specs.Parse.{given, value_forms, name_forms, place_forms, value_in, value_at, name_of, field_at, places_in, params_at, named, method_at}

-- ---- choices and tests
-- each element of a list at its place
abbrev pub Along : {A : Type 0} → (ℕ → A → Type 0) → List A → Type 0
Along P [] = Unit {0}
Along P (a ∷ l) = P 0 a × Along (λ k. P (suc k)) l

pub along-get_or : {A : Type 0} (P : ℕ → A → Type 0) (d : A) → ((k : ℕ) → P k d) → (l : List A) → Along P l → (k : ℕ) → P k (get_or l k d)
along-get_or P d z [] h k = z k
along-get_or P d z (a ∷ l) h zero = h.0
along-get_or P d z (a ∷ l) h (suc k) = along-get_or (λ i. P (suc i)) d (λ i. z (suc i)) l h.1 k

-- of what there is, if there is anything
abbrev pub Holding : {A : Type 0} → (A → Type 0) → Option A → Type 0
Holding P none = Unit {0}
Holding P (some a) = P a

pub holding : {A : Type 0} (P : A → Type 0) (o : Option A) (a : A) → Holding P o → o ≡ some a → P a
holding P o a h e = rw e at h

-- a test that the rest stands under
pub under : {A : Type 0} (P : A → Type 0) (b : Bool) (o : Option A) → (b ≡ true → Holding P o) → Holding P (given b o)
under P true o h = h refl
under P false o h = tt

under-lt : {A : Type 0} (P : A → Type 0) (m n : ℕ) (o : Option A) → (m < n → Holding P o) → Holding P (given (ltb m n) o)
under-lt P m n o h = under P (ltb m n) o (λ t. h (ltb-true m n t))

under-eq : {A : Type 0} (P : A → Type 0) (m n : ℕ) (o : Option A) → (m ≡ n → Holding P o) → Holding P (given (eqb m n) o)
under-eq P m n o h = under P (eqb m n) o (λ t. h (eqb-true m n t))

-- ---- kind and payload
pub word-node : (x : ℕ) → node (x / payload) (x % payload) ≡ x
word-node x = omega arith

pub payload-small : (x : ℕ) → x % payload < payload
payload-small x = omega arith

pub of_node : {A : Type 0} (f : ℕ → ℕ → A) (k p : ℕ) → p < payload → f (node k p / payload) (node k p % payload) ≡ f k p
of_node f k p h = rw (pack-low payload p k h, pack-high payload p k h)

-- ---- values
abbrev pub ValueWord : ℕ → Value → Type 0
ValueWord x v = ValueFits v × (encode_value v ≡ x)

ref-word : (p : ℕ) → p < payload → ValueWord (node 3 p) (ref_in p)
unfolding encode_value series_bit
ref-word p h = ((omega arith, omega arith), go (p / number_limit % 2) refl)
  where
    go : (b : ℕ) → p / number_limit % 2 ≡ b → p % number_limit + number_limit * (series_bit (series_in b) + 2 * (p / number_limit / 2)) + payload * 3 ≡ p + payload * 3
    go zero e = omega arith
    go (suc zero) e = omega arith
    go (suc (suc b)) e = absurd (omega arith)

pub value_in_lem : (k p : ℕ) → p < payload → Holding (ValueWord (node k p)) (value_in k p)
unfolding value_in encode_value
value_in_lem k p h =
    along-get_or (λ k. Holding (ValueWord (node k p))) none (λ k. tt) (value_forms p)
    (tt, (under-eq (ValueWord (node 1 p)) p 0 (some null) (λ e. (tt, omega arith)), ((h, refl), (ref-word p h, tt)))) k

pub value-word : (x : ℕ) → Holding (ValueWord x) (value_at x)
unfolding value_at
value-word x = rw (word-node x) at (value_in_lem (x / payload) (x % payload) (payload-small x))

pub value-sound : (x : ℕ) (v : Value) → value_at x ≡ some v → ValueFits v × (encode_value v ≡ x)
value-sound x v e = holding (ValueWord x) (value_at x) v (value-word x) e

pub value_read : (v : Value) → ValueFits v → value_at (encode_value v) ≡ some v
unfolding value_at value_in encode_value
value_read null h = refl
value_read (num n) h = of_node value_in 2 n h
value_read (ref a s n) h =
    let p = n + number_limit * (series_bit s + 2 * a) in
    let l : p < payload = omega (arith, h, bit s) in
    of_node value_in 3 p l ∙ ap some (ref_back a s n h)

-- ---- a message's name and its count
abbrev pub NameWord : ℕ → ℕ → Name → Type 0
NameWord t x m = NameOk m × (tagged m ≡ x + name_limit * t)

pub name-word : (t x : ℕ) → Holding (NameWord t x) (name_of t x)
unfolding name_of tagged
name-word t x =
    along-get_or (λ t. Holding (NameWord t x)) none (λ k. tt) (name_forms x) (
      under-lt (NameWord 0 x) x no_name (some (plain x)) (λ l. (l, refl)),
      (
        under-lt (NameWord 1 x) x no_name (some (two_way x)) (λ l. (l, refl)),
        (
          under-eq (NameWord 2 x) x 0 (some resolve) (λ e. (tt, omega arith)),
          (under-eq (NameWord 3 x) x 0 (some register) (λ e. (tt, omega arith)), tt),
        ),
      ),
    )
    t

pub name-read : (m : Name) (n : ℕ) → NameOk m → name_of (asked m n / name_limit % tag_limit) (asked m n % name_limit) ≡ some m
unfolding name_of tagged
name-read (plain m) n h = let l : m < name_limit = omega (arith, h) in rw (second-digit m 0 n l (omega arith), first-digit m 0 n l (omega arith), lt-ltb m no_name h)
name-read (two_way m) n h = let l : m < name_limit = omega (arith, h) in rw (second-digit m 1 n l (omega arith), first-digit m 1 n l (omega arith), lt-ltb m no_name h)
name-read resolve n h = rw (second-digit 0 2 n (omega arith) (omega arith), first-digit 0 2 n (omega arith) (omega arith))
name-read register n h = rw (second-digit 0 3 n (omega arith) (omega arith), first-digit 0 3 n (omega arith) (omega arith))

-- ---- headers
pub field-word : (x : ℕ) → Holding (λ f. NameFits f × (field_header f ≡ x)) (field_at x)
unfolding field_at
field-word x = under-eq _ (x / payload) field_kind _ (λ e. under-lt _ (x % payload) no_name (some (x % payload)) (λ l. (l, omega arith)))

pub field-read : (f : ℕ) → NameFits f → field_at (field_header f) ≡ some f
unfolding field_at
field-read f h = let l : f < payload = omega (arith, h) in rw (pack-low payload f field_kind l, pack-high payload f field_kind l, lt-ltb f no_name h)

-- the three places, each of which is a name or empty
abbrev pub PlacesAre : ℕ → ℕ → ℕ → ℕ → List ℕ → Type 0
PlacesAre n x y z xs = Each NameFits xs × (length xs ≤ 3) × (length xs ≡ n) × (places xs ≡ x + name_limit * (y + name_limit * z))

places-word : (n x y z : ℕ) → Holding (PlacesAre n x y z) (places_in n x y z)
unfolding places_in places
places-word n x y z =
    along-get_or (λ n. Holding (PlacesAre n x y z)) none (λ k. tt) (place_forms x y z) (
      under-eq _ x no_name _ (λ i. under-eq _ y no_name _ (λ j. under-eq _ z no_name (some []) (λ k. (tt, omega arith, refl, omega arith)))),
      (
        under-lt _ x no_name _ (λ i. under-eq _ y no_name _ (λ j. under-eq _ z no_name (some (x ∷ [])) (λ k. ((i, tt), omega arith, refl, omega arith)))),
        (
          under-lt _ x no_name _ (λ i. under-lt _ y no_name _ (λ j. under-eq _ z no_name (some (x ∷ y ∷ [])) (λ k. ((i, (j, tt)), omega arith, refl, omega arith)))),
          (under-lt _ x no_name _ (λ i. under-lt _ y no_name _ (λ j. under-lt _ z no_name (some (x ∷ y ∷ z ∷ [])) (λ k. ((i, (j, (k, tt))), omega arith, refl, omega arith)))), tt),
        ),
      ),
    )
    n

-- what the header of a method has
abbrev pub MethodIs : ℕ → List ℕ → ℕ → Type 0
MethodIs m xs x = NameFits m × Each NameFits xs × (length xs ≤ 3) × (method_header m xs ≡ x)

digits_sum : (x q r s t a b c d e : ℕ) → a + name_limit * q ≡ x → b + 4 * r ≡ q → c + name_limit * s ≡ r → d + name_limit * t ≡ s → e + name_limit * 3 ≡ t
    → a + name_limit * (b + 4 * (c + name_limit * (d + name_limit * e) + places_limit * 3)) ≡ x
digits_sum x q r s t a b c d e h i j k l = omega arith

-- a digit, and the quotient behind it
digit : (x m n : ℕ) → x / m % n + n * (x / (m * n)) ≡ x / m
digit x m n = ap (λ q. x / m % n + n * q) (sym (div-div-eq-div-mul x m n)) ∙ mod-add-div (x / m) n

digits : (x : ℕ) → x / method_unit ≡ 3 → x % name_limit + name_limit * (x / name_limit % tag_limit + 4 * (x / tagged_limit % name_limit + name_limit * (x / second_place % name_limit + name_limit * (x / third_place % name_limit)) + places_limit * 3)) ≡ x
digits x h =
    digits_sum x (x / name_limit) (x / tagged_limit) (x / number_limit) (x / third_place) (x % name_limit) (x / name_limit % tag_limit) (x / tagged_limit % name_limit) (x / second_place % name_limit) (x / third_place % name_limit)
    (mod-add-div x name_limit) (digit x name_limit 4) (digit x tagged_limit name_limit) (digit x second_place name_limit) (ap (λ q. x / third_place % name_limit + name_limit * q) (sym h) ∙ digit x third_place name_limit)

named-word : (x : ℕ) (o : Option (List ℕ)) → x / method_unit ≡ 3 → x % name_limit < no_name → Holding (PlacesAre (x / name_limit % tag_limit) (x / tagged_limit % name_limit) (x / second_place % name_limit) (x / third_place % name_limit)) o
    → Holding (λ h. MethodIs h.0 h.1 x) (named (x % name_limit) o)
unfolding method_header
named-word x none e l g = tt
named-word x (some xs) e l g = (l, g.0, g.1, rw (g.2, g.3) (digits x e))

pub method-word : (x : ℕ) → Holding (λ h. MethodIs h.0 h.1 x) (method_at x)
unfolding method_at params_at
method-word x =
    under-eq _ (x / method_unit) 3 _ (λ e. under-lt _ (x % name_limit) no_name (named (x % name_limit) (params_at x)) (λ l.
    named-word x (params_at x) e l (places-word (x / name_limit % tag_limit) (x / tagged_limit % name_limit) (x / second_place % name_limit) (x / third_place % name_limit))))

-- the next quotient
past-digit : (x m n a b : ℕ) → a < n → x / m ≡ a + n * b → x / (m * n) ≡ b
past-digit x m n a b h e = sym (div-div-eq-div-mul x m n) ∙ ap (λ q. q / n) e ∙ pack-high n a b h

next-digit : (x m n a b : ℕ) → a < n → x / m ≡ a + n * b → x / m % n ≡ a
next-digit x m n a b h e = ap (λ q. q % n) e ∙ pack-low n a b h

-- three digits between the number of parameters and the two top bits
places-digits : (m n x y z : ℕ) → m < name_limit → n < 4 → x < name_limit → y < name_limit → z < name_limit → params_at (m + name_limit * (n + 4 * (x + name_limit * (y + name_limit * z) + places_limit * 3))) ≡ places_in n x y z
unfolding params_at
places-digits m n x y z h i a b c =
    let w = m + name_limit * (n + 4 * (x + name_limit * (y + name_limit * z) + places_limit * 3)) in
    let p : x + name_limit * (y + name_limit * z) + places_limit * 3 ≡ x + name_limit * (y + name_limit * (z + name_limit * 3)) = omega arith in
    let q : w / name_limit ≡ n + 4 * (x + name_limit * (y + name_limit * z) + places_limit * 3) = pack-high name_limit m _ h in
    let r : w / tagged_limit ≡ x + name_limit * (y + name_limit * (z + name_limit * 3)) = past-digit w name_limit 4 n _ i q ∙ p in
    let s : w / number_limit ≡ y + name_limit * (z + name_limit * 3) = past-digit w tagged_limit name_limit x _ a r in
    let t : w / third_place ≡ z + name_limit * 3 = past-digit w second_place name_limit y _ b s in
    rw (next-digit w name_limit 4 n _ i q, next-digit w tagged_limit name_limit x _ a r, next-digit w second_place name_limit y _ b s, next-digit w third_place name_limit z 3 c t)

params-read : (m : ℕ) (xs : List ℕ) → NameFits m → Each NameFits xs → length xs ≤ 3 → params_at (method_header m xs) ≡ some xs
unfolding method_header places places_in
params-read m [] h g l = places-digits m 0 no_name no_name no_name (omega (arith, h)) (omega arith) (omega arith) (omega arith) (omega arith)
params-read m (x ∷ []) h g l =
    places-digits m 1 x no_name no_name (omega (arith, h)) (omega arith) (omega (arith, g.0)) (omega arith) (omega arith) ∙ rw (lt-ltb x no_name g.0)
params-read m (x ∷ y ∷ []) h g l =
    places-digits m 2 x y no_name (omega (arith, h)) (omega arith) (omega (arith, g.0)) (omega (arith, g.1.0)) (omega arith) ∙ rw (lt-ltb x no_name g.0, lt-ltb y no_name g.1.0)
params-read m (x ∷ y ∷ z ∷ []) h g l =
    places-digits m 3 x y z (omega (arith, h)) (omega arith) (omega (arith, g.0)) (omega (arith, g.1.0)) (omega (arith, g.1.1.0))
    ∙ rw (lt-ltb x no_name g.0, lt-ltb y no_name g.1.0, lt-ltb z no_name g.1.1.0)
params-read m (x ∷ y ∷ z ∷ u ∷ xs) h g l = absurd (omega arith)

pub method-read : (m : ℕ) (xs : List ℕ) → NameFits m → Each NameFits xs → length xs ≤ 3 → method_at (method_header m xs) ≡ some (m, xs)
unfolding method_at method_header
method-read m xs h g l =
    let w = m + name_limit * (length xs + 4 * (places xs + places_limit * 3)) in
    let s = places-small xs l g in
    let a : w / method_unit ≡ 3 = omega arith in
    let b : w % name_limit ≡ m = omega (arith, h) in
    let c : params_at w ≡ some xs = params-read m xs h g l in
    rw (a, b, c, lt-ltb m no_name h)
