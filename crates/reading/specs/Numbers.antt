-- Numbers are printed as they are read. `digits` puts the last digit first before what it has, `decimal` takes the first digit
-- first, so the laws carry what stands already on either side. Assumes nothing.
use Rattle.std.specs.Prelude.{◌≡◌, refl, Bool, true, false, ◌&&◌, not, [], ◌∷◌, ◌++◌, ℕ, zero, suc, ◌+◌, ◌-◌, ◌*◌, ◌/◌, ◌%◌, ◌≤◌, ◌<◌, length, eqb, leb, ltb}
use Rattle.std.proofs.Common.{ap, ap₂, ◌∙◌, append-nil, arith, leb-true, ltb-true, ltb-false, le-leb, lt-ltb, le-ltb, ne_eqb}
use Rattle.std.proofs.lemmas.Bool.{false≢true, eqb-false, not-true}
use Rattle.atlite.specs.Base.{all}
use Rattle.atlite.specs.Lexicon.{Bytes, is_digit, decimal, is_number}
use Rattle.atlite.specs.Term.{top}
use Rattle.atlite.specs.Printer.{digits, print_number}
use Rattle.atlite_laws.specs.Facts.{and₂, both₂}

-- the numbers of at most k digits
unfoldable pub room : ℕ → ℕ
room zero = 1
room (suc k) = 10 * room k

-- `digits` by its test, which the laws decide
pub digits_last : (k n : ℕ) (w : Bytes) → n < 10 → digits (suc k) n w ≡ (48 + n) ∷ w
unfolding digits
digits_last k n w h = rw (lt-ltb n 10 h, digits)

pub digits_more : (k n : ℕ) (w : Bytes) → 10 ≤ n → digits (suc k) n w ≡ digits k (n / 10) ((48 + n % 10) ∷ w)
unfolding digits
digits_more k n w h = rw (le-ltb n 10 h, digits)

-- either the last digit, or one more after it
pub last-or-more : (n : ℕ) (P : Type 0) → (n < 10 → P) → (10 ≤ n → P) → P
last-or-more n P h k = go (ltb n 10) refl
  where
    go : (b : Bool) → ltb n 10 ≡ b → P
    go true e = h (ltb-true n 10 e)
    go false e = k (ltb-false n 10 e)

decimal-digits : (k n : ℕ) (w : Bytes) → n < room k → decimal 0 (digits k n w) ≡ decimal n w
unfolding room digits decimal
decimal-digits zero n w h = let z : 0 ≡ n = omega arith in ap (λ m. decimal m w) z
decimal-digits (suc k) n w h =
    let ih = decimal-digits k (n / 10) ((48 + n % 10) ∷ w) (omega arith) in
    last-or-more n (decimal 0 (digits (suc k) n w) ≡ decimal n w)
    (λ l. rw (digits_last k n w l) (let z : 0 * 10 + ((48 + n) - 48) ≡ n = omega arith in ap (λ m. decimal m w) z))
    (λ m. rw (digits_more k n w m) (ih ∙ (let z : n / 10 * 10 + ((48 + n % 10) - 48) ≡ n = omega arith in ap (λ m. decimal m w) z)))

digit : (n : ℕ) → n < 10 → is_digit (48 + n) ≡ true
unfolding is_digit
digit n h = both₂ (le-leb 48 (48 + n) (omega arith)) (le-leb (48 + n) 57 (omega arith))

digits-all : (k n : ℕ) (w : Bytes) → all is_digit w ≡ true → all is_digit (digits k n w) ≡ true
unfolding digits all
digits-all zero n w h = h
digits-all (suc k) n w h =
    let ih = digits-all k (n / 10) ((48 + n % 10) ∷ w) (both₂ (digit (n % 10) (omega arith)) h) in
    last-or-more n (all is_digit (digits (suc k) n w) ≡ true)
    (λ l. rw (digits_last k n w l) (both₂ (digit n l) h))
    (λ m. rw (digits_more k n w m) ih)

digits-length : (k n : ℕ) (w : Bytes) → length (digits k n w) ≤ k + length w
unfolding digits
digits-length zero n w = omega arith
digits-length (suc k) n w =
    let ih = digits-length k (n / 10) ((48 + n % 10) ∷ w) in
    last-or-more n (length (digits (suc k) n w) ≤ suc k + length w)
    (λ l. rw (digits_last k n w l) (omega arith))
    (λ m. rw (digits_more k n w m) (omega arith))

-- a number of two digits or more, by its first and its second
pub data Long : Bytes → Type 0 where
  long : {b c : ℕ} {w : Bytes} → (eqb b 48 ≡ false) → Long (b ∷ c ∷ w)

digits_long : (k n c : ℕ) (w : Bytes) → 0 < n → n < room k → Long (digits k n (c ∷ w))
unfolding room digits
digits_long zero n c w p h = absurd (omega arith)
digits_long (suc k) n c w p h =
    last-or-more n (Long (digits (suc k) n (c ∷ w)))
    (λ l. rw (digits_last k n (c ∷ w) l) (long (ne_eqb (48 + n) 48 (omega arith))))
    (λ m. rw (digits_more k n (c ∷ w) m) (digits_long k (n / 10) (48 + n % 10) (c ∷ w) (omega arith) (omega arith)))

long-number : (w : Bytes) → Long w → all is_digit w ≡ true → length w ≤ 8 → decimal 0 w ≤ top → is_number w ≡ true
unfolding is_number
long-number [] x h l t = elim x [ ]
long-number (b ∷ []) x h l t = elim x [ ]
long-number (b ∷ c ∷ w) (long e) h l t =
    both₂ (both₂ (both₂ h (rw e)) (le-leb (length w) 6 (omega arith))) (le-leb (decimal 0 (b ∷ c ∷ w)) top t)

top-fits : (n : ℕ) → n ≤ top → n < room 8
unfolding room
top-fits n h = omega arith

-- the two laws of a number in range
pub decimal-print : (n : ℕ) → n ≤ top → decimal 0 (print_number n) ≡ n
unfolding decimal print_number
decimal-print n h = decimal-digits 8 n [] (top-fits n h)

pub print-number : (n : ℕ) → n ≤ top → is_number (print_number n) ≡ true
unfolding print_number is_number all room
print-number n h =
    last-or-more n (is_number (print_number n) ≡ true)
    (λ l. rw (digits_last 7 n [] l) (digit n l))
    (λ m. long-number (digits 8 n [])
    (rw (digits_more 7 n [] m) (digits_long 7 (n / 10) (48 + n % 10) [] (omega arith) (omega arith)))
    (digits-all 8 n [] refl)
    (digits-length 8 n [])
    (rw (decimal-print n h) h))

digit-range : (b : ℕ) → is_digit b ≡ true → (48 ≤ b) × (b ≤ 57)
unfolding is_digit
digit-range b h = let p = and₂ (leb 48 b) (leb b 57) h in (leb-true 48 b p.0, leb-true b 57 p.1)

-- Digits read behind a number n are printed behind it.
digits_decimal : (w v : Bytes) (k n : ℕ) → all is_digit w ≡ true → 0 < n
    → digits (k + length w) (decimal n w) v ≡ digits k n (w ++ v)
unfolding decimal all
digits_decimal [] v k n h p = let z : k + 0 ≡ k = omega arith in ap (λ m. digits m n v) z
digits_decimal (b ∷ w) v k n h p =
    let q = and₂ (is_digit b) (all is_digit w) h in
    let r = digit-range b q.0 in
    let m = n * 10 + (b - 48) in
    let z : k + suc (length w) ≡ suc k + length w = omega arith in
    let z₁ : m / 10 ≡ n = omega arith in
    let z₂ : 48 + m % 10 ≡ b = omega arith in
    ap (λ j. digits j (decimal m w) v) z
    ∙ digits_decimal w v (suc k) m q.1 (omega arith)
    ∙ digits_more k m (w ++ v) (omega arith)
    ∙ ap₂ (λ x c. digits k x (c ∷ (w ++ v))) z₁ z₂

digits_of : (b : ℕ) (w : Bytes) → all is_digit (b ∷ w) ≡ true → (48 ≤ b) × (b ≤ 57) × (all is_digit w ≡ true)
unfolding all
digits_of b w h = let p = and₂ (is_digit b) (all is_digit w) h in let r = digit-range b p.0 in (r.0, r.1, p.1)

-- at most eight digits, the first not zero
digits-back : (b : ℕ) (w : Bytes) → 48 ≤ b → b ≤ 57 → (b ≡ 48 → ⊥) → all is_digit w ≡ true → length w ≤ 7
    → digits 8 (decimal (0 * 10 + (b - 48)) w) [] ≡ b ∷ w
digits-back b w p q e h l =
    let n = 0 * 10 + (b - 48) in
    let k = 7 - length w in
    let z : 8 ≡ suc k + length w = omega arith in
    let y : 48 + n ≡ b = omega arith in
    ap (λ j. digits j (decimal n w) []) z
    ∙ digits_decimal w [] (suc k) n h (omega arith)
    ∙ digits_last k n (w ++ []) (omega arith)
    ∙ ap₂ {C = Bytes} (λ c v. c ∷ v) y (append-nil w)

long-parts : (b c : ℕ) (w : Bytes) → is_number (b ∷ c ∷ w) ≡ true
    → (all is_digit (b ∷ c ∷ w) ≡ true) × (eqb b 48 ≡ false) × (length w ≤ 6) × (decimal 0 (b ∷ c ∷ w) ≤ top)
unfolding is_number
long-parts b c w h =
    let p = and₂ (all is_digit (b ∷ c ∷ w) && not (eqb b 48) && leb (length w) 6) (leb (decimal 0 (b ∷ c ∷ w)) top) h in
    let q = and₂ (all is_digit (b ∷ c ∷ w) && not (eqb b 48)) (leb (length w) 6) p.0 in
    let s = and₂ (all is_digit (b ∷ c ∷ w)) (not (eqb b 48)) q.0 in
    (s.0, not-true (eqb b 48) s.1, leb-true (length w) 6 q.1, leb-true (decimal 0 (b ∷ c ∷ w)) top p.1)

pub number-print : (w : Bytes) → is_number w ≡ true → print_number (decimal 0 w) ≡ w
unfolding is_number decimal print_number
number-print [] h = absurd (false≢true h)
number-print (b ∷ []) h =
    let r = digit-range b h in
    let z : 48 + (0 * 10 + (b - 48)) ≡ b = omega arith in
    digits_last 7 (0 * 10 + (b - 48)) [] (omega arith) ∙ ap {B = Bytes} (λ c. c ∷ []) z
number-print (b ∷ c ∷ w) h =
    let p = long-parts b c w h in
    let r = digits_of b (c ∷ w) p.0 in
    let l = p.2 in
    digits-back b (c ∷ w) r.0 r.1 (eqb-false b 48 p.1) r.2 (omega arith)

pub number-top : (w : Bytes) → is_number w ≡ true → decimal 0 w ≤ top
unfolding is_number decimal
number-top [] h = absurd (false≢true h)
number-top (b ∷ []) h = let r = digit-range b h in omega arith
number-top (b ∷ c ∷ w) h = (long-parts b c w h).3

pub number_digits : (w : Bytes) → is_number w ≡ true → all is_digit w ≡ true
unfolding is_number all
number_digits [] h = refl
number_digits (b ∷ []) h = both₂ h refl
number_digits (b ∷ c ∷ w) h = (long-parts b c w h).0
