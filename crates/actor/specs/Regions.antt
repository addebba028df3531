-- Regions of a part: words in front and zeros behind; and what stands in a part of the words stands in the words. Assumes nothing.
use Rattle.std.specs.Prelude.{ℕ, ◌+◌, ◌-◌, ◌≤◌, ◌≡◌, refl, true, List, [], ◌∷◌, ◌++◌, take, drop, get_or}
use Rattle.std.proofs.Common.{sym, ap, ap₂, ◌∙◌, append_assoc, append-nil, arith, take-append-drop, length-append, length-drop, drop_of_length-le, length-take-le, drop-drop, take_at}
use Rattle.std.proofs.Math.ListN.{length}
use Rattle.std.proofs.Math.Seq.{slice, take-append-add}
use Rattle.std.proofs.lemmas.List.{drop-append-le}
use Rattle.layout.specs.Numbers.{expr_at, inbox_at, waiting_at, made_at, copied_at, bodies_size, bodies_at, rest_size, part_size}
use Rattle.layout.specs.Pack.{zeros, pad}
use Rattle.layout_laws.specs.PackLaws.{pad-front}
use Rattle.layout_laws.specs.Writes.{zeros-split}
use Rattle.layout_laws.specs.Parse.{zeros_at}
use Rattle.layout_laws.proofs.ParseMessages.{zeros-at, zeros-read}
use Rattle.layout_laws.specs.Spans.{Spans, drop_past, span_of, span-end, span-join}
use Rattle.actor.specs.Objects.{span-is}

-- ---- zeros behind
module _ (w : List ℕ) where
  pub region-sound : (at n k : ℕ) (xs : List ℕ) → at + n ≤ length w → k ≤ n → Spans w at (at + k) xs → zeros_at w (n - k) (at + k) ≡ true → Spans w at (at + n) (pad n xs)
  unfolding pad
  region-sound at n k xs l h s z =
      let c : k ≡ length xs = omega (arith, s.1) in
      let t : Spans w (at + k) (at + k + (n - k)) (zeros (n - k)) = zeros-at w (n - k) (at + k) (omega arith) z in
      let j = span-end w at (at + k + (n - k)) (at + n) (xs ++ zeros (n - k)) (span-join w at (at + k) (at + k + (n - k)) xs (zeros (n - k)) s t) (omega arith) in
      rw (← c) j

  pub region-complete : (at n : ℕ) (xs r : List ℕ) → drop at w ≡ pad n xs ++ r → (drop at w ≡ xs ++ (zeros (n - length xs) ++ r)) × (zeros_at w (n - length xs) (at + length xs) ≡ true)
  region-complete at n xs r e =
      let d : drop at w ≡ xs ++ (zeros (n - length xs) ++ r) = e ∙ pad-front n xs r in
      (d, zeros-read (n - length xs) w (at + length xs) r (drop_past w at xs (zeros (n - length xs) ++ r) d))

  -- the first six words
  pub six-words : (a b c d e f : ℕ) → 6 ≤ length w → get_or w 0 0 ≡ a → get_or w 1 0 ≡ b → get_or w 2 0 ≡ c → get_or w 3 0 ≡ d → get_or w 4 0 ≡ e → get_or w 5 0 ≡ f → Spans w 0 6 (a ∷ b ∷ c ∷ d ∷ e ∷ f ∷ [])
  six-words a b c d e f l i j k m n o =
      span-join w 0 1 6 (a ∷ []) (b ∷ c ∷ d ∷ e ∷ f ∷ []) (span-is w 0 1 a (omega arith) refl i)
      (span-join w 1 2 6 (b ∷ []) (c ∷ d ∷ e ∷ f ∷ []) (span-is w 1 2 b (omega arith) refl j)
      (span-join w 2 3 6 (c ∷ []) (d ∷ e ∷ f ∷ []) (span-is w 2 3 c (omega arith) refl k)
      (span-join w 3 4 6 (d ∷ []) (e ∷ f ∷ []) (span-is w 3 4 d (omega arith) refl m)
      (span-join w 4 5 6 (e ∷ []) (f ∷ []) (span-is w 4 5 e (omega arith) refl n) (span-is w 5 6 f (omega arith) refl o)))))

  -- the regions are all of the words
  pub regions-all : (h e i q m c b : List ℕ) → length w ≡ part_size → Spans w 0 16 h → Spans w expr_at inbox_at e → Spans w inbox_at waiting_at i → Spans w waiting_at made_at q → Spans w made_at copied_at m → Spans w copied_at bodies_at c → Spans w bodies_at part_size b
      → h ++ (e ++ (i ++ (q ++ (m ++ (c ++ b))))) ≡ w
  regions-all h e i q m c b l s0 s1 s2 s3 s4 s5 s6 =
      let t5 = span-join w copied_at bodies_at part_size c b s5 s6 in
      let t4 = span-join w made_at copied_at part_size m (c ++ b) s4 t5 in
      let t3 = span-join w waiting_at made_at part_size q (m ++ (c ++ b)) s3 t4 in
      let t2 = span-join w inbox_at waiting_at part_size i (q ++ (m ++ (c ++ b))) s2 t3 in
      let t1 = span-join w expr_at inbox_at part_size e (i ++ (q ++ (m ++ (c ++ b)))) s1 t2 in
      let x = h ++ (e ++ (i ++ (q ++ (m ++ (c ++ b))))) in
      let t0 : Spans w 0 part_size x = span-join w 0 16 part_size h (e ++ (i ++ (q ++ (m ++ (c ++ b))))) s0 t1 in
      let end : length w ≤ part_size = omega arith in
      sym (t0.0 ∙ ap (λ y. x ++ y) (drop_of_length-le w end) ∙ append-nil x)

  -- what stands there is within the words
  pub span-within : (at i : ℕ) (xs : List ℕ) → Spans w at i xs → at ≤ length w → i ≤ length w
  span-within at i xs s l = omega (arith, ap length s.0, length-drop at w, length-drop i w, length-append xs (drop i w), s.1)

  -- ---- a part of the words
  pub span-out : (s n i : ℕ) (xs : List ℕ) → s + n ≤ length w → i ≤ n → Spans (take n (drop s w)) 0 i xs → Spans w s (s + i) xs
  span-out s n i xs l h k =
      let T = take n (drop s w) in
      let D = drop n (drop s w) in
      let whole : T ++ D ≡ drop s w = take-append-drop n (drop s w) in
      let len : length T ≡ n = length-take-le n (drop s w) (omega (arith, length-drop s w)) in
      let last : drop (s + i) w ≡ drop i T ++ D = sym (drop-drop i s w) ∙ ap (drop i) (sym whole) ∙ drop-append-le i T D (omega arith) in
      let c : i ≡ length xs = omega (arith, k.1) in (
        sym whole ∙ ap (λ y. y ++ D) k.0 ∙ append_assoc xs (drop i T) D ∙ ap (λ y. xs ++ y) (sym last),
        omega arith,
      )

pub span-in : (w : List ℕ) (s n : ℕ) (xs r : List ℕ) → length xs ≤ n → drop s w ≡ xs ++ r → Spans (take n (drop s w)) 0 (length xs) xs
span-in w s n xs r l e =
    let T = take n (drop s w) in
    let m = n - length xs in
    let z : n ≡ length xs + m = omega arith in
    let d : T ≡ xs ++ take m r = ap₂ take z e ∙ take-append-add xs r m in
    span-end T 0 (0 + length xs) (length xs) xs (span_of T 0 xs (take m r) d) (omega arith)

-- what stands in front
pub span-front : (B : List ℕ) (i : ℕ) (xs : List ℕ) → Spans B 0 i xs → slice 0 i B ≡ xs
span-front B i xs h = let c : length xs ≡ i = omega (arith, h.1) in ap (take i) h.0 ∙ take_at xs (drop i B) i c

-- the bodies and the zeros behind them are one run
pub tail-zeros : (xs : List ℕ) → length xs ≤ bodies_size → pad (bodies_size + rest_size) xs ≡ pad bodies_size xs ++ zeros rest_size
unfolding pad
tail-zeros xs l =
    let n = bodies_size - length xs in
    let z : (bodies_size + rest_size) - length xs ≡ n + rest_size = omega arith in
    ap (λ i. xs ++ zeros i) z ∙ ap (λ y. xs ++ y) (zeros-split n rest_size) ∙ sym (append_assoc xs (zeros n) (zeros rest_size))
