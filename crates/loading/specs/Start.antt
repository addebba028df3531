-- The words of a state with one actor that has made nothing yet, written one run behind another. Assumes nothing.
use Rattle.std.specs.Prelude.{◌≡◌, get_or, set}
use Rattle.std.proofs.Math.Path.{refl, ap, ap₂}
use Rattle.std.proofs.Common.{sym, ◌∙◌, zero-add, rules, length-set}
use mathlib.Core.List.{List, [], ◌∷◌, ◌++◌, append_assoc, append-nil}
use Prim.Native.Nat.{ℕ, suc, ◌+◌, ◌-◌, ◌*◌, ◌≤◌}
use native.Mathlib.Omega.{arith}
use Rattle.std.proofs.Math.ListN.{length, take, drop, length-append}
use Rattle.std.proofs.lemmas.Slice.{between_is}
use Rattle.std.proofs.lemmas.List.Edits.{sets}
use Rattle.std.proofs.Math.Seq.{slice, length-slice}
use Rattle.atlite.specs.Term.{Term}
use Rattle.atlite.specs.State.{Actor}
use Rattle.layout.specs.Numbers.{expr_at, expr_size, queue_size, inbox_at, waiting_at, made_size, copied_size, made_at, copied_at, bodies_size, rest_size, part_size, head_size, parts_size, tail_size, state_words, table_words}
use Rattle.layout.specs.Pack.{zeros, pad, flat}
use Rattle.layout_laws.specs.PackLaws.{length-zeros, length-flat}
use Rattle.layout_laws.specs.Writes.{zeros-split, sets-append}
use Rattle.layout_laws.specs.StateReads.{words-three}
use Rattle.layout.specs.Terms.{encode_term}
use Rattle.layout.specs.Layout.{slots, bodies, queues, encode_actor, encode_word, encode}

-- up to the length of the expression: one actor, and the c words of the dictionary, which stand in d
unfoldable pub head_words : ℕ → List ℕ → List ℕ
head_words c d = 1 ∷ c ∷ (d ++ zeros 67)

-- from there on: the n words e of the expression
unfoldable pub part_words : ℕ → List ℕ → List ℕ
part_words n e = n ∷ (zeros 10 ++ (e ++ zeros (state_words - (head_size + expr_at) - n)))

-- ---- runs of zeros
zeros-join : (a b : ℕ) (r : List ℕ) → zeros a ++ (zeros b ++ r) ≡ zeros (a + b) ++ r
zeros-join a b r = sym (append_assoc (zeros a) (zeros b) r) ∙ ap {B = List ℕ} (λ l. l ++ r) (sym (zeros-split a b))

five : zeros 5 ≡ 0 ∷ 0 ∷ 0 ∷ 0 ∷ 0 ∷ []
unfolding zeros
five = refl

-- the regions of an actor that are empty
empty-regions : zeros queue_size ++ (zeros queue_size ++ (zeros made_size ++ (zeros copied_size ++ (zeros bodies_size ++ zeros rest_size)))) ≡ zeros (part_size - inbox_at)
empty-regions =
    rw (sym (zeros-split bodies_size rest_size), sym (zeros-split copied_size (bodies_size + rest_size)), sym (zeros-split made_size (part_size - copied_at)), sym (zeros-split queue_size (part_size - made_at)), sym (zeros-split queue_size (part_size - waiting_at)))

-- ---- the state
head-run : (c : ℕ) (d r : List ℕ) → length d ≤ 192 → pad head_size (1 ∷ c ∷ d) ++ r ≡ 1 ∷ c ∷ (pad 192 d ++ (zeros 62 ++ r))
unfolding pad
head-run c d r h =
    let e : head_size - suc (suc (length d)) ≡ (192 - length d) + 62 = omega arith in
    ap {B = List ℕ} (λ k. 1 ∷ c ∷ ((d ++ zeros k) ++ r)) e
    ∙ ap {B = List ℕ} (λ l. 1 ∷ c ∷ l) (append_assoc d _ r
    ∙ ap {B = List ℕ} (λ l. d ++ l) (sym (zeros-join (192 - length d) 62 r)) ∙ sym (append_assoc d (zeros (192 - length d)) (zeros 62 ++ r)))

unfoldable pub fresh : Term → Actor
fresh x = record { moves = 0; made = []; copied = []; inbox = []; expr = x }

module _ (x : Term) where
  actor-run : encode_actor (fresh x) ≡ zeros 5 ++ (length (encode_term x) ∷ (zeros 10 ++ (pad expr_size (encode_term x) ++ zeros (part_size - inbox_at))))
  unfolding encode_actor fresh pad flat slots bodies queues
  actor-run = rw (empty-regions, five)

-- the lengths of the runs, and zeros behind them
behind-run : (n k m : ℕ) (w : List ℕ) → length w ≡ n → n ≤ expr_size → k ≡ state_words - (head_size + expr_at) - n → m ≡ 3 * part_size
    → ((zeros 5 ++ (n ∷ (zeros 10 ++ ((w ++ zeros (expr_size - n)) ++ zeros (part_size - inbox_at))))) ++ zeros m) ++ zeros tail_size ≡ zeros 5 ++ (n ∷ (zeros 10 ++ (w ++ zeros k)))
behind-run n k m w l h e f =
    let a : zeros (expr_size - n) ++ (zeros (part_size - inbox_at) ++ (zeros m ++ zeros tail_size)) ≡ zeros k =
    ap₂ (λ i j. zeros (expr_size - n) ++ (zeros (part_size - inbox_at) ++ (zeros i ++ j))) f (sym (append-nil (zeros tail_size)))
    ∙ ap {B = List ℕ} (λ v. zeros (expr_size - n) ++ (zeros (part_size - inbox_at) ++ v)) (zeros-join (3 * part_size) tail_size [])
    ∙ ap {B = List ℕ} (λ v. zeros (expr_size - n) ++ v) (zeros-join (part_size - inbox_at) (3 * part_size + tail_size) [])
    ∙ zeros-join (expr_size - n) 15600 []
    ∙ append-nil _
    ∙ ap zeros (omega arith) in
    run-parts (zeros 5) n (zeros 10) w (zeros (expr_size - n)) (zeros (part_size - inbox_at)) (zeros m) (zeros tail_size)
    ∙ ap {B = List ℕ} (λ v. zeros 5 ++ (n ∷ (zeros 10 ++ (w ++ v)))) a
  where
    run-parts : (a : List ℕ) (n : ℕ) (b w c d f g : List ℕ)
        → ((a ++ (n ∷ (b ++ ((w ++ c) ++ d)))) ++ f) ++ g ≡ a ++ (n ∷ (b ++ (w ++ (c ++ (d ++ (f ++ g))))))
    run-parts a n b w c d f g = simp append_assoc

module _ (ws : List (List ℕ)) (x : Term) (few : length ws ≤ 64) (short : length (encode_term x) ≤ expr_size) where
  actor-length : length (encode_actor (fresh x)) ≡ part_size
  unfolding pad
  actor-length =
      let n = length (encode_term x) in
      let a = length-append (zeros 5) (n ∷ (zeros 10 ++ (pad expr_size (encode_term x) ++ zeros (part_size - inbox_at)))) in
      let b = length-append (zeros 10) (pad expr_size (encode_term x) ++ zeros (part_size - inbox_at)) in
      let c = length-append (pad expr_size (encode_term x)) (zeros (part_size - inbox_at)) in
      let d = length-append (encode_term x) (zeros (expr_size - n)) in
      ap length (actor-run x) ∙ omega (arith, length-zeros 5, length-zeros 10, length-zeros (part_size - inbox_at), length-zeros (expr_size - n))

  part-run : pad parts_size (flat encode_actor (fresh x ∷ [])) ++ zeros tail_size
      ≡ zeros 5 ++ (length (encode_term x) ∷ (zeros 10 ++ (encode_term x ++ zeros (state_words - (head_size + expr_at) - length (encode_term x)))))
  unfolding pad flat
  part-run =
      let n = length (encode_term x) in
      let l = actor-length in
      ap {B = List ℕ} (λ v. (v ++ zeros (parts_size - length v)) ++ zeros tail_size) (append-nil (encode_actor (fresh x)))
      ∙ ap₂ {C = List ℕ} (λ v m. (v ++ zeros m) ++ zeros tail_size) (actor-run x) (let m : parts_size - length (encode_actor (fresh x)) ≡ (3 * part_size) = omega arith in m)
      ∙ behind-run n (state_words - (head_size + expr_at) - n) (3 * part_size) (encode_term x) refl short refl refl

  pub start-run : encode (record { words = ws; actors = fresh x ∷ [] })
      ≡ head_words (length ws) (pad 192 (flat encode_word ws)) ++ part_words (length (encode_term x)) (encode_term x)
  unfolding encode head_words part_words
  start-run =
      let h = length-flat encode_word 3 ws (words-three ws) in
      head-run (length ws) (flat encode_word ws) _ (omega arith)
      ∙ ap {B = List ℕ} (λ v. 1 ∷ length ws ∷ (pad 192 (flat encode_word ws) ++ v)) (ap {B = List ℕ} (λ v. zeros 62 ++ v) part-run ∙ zeros-join 62 5 _)
      ∙ ap {B = List ℕ} (λ v. 1 ∷ length ws ∷ v) (sym (append_assoc (pad 192 (flat encode_word ws)) (zeros 67) _))

-- ---- lengths
pub head-length : (c : ℕ) (d : List ℕ) → length d ≡ 192 → 0 + length (head_words c d) ≡ head_size + 5
unfolding head_words
head-length c d h = let a = length-append d (zeros 67) in omega (arith, length-zeros 67)

pub part_length : (n : ℕ) (e : List ℕ) → length e ≡ n → n ≤ expr_size → length (part_words n e) ≡ 16123
unfolding part_words
part_length n e h l =
    let a = length-append (zeros 10) (e ++ zeros (state_words - (head_size + expr_at) - n)) in
    let b = length-append e (zeros (state_words - (head_size + expr_at) - n)) in
    omega (arith, length-zeros 10, length-zeros (state_words - (head_size + expr_at) - n))

-- ---- one run behind another
runs : (old mid new xs ys : List ℕ) (o i : ℕ) → mid ≡ sets old o xs → o + length xs ≡ i → new ≡ sets mid i ys → new ≡ sets old o (xs ++ ys)
runs old mid new xs ys o i a l b = b ∙ ap₂ (λ v j. sets v j ys) a (sym l) ∙ sets-append xs ys old o

pub head-written : (t old m₁ m₂ m₃ new : List ℕ) → length t ≡ table_words
    → m₁ ≡ set old 0 1 → m₂ ≡ set m₁ 1 (get_or t 0 0) → m₃ ≡ sets m₂ 2 (take (195 - 3) (drop 3 t)) → new ≡ sets m₃ 194 (zeros 67)
    → new ≡ sets old 0 (head_words (get_or t 0 0) (slice 3 195 t))
unfolding head_words
head-written t old m₁ m₂ m₃ new h a₁ a₂ a₃ a₄ =
    let c = get_or t 0 0 in
    let D = slice 3 195 t in
    let d = length-slice 3 195 t (omega arith) in
    let b₂ : m₂ ≡ sets old 0 (1 ∷ c ∷ []) = a₂ ∙ ap (λ v. set v 1 c) a₁ in
    let b₃ = runs old m₂ m₃ (1 ∷ c ∷ []) D 0 2 b₂ refl (a₃ ∙ ap (sets m₂ 2) (between_is t 3 195)) in
    runs old m₃ new (1 ∷ c ∷ D) (zeros 67) 0 194 b₃ (omega arith) a₄

pub part-written : (s old m₁ m₂ m₃ new : List ℕ) (n : ℕ) → n ≤ length s → n ≤ expr_size
    → m₁ ≡ set old (head_size + 5) n → m₂ ≡ sets m₁ 262 (zeros 10) → m₃ ≡ sets m₂ (head_size + expr_at) (take (n - 0) (drop 0 s)) → new ≡ sets m₃ (head_size + expr_at + n) (zeros (state_words - (head_size + expr_at + n)))
    → new ≡ sets old (head_size + 5) (part_words n (slice 0 n s))
unfolding part_words
part-written s old m₁ m₂ m₃ new n k l a₁ a₂ a₃ a₄ =
    let E = slice 0 n s in
    let e = length-slice 0 n s k in
    let z = length-zeros 10 in
    let y = length-append (zeros 10) E in
    let j : state_words - (head_size + expr_at + n) ≡ state_words - (head_size + expr_at) - n = omega arith in
    let b₂ = runs old m₁ m₂ (n ∷ []) (zeros 10) (head_size + 5) 262 a₁ refl a₂ in
    let b₃ = runs old m₂ m₃ (n ∷ zeros 10) E (head_size + 5) (head_size + expr_at) b₂ (omega arith) (a₃ ∙ ap (sets m₂ (head_size + expr_at)) (between_is s 0 n)) in
    runs old m₃ new (n ∷ (zeros 10 ++ E)) (zeros (state_words - (head_size + expr_at) - n)) (head_size + 5) (head_size + expr_at + n) b₃ (omega arith) (a₄ ∙ ap (λ i. sets m₃ (head_size + expr_at + n) (zeros i)) j)
    ∙ ap (λ v. sets old (head_size + 5) (n ∷ v)) (append_assoc (zeros 10) E (zeros (state_words - (head_size + expr_at) - n)))

pub state-written : (t old mid new w : List ℕ) → length t ≡ table_words → mid ≡ sets old 0 (head_words (get_or t 0 0) (slice 3 195 t)) → new ≡ sets mid (head_size + 5) w
    → new ≡ sets old 0 (head_words (get_or t 0 0) (slice 3 195 t) ++ w)
state-written t old mid new w h a b =
    runs old mid new (head_words (get_or t 0 0) (slice 3 195 t)) w 0 (head_size + 5) a (head-length (get_or t 0 0) (slice 3 195 t) (length-slice 3 195 t (omega arith))) b

pub ruleset write_laws = (rules, head-written, part-written, state-written)
