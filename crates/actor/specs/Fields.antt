-- The fields of a slot: names packed in one word and values behind it. The test is true just where they stand. Assumes nothing.
use Rattle.std.specs.Prelude.{ℕ, zero, suc, ◌+◌, ◌-◌, ◌*◌, ◌≤◌, ◌<◌, ◌/◌, ◌%◌, ◌≡◌, refl, not, List, [], ◌∷◌, ◌++◌, ltb}
use Rattle.std.proofs.Math.Path.{sym, ap}
use Rattle.std.proofs.Common.{◌∙◌}
use Rattle.std.proofs.Math.Bool.{true}
use Rattle.std.proofs.Math.Option.{some}
use native.Mathlib.Omega.{arith}
use borrow.Author.Tests.{eqb-true, ltb-true, lt-ltb}
use Rattle.std.proofs.Math.ListN.{length, drop, get_or}
use Rattle.atlite.specs.Base.{member, distinct, all, distinct_by}
use Rattle.atlite.specs.Term.{Value}
use Rattle.atlite.specs.State.{Field, field, field_names, field_values}
use Rattle.atlite.specs.Valid.{AllOf, is_name, fields_named, FieldsHeld}
use Rattle.atlite_laws.specs.Facts.{and₂, and₃, and₄, both₂, both₃, both₄}
use Rattle.atlite_laws.specs.Laws.{few-are, are-few}
use Rattle.invariant.specs.Delivery.{fields-all}
use Rattle.invariant.specs.TermTests.{Is, all-is, is_all}
use Rattle.layout.specs.Numbers.{name_limit, slot_size, slot_body}
use Rattle.layout.specs.Pack.{zeros, pad, names}
use Rattle.layout_laws.specs.PackLaws.{pack-low, pack-high, length-pad, pad-front, Each, NameFits, names-back}
use Rattle.decoding.specs.Reading.{names_in}
use Rattle.layout_laws.specs.Fitting.{fields-named-fit}
use Rattle.layout.specs.Layout.{value_words}
use Rattle.decoding.specs.Decode.{fields_in}
use Rattle.layout_laws.specs.Slots.{length-values, FieldsFit, count-names, count-values}
use Rattle.layout_laws.specs.Parse.{values_at, zeros_at}
use Rattle.layout_laws.specs.ParseWords.{holding}
use Rattle.layout_laws.specs.ParseMessages.{ValuesAt}
use Rattle.layout_laws.proofs.ParseMessages.{values-at, zeros-at, values-read, zeros-read}
use Rattle.layout_laws.specs.Spans.{Spans, drop_past, drop-next, drop-first, span-end, span-word, span-join}
use Rattle.term_words.specs.Kinds.{allowed}
use Rattle.term_words.specs.Words.{within}
use Rattle.term_words.specs.WordLaws.{within-true}
use Rattle.actor.specs.Tests.{names_hold, fields_at}
use Rattle.actor.specs.MessageTests.{some-within}

-- ---- names
names-word : (W c x : ℕ) → names_hold W c x ≡ true
    → (names (names_in c x) ≡ x) × (distinct (names_in c x) ≡ true) × (all (is_name W) (names_in c x) ≡ true) × (length (names_in c x) ≡ c)
unfolding names_hold names_in names distinct_by all
names-word W zero x h = (sym (eqb-true x 0 h), refl, refl, refl)
names-word W (suc c) x h =
    let y = x % name_limit in
    let ys = names_in c (x / name_limit) in
    let r = and₃ (is_name W y) (not (member y ys)) (names_hold W c (x / name_limit)) h in
    let i = names-word W c (x / name_limit) r.2 in
    let z = i.0 in
    (ap (λ k. x % name_limit + name_limit * k) z ∙ omega arith, both₂ r.1 i.1, both₂ r.0 i.2, ap suc i.3)

word-names : (W : ℕ) (xs : List ℕ) → Each NameFits xs → distinct xs ≡ true → all (is_name W) xs ≡ true → names_hold W (length xs) (names xs) ≡ true
unfolding names_hold names distinct_by all
word-names W [] f d h = refl
word-names W (x ∷ xs) f d h =
    let l : x < name_limit = omega (arith, f.0) in
    let r = and₂ (not (member x xs)) (distinct xs) d in
    let q = and₂ (is_name W x) (all (is_name W) xs) h in
    rw (pack-low name_limit x (names xs) l, pack-high name_limit x (names xs) l, names-back xs f.1)
    (both₃ q.0 r.0 (word-names W xs f.1 r.1 q.1))

-- ---- fields of names and values
zip-names : (xs : List ℕ) (vs : List Value) → length xs ≡ length vs → field_names (fields_in xs vs) ≡ xs
unfolding field_names fields_in
zip-names [] vs e = refl
zip-names (x ∷ xs) [] e = absurd (omega arith)
zip-names (x ∷ xs) (v ∷ vs) e = ap (λ l. x ∷ l) (zip-names xs vs (omega arith))

zip-values : (xs : List ℕ) (vs : List Value) → length xs ≡ length vs → field_values (fields_in xs vs) ≡ vs
unfolding field_values fields_in
zip-values [] [] e = refl
zip-values [] (v ∷ vs) e = absurd (omega arith)
zip-values (x ∷ xs) [] e = absurd (omega arith)
zip-values (x ∷ xs) (v ∷ vs) e = ap (λ l. v ∷ l) (zip-values xs vs (omega arith))

held_all : (P : Value → Type 0) (F : List Field) → AllOf P (field_values F) → FieldsHeld P F
unfolding field_values
held_all P [] h = tt
held_all P (field f v ∷ F) h = (h.0, held_all P F h.1)

-- the five words behind a slot's head
unfoldable pub field_words : List Field → List ℕ
field_words F = names (field_names F) ∷ pad 4 (value_words (field_values F))

pub five-words : (F : List Field) → FieldsFit F → length (field_words F) ≡ 5
unfolding field_words
five-words F l = ap suc (length-pad 4 (value_words (field_values F)) (omega (arith, length-values (field_values F), count-values F, l.0)))

-- ---- the test
module _ (K : List ℕ) (a W : ℕ) (w : List ℕ) (few : W ≤ 64) where
  abbrev P : Value → Type 0
  P = Is (allowed K a)

  abbrev pub FieldsAre : ℕ → List Field → Type 0
  FieldsAre f F = (length F ≡ f) × (fields_named W (field_names F) ≡ true) × FieldsHeld P F × FieldsFit F

  pub fields-sound : (f at : ℕ) → at + slot_size ≤ length w → fields_at K a W w f at ≡ true → (F : List Field) × FieldsAre f F × Spans w (at + 1) (at + slot_body) (field_words F)
  unfolding fields_at field_words pad
  fields-sound f at i h =
      let x = get_or w (at + 1) 0 in
      let xs = names_in f x in
      let r = and₄ (ltb f 5) (names_hold W f x) (within (all (allowed K a)) (values_at w f (at + 2))) (zeros_at w (4 - f) (at + 2 + f)) h in
      let l = ltb-true f 5 r.0 in
      let n = names-word W f x r.1 in
      let q = within-true (all (allowed K a)) (values_at w f (at + 2)) r.2 in
      let vs = q.0 in
      let v = holding (ValuesAt w f (at + 2)) (values_at w f (at + 2)) vs (values-at w f (at + 2) (omega arith)) q.1 in
      let F = fields_in xs vs in
      let same : length xs ≡ length vs = n.3 ∙ sym v.1 in
      let zn : field_names F ≡ xs = zip-names xs vs same in
      let zv : field_values F ≡ vs = zip-values xs vs same in
      let c : length F ≡ f = sym (count-names F) ∙ ap length zn ∙ n.3 in
      let four : length xs ≤ 4 = omega (arith, n.3) in
      let ok = are-few 4 _ (is_name W) xs four n.1 n.2 in
      let k : 4 - length (value_words vs) ≡ 4 - f = omega (arith, length-values vs, v.1) in
      let s1 = span-word w (at + 1) (omega arith) in
      let s2 = v.2 in
      let s3 = zeros-at w (4 - f) (at + 2 + f) (omega arith) r.3 in
      let j2 : Spans w (at + 1) (at + 2 + f) (x ∷ value_words vs) = span-join w (at + 1) (at + 2) (at + 2 + f) (x ∷ []) (value_words vs) (span-end w (at + 1) (at + 1 + 1) (at + 2) (x ∷ []) s1 (omega arith)) s2 in
      let j3 : Spans w (at + 1) (at + slot_body) (x ∷ (value_words vs ++ zeros (4 - f))) = span-end w (at + 1) (at + 2 + f + (4 - f)) (at + slot_body) (x ∷ (value_words vs ++ zeros (4 - f))) (span-join w (at + 1) (at + 2 + f) (at + 2 + f + (4 - f)) (x ∷ value_words vs) (zeros (4 - f)) j2 s3) (omega arith) in (
        F,
        (c, rw zn ok, held_all P F (rw zv (all-is (allowed K a) P (λ y k. k) vs q.2)), (omega arith, rw zn (fields-named-fit W few xs ok).1, rw zv v.0)),
        rw (zn, zv, n.0, k) j3,
      )

  pub fields-complete : (at : ℕ) (F : List Field) (r : List ℕ) → FieldsAre (length F) F → drop (at + 1) w ≡ field_words F ++ r → fields_at K a W w (length F) at ≡ true
  unfolding fields_at field_words
  fields-complete at F r h e =
      let f = length F in
      let xs = field_names F in
      let vs = field_values F in
      let x = names xs in
      let l = h.3.0 in
      let cn : length xs ≡ f = count-names F in
      let cv : length vs ≡ f = count-values F in
      let k : 4 - length (value_words vs) ≡ 4 - f = omega (arith, length-values vs) in
      let z = zeros (4 - f) ++ r in
      let d : drop (at + 1) w ≡ x ∷ (value_words vs ++ z) = e ∙ ap (λ y. x ∷ y) (pad-front 4 (value_words vs) r ∙ ap (λ i. value_words vs ++ (zeros i ++ r)) k) in
      let one : at + 1 + 1 ≡ at + 2 = omega arith in
      let d2 : drop (at + 2) w ≡ value_words vs ++ z = ap (λ i. drop i w) (sym one) ∙ drop-next w (at + 1) x _ d in
      let d3 : drop (at + 2 + f) w ≡ z = ap (λ i. drop (at + 2 + i) w) (sym (length-values vs ∙ cv)) ∙ drop_past w (at + 2) (value_words vs) z d2 in
      let g = few-are 4 _ _ xs h.1 in
      let n : names_hold W f (get_or w (at + 1) 0) ≡ true = rw (drop-first w (at + 1) x _ d, ← cn) (word-names W xs h.3.1 g.1 g.2) in
      let v : values_at w f (at + 2) ≡ some vs = ap (λ i. values_at w i (at + 2)) (sym cv) ∙ values-read vs w (at + 2) z h.3.2 d2 in
      both₄ (lt-ltb f 5 (omega arith)) n (some-within (all (allowed K a)) (values_at w f (at + 2)) vs v (is_all (allowed K a) P (λ y k. k) vs (fields-all P F h.2))) (zeros-read (4 - f) w (at + 2 + f) r d3)
