-- The laws of literals: that their names are new one after another says that they are different, and the ways to return. Assumes
-- nothing.
use Rattle.std.specs.Prelude.{ℕ, ◌/◌, ◌%◌, ◌≤◌, ◌<◌, ◌≡◌, Bool, ◌&&◌, not, Option as Maybe, Some, None, eqb, leb, ltb, length, set, replicate}
use Rattle.std.proofs.Math.Path.{refl, sym, ap}
use Rattle.std.proofs.Common.{◌∙◌, true≢false, rules}
use Rattle.std.proofs.Math.Bool.{true, false, and-false}
use mathlib.Core.List.{List, [], ◌∷◌, ◌++◌, map}
use native.Mathlib.Omega.{arith}
use borrow.Author.Tests.{le-leb, lt-leb, lt-ltb, leb-true}
use Rattle.atlite.specs.Base.{member, all, distinct_by}
use Rattle.atlite_laws.specs.Facts.{and₂}
use Rattle.atlite.specs.Term.{this, Value, Kind, literal, Inits, no_field, Methods, no_method, method, init_names, Signature, same_signature, signatures, seen}
use Rattle.atlite.specs.Valid.{is_name, few_distinct, fields_named, methods_named, parameters}
use Rattle.decoding.specs.ValidTest.{held, well_formed, well_formed_inits, well_formed_methods}
use Rattle.layout.specs.Numbers.{payload, name_limit, digit_limit}
use Rattle.layout.specs.Terms.{count_inits, count_methods}
use Rattle.layout_laws.specs.Parse.{parts, formed, parse_inits, parse_methods}
use Rattle.layout_laws.proofs.ParseSound.{inits-sound, methods-sound}
use Rattle.layout_laws.specs.ParseLaws.{parse}
use Rattle.checks.specs.Scope.{Swapped, Kept}
use Rattle.layout_laws.specs.Fitting.{each_all, count-inits, count-methods}
use Rattle.layout_laws.specs.Signatures.{signed, Below}
use Rattle.layout_laws.proofs.Signatures.{signed-distinct}
use Rattle.layout_laws.specs.LastThree.{distinct_from, from-none}
use Rattle.term_words.specs.Kinds.{allowed}
use Rattle.term_words.specs.Words.{holds}
use Rattle.term_words.specs.Ends.{end_of, methods_hold, Scope, is_new, field_head, sign, method_head, fields_well, methods_well, TermEnds, FieldsEnd, MethodsEnd, PartsEnd, LiteralEnds, Opens, Refers}
use Rattle.term_words.specs.ScopeLaws.{scope-none, scope-bind}
use Rattle.term_words.specs.NameLaws.{name_below, met-none}
use Rattle.wellformed.specs.EndLaws.{ends_same, ends-none, ends-pair, ends-pair-none}
use Rattle.wellformed.specs.ShapeLaws.{only_none}
use Rattle.wellformed.specs.ListLaws.{methods-none}

-- ---- names one after another
module _ (c : ℕ) (p : Value → Bool) (xs : List ℕ) where
  fields_split : (ns : List ℕ) (fs : Inits) → fields_well c p xs ns fs ≡ (distinct_from ns (init_names fs) && all (is_name c) (init_names fs)) && well_formed_inits c p xs fs
  unfolding fields_well field_head is_new distinct_from init_names all well_formed
  fields_split ns no_field = refl
  fields_split ns (Inits.field f e fs) =
      rw (fields_split (f ∷ ns) fs)
      (turn (is_name c f) (not (member f ns)) (well_formed c p xs e) (distinct_from (f ∷ ns) (init_names fs)) (all (is_name c) (init_names fs)) (well_formed_inits c p xs fs))
    where
      turn : (n m a d l w : Bool) → (n && m) && (a && ((d && l) && w)) ≡ ((m && d) && (n && l)) && (a && w)
      turn true true true d l w = refl
      turn true true false true true w = refl
      turn true true false true false w = refl
      turn true true false false l w = refl
      turn true false a d l w = refl
      turn false true a true l w = refl
      turn false true a false l w = refl
      turn false false a d l w = refl

  methods-split : (ns : List ℕ) (ms : Methods) → methods_well c p xs ns ms ≡ (distinct_from ns (map (signed name_limit) (signatures ms)) && all (λ s. is_name c s.0) (signatures ms)) && well_formed_methods c p xs ms
  unfolding methods_well method_head is_new distinct_from signatures all well_formed
  methods-split ns no_method = refl
  methods-split ns (method m ys e ms) =
      let x = sign m ys in
      rw (methods-split (x ∷ ns) ms)
      (turn (is_name c m) (not (member x ns)) (parameters c ys) (well_formed c p (ys ++ xs) e) (distinct_from (x ∷ ns) (map (signed name_limit) (signatures ms))) (all (λ s. is_name c s.0) (signatures ms)) (well_formed_methods c p xs ms))
    where
      turn : (n m b a d l w : Bool) → ((n && m) && b) && (a && ((d && l) && w)) ≡ ((m && d) && (n && l)) && (b && a && w)
      turn true true true true d l w = refl
      turn true true true false true true w = refl
      turn true true true false true false w = refl
      turn true true true false false l w = refl
      turn true true false a true true w = refl
      turn true true false a true false w = refl
      turn true true false a false l w = refl
      turn true false b a d l w = refl
      turn false true b a true l w = refl
      turn false true b a false l w = refl
      turn false false b a d l w = refl

-- ---- at most four names
list-few : {X : Type 0} (e : X → X → Bool) (q : X → Bool) (n : ℕ) (xs : List X) → length xs ≡ n → n ≤ 4 → few_distinct 4 e q xs ≡ distinct_by e xs && all q xs
unfolding few_distinct
list-few e q n xs i l = rw (i, le-leb n 4 l)

list-many : {X : Type 0} (e : X → X → Bool) (q : X → Bool) (n : ℕ) (xs : List X) → length xs ≡ n → leb n 4 ≡ false → few_distinct 4 e q xs ≡ false
unfolding few_distinct
list-many e q n xs i l = rw (i, l)

-- the numbers of signatures that are names
names-signed : (c : ℕ) (ss : List Signature) → c ≤ 64 → all (λ s. is_name c s.0) ss ≡ true → distinct_from [] (map (signed name_limit) ss) ≡ distinct_by same_signature ss
names-signed c ss l h = from-none (map (signed name_limit) ss) ∙ signed-distinct name_limit ss (each_all (Below name_limit) (λ s. is_name c s.0) (λ s e. omega (arith, name_below c s.0 l e)) ss h)

module _ (c : ℕ) (p : Value → Bool) (xs : List ℕ) where
  pub fields-named : (fs : Inits) → count_inits fs ≤ 4 → fields_well c p xs [] fs ≡ fields_named c (init_names fs) && well_formed_inits c p xs fs
  fields-named fs l = fields_split c p xs [] fs ∙ rw (from-none (init_names fs), list-few eqb (is_name c) (count_inits fs) (init_names fs) (sym (count-inits fs)) l)

  -- where a method has no name, both sides are false, whatever the numbers are
  pub methods-named : (ms : Methods) → c ≤ 64 → count_methods ms ≤ 4 → methods_well c p xs [] ms ≡ methods_named c (signatures ms) && well_formed_methods c p xs ms
  methods-named ms f l =
      let q : Signature → Bool = λ s. is_name c s.0 in
      methods-split c p xs [] ms ∙ ap (λ b. b && well_formed_methods c p xs ms) (go (all q (signatures ms)) refl ∙ sym (list-few same_signature q (count_methods ms) (signatures ms) (sym (count-methods ms)) l))
    where
      go : (b : Bool) → all (λ s. is_name c s.0) (signatures ms) ≡ b
          → distinct_from [] (map (signed name_limit) (signatures ms)) && all (λ s. is_name c s.0) (signatures ms) ≡ distinct_by same_signature (signatures ms) && all (λ s. is_name c s.0) (signatures ms)
      go true e = ap (λ b. b && all (λ s. is_name c s.0) (signatures ms)) (names-signed c (signatures ms) f e)
      go false e = rw e (and-false (distinct_from [] (map (signed name_limit) (signatures ms))) ∙ sym (and-false (distinct_by same_signature (signatures ms))))

module _ (c : ℕ) (p : Value → Bool) (xs : List ℕ) where
  literal-named : (t : Kind) (fs : Inits) (ms : Methods) → c ≤ 64 → count_inits fs ≤ 4 → count_methods ms ≤ 4
      → well_formed c p xs (literal t fs ms) ≡ fields_well c (held t p) (this ∷ seen t xs) [] fs && methods_well c (held t p) (this ∷ seen t xs) [] ms
  unfolding well_formed
  literal-named t fs ms f l k =
      let ys = this ∷ seen t xs in
      turn (fields_named c (init_names fs)) (methods_named c (signatures ms)) (well_formed_inits c (held t p) ys fs) (well_formed_methods c (held t p) ys ms)
      ∙ sym (rw (fields-named c (held t p) ys fs l, methods-named c (held t p) ys ms f k))
    where
      turn : (a b d e : Bool) → a && b && d && e ≡ (a && d) && (b && e)
      turn true true d e = refl
      turn true false true e = refl
      turn true false false e = refl
      turn false b d e = refl

  -- one list is too long
  literal-long : (t : Kind) (fs : Inits) (ms : Methods) → leb (count_inits fs) 4 && leb (count_methods ms) 4 ≡ false → well_formed c p xs (literal t fs ms) ≡ false
  unfolding well_formed
  literal-long t fs ms h = go (leb (count_inits fs) 4) (leb (count_methods ms) 4) refl refl h
    where
      none : (a d e : Bool) → a && false && d && e ≡ false
      none true d e = refl
      none false d e = refl

      go : (a b : Bool) → leb (count_inits fs) 4 ≡ a → leb (count_methods ms) 4 ≡ b → a && b ≡ false
          → fields_named c (init_names fs) && methods_named c (signatures ms) && well_formed_inits c (held t p) (this ∷ seen t xs) fs && well_formed_methods c (held t p) (this ∷ seen t xs) ms ≡ false
      go true true i j h = absurd (true≢false h)
      go true false i j h = rw (list-many same_signature (λ s. is_name c s.0) (count_methods ms) (signatures ms) (sym (count-methods ms)) j) (none (fields_named c (init_names fs)) _ _)
      go false b i j h = rw (list-many eqb (is_name c) (count_inits fs) (init_names fs) (sym (count-inits fs)) i)

-- ---- the ways to return
module _ (c h : ℕ) (F : List ℕ) (g : ℕ) (w : List ℕ) (at : ℕ) (o : Bool) (e : o ≡ leb (h % payload % digit_limit) 4 && leb (h % payload / digit_limit) 4) where
  pub literal-not : (p : Value → Bool) → o ≡ false → LiteralEnds c p F g w h at None
  unfolding LiteralEnds formed
  literal-not p u t k xs s =
      only_none c p xs w at (ltb (h % payload / digit_limit) digit_limit) (parts t (h % payload % digit_limit) (h % payload / digit_limit))
      (λ v. ends-pair-none (literal t) (well_formed c p xs) (parse_inits (length w) w (h % payload % digit_limit) at) (λ i. parse_methods (length w) w (h % payload / digit_limit) i) (λ fs i ms j f m.
      literal-long c p xs t fs ms (rw ((inits-sound (length w) w _ at fs i f).1, (methods-sound (length w) w _ i ms j m).1) (sym e ∙ u))))

  pub literal-well : (refs own : Bool) (K : List ℕ) (b i u : ℕ) (r : Maybe ℕ) (G : List ℕ) → c ≤ 64 → o ≡ true → Opens g h i → Refers refs h own → Swapped F 0 i G u
      → PartsEnd c (holds own K b) G i w (h % payload % digit_limit) (h % payload / digit_limit % digit_limit) at r → LiteralEnds c (holds refs K b) F g w h at r
  unfolding LiteralEnds formed Refers PartsEnd
  literal-well refs own K b i u r G c64 v d f x y t k xs s =
      let ys = this ∷ seen t xs in
      let q = holds own K b in
      let m = and₂ (leb (h % payload % digit_limit) 4) (leb (h % payload / digit_limit) 4) (sym e ∙ v) in
      let n = leb-true (h % payload % digit_limit) 4 m.0 in
      let p = leb-true (h % payload / digit_limit) 4 m.1 in
      let o : Scope G i ys = rw x.new (scope-bind F i (seen t xs) (d.inner t k F xs s) 0 (omega arith)) in
      let c₁ : h % payload / digit_limit % digit_limit ≡ h % payload / digit_limit = omega arith in
      rw c₁ at (y ys o n (omega arith))
      ∙ rw (lt-ltb (h % payload / digit_limit) digit_limit (omega arith))
      (ends-pair (literal t) (well_formed c (holds refs K b) xs) (fields_well c q ys []) (methods_well c q ys []) (parse_inits (length w) w (h % payload % digit_limit) at) (λ i. parse_methods (length w) w (h % payload / digit_limit) i)
      (λ fs i ms j x z.
      literal-named c (holds refs K b) xs t fs ms c64 (omega (arith, (inits-sound (length w) w _ at fs i x).1)) (omega (arith, (methods-sound (length w) w _ i ms j z).1))
      ∙ ap (λ p. fields_well c p ys [] fs && methods_well c p ys [] ms) (sym (f t k K b))))

module _ (c : ℕ) (p : Value → Bool) (F : List ℕ) (g : ℕ) (w : List ℕ) (n m at : ℕ) where
  pub parts-none : FieldsEnd c p F g w 0 n at None → PartsEnd c p F g w n m at None
  unfolding PartsEnd FieldsEnd
  parts-none i xs s k l = rw (sym (i xs [] s (met-none n k)))

  pub parts-well : (a : ℕ) (r : Maybe ℕ) (G : List ℕ) → FieldsEnd c p F g w 0 n at (Some a) → Kept F G → MethodsEnd c p G g w 0 m a r → PartsEnd c p F g w n m at r
  unfolding PartsEnd FieldsEnd MethodsEnd Kept
  parts-well a r G i v j xs s k l = j xs [] (rw v s) (met-none m l) ∙ rw (sym (i xs [] s (met-none n k)))

pub ruleset literal_laws = (rules, literal-not, literal-well)

pub ruleset parts_laws = (rules, parts-none, parts-well)

-- ---- an actor's expression, and an entity's methods
pub expression-ends : (c : ℕ) (K : List ℕ) (a : ℕ) (w : List ℕ) (r : Maybe ℕ) → TermEnds c (holds true K a) (replicate name_limit 0) 1 w 0 r → r ≡ end_of (well_formed c (allowed K a) []) (parse w 0)
unfolding TermEnds holds
expression-ends c K a w r j = j [] scope-none

module _ (c : ℕ) (p : Value → Bool) (w : List ℕ) (n at : ℕ) where
  pub methods-many : 4 < n → None ≡ end_of (methods_hold c p) (parse_methods (length w) w n at)
  unfolding methods_hold
  methods-many l =
      ends-none (methods_hold c p) (parse_methods (length w) w n at)
      (λ ms i g. rw (list-many same_signature (λ s. is_name c s.0) n (signatures ms) (sym (count-methods ms) ∙ (methods-sound (length w) w n at ms i g).1) (lt-leb n 4 l)))

  pub methods-held : (r : Maybe ℕ) → c ≤ 64 → n ≤ 4 → MethodsEnd c p (set (replicate name_limit 0) 0 1) 1 w 0 n at r → r ≡ end_of (methods_hold c p) (parse_methods (length w) w n at)
  unfolding methods_hold MethodsEnd
  methods-held r f l j =
      j (this ∷ []) [] (scope-bind (replicate name_limit 0) 1 [] scope-none 0 (omega arith)) (met-none n l)
      ∙ ends_same (methods_hold c p) (methods_well c p (this ∷ []) []) (parse_methods (length w) w n at)
      (λ ms i g. sym (methods-named c p (this ∷ []) ms f (omega (arith, (methods-sound (length w) w n at ms i g).1))))

  pub methods-no : c ≤ 64 → n ≡ 0 → Some at ≡ end_of (methods_hold c p) (parse_methods (length w) w n at)
  methods-no f e = methods-held (Some at) f (omega arith) (methods-none c p (set (replicate name_limit 0) 0 1) 1 w 0 n at e)

pub ruleset laws = (rules, expression-ends, methods-no, methods-many, methods-held)
