-- Literals: fields and methods, item by item, each with its header word before its expression. Assumes nothing.
use Rattle.std.specs.Prelude.{◌≡◌, Bool, true, false, ℕ, suc, ◌+◌, ◌-◌, ◌*◌, ◌≤◌, ◌<◌, drop, Option, Some, None}
use Rattle.std.proofs.Math.Path.{refl, ap}
use Rattle.std.proofs.Common.{sym, ◌∙◌}
use mathlib.Core.List.{List, [], ◌∷◌, ◌++◌}
use native.Mathlib.Omega.{arith}
use Rattle.std.proofs.Math.ListN.{length, set, length-append}
use Rattle.std.proofs.Math.Seq.{sets}
use Rattle.atlite.specs.Base.{Result, done, refused, ◌>>=◌, bytes}
use Rattle.atlite.specs.Lexicon.{Bytes, dictionary}
use Rattle.atlite.specs.Script.{Src, SrcFields, SrcMethods}
use Rattle.atlite.specs.Table.{count_fields, count_methods}
use Rattle.atlite.specs.Keywords.{operators}
use Rattle.atlite.specs.Reader.{Reading, read_word, read_fields, read_methods, read_expr}
use Rattle.layout.specs.Numbers.{field_kind, digit_limit}
use Rattle.words.specs.Wide.{wide, wide_src, wide_fields, wide_methods}
use Rattle.scan.specs.Runs.{Starts}
use Rattle.lexemes.specs.declared.names.Name.{Name}
use Rattle.lexemes.specs.declared.scratch.Step.{Step}
use Rattle.lexemes.specs.declared.scratch.Listed.{Listed}
use Rattle.lexemes.specs.Atoms.{NameRead, Named, NameOf}
use Rattle.lexemes.specs.DescentContract.{listed, Read, Took, Reads, Closed, ListRead, TookList, Lists, read_one, ones, one_words, read_literal, literals, literal_words, fields_from, methods_from, field_at, read_rest, TookEnd, Ended}
use Rattle.layout_laws.specs.Writes.{sets-append}
use Rattle.lexemes.specs.DescentLaws.{bind_assoc, headed}

-- ---- places
module _ (A : Type 0) (enc : A → List ℕ) (num : A → ℕ) (most b : ℕ) (R : ℕ → Reading A) (t : Bytes) (at o : ℕ) (old new : List ℕ) (s : Listed)
    (u : Lists enc num most b R t at o old new (Some s)) where
  once : ListRead enc num most b t at o old new (R (length t - at + 1) (drop at t)) s.at s.out s.count
  unfolding Lists TookList
  once = u (length t - at + 1) (omega arith)

  pub list-within : s.at ≤ length t
  list-within = let r = once in r.within

  pub list-far : at ≤ s.at
  list-far = let r = once in r.far

  pub list-short : o ≤ at → s.out ≤ s.at
  list-short h = let r = once in let b = r.short in omega arith

  pub list-few : s.count ≤ most
  list-few = let r = once in r.few

-- ---- no item, and what stands behind an opening of d bytes
module _ (L : Type 0) (enc : L → List ℕ) (num : L → ℕ) (t : Bytes) (at o b : ℕ) (old : List ℕ) where
  pub no_item : (l : L) (Q : Result (L × Bytes)) → enc l ≡ [] → num l ≡ 0 → Q ≡ done (l, drop at t) → at ≤ length t → b ≤ 4 → ListRead enc num 4 b t at o old old Q at o b
  no_item l Q e z q w h = record {
    value = l;
    is = q;
    far = omega arith;
    within = w;
    wrote = rw e;
    ends = rw e (omega arith);
    short = omega arith;
    counted = omega arith;
    few = h;
  }

  pub behind : (d i p c : ℕ) (new : List ℕ) (R Q : Result (L × Bytes)) → Q ≡ R → ListRead enc num 4 b t (at + d) o old new R i p c → ListRead enc num 4 b t at o old new Q i p c
  behind d i p c new R Q e x =
      let f = x.far in
      let y = x.short in
      record { value = x.value; is = e ∙ x.is; far = omega arith; within = x.within; wrote = x.wrote; ends = x.ends; short = omega arith; counted = x.counted; few = x.few }

-- ---- an item before others
module _ (L : Type 0) (enc : L → List ℕ) (num : L → ℕ) (con : Src → L → L) (w : ℕ)
    (encoded : (e : Src) (l : L) → enc (con e l) ≡ (w ∷ wide_src e) ++ enc l) (counts : (e : Src) (l : L) → num (con e l) ≡ suc (num l)) where
  pub item-core : (t : Bytes) (at o b i j p k q c : ℕ) (old m₁ new : List ℕ) (R₁ : Result (Src × Bytes)) (R₂ Q : Result (L × Bytes))
      (x : Read (one_words w) t i o old m₁ R₁ j p) (y : ListRead enc num 4 (b + 1) t j p m₁ new R₂ k q c)
      → Q ≡ done (con x.value y.value, drop k t) → at ≤ i → ListRead enc num 4 b t at o old new Q k q c
  unfolding one_words
  item-core t at o b i j p k q c old m₁ new R₁ R₂ Q x y z l =
      let b₁ = x.short in
      let b₂ = y.short in
      let f = x.far in
      let g = y.far in
      let a₁ = x.ends in
      let a₂ = y.ends in
      let n₁ = y.counted in
      let n₂ = counts x.value y.value in
      let both : new ≡ sets old o ((w ∷ wide_src x.value) ++ enc y.value) =
      y.wrote ∙ rw (x.wrote, a₁) (sets-append (w ∷ wide_src x.value) (enc y.value) old o) in
      record {
        value = con x.value y.value;
        is = z;
        far = omega arith;
        within = y.within;
        wrote = both ∙ ap (sets old o) (sym (encoded x.value y.value));
        ends = omega (arith, length-append (w ∷ wide_src x.value) (enc y.value), ap length (encoded x.value y.value));
        short = omega arith;
        counted = omega arith;
        few = y.few;
      }

-- ---- its expression, behind its header word w
unfoldable pub OneRead : Bytes → ℕ → ℕ → ℕ → List ℕ → List ℕ → ℕ → ℕ → ℕ → Type 0
OneRead t i o w old new n j p = Read (one_words w) t i o old new (read_one (read_expr operators n (dictionary t)) (drop i t)) j p

module _ (t : Bytes) (at i o w : ℕ) (old new : List ℕ) (far : at < i) where
  pub value-bad : (n : ℕ) → Reads (one_words w) (ones t) t i o old new None → length t - at < n → read_one (read_expr operators n (dictionary t)) (drop i t) ≡ refused 2
  unfolding Reads Took ones
  value-bad n u l = u n (omega arith)

  pub value : (n : ℕ) (e : Step) → length t - at < n → Reads (one_words w) (ones t) t i o old new (Some e) → OneRead t i o w old new n e.at e.out
  unfolding Reads Took ones OneRead
  value n e l u = u n (omega arith)

-- ---- fields
module _ (t : Bytes) (at o b : ℕ) (old new : List ℕ) where
  pub fields-full : at ≤ length t → b ≡ 4 → Lists wide_fields count_fields 4 b (fields_from b t) t at o old old (listed at o b)
  unfolding Lists TookList fields_from read_fields wide_src count_fields
  fields-full h e n l = no_item SrcFields wide_fields count_fields t at o b old SrcFields.no_field _ refl refl (rw e) h (omega arith)

  module _ (r : Bool) (s : Starts t at (32 ∷ 40 ∷ 102 ∷ 105 ∷ 101 ∷ 108 ∷ 100 ∷ 32 ∷ []) r) (h : b ≤ 4) (z : b ≡ 4 → ⊥) where
    left : 4 - b ≡ suc (4 - (b + 1))
    left = omega arith

    field_is : (n : ℕ) → r ≡ true → read_fields (dictionary t) (read_expr operators n (dictionary t)) (suc (4 - (b + 1))) (drop at t) ≡ field_at b t n (drop (at + 8) t)
    unfolding Starts read_fields field_at read_one bytes
    field_is n e = let y = rw e at s in rw (y.0, read_fields) (simp bind_assoc)

    pub fields-more : (a : Option Listed) → r ≡ true → Lists wide_fields count_fields 4 b (field_at b t) t (at + 8) o old new a
        → Lists wide_fields count_fields 4 b (fields_from b t) t at o old new a
    unfolding Lists TookList fields_from
    fields-more (Some z) e u n l = behind SrcFields wide_fields count_fields t at o b old _ z.at z.out z.count new _ _ (rw left (field_is n e)) (u n (omega arith))
    fields-more None e u n l = rw left (field_is n e) ∙ u n (omega arith)

    none_is : (n : ℕ) → r ≡ false → read_fields (dictionary t) (read_expr operators n (dictionary t)) (suc (4 - (b + 1))) (drop at t) ≡ done (SrcFields.no_field, drop at t)
    unfolding Starts read_fields bytes
    none_is n e = let y = rw e at s in rw (y, read_fields)

    pub fields-none : r ≡ false → at ≤ length t → Lists wide_fields count_fields 4 b (fields_from b t) t at o old old (listed at o b)
    unfolding Lists TookList fields_from wide_src count_fields
    fields-none e k n l = no_item SrcFields wide_fields count_fields t at o b old SrcFields.no_field _ refl refl (rw left (none_is n e)) k h

  pub field-bad : NameOf t at None → Lists wide_fields count_fields 4 b (field_at b t) t at o old new None
  unfolding Lists TookList field_at NameOf Named
  field-bad s n l = rw s

  module _ (x : Name) (s : NameOf t at (Some x)) (w : ℕ) (h : w ≡ wide field_kind x.number) (m₁ : List ℕ) where
    abbrev i : ℕ
    i = x.end

    named : NameRead (read_word (dictionary t) (drop at t)) t at x.number i
    unfolding NameOf Named
    named = s

    pub field-value-bad : Reads (one_words w) (ones t) t x.end o old m₁ None → Lists wide_fields count_fields 4 b (field_at b t) t at o old new None
    unfolding Lists TookList field_at
    field-value-bad u n l = let y = named in rw y.is (rw (value-bad t at i o w old m₁ y.far n u l))

    abbrev One : ℕ → ℕ → ℕ → Type 0
    One n j p = OneRead t i o w old m₁ n j p

    Rest : ℕ → ℕ → ℕ → ℕ → ℕ → ℕ → Type 0
    Rest n j p k q c = ListRead wide_fields count_fields 4 (b + 1) t j p m₁ new (read_fields (dictionary t) (read_expr operators n (dictionary t)) (4 - (b + 1)) (drop j t)) k q c

    field-core : (n j p k q c : ℕ) → One n j p → Rest n j p k q c → ListRead wide_fields count_fields 4 b t at o old new (field_at b t n (drop at t)) k q c
    unfolding field_at wide_src count_fields OneRead Rest
    field-core n j p k q c z v =
        let y = named in
        let g = y.far in
        item-core SrcFields wide_fields count_fields (SrcFields.field x.number) w (λ e l. rw h) (λ e l. refl) t at o b i j p k q c old m₁ new _ _ _ z v
        (rw y.is (rw z.is (rw v.is))) (omega arith)

    field-last : (n j p : ℕ) → One n j p → read_fields (dictionary t) (read_expr operators n (dictionary t)) (4 - (b + 1)) (drop j t) ≡ refused 2 → field_at b t n (drop at t) ≡ refused 2
    unfolding field_at OneRead
    field-last n j p z v = let y = named in rw y.is (rw z.is (rw v))

    pub field-done : (e : Step) (c : Option Listed) → Reads (one_words w) (ones t) t x.end o old m₁ (Some e)
        → Lists wide_fields count_fields 4 (b + 1) (fields_from (b + 1) t) t e.at e.out m₁ new c
        → Lists wide_fields count_fields 4 b (field_at b t) t at o old new c
    unfolding Lists TookList fields_from OneRead Rest
    field-done e (Some y) u v n l =
        let z = value t at i o w old m₁ named.far n e l u in let g = named.far in let g' = z.far in field-core n e.at e.out y.at y.out y.count z (v n (omega arith))
    field-done e None u v n l =
        let z = value t at i o w old m₁ named.far n e l u in let g = named.far in let g' = z.far in field-last n e.at e.out z (v n (omega arith))

-- ---- literals
module _ (t : Bytes) (at p o k c : ℕ) (old m₁ new : List ℕ) where
  abbrev Methods : ℕ → ℕ → ℕ → ℕ → Type 0
  Methods n j q d = ListRead wide_methods count_methods 4 0 t at p old m₁ (read_methods (dictionary t) (read_expr operators n (dictionary t)) 4 (drop at t)) j q d

  ended-core : (n j q d w : ℕ) (r : Option Step) → Methods n j q d → w ≡ wide k (c + digit_limit * d) → Closed t j m₁ o w q new r
      → TookEnd k c t at p old o new (read_rest (dictionary t) (read_expr operators n (dictionary t)) (drop at t)) r
  unfolding TookEnd Closed read_rest
  ended-core n j q d w (Some s) x h z =
      let b₁ = x.short in
      let f = x.far in
      let a₁ = x.ends in
      let num = x.counted in
      let g = z.next in
      let e = z.ends in
      let whole : w ≡ wide k (c + digit_limit * count_methods x.value) = omega arith in
      record {
        value = x.value;
        is = rw x.is (rw z.is);
        far = omega arith;
        within = z.within;
        wrote = z.wrote ∙ ap (λ (y : List ℕ). set y o w) x.wrote ∙ ap (λ (y : ℕ). set (sets old p (wide_methods x.value)) o y) whole;
        ends = omega arith;
        short = omega arith;
      }
  ended-core n j q d w None x h z = rw x.is (rw z)

  pub ended-done : (b : Listed) (w : ℕ) (r : Option Step) → Lists wide_methods count_methods 4 0 (methods_from 0 t) t at p old m₁ (Some b)
      → w ≡ wide k (c + digit_limit * b.count) → Closed t b.at m₁ o w b.out new r → Ended k c t at p old o new r
  unfolding Ended Lists TookList methods_from
  ended-done b w r s h z n l = ended-core n b.at b.out b.count w r (s n l) h z

  pub ended-bad : Lists wide_methods count_methods 4 0 (methods_from 0 t) t at p old m₁ None → Ended k c t at p old o new None
  unfolding Ended TookEnd Lists TookList methods_from read_rest
  ended-bad s n l = let z = s n l in rw z

module _ (t : Bytes) (at o : ℕ) (old m₁ new : List ℕ) (k : ℕ) where
  abbrev Fields : ℕ → ℕ → ℕ → ℕ → Type 0
  Fields n i p c = ListRead wide_fields count_fields 4 0 t at (o + 1) old m₁ (read_fields (dictionary t) (read_expr operators n (dictionary t)) 4 (drop at t)) i p c

  pub literal-bad : Lists wide_fields count_fields 4 0 (fields_from 0 t) t at (o + 1) old m₁ None → Reads (literal_words k) (literals t) t at o old new None
  unfolding Reads Took literals read_literal Lists TookList fields_from
  literal-bad u n l = let z = u n l in rw z

  literals-is : (n i p c : ℕ) (x : Fields n i p c)
      → literals t n (drop at t) ≡ ◌>>=◌ {B = (SrcFields × SrcMethods) × Bytes} (read_rest (dictionary t) (read_expr operators n (dictionary t)) (drop i t)) (λ r. done ((x.value, r.0), r.1))
  unfolding literals read_literal read_rest
  literals-is n i p c x = rw x.is (simp bind_assoc)

  literal-core : (n i p c : ℕ) (r : Option Step) → Fields n i p c → TookEnd k c t i p m₁ o new (read_rest (dictionary t) (read_expr operators n (dictionary t)) (drop i t)) r
      → Took (literal_words k) t at o old new (literals t n (drop at t)) r
  unfolding Took TookEnd literal_words
  literal-core n i p c (Some s) x y =
      let b₁ = x.short in
      let b₂ = y.short in
      let f = x.far in
      let g = y.far in
      let a₁ = x.ends in
      let a₂ = y.ends in
      let n₁ = x.counted in
      let w = wide k (count_fields x.value + digit_limit * count_methods y.value) in
      let whole : wide k (c + digit_limit * count_methods y.value) ≡ w = omega arith in
      let both : sets m₁ p (wide_methods y.value) ≡ sets old (o + 1) (wide_fields x.value ++ wide_methods y.value) =
      rw (x.wrote, a₁) (sets-append (wide_fields x.value) (wide_methods y.value) old (o + 1)) in
      record {
        value = (x.value, y.value);
        is = literals-is n i p c x ∙ rw y.is;
        far = omega arith;
        within = y.within;
        wrote = y.wrote ∙ ap (λ (z : ℕ). set (sets m₁ p (wide_methods y.value)) o z) whole ∙ ap (λ (z : List ℕ). set z o w) both
            ∙ headed (wide_fields x.value ++ wide_methods y.value) old o w;
        ends = omega (arith, length-append (wide_fields x.value) (wide_methods y.value));
        short = omega arith;
      }
  literal-core n i p c None x y = literals-is n i p c x ∙ rw y

  pub literal-done : (f : Listed) (r : Option Step) → Lists wide_fields count_fields 4 0 (fields_from 0 t) t at (o + 1) old m₁ (Some f)
      → Ended k f.count t f.at f.out m₁ o new r → Reads (literal_words k) (literals t) t at o old new r
  unfolding Reads Ended Lists TookList fields_from
  literal-done f r u v n l = let x = u n l in let g = x.far in literal-core n f.at f.out f.count r x (v n (omega arith))
