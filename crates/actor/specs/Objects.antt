-- The slot of an object or an isolate: the test answers where its methods end among the bodies, if such an entity stands there. Assumes nothing.
use Rattle.std.specs.Prelude.{ℕ, ◌+◌, ◌≤◌, ◌<◌, ◌/◌, ◌%◌, ◌≡◌, Bool, false, ◌&&◌, cond, Option, Some, None, List, [], ◌∷◌, ◌++◌}
use Rattle.std.specs.Bool.{then_some}
use Rattle.std.proofs.lemmas.Option.{same_Some}
use Rattle.std.proofs.Math.Path.{refl, sym, ap, ap₂}
use Rattle.std.proofs.Common.{◌∙◌, append_assoc}
use Rattle.std.proofs.Math.Bool.{true}
use native.Mathlib.Omega.{arith}
use borrow.Author.Tests.{eqb-true, eq-eqb}
use Rattle.std.proofs.Math.Dec.{eqb}
use Rattle.std.proofs.Math.ListN.{length, drop, get_or}
use Rattle.atlite.specs.Term.{this, Value, Methods, signatures}
use Rattle.atlite.specs.State.{Field, Tag, Entity, object}
use Rattle.atlite.specs.Valid.{methods_named, HeldBy, WellFormedMethods, IsEntity}
use Rattle.atlite_laws.specs.Facts.{and₃, both₃}
use Rattle.invariant.specs.TermTests.{Is}
use Rattle.layout.specs.Numbers.{digit_limit, digits_limit, slot_unit, slot_size, slot_body}
use Rattle.layout.specs.Terms.{count_methods, encode_methods}
use Rattle.layout_laws.specs.Fitting.{methods-named-fit, count-methods}
use Rattle.layout.specs.Layout.{slot_head, tag_number, slot, entity_methods}
use Rattle.layout_laws.specs.Slots.{EntityFits, tag-low, head-kind, head-fields}
use Rattle.layout_laws.specs.ParseSound.{MethodsAt}
use Rattle.layout_laws.specs.Spans.{Spans, drop_past, drop-next, drop-first, span-end, span-word, span-join}
use Rattle.term_words.specs.Kinds.{allowed, future_by}
use Rattle.actor.specs.Tests.{fields_at, object_at, object_end}
use Rattle.actor.specs.Fields.{field_words, five-words, fields-sound, fields-complete}

-- ---- numbers
-- a test that answers a position
pub reached-by : (t : Bool) (x e : ℕ) → then_some t x ≡ Some e → (t ≡ true) × (x ≡ e)
reached-by true x e h = (refl, same_Some x e h)
reached-by false x e h = cc

-- and one that comes before an answer
pub reached-if : (t : Bool) (x : Option ℕ) (e : ℕ) → cond t x None ≡ Some e → (t ≡ true) × (x ≡ Some e)
reached-if true x e h = (refl, h)
reached-if false x e h = cc

-- a head by its digits
head-sum : (h k f m n : ℕ) → h % digit_limit ≡ k → h / digit_limit % digit_limit ≡ f → h / digits_limit % digit_limit ≡ m → h / slot_unit ≡ n → slot_head k f m n ≡ h
unfolding slot_head
head-sum h k f m n i j l o = omega arith

-- and the digits of a head
pub head-number : (k f m n : ℕ) → k < 8 → f < 8 → m < 8 → (slot_head k f m n / slot_unit ≡ n) × (slot_head k f m n / digits_limit % digit_limit ≡ m)
unfolding slot_head
head-number k f m n i j l = (omega arith, omega arith)

-- a word that is known
pub span-is : (w : List ℕ) (at i x : ℕ) → at < length w → at + 1 ≡ i → get_or w at 0 ≡ x → Spans w at i (x ∷ [])
span-is w at i x l e d = rw (← d) (span-end w at (at + 1) i (get_or w at 0 ∷ []) (span-word w at l) e)

-- ---- what a slot answers
module _ (K : List ℕ) (a W : ℕ) (w B : List ℕ) (few : W ≤ 64) where
  abbrev P : Value → Type 0
  P = Is (allowed K a)

  -- f answers where m methods end that begin at b, for the bodies of objects or of isolates
  pub record Judges (t : Tag) (f : ℕ → ℕ → Option ℕ) : Type 0 where
    pub sound : (m b e : ℕ) → f m b ≡ Some e → (M : Methods) × MethodsAt B m b M e × (methods_named W (signatures M) ≡ true) × WellFormedMethods M W (HeldBy t P) (this ∷ [])
    pub complete : (m b e : ℕ) (M : Methods) → MethodsAt B m b M e → methods_named W (signatures M) ≡ true → WellFormedMethods M W (HeldBy t P) (this ∷ []) → f m b ≡ Some e

  -- the n-th entity of its series in the slot at `at`, its methods from b to e
  abbrev pub Here : ℕ → ℕ → ℕ → Entity → ℕ → Type 0
  Here n at b o e = Spans w at (at + slot_size) (slot n o) × Spans B b e (encode_methods (entity_methods o)) × EntityFits n o × IsEntity W P (future_by K) a n o

  -- ---- objects and isolates
  module _ (t : Tag) (f : ℕ → ℕ → Option ℕ) (j : Judges t f) where
    object-stands : (n at b e : ℕ) → at + slot_size ≤ length w → get_or w at 0 / slot_unit ≡ n → get_or w at 0 % digit_limit ≡ tag_number t
        → f (get_or w at 0 / digits_limit % digit_limit) b ≡ Some e → object_at K a W w at b e ≡ true → (F : List Field) × (M : Methods) × Here n at b (object t F M) e
    unfolding object_at slot entity_methods field_words
    object-stands n at b e i num k fe y =
        let x = get_or w at 0 in
        let m = x / digits_limit % digit_limit in
        let r = and₃ (fields_at K a W w (x / digit_limit % digit_limit) at) (eqb (get_or w (at + 7) 0) 0) (eqb (b + get_or w (at + slot_body) 0) e) y in
        let q = fields-sound K a W w few (x / digit_limit % digit_limit) at i r.0 in
        let F = q.0 in
        let g = j.sound m b e fe in
        let M = g.0 in
        let last = eqb-true (get_or w (at + 7) 0) 0 r.1 in
        let end = eqb-true (b + get_or w (at + slot_body) 0) e r.2 in
        let size : get_or w (at + slot_body) 0 ≡ length (encode_methods M) = omega (arith, g.1.2.1) in
        let c : count_methods M ≤ 4 = omega (arith, (methods-named-fit W few (signatures M) g.2).0, count-methods M) in
        let head : slot_head (tag_number t) (length F) (count_methods M) n ≡ x = ap₂ (λ u v. slot_head (tag_number t) u v n) q.1.0 g.1.1 ∙ head-sum x (tag_number t) (x / digit_limit % digit_limit) m n k refl refl num in
        let c6 = length (encode_methods M) in
        let s6 = span-is w (at + slot_body) (at + 7) c6 (omega arith) (omega arith) size in
        let s7 = span-is w (at + 7) (at + slot_size) 0 (omega arith) (omega arith) last in
        let s67 = span-join w (at + slot_body) (at + 7) (at + slot_size) (c6 ∷ []) (0 ∷ []) s6 s7 in
        let s1 = span-join w (at + 1) (at + slot_body) (at + slot_size) (field_words F) (c6 ∷ 0 ∷ []) q.2 s67 in
        let x0 = slot_head (tag_number t) (length F) (count_methods M) n in
        let s0 = span-join w at (at + 1) (at + slot_size) (x0 ∷ []) (field_words F ++ (c6 ∷ 0 ∷ [])) (span-is w at (at + 1) x0 (omega arith) refl (sym head)) s1 in
        (F, M, (s0, g.1.2, (q.1.3, c, g.1.0), (q.1.1, q.1.2, g.2, g.3)))

    pub object-sound : (n at b e : ℕ) → at + slot_size ≤ length w → get_or w at 0 / slot_unit ≡ n → get_or w at 0 % digit_limit ≡ tag_number t
        → object_end K a W w at b (f (get_or w at 0 / digits_limit % digit_limit) b) ≡ Some e → (F : List Field) × (M : Methods) × Here n at b (object t F M) e
    unfolding object_at object_end slot entity_methods field_words
    object-sound n at b e i num k h = go (f (get_or w at 0 / digits_limit % digit_limit) b) refl h
      where
        go : (o : Option ℕ) → f (get_or w at 0 / digits_limit % digit_limit) b ≡ o → object_end K a W w at b o ≡ Some e → (F : List Field) × (M : Methods) × Here n at b (object t F M) e
        go None fe h = cc
        go (Some i₁) fe h = let z = reached-by (object_at K a W w at b i₁) i₁ e h in object-stands n at b e i num k (fe ∙ ap Some z.1) (rw z.1 at z.0)

    pub object-complete : (n at b e : ℕ) (F : List Field) (M : Methods) → Here n at b (object t F M) e
        → (get_or w at 0 / slot_unit ≡ n) × (get_or w at 0 % digit_limit ≡ tag_number t) × (object_end K a W w at b (f (get_or w at 0 / digits_limit % digit_limit) b) ≡ Some e)
    unfolding object_at object_end slot entity_methods field_words
    object-complete n at b e F M h =
        let u = length F in
        let c = count_methods M in
        let s = length (encode_methods M) in
        let r = drop (at + slot_size) w in
        let k = tag_number t in
        let lu : u < 8 = omega (arith, h.2.0.0) in
        let lc : c < 8 = omega (arith, h.2.1) in
        let fw = field_words F in
        let d0 : drop at w ≡ slot_head k u c n ∷ (fw ++ (s ∷ 0 ∷ r)) = h.0.0 ∙ ap (λ y. slot_head k u c n ∷ y) (append_assoc fw (s ∷ 0 ∷ []) r) in
        let d1 : drop (at + 1) w ≡ fw ++ (s ∷ 0 ∷ r) = drop-next w at _ _ d0 in
        let five : length fw ≡ 5 = five-words F h.2.0 in
        let six : at + 1 + length fw ≡ at + slot_body = omega arith in
        let d6 : drop (at + slot_body) w ≡ s ∷ 0 ∷ r = ap (λ i. drop i w) (sym six) ∙ drop_past w (at + 1) fw (s ∷ 0 ∷ r) d1 in
        let seven : at + slot_body + 1 ≡ at + 7 = omega arith in
        let d7 : drop (at + 7) w ≡ 0 ∷ r = ap (λ i. drop i w) (sym seven) ∙ drop-next w (at + slot_body) s (0 ∷ r) d6 in
        let x0 : get_or w at 0 ≡ slot_head k u c n = drop-first w at _ _ d0 in
        let x6 : get_or w (at + slot_body) 0 ≡ s = drop-first w (at + slot_body) s _ d6 in
        let x7 : get_or w (at + 7) 0 ≡ 0 = drop-first w (at + 7) 0 _ d7 in
        let hn = head-number k u c n (tag-low t) lu lc in
        let hf : slot_head k u c n / digit_limit % digit_limit ≡ u = head-fields k u c n (tag-low t) lu lc in
        let e0 : f c b ≡ Some e = j.complete c b e M (h.2.2, refl, h.1) h.3.2 h.3.3 in
        let e6 : b + s ≡ e = sym h.1.1 in
        let fs : fields_at K a W w u at ≡ true = fields-complete K a W w few at F (s ∷ 0 ∷ r) (refl, h.3.0, h.3.1, h.2.0) d1 in
        let test : (fields_at K a W w u at && eqb 0 0 && eqb (b + s) e) ≡ true = both₃ fs refl (eq-eqb (b + s) e e6) in
        (rw x0 hn.0, rw x0 (head-kind k u c n (tag-low t) lu lc), rw (x0, x6, x7, hn.1, hf, e0, test))
