-- What is got at a position stands there: it fits, and from the position to its end the words are its own. By induction on the fuel;
-- of a reader's answer is said `Ended`, which asks nothing where there is none, so that no answer has to be taken apart. Assumes
-- nothing.
use Prim.Native.Nat.{ℕ, zero, suc, ◌+◌, ◌<◌}
use Rattle.std.specs.Prelude.{◌≡◌, Bool, true, false, List, [], ◌∷◌, ◌++◌, ltb, length, get_or}
use Rattle.std.proofs.Math.Path.{refl, ap}
use Rattle.std.proofs.Common.{◌∙◌, ltb-true, ltb-false}
use Rattle.std.proofs.Math.Option.{Option, some}
use Rattle.std.proofs.Math.ListN.{get_or-eq_default}
use Rattle.atlite.specs.Term.{Term, op, literal, Terms, cons, Inits, Methods, method, count_terms}
use Rattle.layout_laws.specs.PackLaws.{NameFits}
use Rattle.layout.specs.Terms.{count_inits, count_methods, field_header, method_header, encode_term, encode_terms, encode_inits, encode_methods}
use Rattle.layout_laws.specs.TermLaws.{Fits, FitsAll, FitsInits, FitsMethods}
use Rattle.decoding.specs.Kinds.{Kinds}
use Rattle.layout_laws.specs.Parse.{Got, none, got, on_got, pair, behind, Head, no_head, leaf, unary, binary, many, parts, head_of, head_in, head_at, field_at, method_at, terms_by, inits_by, methods_by, formed, parse_term, parse_terms, parse_inits, parse_methods}
use Rattle.layout_laws.specs.ParseWords.{Holding, field-word, MethodIs, method-word}
use Rattle.layout_laws.specs.ParseHeads.{Is, Reads}
use Rattle.layout_laws.proofs.ParseHeads.{head-reads}
use Rattle.layout_laws.specs.Spans.{Spans, span_none, span-word, span-join}
use Rattle.layout_laws.specs.ParseSound.{Ended, TermAt, TermsAt, InitsAt, MethodsAt}

pub ended : {A : Type 0} (Q : A → ℕ → Type 0) (g : Got A) (a : A) (i : ℕ) → Ended Q g → g ≡ got a i → Q a i
ended Q g a i h e = rw e at h

module _ {A B : Type 0} (P : A → ℕ → Type 0) (Q : B → ℕ → Type 0) where
  pub ended-on : (f : A → B) (g : Got A) → Ended P g → ((a : A) (i : ℕ) → P a i → Q (f a) i) → Ended Q (on_got f g)
  ended-on f none h k = tt
  ended-on f (got a i) h k = k a i h

pub ended-pair : {A B C : Type 0} (P : A → ℕ → Type 0) (Q : ℕ → B → ℕ → Type 0) (R : C → ℕ → Type 0) (f : A → B → C) (g : Got A) (q : ℕ → Got B)
    → Ended P g → ((i : ℕ) → Ended (Q i) (q i)) → ((a : A) (i : ℕ) (b : B) (j : ℕ) → P a i → Q i b j → R (f a b) j) → Ended R (pair f g q)
ended-pair P Q R f none q h k l = tt
ended-pair P Q R f (got a i) q h k l = ended-on (Q i) R (f a) (q i) (k i) (λ b j m. l a i b j h m)

pub ended-behind : {A B : Type 0} (P : A → Type 0) (R : B → ℕ → Type 0) (o : Option A) (q : A → Got B) → Holding P o → ((a : A) → P a → Ended R (q a)) → Ended R (behind o q)
ended-behind P R Option.none q h k = tt
ended-behind P R (some a) q h k = k a h

-- past the end the word is 0, of which nothing is read
ended-word : {A : Type 0} (R : A → ℕ → Type 0) (w : List ℕ) (at : ℕ) (f : ℕ → Got A) → f 0 ≡ none → (at < length w → Ended R (f (get_or w at 0))) → Ended R (f (get_or w at 0))
ended-word R w at f z h = go (ltb at (length w)) refl
  where
    go : (b : Bool) → ltb at (length w) ≡ b → Ended R (f (get_or w at 0))
    go true e = h (ltb-true at (length w) e)
    go false e = let d : f (get_or w at 0) ≡ none = ap f (get_or-eq_default w 0 (ltb-false at (length w) e)) ∙ z in rw d tt

-- a word, a part and another part
span-three : (w : List ℕ) (x at i j : ℕ) (xs ys : List ℕ) → Spans w at (at + 1) (x ∷ []) → Spans w (at + 1) i xs → Spans w i j ys → Spans w at j (x ∷ (xs ++ ys))
span-three w x at i j xs ys s t u = span-join w at (at + 1) j (x ∷ []) (xs ++ ys) s (span-join w (at + 1) i j xs ys t u)

is_at : (w : List ℕ) (at i : ℕ) (e : Term) (xs : List ℕ) → Is e xs → Spans w at i xs → TermAt w at e i
is_at w at i e xs h s = (h.0, rw h.1 s)

-- ---- a reader by another that is sound
module _ (w : List ℕ) (p : ℕ → Got Term) (sound : (at : ℕ) → Ended (TermAt w at) (p at)) where
  terms-by : (c at : ℕ) → Ended (TermsAt w c at) (terms_by p c at)
  unfolding terms_by FitsAll count_terms encode_terms
  terms-by zero at = (tt, refl, span_none w at)
  terms-by (suc c) at = ended-pair (TermAt w at) (λ i. TermsAt w c i) (TermsAt w (suc c) at) cons (p at) (λ i. terms_by p c i) (sound at) (λ i. terms-by c i)
      (λ e i es j h k. ((h.0, k.0), ap suc k.1, span-join w at i j (encode_term e) (encode_terms es) h.1 k.2))

  -- an element behind a header, and the rest of its list
  ended-headed : {H L : Type 0} (P : H → ℕ → Type 0) (Q : ℕ → L → ℕ → Type 0) (R : L → ℕ → Type 0) (g : ℕ → Option H) (f : H → Term → L → L) (q : ℕ → Got L) (at : ℕ)
      → g 0 ≡ Option.none → ((x : ℕ) → Holding (λ h. P h x) (g x)) → ((i : ℕ) → Ended (Q i) (q i))
      → ((h : H) (e : Term) (i : ℕ) (l : L) (j : ℕ) → P h (get_or w at 0) → Spans w at (at + 1) (get_or w at 0 ∷ []) → TermAt w (at + 1) e i → Q i l j → R (f h e l) j)
      → Ended R (behind (g (get_or w at 0)) (λ h. pair (f h) (p (at + 1)) q))
  ended-headed {H} P Q R g f q at z s t k = ended-word R w at (λ x. behind (g x) (λ h. pair (f h) (p (at + 1)) q)) (ap (λ (o : Option H). behind o (λ h. pair (f h) (p (at + 1)) q)) z) (λ b.
      ended-behind (λ h. P h (get_or w at 0)) R (g (get_or w at 0)) (λ h. pair (f h) (p (at + 1)) q) (s (get_or w at 0)) (λ h d.
      ended-pair (TermAt w (at + 1)) Q R (f h) (p (at + 1)) q (sound (at + 1)) t (λ e i l j u v. k h e i l j d (span-word w at b) u v)))

  inits-by : (c at : ℕ) → Ended (InitsAt w c at) (inits_by p w c at)
  unfolding inits_by FitsInits count_inits encode_inits field_at
  inits-by zero at = (tt, refl, span_none w at)
  inits-by (suc c) at =
      ended-headed (λ f x. NameFits f × (field_header f ≡ x)) (λ i. InitsAt w c i) (InitsAt w (suc c) at) field_at Inits.field (λ i. inits_by p w c i) at refl field-word (λ i. inits-by c i)
      (λ f e i fs j d s h k. ((d.0, h.0, k.0), ap suc k.1, span-three w (field_header f) at i j (encode_term e) (encode_inits fs) (rw d.1 s) h.1 k.2))

  methods-by : (c at : ℕ) → Ended (MethodsAt w c at) (methods_by p w c at)
  unfolding methods_by FitsMethods count_methods encode_methods method_at
  methods-by zero at = (tt, refl, span_none w at)
  methods-by (suc c) at =
      ended-headed (λ h x. MethodIs h.0 h.1 x) (λ i. MethodsAt w c i) (MethodsAt w (suc c) at) method_at (λ h. method h.0 h.1) (λ i. methods_by p w c i) at refl method-word (λ i. methods-by c i)
      (λ m e i ms j d s h k. ((d.0, d.1, d.2, h.0, k.0), ap suc k.1, span-three w (method_header m.0 m.1) at i j (encode_term e) (encode_methods ms) (rw d.3 s) h.1 k.2))

  formed-by : (h : Head) (x at : ℕ) → Reads x h → Spans w at (at + 1) (x ∷ []) → Ended (TermAt w at) (formed h p w (at + 1))
  unfolding formed
  formed-by no_head x at r s = tt
  formed-by (leaf e) x at r s = is_at w at (at + 1) e (x ∷ []) r s
  formed-by (unary f) x at r s =
      ended-on (TermAt w (at + 1)) (TermAt w at) f (p (at + 1)) (sound (at + 1))
      (λ e i h. is_at w at i (f e) (x ∷ encode_term e) (r e h.0) (span-join w at (at + 1) i (x ∷ []) (encode_term e) s h.1))
  formed-by (binary f) x at r s =
      ended-pair (TermAt w (at + 1)) (λ i. TermAt w i) (TermAt w at) f (p (at + 1)) p (sound (at + 1)) sound
      (λ e i d j h k. is_at w at j (f e d) _ (r e d h.0 k.0) (span-three w x at i j (encode_term e) (encode_term d) s h.1 k.1))
  formed-by (many o n) x at r s =
      ended-on (TermsAt w n (at + 1)) (TermAt w at) (op o) (terms_by p n (at + 1)) (terms-by n (at + 1))
      (λ es i h. is_at w at i (op o es) (x ∷ encode_terms es) (r es h.0 h.1) (span-join w at (at + 1) i (x ∷ []) (encode_terms es) s h.2))
  formed-by (parts k n m) x at r s =
      ended-pair (InitsAt w n (at + 1)) (λ i. MethodsAt w m i) (TermAt w at) (literal k) (inits_by p w n (at + 1)) (λ i. methods_by p w m i) (inits-by n (at + 1)) (λ i. methods-by m i)
      (λ fs i ms j h g. is_at w at j (literal k fs ms) _ (r fs ms h.0 g.0 h.1 g.1) (span-three w x at i j (encode_inits fs) (encode_methods ms) s h.2 g.2))

-- ---- the law
term-ended : (n : ℕ) (w : List ℕ) (at : ℕ) → Ended (TermAt w at) (parse_term n w at)
unfolding parse_term formed head_at Kinds head_in head_of
term-ended zero w at = tt
term-ended (suc n) w at =
    ended-word (TermAt w at) w at (λ x. formed (head_at x) (λ i. parse_term n w i) w (at + 1)) refl
    (λ l. formed-by w (λ i. parse_term n w i) (λ i. term-ended n w i) (head_at (get_or w at 0)) (get_or w at 0) at (head-reads (get_or w at 0)) (span-word w at l))

module _ (n : ℕ) (w : List ℕ) where
  pub term-sound : (at : ℕ) (e : Term) (i : ℕ) → parse_term n w at ≡ got e i → TermAt w at e i
  term-sound at e i = ended (TermAt w at) (parse_term n w at) e i (term-ended n w at)

  pub terms-sound : (c at : ℕ) (es : Terms) (i : ℕ) → parse_terms n w c at ≡ got es i → TermsAt w c at es i
  terms-sound c at es i = ended (TermsAt w c at) (parse_terms n w c at) es i (terms-by w (λ i. parse_term n w i) (λ i. term-ended n w i) c at)

  pub inits-sound : (c at : ℕ) (fs : Inits) (i : ℕ) → parse_inits n w c at ≡ got fs i → InitsAt w c at fs i
  inits-sound c at fs i = ended (InitsAt w c at) (parse_inits n w c at) fs i (inits-by w (λ i. parse_term n w i) (λ i. term-ended n w i) c at)

  pub methods-sound : (c at : ℕ) (ms : Methods) (i : ℕ) → parse_methods n w c at ≡ got ms i → MethodsAt w c at ms i
  methods-sound c at ms i = ended (MethodsAt w c at) (parse_methods n w c at) ms i (methods-by w (λ i. parse_term n w i) (λ i. term-ended n w i) c at)
