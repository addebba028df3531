-- A term that fits is got where its words stand, with fuel for as many words. By induction on the term: each part is met behind what
-- stands before it. Assumes nothing.
use Prim.Native.Nat.{ℕ, zero, suc, ◌+◌, ◌≤◌}
use Rattle.std.specs.Prelude.{◌≡◌, length, drop, get_or}
use Rattle.std.proofs.Common.{sym, ◌∙◌, add-zero, arith, length-append}
use Rattle.std.proofs.Math.Path.{ap}
use mathlib.Core.List.{List, [], ◌∷◌, ◌++◌, append_assoc}
use Rattle.std.proofs.Math.Option.{Option, some}
use Rattle.atlite.specs.Term.{Name, Op, Kind, Term, val, var, op, let_in, future, literal, Terms, nil, cons, Inits, no_field, Methods, no_method, method, count_terms}
use Rattle.layout.specs.Pack.{node}
use Rattle.layout_laws.specs.PackLaws.{NameFits, Each}
use Rattle.layout.specs.Terms.{count_inits, count_methods, encode_value, field_header, method_header, encode_term, encode_terms, encode_inits, encode_methods}
use Rattle.layout_laws.specs.TermLaws.{Fits, FitsAll, FitsInits, FitsMethods}
use Rattle.layout_laws.specs.Parse.{Got, got, on_got, pair, behind, Head, leaf, unary, binary, many, parts, head_at, field_at, method_at, terms_by, inits_by, methods_by, formed, parse_term, parse_terms, parse_inits, parse_methods}
use Rattle.layout_laws.specs.ParseWords.{field-read, method-read}
use Rattle.layout_laws.proofs.ParseHeads.{head-value, head-var, head-op, head-let, head-future, head-literal}
use Rattle.layout_laws.specs.Spans.{drop_past, drop-next, drop-first}
use Rattle.layout_laws.specs.ParseComplete.{Meets, MeetsTerm}

module _ (w : List ℕ) where
  meets-none : {A : Type 0} (a : A) → Meets (λ n at. got a at) w [] a
  meets-none a n at r l e = ap (got a) (sym (add-zero at))

  meets_on : {A B : Type 0} (f : A → B) (p : ℕ → ℕ → Got A) (xs : List ℕ) (a : A) → Meets p w xs a → Meets (λ n at. on_got f (p n at)) w xs (f a)
  meets_on f p xs a h n at r l e = ap (on_got f) (h n at r l e)

  meets-pair : {A B C : Type 0} (f : A → B → C) (p : ℕ → ℕ → Got A) (q : ℕ → ℕ → Got B) (xs ys : List ℕ) (a : A) (b : B)
      → Meets p w xs a → Meets q w ys b → Meets (λ n at. pair f (p n at) (λ i. q n i)) w (xs ++ ys) (f a b)
  meets-pair f p q xs ys a b h k n at r l e =
      let s = length-append xs ys in
      let d : drop at w ≡ xs ++ (ys ++ r) = e ∙ append_assoc xs ys r in
      ap (λ g. pair f g (λ i. q n i)) (h n at (ys ++ r) (omega arith) d)
      ∙ ap (on_got (f a)) (k n (at + length xs) r (omega arith) (drop_past w at xs (ys ++ r) d))
      ∙ ap (got (f a b)) (omega arith)

  -- a word that some reading answers, and what stands behind it
  meets-behind : {H A : Type 0} (g : ℕ → Option H) (x : ℕ) (h : H) (q : H → ℕ → ℕ → Got A) (xs : List ℕ) (a : A)
      → g x ≡ some h → Meets (q h) w xs a → Meets (λ n at. behind (g (get_or w at 0)) (λ i. q i n (at + 1))) w (x ∷ xs) a
  meets-behind g x h q xs a d k n at r l e =
      ap (λ o. behind o (λ i. q i n (at + 1))) (ap g (drop-first w at x (xs ++ r) e) ∙ d) ∙ k n (at + 1) r (omega arith) (drop-next w at x (xs ++ r) e) ∙ ap (got a) (omega arith)

  -- a head, and the fuel that it takes
  meets-head : (x : ℕ) (h : Head) (xs : List ℕ) (e : Term) → head_at x ≡ h → Meets (λ n at. formed h (λ i. parse_term n w i) w at) w xs e → MeetsTerm w (x ∷ xs) e
  unfolding parse_term
  meets-head x h xs e d k zero at r l s = absurd (omega arith)
  meets-head x h xs e d k (suc n) at r l s =
      ap (λ y. formed y (λ i. parse_term n w i) w (at + 1)) (ap head_at (drop-first w at x (xs ++ r) s) ∙ d)
      ∙ k n (at + 1) r (omega arith) (drop-next w at x (xs ++ r) s) ∙ ap (got e) (omega arith)

  meets-leaf : (x : ℕ) (e : Term) → head_at x ≡ leaf e → MeetsTerm w (x ∷ []) e
  unfolding formed
  meets-leaf x e d = meets-head x (leaf e) [] e d (meets-none e)

  meets-one : (x : ℕ) (f : Term → Term) (xs : List ℕ) (e : Term) → head_at x ≡ unary f → MeetsTerm w xs e → MeetsTerm w (x ∷ xs) (f e)
  unfolding formed
  meets-one x f xs e d h = meets-head x (unary f) xs (f e) d (meets_on f (λ n at. parse_term n w at) xs e h)

  meets-two : (x : ℕ) (f : Term → Term → Term) (xs ys : List ℕ) (a b : Term) → head_at x ≡ binary f → MeetsTerm w xs a → MeetsTerm w ys b → MeetsTerm w (x ∷ (xs ++ ys)) (f a b)
  unfolding formed
  meets-two x f xs ys a b d h k = meets-head x (binary f) (xs ++ ys) (f a b) d (meets-pair f (λ n at. parse_term n w at) (λ n at. parse_term n w at) xs ys a b h k)

  meets-many : (x : ℕ) (o : Op Name) (c : ℕ) (xs : List ℕ) (es : Terms) → head_at x ≡ many o c → Meets (λ n at. parse_terms n w c at) w xs es → MeetsTerm w (x ∷ xs) (op o es)
  unfolding formed
  meets-many x o c xs es d h = meets-head x (many o c) xs (op o es) d (meets_on (op o) (λ n at. parse_terms n w c at) xs es h)

  meets-parts : (x : ℕ) (k : Kind) (c d : ℕ) (xs ys : List ℕ) (fs : Inits) (ms : Methods)
      → head_at x ≡ parts k c d → Meets (λ n at. parse_inits n w c at) w xs fs → Meets (λ n at. parse_methods n w d at) w ys ms → MeetsTerm w (x ∷ (xs ++ ys)) (literal k fs ms)
  unfolding formed
  meets-parts x k c d xs ys fs ms e h g = meets-head x (parts k c d) (xs ++ ys) (literal k fs ms) e (meets-pair (literal k) (λ n at. parse_inits n w c at) (λ n at. parse_methods n w d at) xs ys fs ms h g)

  meets-field : (f c : ℕ) (xs ys : List ℕ) (e : Term) (fs : Inits) → NameFits f → MeetsTerm w xs e → Meets (λ n at. parse_inits n w c at) w ys fs
      → Meets (λ n at. parse_inits n w (suc c) at) w (field_header f ∷ (xs ++ ys)) (Inits.field f e fs)
  unfolding inits_by
  meets-field f c xs ys e fs h k g =
      meets-behind field_at (field_header f) f (λ f n at. pair (Inits.field f) (parse_term n w at) (λ i. parse_inits n w c i)) (xs ++ ys) (Inits.field f e fs) (field-read f h)
      (meets-pair (Inits.field f) (λ n at. parse_term n w at) (λ n at. parse_inits n w c at) xs ys e fs k g)

  meets-method : (m : ℕ) (zs : List ℕ) (c : ℕ) (xs ys : List ℕ) (e : Term) (ms : Methods) → NameFits m → Each NameFits zs → length zs ≤ 3 → MeetsTerm w xs e
      → Meets (λ n at. parse_methods n w c at) w ys ms → Meets (λ n at. parse_methods n w (suc c) at) w (method_header m zs ∷ (xs ++ ys)) (method m zs e ms)
  unfolding methods_by
  meets-method m zs c xs ys e ms h i j k g =
      meets-behind method_at (method_header m zs) (m, zs) (λ h n at. pair (method h.0 h.1) (parse_term n w at) (λ i. parse_methods n w c i)) (xs ++ ys) (method m zs e ms) (method-read m zs h i j)
      (meets-pair (method m zs) (λ n at. parse_term n w at) (λ n at. parse_methods n w c at) xs ys e ms k g)

mutual
  unfolding encode_term Fits terms_by inits_by methods_by count_terms count_inits count_methods

  pub term-complete : (e : Term) (w : List ℕ) → Fits e → MeetsTerm w (encode_term e) e
  term-complete (val v) w h = meets-leaf w (encode_value v) (val v) (head-value v h)
  term-complete (var x) w h = meets-leaf w (node 6 x) (var x) (head-var x h)
  term-complete (op o es) w h = meets-many w _ o (count_terms es) (encode_terms es) es (head-op o (count_terms es) h.0) (terms-complete es w h.1)
  term-complete (let_in x a b) w h = meets-two w (node 11 x) (λ e d. let_in x e d) (encode_term a) (encode_term b) a b (head-let x h.0) (term-complete a w h.1) (term-complete b w h.2)
  term-complete (future x y e) w h = meets-one w _ (λ e. future x y e) (encode_term e) e (head-future x h.0 y h.1) (term-complete e w h.2)
  term-complete (literal k fs ms) w h =
      meets-parts w _ k (count_inits fs) (count_methods ms) (encode_inits fs) (encode_methods ms) fs ms (head-literal k (count_inits fs) (count_methods ms) h.0 h.1) (inits-complete fs w h.2) (methods-complete ms w h.3)

  pub terms-complete : (es : Terms) (w : List ℕ) → FitsAll es → Meets (λ n at. parse_terms n w (count_terms es) at) w (encode_terms es) es
  terms-complete nil w h = meets-none w nil
  terms-complete (cons e es) w h =
      meets-pair w cons (λ n at. parse_term n w at) (λ n at. parse_terms n w (count_terms es) at) (encode_term e) (encode_terms es) e es (term-complete e w h.0) (terms-complete es w h.1)

  pub inits-complete : (fs : Inits) (w : List ℕ) → FitsInits fs → Meets (λ n at. parse_inits n w (count_inits fs) at) w (encode_inits fs) fs
  inits-complete no_field w h = meets-none w no_field
  inits-complete (Inits.field f e fs) w h = meets-field w f (count_inits fs) (encode_term e) (encode_inits fs) e fs h.0 (term-complete e w h.1) (inits-complete fs w h.2)

  pub methods-complete : (ms : Methods) (w : List ℕ) → FitsMethods ms → Meets (λ n at. parse_methods n w (count_methods ms) at) w (encode_methods ms) ms
  methods-complete no_method w h = meets-none w no_method
  methods-complete (method m xs e ms) w h = meets-method w m xs (count_methods ms) (encode_term e) (encode_methods ms) e ms h.0 h.1 h.2 (term-complete e w h.3) (methods-complete ms w h.4)
