-- What is well formed fits its bits: at most 64 words make names below 127, and lists keep the text's limits. By induction on the
-- term. Assumes nothing.
use Rattle.std.specs.Prelude.{ℕ, zero, suc, ◌+◌, ◌≤◌, ◌<◌, ◌≡◌, refl, Bool, true, false, not, List, [], ◌∷◌, ◌++◌, length, eqb, leb, ltb, if◌then◌else◌}
use Rattle.std.proofs.Common.{ap}
use Rattle.std.proofs.lemmas.Bool.{false≢true}
use native.Mathlib.Omega.{arith}
use borrow.Author.Tests.{ltb-true, leb-true, eqb-true}
use Rattle.atlite.specs.Base.{member, all, any}
use Rattle.atlite.specs.Term.{this, apply, first_word, Value, null, num, ref, Name, plain, two_way, resolve, register, Shape, exactly, on_field, calling, sending, shape, Kind, Term, val, var, op, let_in, future, literal, Terms, nil, cons, Inits, no_field, Methods, no_method, method, count_terms, init_names, Signature, same_signature, signatures, seen, top}
use Rattle.atlite.specs.Valid.{is_name, is_variable, sendable, callable, shapely, operable, unreferring, few_distinct, fields_named, methods_named, parameters}
use Rattle.decoding.specs.ValidTest.{held, well_formed, well_formed_all, well_formed_inits, well_formed_methods}
use Rattle.atlite_laws.specs.Facts.{and₂, and₃, and₄}
use Rattle.atlite_laws.specs.Laws.{few-are}
use Rattle.layout.specs.Terms.{count_inits, count_methods}
use Rattle.layout_laws.specs.PackLaws.{NameFits, Each, each_append}
use Rattle.layout_laws.specs.TermLaws.{ValueFits, NameOk, ShapeFits, Fits, FitsAll, FitsInits, FitsMethods}

pub each_all : {A : Type 0} (P : A → Type 0) (p : A → Bool) (f : (x : A) → p x ≡ true → P x) (xs : List A) → all p xs ≡ true → Each P xs
unfolding all
each_all P p f [] h = tt
each_all P p f (x ∷ xs) h = let r = and₂ (p x) (all p xs) h in (f x r.0, each_all P p f xs r.1)

module _ (w : ℕ) (l : w ≤ 64) where
  pub name-fits : (x : ℕ) → is_name w x ≡ true → NameFits x
  unfolding is_name
  name-fits x h =
      let r = and₂ (leb apply x) (ltb x (first_word + w)) h in
      let b : x < first_word + w = ltb-true x (first_word + w) r.1 in
      omega arith

  pub variable-fits : (x : ℕ) → is_variable w x ≡ true → NameFits x
  unfolding is_variable
  variable-fits x h =
      let r = and₂ (ltb this x) (ltb x (first_word + w)) h in
      let b : x < first_word + w = ltb-true x (first_word + w) r.1 in
      omega arith

  pub send-fits : (m : Name) (n : ℕ) → sendable w m n ≡ true → NameOk m × (n ≤ 4)
  unfolding sendable
  send-fits (plain m) n h =
      let r = and₂ (is_name w m) (leb n 3) h in let b = leb-true n 3 r.1 in (name-fits m r.0, omega arith)
  send-fits (two_way m) n h =
      let r = and₃ (is_name w m) (ltb 0 n) (leb n 4) h in let b = leb-true n 4 r.2 in (name-fits m r.0, omega arith)
  send-fits resolve n h = let b = eqb-true n 1 h in (tt, omega arith)
  send-fits register n h = let b = eqb-true n 1 h in (tt, omega arith)

  pub call_fits : (m : Name) (n : ℕ) → callable w m n ≡ true → NameOk m × (n ≤ 4)
  unfolding callable
  call_fits (plain m) n h =
      let r = and₂ (is_name w m) (leb n 3) h in let b = leb-true n 3 r.1 in (name-fits m r.0, omega arith)
  call_fits (two_way m) n h = absurd (false≢true h)
  call_fits resolve n h = let b = eqb-true n 1 h in (tt, omega arith)
  call_fits register n h = absurd (false≢true h)

  pub shape-fits : (s : Shape Name) (n : ℕ) → shapely w s n ≡ true → ShapeFits s n
  shape-fits (exactly k) n h = eqb-true n k h
  shape-fits (on_field f k) n h = let r = and₂ (is_name w f) (eqb n k) h in (name-fits f r.0, eqb-true n k r.1)
  shape-fits (calling m) zero h = false≢true h
  shape-fits (calling m) (suc n) h = let q = call_fits m n h in (q.0, omega (arith, q.1))
  shape-fits (sending m) zero h = false≢true h
  shape-fits (sending m) (suc n) h = let q = send-fits m n h in (q.0, omega (arith, q.1))

pub plain_fits : (v : Value) → unreferring v ≡ true → ValueFits v
unfolding unreferring
plain_fits null h = tt
plain_fits (num n) h = let b = leb-true n top h in omega arith
plain_fits (ref a s n) h = absurd (false≢true h)

-- words that may stand in a variable
abbrev pub Known : List ℕ → Type 0
Known xs = Each NameFits xs

known-or : (x y : ℕ) (r : Bool) (b : Bool) → eqb x y ≡ b → NameFits y → (r ≡ true → NameFits x) → (if b then true else r) ≡ true → NameFits x
known-or x y r true e k f h = let q = eqb-true x y e in omega arith
known-or x y r false e k f h = f h

member-known : (x : ℕ) (xs : List ℕ) → Known xs → member x xs ≡ true → NameFits x
unfolding any
member-known x [] k h = absurd (false≢true h)
member-known x (y ∷ ys) k h = known-or x y (member x ys) (eqb x y) refl k.0 (λ q. member-known x ys k.1 q) h

known-seen : (k : Kind) (xs : List ℕ) → Known xs → Known (seen k xs)
unfolding seen
known-seen Kind.object xs h = h
known-seen Kind.isolate xs h = tt
known-seen Kind.actor xs h = tt

held_fits : (k : Kind) (p : Value → Bool) → ((v : Value) → p v ≡ true → ValueFits v) → (v : Value) → held k p v ≡ true → ValueFits v
unfolding held
held_fits Kind.object p f v h = f v h
held_fits Kind.isolate p f v h = plain_fits v h
held_fits Kind.actor p f v h = plain_fits v h

mutual
  unfolding count_inits init_names

  pub count-inits : (fs : Inits) → count_inits fs ≡ length (init_names fs)
  count-inits no_field = refl
  count-inits (Inits.field f e fs) = ap suc (count-inits fs)

mutual
  unfolding count_methods signatures

  pub count-methods : (ms : Methods) → count_methods ms ≡ length (signatures ms)
  count-methods no_method = refl
  count-methods (method m xs e ms) = ap suc (count-methods ms)

-- few names, signatures or parameters fit, one by one
abbrev pub SignatureFits : Signature → Type 0
SignatureFits s = NameFits s.0

few-fit : {X : Type 0} (k : ℕ) (e : X → X → Bool) (p : X → Bool) (Q : X → Type 0) → ((x : X) → p x ≡ true → Q x) → (xs : List X) → few_distinct k e p xs ≡ true → (length xs ≤ k) × Each Q xs
few-fit k e p Q f xs h = let r = few-are k e p xs h in (r.0, each_all Q p f xs r.2)

module _ (w : ℕ) (l : w ≤ 64) where
  pub fields-named-fit : (xs : List ℕ) → fields_named w xs ≡ true → (length xs ≤ 4) × Each NameFits xs
  fields-named-fit = few-fit 4 eqb (is_name w) NameFits (name-fits w l)

  pub methods-named-fit : (ss : List Signature) → methods_named w ss ≡ true → (length ss ≤ 4) × Each SignatureFits ss
  methods-named-fit = few-fit 4 same_signature (λ s. is_name w s.0) SignatureFits (λ s. name-fits w l s.0)

  pub parameters-fit : (xs : List ℕ) → parameters w xs ≡ true → (length xs ≤ 3) × Each NameFits xs
  parameters-fit = few-fit 3 eqb (is_variable w) NameFits (variable-fits w l)

abbrev pub Sound : (Value → Bool) → Type 0
Sound p = (v : Value) → p v ≡ true → ValueFits v

mutual
  unfolding well_formed Fits init_names signatures

  pub fits-term : (e : Term) (w : ℕ) (p : Value → Bool) (xs : List ℕ) → w ≤ 64 → Sound p → Known xs → well_formed w p xs e ≡ true → Fits e
  fits-term (val v) w p xs l f k h = f v h
  fits-term (var x) w p xs l f k h = member-known x xs k h
  fits-term (op o es) w p xs l f k h =
      let r = and₂ (operable w o (count_terms es)) (well_formed_all w p xs es) h in (shape-fits w l (shape o) (count_terms es) r.0, fits_all es w p xs l f k r.1)
  fits-term (let_in x a b) w p xs l f k h =
      let r = and₃ (is_variable w x) (well_formed w p xs a) (well_formed w p (x ∷ xs) b) h in
      let q = variable-fits w l x r.0 in
      (q, fits-term a w p xs l f k r.1, fits-term b w p (x ∷ xs) l f (q, k) r.2)
  fits-term (future x y e) w p xs l f k h =
      let r = and₄ (is_variable w x) (is_variable w y) (not (eqb x y)) (well_formed w p (x ∷ y ∷ xs) e) h in
      let q = variable-fits w l x r.0 in
      let q' = variable-fits w l y r.1 in
      (q, q', fits-term e w p (x ∷ y ∷ xs) l f (q, (q', k)) r.3)
  fits-term (literal t fs ms) w p xs l f k h =
      let ys = this ∷ seen t xs in
      let r = and₄ (fields_named w (init_names fs)) (methods_named w (signatures ms)) (well_formed_inits w (held t p) ys fs) (well_formed_methods w (held t p) ys ms) h in
      let a = fields-named-fit w l (init_names fs) r.0 in
      let b = methods-named-fit w l (signatures ms) r.1 in
      let k' : Known ys = (omega arith, known-seen t xs k) in (
        omega (arith, a.0, count-inits fs),
        omega (arith, b.0, count-methods ms),
        fits-inits fs w (held t p) ys l (held_fits t p f) k' a.1 r.2,
        fits-methods ms w (held t p) ys l (held_fits t p f) k' b.1 r.3,
      )

  fits_all : (es : Terms) (w : ℕ) (p : Value → Bool) (xs : List ℕ) → w ≤ 64 → Sound p → Known xs → well_formed_all w p xs es ≡ true → FitsAll es
  fits_all nil w p xs l f k h = tt
  fits_all (cons e es) w p xs l f k h =
      let r = and₂ (well_formed w p xs e) (well_formed_all w p xs es) h in (fits-term e w p xs l f k r.0, fits_all es w p xs l f k r.1)

  fits-inits : (fs : Inits) (w : ℕ) (p : Value → Bool) (xs : List ℕ) → w ≤ 64 → Sound p → Known xs → Each NameFits (init_names fs) → well_formed_inits w p xs fs ≡ true → FitsInits fs
  fits-inits no_field w p xs l f k n h = tt
  fits-inits (Inits.field g e fs) w p xs l f k n h =
      let r = and₂ (well_formed w p xs e) (well_formed_inits w p xs fs) h in (n.0, fits-term e w p xs l f k r.0, fits-inits fs w p xs l f k n.1 r.1)

  pub fits-methods : (ms : Methods) (w : ℕ) (p : Value → Bool) (xs : List ℕ) → w ≤ 64 → Sound p → Known xs → Each SignatureFits (signatures ms) → well_formed_methods w p xs ms ≡ true → FitsMethods ms
  fits-methods no_method w p xs l f k n h = tt
  fits-methods (method m ys e ms) w p xs l f k n h =
      let r = and₃ (parameters w ys) (well_formed w p (ys ++ xs) e) (well_formed_methods w p xs ms) h in
      let q = parameters-fit w l ys r.0 in
      (n.0, q.1, q.0, fits-term e w p (ys ++ xs) l f (each_append NameFits ys xs q.1 k) r.1, fits-methods ms w p xs l f k n.1 r.2)
