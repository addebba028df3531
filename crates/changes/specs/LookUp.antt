-- Request P3, one name with several counts: what the look-up of a method finds. It is the method that has the name and as many parameters as there are
-- arguments, wherever it stands in the list, and 12 where none has both. A message that is taken, two-way or not, becomes the call that has
-- the message's own arguments. Assumes nothing.
use Rattle.std.specs.Prelude.{ℕ, ◌≡◌, refl, Bool, true, false, not, List, [], ◌∷◌, ◌++◌, length, eqb, if◌then◌else◌}
use Rattle.std.proofs.Common.{sym, ap, ap₂, ◌∙◌, eqb-true}
use Rattle.std.proofs.lemmas.Bool.{false≢true}
use Rattle.atlite.specs.Base.{done, refused, any, distinct_by}
use Rattle.atlite_laws.specs.Facts.{and₂, both₂, not-true, eqb_same}
use Rattle.atlite.specs.Term.{this, Value, null, plain, two_way, call, Term, val, op, Methods, no_method, method, Signature, same_signature, signatures, values, value_of, values_of}
use Rattle.atlite.specs.Subst.{subst, subst_params}
use Rattle.atlite.specs.State.{Actor}
use Rattle.atlite.specs.Subst.{subst}
use Rattle.atlite.specs.Expansion.{resolving}
use Rattle.atlite.specs.Rules.{invoke, call_rule, call_by_name, receiver_of, operate, rule}
use Rattle.atlite.specs.Move.{init_of, last_of, process}

-- ---- signatures are told to be the same exactly if they are
signature-same : (s t : Signature) → same_signature s t ≡ true → s ≡ t
signature-same (k, i) (m, j) h = let r = and₂ (eqb k m) (eqb i j) h in ap₂ {C = Signature} (λ x y. (x, y)) (eqb-true k m r.0) (eqb-true i j r.1)

same_signature_lem : (s : Signature) → same_signature s s ≡ true
same_signature_lem (k, i) = both₂ (eqb_same k) (eqb_same i)

-- what is not so fails
-- whether a list of methods has one with the name and the count
abbrev pub knows : Methods → Signature → Bool
knows M s = any (same_signature s) (signatures M)

-- ---- the method stands in the list
pub data Stands (k : ℕ) (xs : List ℕ) (e : Term) : Methods → Type 0 where
  first : {M : Methods} → Stands k xs e (method k xs e M)
  later : {j : ℕ} {ys : List ℕ} {d : Term} {M : Methods} → Stands k xs e M → Stands k xs e (method j ys d M)

or_later : (b : Bool) {c : Bool} → c ≡ true → (if b then true else c) ≡ true
or_later true h = refl
or_later false h = h

-- so the list has its signature,
stands-known : {k : ℕ} {xs : List ℕ} {e : Term} {M : Methods} → Stands k xs e M → knows M (k, length xs) ≡ true
unfolding any signatures
stands-known {k} {xs} first = rw (same_signature_lem (k, length xs)) refl
stands-known {k} {xs} (later {j} {ys} s) = or_later (same_signature (k, length xs) (j, length ys)) (stands-known s)

-- and each signature that a list has is a method's
pub record Found (M : Methods) (m n : ℕ) : Type 0 where
  pub params : List ℕ
  pub body : Term
  pub stands : Stands m params body M
  pub count : length params ≡ n

pub known-stands : (M : Methods) (m n : ℕ) → knows M (m, n) ≡ true → Found M m n
unfolding any signatures
known-stands no_method m n h = absurd (false≢true h)
known-stands (method k xs e M) m n h = go (known-stands M m n) (same_signature (m, n) (k, length xs)) refl h
  where
    more : Found M m n → Found (method k xs e M) m n
    more f = record { params = f.params; body = f.body; stands = later f.stands; count = f.count }

    here : ◌≡◌ {A = Signature} (m, n) (k, length xs) → Found (method k xs e M) m n
    here q = let p : m ≡ k = ap (λ s. s.0) q in rw p (record { params = xs; body = e; stands = first; count = sym (ap (λ s. s.1) q) })

    go : (knows M (m, n) ≡ true → Found M m n) → (b : Bool) → same_signature (m, n) (k, length xs) ≡ b → (if b then true else knows M (m, n)) ≡ true
        → Found (method k xs e M) m n
    go ih true i j = here (signature-same (m, n) (k, length xs) i)
    go ih false i j = more (ih j)

-- ---- the look-up
-- If no two methods have one signature, the one with the name and the count is found.
pub invoke-found : {k : ℕ} {xs : List ℕ} {e : Term} (M : Methods) (v : Value) (vs : List Value) → distinct_by same_signature (signatures M) ≡ true
    → Stands k xs e M → length xs ≡ length vs → invoke M k v vs ≡ done (subst this (val v) (subst_params xs vs e))
unfolding invoke signatures distinct_by
invoke-found {k} {xs} {e} no_method v vs d x l = elim x [ ]
invoke-found {k} {xs} {e} (method _ _ _ M) v vs d first l = rw (sym l, same_signature_lem (k, length xs)) refl
invoke-found {k} {xs} {e} (method j ys b M) v vs d (later s) l =
    let r = and₂ (not (knows M (j, length ys))) (distinct_by same_signature (signatures M)) d in
    go (same_signature (j, length ys) (k, length vs)) refl (not-true (knows M (j, length ys)) r.0) (invoke-found M v vs r.1 s l)
  where
    go : (t : Bool) → same_signature (j, length ys) (k, length vs) ≡ t → knows M (j, length ys) ≡ false → invoke M k v vs ≡ done (subst this (val v) (subst_params xs vs e))
        → (if t then done (subst this (val v) (subst_params ys vs b)) else invoke M k v vs) ≡ done (subst this (val v) (subst_params xs vs e))
    go false q n ih = ih
    go true q n ih =
        let p : ◌≡◌ {A = Signature} (j, length ys) (k, length xs) = signature-same (j, length ys) (k, length vs) q ∙ ap (λ n. (k, n)) (sym l) in
        absurd (false≢true (sym n ∙ ap (knows M) p ∙ stands-known s))

-- If none has both, the call is refused with 12.
pub invoke-none : (M : Methods) (m : ℕ) (v : Value) (vs : List Value) → knows M (m, length vs) ≡ false → invoke M m v vs ≡ refused 12
unfolding invoke any signatures
invoke-none no_method m v vs h = refl
invoke-none (method k xs e M) m v vs h = go (same_signature (k, length xs) (m, length vs)) refl (same_signature (m, length vs) (k, length xs)) refl h (invoke-none M m v vs)
  where
    go : (b : Bool) → same_signature (k, length xs) (m, length vs) ≡ b → (c : Bool) → same_signature (m, length vs) (k, length xs) ≡ c
        → (if c then true else knows M (m, length vs)) ≡ false → (knows M (m, length vs) ≡ false → invoke M m v vs ≡ refused 12)
        → (if b then done (subst this (val v) (subst_params xs vs e)) else invoke M m v vs) ≡ refused 12
    go b i true j n ih = absurd (false≢true (sym n))
    go false i false j n ih = ih n
    go true i false j n ih =
        let p = signature-same (k, length xs) (m, length vs) i in
        absurd (false≢true (sym j ∙ ap (λ s. same_signature (m, length vs) s) p ∙ same_signature_lem (m, length vs)))

-- So the order of the methods makes no difference: lists that have the same methods find the same.
pub invoke-order : (M N : Methods) (m : ℕ) (v : Value) (vs : List Value)
    → distinct_by same_signature (signatures M) ≡ true → distinct_by same_signature (signatures N) ≡ true
    → ((k : ℕ) (xs : List ℕ) (e : Term) → Stands k xs e M → Stands k xs e N) → ((k : ℕ) (xs : List ℕ) (e : Term) → Stands k xs e N → Stands k xs e M)
    → invoke M m v vs ≡ invoke N m v vs
invoke-order M N m v vs dM dN to back = go (knows M (m, length vs)) refl (knows N (m, length vs)) refl
  where
    known : (A B : Methods) → ((k : ℕ) (xs : List ℕ) (e : Term) → Stands k xs e A → Stands k xs e B) → Found A m (length vs) → knows B (m, length vs) ≡ true
    known A B f r = ap (λ n. knows B (m, n)) (sym r.count) ∙ stands-known (f m r.params r.body r.stands)

    both : Found M m (length vs) → invoke M m v vs ≡ invoke N m v vs
    both f = invoke-found M v vs dM f.stands f.count ∙ sym (invoke-found N v vs dN (to m f.params f.body f.stands) f.count)

    go : (b : Bool) → knows M (m, length vs) ≡ b → (c : Bool) → knows N (m, length vs) ≡ c → invoke M m v vs ≡ invoke N m v vs
    go true i c j = both (known-stands M m (length vs) i)
    go false i true j = absurd (false≢true (sym i ∙ known N M back (known-stands N m (length vs) j)))
    go false i false j = invoke-none M m v vs i ∙ sym (invoke-none N m v vs j)

-- ---- a call looks up with all its arguments
values-of : (vs : List Value) → values_of (values vs) ≡ vs
unfolding values values_of value_of
values-of [] = refl
values-of (v ∷ vs) = ap (λ l. v ∷ l) (values-of vs)

pub call-looks-up : (s : List Actor) (a : ℕ) (A : Actor) (v : Value) (m : ℕ) (vs : List Value) → rule s a A (op (call (plain m)) (values (v ∷ vs))) ≡ call_rule a A v m vs
unfolding rule operate call_by_name receiver_of
call-looks-up s a A v m vs = rw (values-of (v ∷ vs)) refl

-- and so does a message that is taken,
pub taken-calls : (v : Value) (m : ℕ) (vs : List Value) → process v (plain m) vs ≡ op (call (plain m)) (values (v ∷ vs))
unfolding process
taken-calls v m vs = refl

-- of a two-way message those before the resolver, which stands last and is not counted.
init-of : (vs : List Value) (r : Value) → init_of (vs ++ (r ∷ [])) ≡ vs
unfolding init_of
init-of [] r = refl
init-of (v ∷ []) r = refl
init-of (v ∷ w ∷ vs) r = ap (λ l. v ∷ l) (init-of (w ∷ vs) r)

last-of : (vs : List Value) (r : Value) → last_of (vs ++ (r ∷ [])) ≡ r
unfolding last_of
last-of [] r = refl
last-of (v ∷ []) r = refl
last-of (v ∷ w ∷ vs) r = last-of (w ∷ vs) r

pub two-way-calls : (v : Value) (m : ℕ) (vs : List Value) (r : Value)
    → process v (two_way m) (vs ++ (r ∷ [])) ≡ subst this (val null) (resolving (val r) (op (call (plain m)) (values (v ∷ vs))))
unfolding process
two-way-calls v m vs r = rw (init-of vs r, last-of vs r) refl
