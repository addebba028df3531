-- One step of the descent after another: positions, writes, and the forms of expressions and words. Assumes nothing.
use Rattle.std.specs.Prelude.{◌≡◌, refl, Bool, true, false, List, [], ◌∷◌, ℕ, suc, ◌+◌, ◌-◌, ◌≤◌, ◌<◌, length, drop, set, Option, Some, None}
use Rattle.std.proofs.Common.{ap, ◌∙◌, add-one, rules}
use native.Mathlib.Omega.{arith}
use Rattle.std.proofs.lemmas.List.Edits.{sets}
use Rattle.std.proofs.lemmas.List.{set_comm}
use Rattle.atlite.specs.Base.{Result, done, refused, ◌>>=◌}
use Rattle.atlite.specs.Lexicon.{Bytes, dictionary}
use Rattle.atlite.specs.Script.{Src}
use Rattle.atlite.specs.Keywords.{operators}
use Rattle.atlite.specs.Reader.{Reading, spaced, read_expr}
use Rattle.words.specs.Wide.{wide_src}
use Rattle.scan.specs.Runs.{Starts}
use Rattle.lexemes.specs.declared.scratch.Step.{Step}
use Rattle.lexemes.specs.Atoms.{Named, SpacedName}
use Rattle.lexemes.specs.NameLaws.{eat-starts, eat-not, starts-room}
use Rattle.lexemes.specs.DescentContract.{stepped, Read, Took, Reads, Closed, spaceds, exprs, read_mid, mids, mid_words, read_send, sends, send_words}

-- ---- writes
set_before : (xs l : List ℕ) (i k h : ℕ) → i < k → set (sets l k xs) i h ≡ sets (set l i h) k xs
set_before [] l i k h p = refl
set_before (x ∷ xs) l i k h p =
    set_before xs (set l k x) i (suc k) h (omega arith) ∙ ap (λ (m : List ℕ). sets m (suc k) xs) (set_comm l k i x h (λ e. omega arith))

-- the head word is stored last
pub headed : (xs l : List ℕ) (o h : ℕ) → set (sets l (o + 1) xs) o h ≡ sets l o (h ∷ xs)
headed xs l o h = rw (add-one o) (set_before xs l o (suc o) h (omega arith))

-- ---- places
module _ (A : Type 0) (enc : A → List ℕ) (R : ℕ → Reading A) (t : Bytes) (at o : ℕ) (old new : List ℕ) (s : Step)
    (u : Reads enc R t at o old new (Some s)) where
  once : Read enc t at o old new (R (length t - at + 1) (drop at t)) s.at s.out
  unfolding Reads Took
  once = u (length t - at + 1) (omega arith)

  pub step-within : s.at ≤ length t
  step-within = let r = once in r.within

  pub step-far : at < s.at
  step-far = let r = once in r.far

  -- no more was written than read
  pub step-short : o ≤ at → s.out ≤ s.at
  step-short h = let r = once in let b = r.short in omega arith

-- ---- results
module _ (A : Type 0) (enc : A → List ℕ) (t : Bytes) (at o : ℕ) (old new : List ℕ) where
  -- from a later position
  pub shift : (b : ℕ) (R Q : Result (A × Bytes)) (a : Option Step) → at ≤ b → Q ≡ R → Took enc t b o old new R a → Took enc t at o old new Q a
  unfolding Took
  shift b R Q (Some s) l e r =
      let f = r.far in
      let h = r.short in
      record { value = r.value; is = e ∙ r.is; far = omega arith; within = r.within; wrote = r.wrote; ends = r.ends; short = omega arith }
  shift b R Q None l e r = e ∙ r

pub bind_assoc : {A B C : Type 0} (x : Result A) (f : A → Result B) (g : B → Result C) → ◌>>=◌ (◌>>=◌ x f) g ≡ ◌>>=◌ x (λ a. ◌>>=◌ (f a) g)
bind_assoc (done a) f g = refl
bind_assoc (refused n) f g = refl

-- the same words of another value
module _ {A B : Type 0} (f : A → B) where
  abbrev pub under : A × Bytes → Result (B × Bytes)
  under r = done (f r.0, r.1)

  module _ (enc : A → List ℕ) (words : B → List ℕ) (h : (v : A) → words (f v) ≡ enc v) (t : Bytes) (at b o : ℕ) (old new : List ℕ) (l : at ≤ b) where
    pub took-under : (R : Result (A × Bytes)) (Q : Result (B × Bytes)) (a : Option Step) → Q ≡ (R >>= under) → Took enc t b o old new R a
        → Took words t at o old new Q a
    unfolding Took
    took-under R Q (Some s) q r =
        let far = r.far in
        let short = r.short in
        record {
          value = f r.value;
          is = q ∙ rw r.is;
          far = omega arith;
          within = r.within;
          wrote = rw (h r.value) r.wrote;
          ends = rw (h r.value) r.ends;
          short = omega arith;
        }
    took-under R Q None q r = q ∙ rw r

-- ---- the closing bracket
module _ (t : Bytes) (at : ℕ) (old new : List ℕ) (o w p : ℕ) (r : Bool) (s : Starts t at (41 ∷ []) r) where
  pub close-so : (a : Option Step) → r ≡ true → a ≡ stepped (at + 1) p → new ≡ set old o w → Closed t at old o w p new a
  unfolding Closed
  close-so a k e u = rw e (record { is = eat-starts t at 41 r s k; next = refl; within = starts-room t at 1 (41 ∷ []) r s k refl; ends = refl; wrote = u })

  pub close-not : r ≡ false → Closed t at old o w p new None
  unfolding Closed
  close-not k = eat-not t at 41 r s k

pub ruleset closing = (rules, starts-room, close-so, close-not)

-- ---- a space before
module _ (t : Bytes) (at o : ℕ) (old new : List ℕ) (r : Bool) (s : Starts t at (32 ∷ []) r) where
  pub spaced-so : (a : Option Step) → r ≡ true → Reads wide_src (exprs t) t (at + 1) o old new a → Reads wide_src (spaceds t) t at o old new a
  unfolding Reads spaceds exprs spaced
  spaced-so a k h n l = shift Src wide_src t at o old new (at + 1) _ _ a (omega arith) (rw (eat-starts t at 32 r s k)) (h n (omega arith))

  pub spaced-not : r ≡ false → Reads wide_src (spaceds t) t at o old new None
  unfolding Reads Took spaceds spaced
  spaced-not k n l = rw (eat-not t at 32 r s k)

-- ---- behind an expression
unfoldable pub Spaced : Bytes → ℕ → ℕ → ℕ → List ℕ → List ℕ → ℕ → ℕ → Type 0
Spaced t n at o old new i p = Read wide_src t at o old new (spaced (read_expr operators n (dictionary t)) (drop at t)) i p

module _ (t : Bytes) (at o : ℕ) (old m₁ new : List ℕ) where
  pub spaced-once : (n : ℕ) (s : Step) → length t - at < n → Reads wide_src (spaceds t) t at o old m₁ (Some s) → Spaced t n at o old m₁ s.at s.out
  unfolding Reads Took spaceds Spaced
  spaced-once n s l u = u n l

  pub spaced-unread : (n : ℕ) → length t - at < n → Reads wide_src (spaceds t) t at o old m₁ None → spaced (read_expr operators n (dictionary t)) (drop at t) ≡ refused 2
  unfolding Reads Took spaceds
  spaced-unread n l u = u n l

module _ (t : Bytes) (at o : ℕ) (old m₁ new : List ℕ) where
  module _ (s : Step) (u : Reads wide_src (spaceds t) t at (o + 1) old m₁ (Some s)) where
    -- a word
    pub mid-word-bad : (k h : ℕ) → SpacedName t s.at None → Reads (mid_words k h) (mids h t) t at o old new None
    unfolding Reads Took mids read_mid Spaced SpacedName Named
    mid-word-bad k h v n l = let z = spaced-once t at (o + 1) old m₁ new n s l u in rw z.is (rw v)

    pub send-word-bad : (k : ℕ) → SpacedName t s.at None → Reads (send_words k) (sends t) t at o old new None
    unfolding Reads Took sends read_send Spaced SpacedName Named
    send-word-bad k v n l = let z = spaced-once t at (o + 1) old m₁ new n s l u in rw z.is (rw v)

  pub mid-first-bad : (k h : ℕ) → Reads wide_src (spaceds t) t at (o + 1) old m₁ None → Reads (mid_words k h) (mids h t) t at o old new None
  unfolding Reads Took mids read_mid
  mid-first-bad k h u n l = rw (spaced-unread t at (o + 1) old m₁ new n l u)

  pub send-first-bad : (k : ℕ) → Reads wide_src (spaceds t) t at (o + 1) old m₁ None → Reads (send_words k) (sends t) t at o old new None
  unfolding Reads Took sends read_send
  send-first-bad k u n l = rw (spaced-unread t at (o + 1) old m₁ new n l u)
