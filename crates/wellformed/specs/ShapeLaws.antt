-- Where a term ends by the shape that its first word has: nothing behind it, one term, two, or so many operands. Assumes nothing.
use Rattle.std.specs.Prelude.{ℕ, ◌/◌, ◌%◌, ◌≡◌, Bool, ◌&&◌, cond, Option, Some, None, List, length}
use Rattle.std.proofs.Math.Path.{refl}
use Rattle.std.proofs.Math.Bool.{true, false, and-true}
use Rattle.atlite.specs.Term.{Value, Name, Op, Term, op, Terms, nil, cons, count_terms}
use Rattle.atlite.specs.Valid.{operable}
use Rattle.decoding.specs.ValidTest.{well_formed, well_formed_all}
use Rattle.layout.specs.Numbers.{payload}
use Rattle.layout_laws.specs.Parse.{Got, none, got, pair, Head, leaf, unary, binary, many, only, head_in, formed, parse_terms}
use Rattle.layout_laws.proofs.ParseSound.{terms-sound}
use Rattle.layout_laws.proofs.ParseHeads.{head-kind}
use Rattle.layout_laws.specs.ParseLaws.{parse}
use Rattle.term_words.specs.Ends.{end_of, terms_end, word_end}
use Rattle.wellformed.specs.EndLaws.{ends_on, ends-on-none, ends-pair-none}

-- ---- one term as a list
pub one-term : (c : ℕ) (p : Value → Bool) (xs : List ℕ) (g : Got Term) → end_of (well_formed_all c p xs) (pair cons g (λ i. got nil i)) ≡ end_of (well_formed c p xs) g
unfolding end_of well_formed
one-term c p xs none = refl
one-term c p xs (got e i) = rw (and-true (well_formed c p xs e))

-- ---- shapes
module _ (c : ℕ) (p : Value → Bool) (xs w : List ℕ) (at : ℕ) where
  -- where a word of this head ends, if the parts are behind it
  abbrev pub form_end : Head → Option ℕ
  form_end h = end_of (well_formed c p xs) (formed h (λ i. parse w i) w at)

  -- a word that has a head only if b
  pub only_none : (b : Bool) (h : Head) → (b ≡ true → None ≡ form_end h) → None ≡ form_end (only b h)
  unfolding formed end_of
  only_none true h f = f refl
  only_none false h f = refl

  pub only-some : (b : Bool) (r : Option ℕ) (h : Head) → b ≡ true → r ≡ form_end h → r ≡ form_end (only b h)
  only-some b r h t e = rw t e

  pub leaf-ends : (o b : Bool) (e : Term) → o ≡ b && well_formed c p xs e → cond o (Some at) None ≡ form_end (only b (leaf e))
  unfolding formed end_of
  leaf-ends o true e h = rw h
  leaf-ends o false e h = rw h

  pub unary-none : (f : Term → Term) → ((e : Term) → well_formed c p xs (f e) ≡ false) → None ≡ form_end (unary f)
  unfolding formed
  unary-none f h = ends-on-none f (well_formed c p xs) (parse w at) (λ e n g. h e)

  pub binary-none : (f : Term → Term → Term) → ((e d : Term) → well_formed c p xs (f e d) ≡ false) → None ≡ form_end (binary f)
  unfolding formed
  binary-none f h = ends-pair-none f (well_formed c p xs) (parse w at) (λ i. parse w i) (λ e n d m g q. h e d)

  module _ (o : Op Name) (n : ℕ) where
    counted : (es : Terms) (m : ℕ) → parse_terms (length w) w n at ≡ got es m → count_terms es ≡ n
    counted es m y = (terms-sound (length w) w n at es m y).1

    pub many-some : operable c o n ≡ true → terms_end c p xs w n at ≡ form_end (many o n)
    unfolding formed well_formed
    many-some h = ends_on (op o) (well_formed c p xs) (well_formed_all c p xs) (parse_terms (length w) w n at) (λ es m y. rw (counted es m y, h))

    pub many-none : operable c o n ≡ false → None ≡ form_end (many o n)
    unfolding formed well_formed
    many-none h = ends-on-none (op o) (well_formed c p xs) (parse_terms (length w) w n at) (λ es m y. rw (counted es m y, h))

-- by the kind that was found
pub by_kind : (c : ℕ) (p : Value → Bool) (xs w : List ℕ) (h at k : ℕ) (r : Option ℕ) → h / payload ≡ k → r ≡ form_end c p xs w at (head_in k (h % payload)) → r ≡ word_end c p xs w h at
by_kind c p xs w h at k r e i = rw (head-kind h k e) i
