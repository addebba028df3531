-- Names and variables in range, and signatures that are new behind others, which stand in one number. Assumes nothing.
use Rattle.std.specs.Prelude.{ℕ, suc, ◌+◌, ◌*◌, ◌%◌, ◌≤◌, ◌<◌, ◌≡◌, refl, true, not, List, [], ◌∷◌, ltb, leb}
use Rattle.std.proofs.Common.{sym, ap, ◌∙◌, arith, rules, ltb-true, leb-true}
use Rattle.std.proofs.Math.Option.{Option, none, some}
use Rattle.atlite.specs.Base.{member}
use Rattle.atlite.specs.Valid.{is_name, is_variable}
use Rattle.atlite_laws.specs.Facts.{and₂}
use Rattle.layout.specs.Numbers.{no_name, tagged_limit}
use Rattle.layout_laws.specs.Parse.{method_at}
use Rattle.layout_laws.specs.ParseWords.{Holding, MethodIs, method-word}
use Rattle.layout_laws.proofs.Signatures.{header-signed}
use Rattle.layout_laws.specs.LastThree.{kept, fresh, noted, fresh-first, fresh-second, fresh-third, fresh-yes, room, kept_fresh, kept-noted}
use Rattle.term_words.specs.Ends.{sign, Met}

-- ---- in range
pub name_below : (c x : ℕ) → c ≤ 64 → is_name c x ≡ true → x < no_name
unfolding is_name
name_below c x l e = omega (arith, ltb-true x (8 + c) (and₂ (leb 7 x) (ltb x (8 + c)) e).1)

pub variable-below : (c x : ℕ) → c ≤ 64 → is_variable c x ≡ true → x < no_name
unfolding is_variable
variable-below c x l e = omega (arith, ltb-true x (8 + c) (and₂ (ltb 0 x) (ltb x (8 + c)) e).1)

-- ---- signatures
-- a header's signature is its lowest digits
pub signed_word : (h : ℕ) → Holding (λ q. sign q.0 q.1 ≡ h % tagged_limit) (method_at h)
signed_word h = go (method_at h) (method-word h)
  where
    go : (o : Option (ℕ × List ℕ)) → Holding (λ q. MethodIs q.0 q.1 h) o → Holding (λ q. sign q.0 q.1 ≡ h % tagged_limit) o
    go none i = tt
    go (some q) i = sym (header-signed q.0 q.1 (omega (arith, i.0)) i.2) ∙ ap (λ k. k % tagged_limit) i.3

-- ---- signatures before others
pub name-above : (c x : ℕ) → is_name c x ≡ true → 7 ≤ x
unfolding is_name
name-above c x e = leb-true 7 x (and₂ (leb 7 x) (ltb x (8 + c)) e).0

-- what is compared with a number is compared with the list that it keeps
pub met-fresh : (N n x : ℕ) (ns : List ℕ) → 0 < x → 0 < n → Met N n ns → fresh tagged_limit N x ≡ not (member x ns)
met-fresh N n x ns z l m = ap (λ k. fresh tagged_limit k x) m.is ∙ kept_fresh tagged_limit (omega arith) ns x z (omega (arith, m.few)) m.each

-- one more
pub met-noted : (N n x : ℕ) (ns : List ℕ) → x < tagged_limit → Met N (suc n) ns → Met (noted tagged_limit N x) n (x ∷ ns)
met-noted N n x ns l m = record {
  is = ap (λ k. noted tagged_limit k x) m.is ∙ kept-noted tagged_limit (omega arith) x ns (omega (arith, m.few)) m.each;
  few = omega (arith, m.few);
  each = (l, m.each);
}

pub is-noted : (N h : ℕ) → h % tagged_limit + tagged_limit * (N % room tagged_limit 3) ≡ noted tagged_limit N (h % tagged_limit)
unfolding noted
is-noted N h = refl

pub met-none : (n : ℕ) → n ≤ 4 → Met 0 n []
unfolding kept
met-none n l = record { is = refl; few = omega arith; each = tt }

pub ruleset fresh_laws = (rules, fresh-first, fresh-second, fresh-third, fresh-yes, is-noted)
