-- Operands that are shown one after another, and the text of a form from theirs and from what its word says. Assumes nothing.
use Rattle.std.specs.Prelude.{◌≡◌, List, [], ◌∷◌, ◌++◌, ℕ, suc, ◌+◌}
use Rattle.std.proofs.Math.Path.{refl, sym}
use Rattle.std.proofs.Common.{ap, ◌∙◌, subst as transp, append_assoc, append-nil, zero-add, suc-add}
use Rattle.atlite.specs.Lexicon.{Bytes}
use Rattle.atlite.specs.Printer.{form, placed}
use Rattle.reading.specs.Items.{behind, behind-append}
use Rattle.layout.specs.Numbers.{no_name}
use Rattle.showing.specs.TextOfWords.{name_in, after, Text, operands_in, form_in, shown}
use Rattle.showing.specs.Says.{Says, showing, behind-text, form-text}

-- k operands before the words r: their own words, and their texts, which S shows
pub data Operands (S : List ℕ → Text) (r : List ℕ) : ℕ → List ℕ → List Bytes → Type 0 where
  none : Operands S r 0 [] []
  more : (a : List ℕ) {w : List ℕ} {s : Bytes} {k : ℕ} {items : List Bytes} → S (a ++ (w ++ r)) ≡ showing s (w ++ r) → Operands S r k w items
      → Operands S r (suc k) (a ++ w) (s ∷ items)

pub last : {S : List ℕ → Text} {r : List ℕ} (a : List ℕ) {s : Bytes} → S (a ++ r) ≡ showing s r → Operands S r 1 a (s ∷ [])
last {S} {r} a {s} p = transp (λ w. Operands S r 1 w (s ∷ [])) (append-nil a) (more a p none)

-- operands before others
pub join : {S : List ℕ → Text} {r u : List ℕ} {j k : ℕ} {w : List ℕ} {items others : List Bytes} → Operands S (u ++ r) j w items → Operands S r k u others
    → Operands S r (j + k) (w ++ u) (items ++ others)
join none q = rw zero-add q
join {r = r} {u = u} (more a {w} {s} p o) q = rw (suc-add, append_assoc a w u) (more a {w = w ++ u} {s = s} (rw (append_assoc w u r) p) (join o q))

module _ (t : List ℕ) where
  pub operands-shown : {S : List ℕ → Text} {r : List ℕ} {k : ℕ} {w : List ℕ} {items : List Bytes} → Operands S r k w items
      → operands_in t S no_name k (w ++ r) ≡ showing (behind items []) r
  unfolding operands_in name_in
  operands-shown none = refl
  operands-shown {r = r} (more a {w} p q) = rw (append_assoc a w r, p, operands-shown q)

  -- with names behind the first of them
  pub names-shown : {S : List ℕ → Text} {r : List ℕ} {k : ℕ} {w : List ℕ} {items : List Bytes} (x : ℕ) (ns : List Bytes) → name_in t x ≡ behind ns [] → (k ≡ 0 → ns ≡ [])
      → Operands S r k w items → operands_in t S x k (w ++ r) ≡ showing (behind (placed ns items) []) r
  unfolding operands_in placed
  names-shown x ns e f none = rw (f refl)
  names-shown {r = r} x ns e f (more a {w} {s} {items = items} p q) =
      rw (append_assoc a w r, p, e, operands-shown q) (ap {A = Bytes} (λ u. showing (32 ∷ (s ++ u)) r) (behind-text ns (behind items []) ∙ sym (behind-append ns items [])))

-- the form of a word; the fuel m of a form is one more than its operands'
module _ {t : List ℕ} {h : ℕ} {key : Bytes} {before ns : List Bytes} {k : ℕ} (s : Says t h key before ns k) where
  pub form-shown : {S : List ℕ → Text} {r w : List ℕ} {items : List Bytes} → Operands S r k w items → form_in t S h (w ++ r) ≡ showing (form (key ∷ (before ++ placed ns items))) r
  unfolding form_in
  form-shown {r = r} {items = items} o =
      rw (s.count, names-shown t (after h) ns s.named s.some o, s.head) (ap (λ u. showing u r) (form-text key before (placed ns items)))

  pub show-form : (n m : ℕ) {r w : List ℕ} {items : List Bytes} → m ≡ suc n → Operands (shown t n) r k w items
      → shown t m (h ∷ (w ++ r)) ≡ showing (form (key ∷ (before ++ placed ns items))) r
  unfolding shown
  show-form n m e o = rw (e, s.is_form) (form-shown o)
