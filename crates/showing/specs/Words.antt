-- What one word shows: a name, a name with its tag, a value, the parameters of a method. t is a state or a table that spells the
-- words of ws. Assumes nothing.
use Rattle.std.specs.Prelude.{◌≡◌, length}
use Rattle.std.proofs.Math.Path.{refl, sym, ap}
use Rattle.std.proofs.Common.{ap₂, ◌∙◌}
use mathlib.Core.List.{List, [], ◌∷◌, ◌++◌, append_assoc, append-nil, map}
use Prim.Native.Nat.{ℕ, zero, suc, ◌+◌, ◌-◌, ◌*◌, ◌/◌, ◌%◌, ◌≤◌, ◌<◌}
use native.Mathlib.Omega.{arith}
use borrow.Author.Tests.{lt-ltb, le-ltb, ne_eqb}
use Rattle.atlite.specs.Base.{bytes}
use Rattle.atlite.specs.Lexicon.{Bytes}
use Rattle.atlite.specs.Printer.{form, print_items, print_word, print_number, print_name}
use Rattle.atlite.specs.Keywords.{print_kind, let_word, future_word, fn_word, when_word, def_word, field_word, method_word}
use Rattle.atlite.specs.Listing.{print_series, print_value}
use Rattle.atlite.specs.Term.{made, copied, Value, null, num, ref, Name, plain, two_way, resolve, register, Kind}
use Rattle.reading.specs.Items.{behind, form-closing}
use Rattle.layout.specs.Numbers.{payload, field_kind, name_limit, no_name, tag_limit, tagged_limit, pair_limit, places_limit, number_limit, owner_unit, owner_limit, digit_limit, expr_size}
use Rattle.layout.specs.Pack.{node, places}
use Rattle.layout_laws.specs.PackLaws.{NameFits, Each}
use Rattle.layout.specs.Terms.{variable, series_bit, encode_value, tagged, asked, kind_number, method_header}
use Rattle.layout_laws.specs.TermLaws.{ValueFits, NameOk}
use Rattle.layout_laws.specs.Parse.{parts}
use Rattle.layout_laws.proofs.ParseHeads.{head-literal}
use Rattle.layout_laws.specs.Arity.{arity}
use Rattle.layout_laws.proofs.Arity.{head-wants}
use Rattle.showing.specs.TextOfWords.{word_in, tagged_in, name_in, open_in, places_in, series_in, owner_in, ref_in, leaf_in, shown, TextOfWords·all}
use Rattle.showing.specs.Spelling.{Spells, spelt, unspelt}
use Rattle.showing.specs.Says.{Says, showing, plainly, naming, says-method}

-- ---- names and tags
pub tag_small : (m : Name) → NameOk m → tagged m < expr_size
unfolding tagged
tag_small (plain m) h = omega arith
tag_small (two_way m) h = omega arith
tag_small resolve h = omega arith
tag_small register h = omega arith

-- What is packed into a word comes out again: a name, a name with its tag and a number of arguments, two names,
-- two numbers of parts.
pub node-parts : (k x : ℕ) → NameFits x → (node k x / payload ≡ k) × (node k x % name_limit ≡ x)
node-parts k x g = omega arith

pub asked-parts : (k : ℕ) (m : Name) (n : ℕ) → NameOk m → n < 8
    → (node k (asked m n) / payload ≡ k) × (node k (asked m n) % tagged_limit ≡ tagged m) × (node k (asked m n) % payload / name_limit / tag_limit ≡ n) × (node k (asked m n) / tagged_limit % digit_limit ≡ n)
asked-parts k m n h l = let i = tag_small m h in omega arith

future-parts : (x y : ℕ) → NameFits x → NameFits y → (node 12 (x + name_limit * y) / payload ≡ 12) × (node 12 (x + name_limit * y) % name_limit ≡ x) × (node 12 (x + name_limit * y) / name_limit % name_limit ≡ y)
future-parts x y f g = omega arith

module _ (t : List ℕ) (ws : List Bytes) (sp : Spells t ws) where
  pub name-shown : (x : ℕ) → NameFits x → name_in t x ≡ 32 ∷ print_word ws x
  unfolding name_in tagged_in
  name-shown x g = rw (ne_eqb x no_name (λ e. omega arith), lt-ltb x name_limit (omega arith), spelt t ws sp x)

  pub tag-shown : (m : Name) → NameOk m → name_in t (tagged m) ≡ 32 ∷ print_name ws m
  unfolding name_in tagged_in tagged print_name bytes
  tag-shown (plain m) g =
      let z : m + name_limit * 0 ≡ m = omega arith in
      rw (z, ne_eqb m no_name (λ e. omega arith), lt-ltb m name_limit (omega arith), spelt t ws sp m)
  tag-shown (two_way m) g =
      let z : (m + name_limit * 1) - name_limit ≡ m = omega arith in
      rw (ne_eqb (m + name_limit * 1) no_name (λ e. omega arith), le-ltb (m + name_limit * 1) name_limit (omega arith), lt-ltb (m + name_limit * 1) 256 (omega arith), z, spelt t ws sp m)
  tag-shown resolve g = refl
  tag-shown register g = refl

  -- ---- values
  ref-text : (a s n : ℕ) (u : Bytes) → series_in s ≡ 32 ∷ (u ++ (32 ∷ [])) → owner_in a ++ (series_in s ++ (print_number n ++ (41 ∷ [])))
      ≡ form (bytes "ref" ∷ print_number a ∷ u ∷ print_number n ∷ [])
  unfolding owner_in bytes
  ref-text a s n u e =
      ap {B = Bytes} (λ v. owner_in a ++ (v ++ (print_number n ++ (41 ∷ [])))) e
      ∙ ap {B = Bytes} (λ v. owner_in a ++ (32 ∷ v)) (append_assoc u (32 ∷ []) _)
      ∙ sym (form-closing (bytes "ref") (print_number a ∷ u ∷ print_number n ∷ []) [])
      ∙ append-nil (form (bytes "ref" ∷ print_number a ∷ u ∷ print_number n ∷ []))

  module _ (h a s n : ℕ) (e : h / owner_unit % owner_limit ≡ a) (f : h / number_limit % 2 ≡ s) (g : h % number_limit ≡ n) (k : h / payload ≡ 3) where
    ref-shown : (u : Bytes) → series_in s ≡ 32 ∷ (u ++ (32 ∷ [])) → leaf_in t h ≡ form (bytes "ref" ∷ print_number a ∷ u ∷ print_number n ∷ [])
    unfolding leaf_in ref_in
    ref-shown u d = rw (k, e, f, g) (ref-text a s n u d)

  pub leaf-shown : (v : Value) → ValueFits v → leaf_in t (encode_value v) ≡ print_value v
  unfolding leaf_in encode_value print_value print_series series_in series_bit bytes
  leaf-shown null h = refl
  leaf-shown (num n) h =
      let z : (n + payload * 2) / payload ≡ 2 = omega arith in
      let y : (n + payload * 2) % payload ≡ n = omega arith in
      rw (z, y)
  leaf-shown (ref a made n) h = let i = h.0 in let j = h.1 in
      ref-shown (encode_value (ref a made n)) a 0 n (omega arith) (omega arith) (omega arith) (omega arith) (bytes "m") refl
  leaf-shown (ref a copied n) h = let i = h.0 in let j = h.1 in
      ref-shown (encode_value (ref a copied n)) a 1 n (omega arith) (omega arith) (omega arith) (omega arith) (bytes "c") refl

  pub value-kind : (v : Value) → ValueFits v → encode_value v / payload < 7
  unfolding encode_value series_bit
  value-kind null h = omega arith
  value-kind (num n) h = omega arith
  value-kind (ref a made n) h = let i = h.0 in let j = h.1 in omega arith
  value-kind (ref a copied n) h = let i = h.0 in let j = h.1 in omega arith

  leaf : (n h : ℕ) (r : List ℕ) (s : Bytes) → 0 < n → h / payload < 7 → leaf_in t h ≡ s → shown t n (h ∷ r) ≡ showing s r
  unfolding shown
  leaf zero h r s d k e = absurd (omega arith)
  leaf (suc n) h r s d k e = rw (lt-ltb (h / payload) 7 k, e)

  pub value-shown : (v : Value) (n : ℕ) (r : List ℕ) → ValueFits v → 0 < n → shown t n (encode_value v ∷ r) ≡ showing (print_value v) r
  value-shown v n r h d = leaf n (encode_value v) r (print_value v) d (value-kind v h) (leaf-shown v h)

  pub variable-shown : (x n : ℕ) (r : List ℕ) → NameFits x → 0 < n → shown t n (variable x ∷ r) ≡ showing (print_word ws x) r
  unfolding leaf_in
  variable-shown x n r h d = let (e, f) = node-parts 6 x h in leaf n (variable x) r (print_word ws x) d (omega arith) (rw (e, f) (spelt t ws sp x))

  -- ---- forms with names of their own
  module _ (x : ℕ) (g : NameFits x) where
    opening : (key : Bytes) → (40 ∷ key) ++ (name_in t x ++ []) ≡ (40 ∷ key) ++ behind (print_word ws x ∷ []) []
    opening key = ap {B = Bytes} (λ u. (40 ∷ key) ++ (u ++ [])) (name-shown x g)

    pub let-says : Says t (node 11 x) let_word (print_word ws x ∷ []) [] 2
    unfolding TextOfWords·all bytes
    let-says = let (e, f) = node-parts 11 x g in plainly (rw e) (rw (e, f) (opening let_word)) (rw e) (rw e) (omega arith)

    pub fn-says : Says t (node 65 x) fn_word (print_word ws x ∷ []) [] 1
    unfolding TextOfWords·all bytes
    fn-says = let (e, f) = node-parts 65 x g in plainly (rw e) (rw (e, f) (opening fn_word)) (rw e) (rw e) (omega arith)

    pub field-says : Says t (node field_kind x) field_word (print_word ws x ∷ []) [] 1
    unfolding TextOfWords·all bytes
    field-says = let (e, f) = node-parts field_kind x g in plainly (rw e) (rw (e, f) (opening field_word)) (rw e) (rw e) (omega arith)

    pub def-says : Says t (node 130 x) def_word (print_word ws x ∷ []) [] 1
    unfolding TextOfWords·all bytes
    def-says = let (e, f) = node-parts 130 x g in plainly (rw e) (rw (e, f) (opening def_word)) (rw e) (rw e) (omega arith)

    pub when-says : Says t (node 67 x) when_word [] (print_word ws x ∷ []) 2
    unfolding TextOfWords·all bytes
    when-says = let (e, f) = node-parts 67 x g in naming (rw e) x (name-shown x g) (rw e) (rw (e, f)) (rw e) (omega arith) (omega arith)

    pub future-says : (y : ℕ) → NameFits y → Says t (node 12 (x + name_limit * y)) future_word (print_word ws x ∷ print_word ws y ∷ []) [] 1
    unfolding TextOfWords·all bytes
    future-says y i =
        let (e, a, b) = future-parts x y g i in
        plainly (rw e) (rw (e, a, b) (ap₂ {C = Bytes} (λ u v. (40 ∷ future_word) ++ (u ++ (v ++ []))) (name-shown x g) (name-shown y i))) (rw e) (rw e) (omega arith)

  -- ---- literals and methods
  pub literal-says : (k : Kind) (a b : ℕ) → a < 8 → b < 8 → Says t (node (kind_number k) (a + digit_limit * b)) (print_kind k) [] [] (a + b)
  unfolding kind_number print_kind TextOfWords·all bytes
  literal-says k a b f g = go k (head-wants _ (parts k a b) (head-literal k a b f g)).0
    where
      kind : (k : ℕ) → node k (a + digit_limit * b) / payload ≡ k
      kind k = omega arith

      go : (k : Kind) → arity (node (kind_number k) (a + digit_limit * b)) ≡ a + b → Says t (node (kind_number k) (a + digit_limit * b)) (print_kind k) [] [] (a + b)
      go Kind.object c = let e = kind 15 in plainly (rw e) (rw e) (rw e) c (omega arith)
      go Kind.isolate c = let e = kind 16 in plainly (rw e) (rw e) (rw e) c (omega arith)
      go Kind.actor c = let e = kind 17 in plainly (rw e) (rw e) (rw e) c (omega arith)

  params-text : (x : ℕ) (v : Bytes) (items : List Bytes) (y z : Bytes) → word_in t x ≡ v → y ++ (z ++ (41 ∷ [])) ≡ behind items (41 ∷ [])
      → open_in t x ++ (y ++ (z ++ (41 ∷ []))) ≡ 32 ∷ form (v ∷ items)
  unfolding open_in
  params-text x v items y z e f =
      rw (e, f) (ap {B = Bytes} (λ u. 32 ∷ u) (sym (form-closing v items []) ∙ append-nil (form (v ∷ items))))

  -- the word before its places: name m, count n, places p
  module _ (m n p : ℕ) (f : m < no_name) (g : n ≤ 3) where
    method-says : (x y z : ℕ) (u : Bytes) → p < places_limit → p % name_limit ≡ x → p / name_limit % name_limit ≡ y → p / pair_limit % name_limit ≡ z → places_in t x y z ≡ 32 ∷ u
        → Says t (m + name_limit * (n + 4 * (p + places_limit * 3))) method_word (print_word ws m ∷ u ∷ []) [] 1
    method-says x y z u l a b c e =
        let h = m + name_limit * (n + 4 * (p + places_limit * 3)) in
        let q : h / tagged_limit ≡ p + 6291456 = omega arith in
        says-method t h m x y z (omega arith) (omega arith) (omega arith) (omega arith) (omega arith) (print_word ws m) u (name-shown m f) e

  pub header-says : (m : ℕ) (xs : List ℕ) → NameFits m → Each NameFits xs → length xs ≤ 3
      → Says t (method_header m xs) method_word (print_word ws m ∷ form (map (print_word ws) xs) ∷ []) [] 1
  unfolding method_header places places_in open_in name_in form print_items
  header-says m [] f g l =
      method-says m 0 (no_name + name_limit * (no_name + name_limit * no_name)) f (omega arith) no_name no_name no_name (form []) (omega arith) (omega arith) (omega arith) (omega arith)
      (rw (unspelt t ws sp))
  header-says m (x ∷ []) f g l =
      let a = g.0 in
      method-says m 1 (x + name_limit * (no_name + name_limit * no_name)) f (omega arith) x no_name no_name _ (omega arith) (omega arith) (omega arith) (omega arith)
      (params-text x (print_word ws x) [] [] [] (spelt t ws sp x) refl)
  header-says m (x ∷ y ∷ []) f g l =
      let a = g.0 in
      let b = g.1.0 in
      method-says m 2 (x + name_limit * (y + name_limit * no_name)) f (omega arith) x y no_name _ (omega arith) (omega arith) (omega arith) (omega arith)
      (params-text x (print_word ws x) (print_word ws y ∷ []) (name_in t y) [] (spelt t ws sp x) (ap {B = Bytes} (λ u. u ++ (41 ∷ [])) (name-shown y b)))
  header-says m (x ∷ y ∷ z ∷ []) f g l =
      let a = g.0 in
      let b = g.1.0 in
      let c = g.1.1.0 in
      method-says m 3 (x + name_limit * (y + name_limit * z)) f (omega arith) x y z _ (omega arith) (omega arith) (omega arith) (omega arith)
      (params-text x (print_word ws x) (print_word ws y ∷ print_word ws z ∷ []) (name_in t y) (name_in t z) (spelt t ws sp x) (ap₂ {C = Bytes} (λ u v. u ++ (v ++ (41 ∷ []))) (name-shown y b) (name-shown z c)))
  header-says m (x ∷ y ∷ z ∷ u ∷ xs) f g l = absurd (omega arith)
