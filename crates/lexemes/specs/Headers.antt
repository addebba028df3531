-- A method's header: its name and parameters, in one word. Assumes nothing.
use Rattle.std.specs.Prelude.{◌≡◌, refl, Bool, true, false, length, drop, Option, Some, None}
use Rattle.std.proofs.Common.{◌∙◌, rules, Fits}
use Rattle.std.proofs.Math.Path.{subst as transp}
use mathlib.Core.List.{List, [], ◌∷◌}
use Prim.Native.Nat.{ℕ, zero, suc, ◌+◌, ◌-◌, ◌*◌, ◌^◌, ◌≤◌, ◌<◌}
use Rattle.std.proofs.Math.Nat.{pow-zero, pow-succ', pow-le-pow_right, lt_of_lt_of_le}
use native.Mathlib.Omega.{arith}
use Rattle.atlite.specs.Base.{Result, done, refused, or_refuse, ◌>>=◌, bytes}
use Rattle.atlite.specs.Lexicon.{Bytes, dictionary}
use Rattle.atlite.specs.Reader.{Reading, spaced_word, read_word, read_items, read_params, read_names, read_head}
use Rattle.words.specs.Wide.{wide, pair, wide_params, wide_method, wide_limit, wide_third, wide_names}
use Rattle.scan.specs.Runs.{Starts}
use Rattle.lexemes.specs.declared.names.Name.{Name}
use Rattle.lexemes.specs.declared.headers.Params.{Params}
use Rattle.lexemes.specs.declared.headers.Header.{Header}
use Rattle.lexemes.specs.Atoms.{NameRead, Named, NameOf, SpacedName}
use Rattle.lexemes.specs.NameLaws.{eat-starts, eat-not, closes, open-still, starts-room, name-small, name-within, spaced-small, spaced-within}

-- c parameters up to i, whose names make the number q; a header up to i, in the word w
abbrev pub params_at : ℕ → ℕ → ℕ → Params
params_at i c q = record { end = i; count = c; packed = q }

abbrev pub headed_at : ℕ → ℕ → Option Header
headed_at i w = Some (record { end = i; word = w })

pub record NamesRead (k : ℕ) (R : Result (List ℕ × Bytes)) (t : Bytes) (at i c q : ℕ) : Type 0 where
  pub value : List ℕ
  pub is : R ≡ done (value, drop i t)
  pub far : at < i
  pub within : i ≤ length t
  pub counted : c ≡ length value
  pub packed : q ≡ wide_params value
  pub few : c ≤ k
  pub small : q < wide_limit ^ k

unfoldable pub TookNames : ℕ → Result (List ℕ × Bytes) → Bytes → ℕ → Option Params → Type 0
TookNames k R t at (Some p) = NamesRead k R t at p.end p.count p.packed
TookNames k R t at None = R ≡ refused 2

unfoldable pub ItemsOf : ℕ → Bytes → ℕ → Option Params → Type 0
ItemsOf k t at r = TookNames k (read_items [] ◌∷◌ (read_word (dictionary t)) k (drop at t)) t at r

unfoldable pub NamesOf : Bytes → ℕ → Option Params → Type 0
NamesOf t at r = TookNames 3 (read_names (dictionary t) (drop at t)) t at r

-- the name m, and the parameters xs behind it
pub record HeadRead (R : Result ((ℕ × List ℕ) × Bytes)) (t : Bytes) (at i w : ℕ) : Type 0 where
  pub value : ℕ × List ℕ
  pub is : R ≡ done (value, drop i t)
  pub far : at < i
  pub within : i ≤ length t
  pub word : w ≡ wide_method value.0 value.1

unfoldable pub TookHead : Result ((ℕ × List ℕ) × Bytes) → Bytes → ℕ → Option Header → Type 0
TookHead R t at (Some h) = HeadRead R t at h.end h.word
TookHead R t at None = R ≡ refused 2

unfoldable pub read_all : ℕ → List Bytes → Reading (ℕ × List ℕ)
read_all m ws i = do
  (xs, i₁) ← read_head ws i
  done ((m, xs), i₁)

unfoldable pub read_header : List Bytes → Reading (ℕ × List ℕ)
read_header ws i = do
  (m, i₁) ← read_word ws i
  read_all m ws i₁

unfoldable pub ParamsOf : ℕ → Bytes → ℕ → Option Header → Type 0
ParamsOf m t at r = TookHead (read_all m (dictionary t) (drop at t)) t at r

unfoldable pub HeaderOf : Bytes → ℕ → Option Header → Type 0
HeaderOf t at r = TookHead (read_header (dictionary t) (drop at t)) t at r

-- ---- one more name before others
module _ (t : Bytes) (at : ℕ) (r : Bool) (s : Starts t at (41 ∷ []) r) where
  pub items-close : (k : ℕ) → r ≡ true → ItemsOf k t at (Some (params_at (at + 1) 0 0))
  unfolding ItemsOf TookNames read_items wide_params
  items-close zero e = record {
    value = [];
    is = rw (eat-starts t at 41 r s e);
    far = omega arith;
    within = starts-room t at 1 (41 ∷ []) r s e refl;
    counted = refl;
    packed = refl;
    few = omega arith;
    small = rw (pow-zero wide_limit) (omega arith);
  }
  items-close (suc k) e = record {
    value = [];
    is = rw (closes t at r s e, read_items);
    far = omega arith;
    within = starts-room t at 1 (41 ∷ []) r s e refl;
    counted = refl;
    packed = refl;
    few = omega arith;
    small = lt_of_lt_of_le (omega arith) (pow-le-pow_right {n = wide_limit} (omega arith) {i = 0} {j = suc k} (omega arith));
  }

  pub items-full : (k : ℕ) → r ≡ false → k ≡ 0 → ItemsOf k t at None
  unfolding ItemsOf TookNames read_items
  items-full k e z = rw z (rw (eat-not t at 41 r s e))

  more : (k y i j c q : ℕ) → r ≡ false → NameRead (spaced_word (dictionary t) (drop at t)) t at y i
      → NamesRead k (read_items [] ◌∷◌ (read_word (dictionary t)) k (drop i t)) t i j c q
      → NamesRead (suc k) (read_items [] ◌∷◌ (read_word (dictionary t)) (suc k) (drop at t)) t at j (c + 1) (y + wide_limit * q)
  unfolding read_items spaced_word wide_params
  more k y i j c q e x h =
      let f = x.far in
      let g = h.far in
      let l = x.small in
      let m = h.small in
      let n = h.counted in
      let p = h.packed in
      let w = h.few in
      record {
        value = y ∷ h.value;
        is = rw (open-still t at r s e, read_items) (rw (x.is, h.is));
        far = omega arith;
        within = h.within;
        counted = omega arith;
        packed = rw p;
        few = omega arith;
        small = rw (pow-succ' wide_limit k) (omega arith);
      }

  module _ (k : ℕ) (e : r ≡ false) (z : k ≡ 0 → ⊥) where
    pred : suc (k - 1) ≡ k
    pred = omega arith

    pub items_more : (x : Name) (p : Params) → SpacedName t at (Some x) → ItemsOf (k - 1) t x.end (Some p)
        → ItemsOf k t at (Some (params_at p.end (p.count + 1) (x.number + wide_limit * p.packed)))
    unfolding ItemsOf TookNames SpacedName Named
    items_more x p u v =
        transp (λ (n : ℕ). NamesRead n (read_items [] ◌∷◌ (read_word (dictionary t)) n (drop at t)) t at p.end (p.count + 1) (x.number + wide_limit * p.packed)) pred
        (more (k - 1) x.number x.end p.end p.count p.packed e u v)

    worse : (n : ℕ) → (spaced_word (dictionary t) (drop at t) ≡ refused 2) → read_items [] ◌∷◌ (read_word (dictionary t)) (suc n) (drop at t) ≡ refused 2
    unfolding read_items spaced_word
    worse n p = rw (open-still t at r s e, read_items) (rw p)

    pub items-bad : SpacedName t at None → ItemsOf k t at None
    unfolding ItemsOf TookNames SpacedName Named
    items-bad u = transp (λ (n : ℕ). read_items [] ◌∷◌ (read_word (dictionary t)) n (drop at t) ≡ refused 2) pred (worse (k - 1) u)

    worse-rest : (n y i : ℕ) → NameRead (spaced_word (dictionary t) (drop at t)) t at y i → read_items [] ◌∷◌ (read_word (dictionary t)) n (drop i t) ≡ refused 2
        → read_items [] ◌∷◌ (read_word (dictionary t)) (suc n) (drop at t) ≡ refused 2
    unfolding read_items spaced_word
    worse-rest n y i p q = rw (open-still t at r s e, read_items) (rw (p.is, q))

    pub items-rest-bad : (x : Name) → SpacedName t at (Some x) → ItemsOf (k - 1) t x.end None → ItemsOf k t at None
    unfolding ItemsOf TookNames SpacedName Named
    items-rest-bad x u v =
        transp (λ (n : ℕ). read_items [] ◌∷◌ (read_word (dictionary t)) n (drop at t) ≡ refused 2) pred
        (worse-rest (k - 1) x.number x.end u v)

  -- the first
  pub names-close : r ≡ true → NamesOf t at (Some (params_at (at + 1) 0 0))
  unfolding NamesOf TookNames read_names wide_params
  names-close e = record {
    value = [];
    is = rw (closes t at r s e, read_names);
    far = omega arith;
    within = starts-room t at 1 (41 ∷ []) r s e refl;
    counted = refl;
    packed = refl;
    few = omega arith;
    small = omega arith;
  }

  first : (y i j c q : ℕ) → r ≡ false → NameRead (read_word (dictionary t) (drop at t)) t at y i
      → NamesRead 2 (read_items [] ◌∷◌ (read_word (dictionary t)) 2 (drop i t)) t i j c q
      → NamesRead 3 (read_names (dictionary t) (drop at t)) t at j (c + 1) (y + wide_limit * q)
  unfolding read_names read_params wide_params
  first y i j c q e a b =
      let f = a.far in
      let g = b.far in
      let l = a.small in
      let m = b.small in
      let n = b.counted in
      let p = b.packed in
      let z = b.few in
      record {
        value = y ∷ b.value;
        is = rw (open-still t at r s e, read_names) (rw (a.is, b.is));
        far = omega arith;
        within = b.within;
        counted = omega arith;
        packed = rw p;
        few = omega arith;
        small = omega arith;
      }

  module _ (e : r ≡ false) where
    pub names_more : (x : Name) (p : Params) → NameOf t at (Some x) → ItemsOf 2 t x.end (Some p)
        → NamesOf t at (Some (params_at p.end (p.count + 1) (x.number + wide_limit * p.packed)))
    unfolding NamesOf ItemsOf TookNames NameOf Named
    names_more x p u v = first x.number x.end p.end p.count p.packed e u v

    pub names-bad : NameOf t at None → NamesOf t at None
    unfolding NamesOf TookNames NameOf Named read_names
    names-bad u = rw (open-still t at r s e, read_names) (rw u)

    pub names-rest-bad : (x : Name) → NameOf t at (Some x) → ItemsOf 2 t x.end None → NamesOf t at None
    unfolding NamesOf ItemsOf TookNames NameOf Named read_names read_params
    names-rest-bad x a b = rw (open-still t at r s e, read_names) (rw (a.is, b))

-- ---- sums fit
module _ (t : Bytes) (at k : ℕ) (p : Params) (v : ItemsOf k t at (Some p)) (l : k ≤ 2) where
  pub items-few : p.count ≤ 2
  unfolding ItemsOf TookNames
  items-few = let f = v.few in omega arith

  pub items-packed : p.packed < wide_third
  unfolding ItemsOf TookNames
  items-packed = lt_of_lt_of_le v.small (pow-le-pow_right {n = wide_limit} (omega arith) {j = 2} l)

module _ (t : Bytes) (at : ℕ) (p : Params) (v : NamesOf t at (Some p)) where
  pub names-few : p.count ≤ 3
  unfolding NamesOf TookNames
  names-few = v.few

  pub names-small : p.packed < wide_names
  unfolding NamesOf TookNames
  names-small = v.small

-- ---- the header
module _ (t : Bytes) (at : ℕ) (m : ℕ) (r : Bool) (s : Starts t at (32 ∷ 40 ∷ []) r) where
  whole : (i c q w : ℕ) → r ≡ true → NamesRead 3 (read_names (dictionary t) (drop (at + 2) t)) t (at + 2) i c q → w ≡ wide 192 (pair m (c + 4 * q))
      → HeadRead (read_all m (dictionary t) (drop at t)) t at i w
  unfolding read_all read_head Starts wide_method or_refuse bytes
  whole i c q w e b z =
      let f = b.far in
      let y = rw e at s in
      record {
        value = (m, b.value);
        is = rw y.0 (rw b.is);
        far = omega arith;
        within = b.within;
        word = z ∙ rw (b.counted, b.packed);
      }

  pub params-done : (p : Params) (w : ℕ) → r ≡ true → NamesOf t (at + 2) (Some p) → w ≡ wide 192 (pair m (p.count + 4 * p.packed)) → ParamsOf m t at (headed_at p.end w)
  unfolding ParamsOf TookHead NamesOf TookNames
  params-done p w e v z = whole p.end p.count p.packed w e v z

  pub params-bad : r ≡ true → NamesOf t (at + 2) None → ParamsOf m t at None
  unfolding ParamsOf TookHead NamesOf TookNames read_all read_head Starts or_refuse bytes
  params-bad e b = rw (rw e at s).0 (rw b)

  pub params_none : r ≡ false → ParamsOf m t at None
  unfolding ParamsOf TookHead read_all read_head Starts or_refuse bytes
  params_none e = rw (rw e at s)

module _ (t : Bytes) (at : ℕ) where
  pub header-so : (x : Name) (h : Option Header) → NameOf t at (Some x) → ParamsOf x.number t x.end h → HeaderOf t at h
  unfolding HeaderOf ParamsOf NameOf Named read_header TookHead
  header-so x (Some h) a v =
      let f = a.far in
      let g = v.far in
      record { value = v.value; is = rw a.is v.is; far = omega arith; within = v.within; word = v.word }
  header-so x None a v = rw a.is v

  pub header-none : NameOf t at None → HeaderOf t at None
  unfolding HeaderOf NameOf Named read_header TookHead
  header-none a = rw a

pub ruleset laws = (rules, starts-room, items-close, items-full, items_more, items-bad, items-rest-bad, names-close, names_more, names-bad, names-rest-bad, items-few, items-packed, spaced-small, spaced-within, name-within, name-small, names-few, names-small, params-done, params-bad, params_none, header-so, header-none)
