-- What the functions over terms answer: where the term at a position ends, if it passes a test. Assumes nothing.
--
-- Terms are read by the reader of positions (crate `layout_laws`, module `Parse`), with fuel for all words, of which one step takes none
-- (`parse-step`).
use Rattle.std.specs.Prelude.{ℕ, ◌+◌, ◌/◌, ◌%◌, ◌≤◌, ◌<◌, ◌≡◌, Bool, true, ◌&&◌, not, cond, Option, Some, None, List, [], ◌∷◌, ◌++◌, length, get_or, set, max, eqb, ltb}
use Rattle.std.specs.Option.{IfSome, option_and_then}
use Rattle.atlite.specs.Base.{member}
use Rattle.atlite.specs.Term.{this, Value, Kind, Inits, no_field, Methods, no_method, method, signatures, seen}
use Rattle.atlite.specs.Valid.{is_name, is_variable, methods_named, parameters}
use Rattle.decoding.specs.ValidTest.{held, well_formed, well_formed_all, well_formed_methods}
use Rattle.layout.specs.Numbers.{payload, name_limit, no_name, tag_limit, tagged_limit, third_place, pair_limit}
use Rattle.layout_laws.specs.PackLaws.{Each}
use Rattle.layout_laws.specs.Signatures.{signed}
use Rattle.layout_laws.specs.LastThree.{kept}
use Rattle.layout.specs.Terms.{kind_number}
use Rattle.decoding.specs.Kinds.{row_in}
use Rattle.layout_laws.specs.Parse.{Got, none, got, literal_head, head_in, head_at, field_at, method_at, formed, parse_terms, parse_inits, parse_methods}
use Rattle.layout_laws.specs.ParseLaws.{parse}
use Rattle.term_words.specs.Words.{within, holds}

unfoldable pub end_of : {A : Type 0} → (A → Bool) → Got A → Option ℕ
end_of t none = None
end_of t (got a i) = cond (t a) (Some i) None

-- it is not before the place where it was looked for, nor past the words but where that place is
abbrev pub Behind : List ℕ → ℕ → Option ℕ → Type 0
Behind w at r = IfSome r (λ i. (at ≤ i) × (i ≤ max at (length w)))

-- the methods of an entity, which see their `this` alone
unfoldable pub methods_hold : ℕ → (Value → Bool) → Methods → Bool
methods_hold c p ms = methods_named c (signatures ms) && well_formed_methods c p (this ∷ []) ms

-- ---- scopes
-- A list has for each word the level at which it is bound, the level being one more in each literal that hides what is around it: the
-- words in xs are those at the level g. The last place is no word's.
pub record Scope (F : List ℕ) (g : ℕ) (xs : List ℕ) : Type 0 where
  pub size : length F ≡ name_limit
  pub low : (x : ℕ) → get_or F x 0 ≤ g
  pub right : (x : ℕ) → x < no_name → eqb (get_or F x 0) g ≡ member x xs

unfoldable pub Sees : List ℕ → ℕ → ℕ → Bool → Type 0
Sees F g x r = (xs : List ℕ) → Scope F g xs → r ≡ ltb x no_name && member x xs

-- three names in seven bits each are bound
unfoldable pub bound : List ℕ → ℕ → ℕ → List ℕ
bound F g n = set (set (set F (n / pair_limit % name_limit) g) (n / name_limit % name_limit) g) (n % name_limit) g

-- the level in the parts of a literal with the word h, and whether they may refer
pub record Opens (g h r : ℕ) : Type 0 where
  pub near : r ≤ g + 1
  pub inner : (t : Kind) → h / payload ≡ kind_number t → (F xs : List ℕ) → Scope F g xs → Scope F r (seen t xs)

unfoldable pub Refers : Bool → ℕ → Bool → Type 0
Refers refs h r = (t : Kind) → h / payload ≡ kind_number t → (K : List ℕ) (a : ℕ) → holds r K a ≡ held t (holds refs K a)

-- ---- headers
-- a name m with the signature x, behind others with the signatures ns
unfoldable pub is_new : ℕ → List ℕ → ℕ → ℕ → Bool
is_new c ns m x = is_name c m && not (member x ns)

-- The signatures ns stand in the number N, and n more are to come, of four in all. None is 0, which is what an empty place has.
pub record Met (N n : ℕ) (ns : List ℕ) : Type 0 where
  pub is : N ≡ kept tagged_limit ns
  pub few : length ns + n ≤ 4
  pub each : Each (λ x. x < tagged_limit) ns

-- a field's signature is its name
unfoldable pub field_head : ℕ → List ℕ → ℕ → Bool
field_head c ns f = is_new c ns f f

unfoldable pub FieldHeader : ℕ → ℕ → ℕ → Bool → Type 0
FieldHeader c N h r = (n : ℕ) (ns : List ℕ) → 0 < n → Met N n ns → r ≡ within (field_head c ns) (field_at h)

-- the three places of a method's header
unfoldable pub two : ℕ → ℕ → ℕ → Bool
two c x y = is_variable c x && is_variable c y && not (eqb x y)

unfoldable pub third : ℕ → ℕ → ℕ → ℕ → Bool
third c x y z = is_variable c z && not (eqb x z) && not (eqb y z)

unfoldable pub empty : ℕ → ℕ → Bool
empty y z = eqb y no_name && eqb z no_name

-- a method's signature as a number
abbrev pub sign : ℕ → List ℕ → ℕ
sign m xs = signed name_limit (m, length xs)

unfoldable pub method_head : ℕ → List ℕ → ℕ × List ℕ → Bool
method_head c ns h = is_new c ns h.0 (sign h.0 h.1) && parameters c h.1

unfoldable pub MethodHeader : ℕ → ℕ → ℕ → Bool → Type 0
MethodHeader c N h r = (n : ℕ) (ns : List ℕ) → 0 < n → Met N n ns → r ≡ within (method_head c ns) (method_at h)

-- how many terms stand behind a call or a send of payload p
pub record Arguments (p r : ℕ) : Type 0 where
  pub is : r ≡ 1 + p / name_limit / tag_limit
  pub few : r ≤ third_place

-- ---- fields and methods behind others with the signatures ns
unfoldable pub fields_well : ℕ → (Value → Bool) → List ℕ → List ℕ → Inits → Bool
fields_well c p xs ns no_field = true
fields_well c p xs ns (Inits.field f e fs) = field_head c ns f && (well_formed c p xs e && fields_well c p xs (f ∷ ns) fs)

unfoldable pub methods_well : ℕ → (Value → Bool) → List ℕ → List ℕ → Methods → Bool
methods_well c p xs ns no_method = true
methods_well c p xs ns (method m ys e ms) = method_head c ns (m, ys) && (well_formed c p (ys ++ xs) e && methods_well c p xs (sign m ys ∷ ns) ms)

-- ---- words
-- where n terms end
abbrev pub terms_end : ℕ → (Value → Bool) → List ℕ → List ℕ → ℕ → ℕ → Option ℕ
terms_end c p xs w n at = end_of (well_formed_all c p xs) (parse_terms (length w) w n at)

-- where a term ends whose word h stands before `at`
abbrev pub word_end : ℕ → (Value → Bool) → List ℕ → List ℕ → ℕ → ℕ → Option ℕ
word_end c p xs w h at = end_of (well_formed c p xs) (formed (head_at h) (λ i. parse w i) w at)

-- of a word that nothing stands behind: whether it is a term
unfoldable pub Leaf : ℕ → (Value → Bool) → List ℕ → ℕ → ℕ → Bool → Type 0
Leaf c p F g h o = (xs : List ℕ) → Scope F g xs → (w : List ℕ) (at : ℕ) → cond o (Some at) None ≡ word_end c p xs w h at

-- The word h is that of a binder or a literal, or of no term.
unfoldable pub Closed : ℕ → ℕ → Type 0
Closed c h = (h / payload ≡ 11 → ⊥) → (h / payload ≡ 12 → ⊥) → (h / payload ≡ 15 → ⊥) → (h / payload ≡ 16 → ⊥) → (h / payload ≡ 17 → ⊥)
    → (p : Value → Bool) (xs w : List ℕ) (at : ℕ) → None ≡ word_end c p xs w h at

-- the kinds that are no operators of the table
unfoldable pub Unlisted : ℕ → Type 0
Unlisted k = ((row_in k).operator ≡ 1 → ⊥) × ((row_in k).operator ≡ 2 → ⊥)

-- Behind the word h of a term stand n terms in the same scope.
pub record Opened (c h n : ℕ) : Type 0 where
  pub few : n ≤ third_place
  pub ends : (p : Value → Bool) (xs w : List ℕ) (at : ℕ) → terms_end c p xs w n at ≡ word_end c p xs w h at

-- how many do, if any do
abbrev pub Operands : ℕ → ℕ → Option ℕ → Type 0
Operands c h None = Closed c h
Operands c h (Some n) = Opened c h n

-- ---- ends: in a state of c words, where p may be held, in the scope of F at the level g and, of a literal's parts, behind the signatures in N
module _ (c : ℕ) (p : Value → Bool) (F : List ℕ) (g : ℕ) (w : List ℕ) where
  unfoldable pub TermEnds : ℕ → Option ℕ → Type 0
  TermEnds at r = (xs : List ℕ) → Scope F g xs → r ≡ end_of (well_formed c p xs) (parse w at)

  -- what is left of the term at `at` are n terms at i
  unfoldable pub Left : ℕ → ℕ → ℕ → Type 0
  Left at n i = (xs : List ℕ) → Scope F g xs → terms_end c p xs w n i ≡ end_of (well_formed c p xs) (parse w at)

  unfoldable pub FieldsEnd : ℕ → ℕ → ℕ → Option ℕ → Type 0
  FieldsEnd N n at r = (xs ns : List ℕ) → Scope F g xs → Met N n ns → r ≡ end_of (fields_well c p xs ns) (parse_inits (length w) w n at)

  unfoldable pub MethodsEnd : ℕ → ℕ → ℕ → Option ℕ → Type 0
  MethodsEnd N n at r = (xs ns : List ℕ) → Scope F g xs → Met N n ns → r ≡ end_of (methods_well c p xs ns) (parse_methods (length w) w n at)

  -- n fields and, behind them, m methods
  unfoldable pub PartsEnd : ℕ → ℕ → ℕ → Option ℕ → Type 0
  PartsEnd n m at r = (xs : List ℕ) → Scope F g xs → n ≤ 4 → m ≤ 4
      → r ≡ option_and_then (λ i. end_of (methods_well c p xs []) (parse_methods (length w) w m i)) (end_of (fields_well c p xs []) (parse_inits (length w) w n at))

  -- what stands behind a word of kind k with payload q
  unfoldable pub FormEnds : ℕ → ℕ → ℕ → Option ℕ → Type 0
  FormEnds k q at r = (xs : List ℕ) → Scope F g xs → r ≡ end_of (well_formed c p xs) (formed (head_in k q) (λ i. parse w i) w at)

  -- the parts of a literal with the word h
  unfoldable pub LiteralEnds : ℕ → ℕ → Option ℕ → Type 0
  LiteralEnds h at r = (t : Kind) → h / payload ≡ kind_number t → (xs : List ℕ) → Scope F g xs
      → r ≡ end_of (well_formed c p xs) (formed (literal_head t (h % payload)) (λ i. parse w i) w at)
