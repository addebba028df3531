-- Terms read forward from a position. Assumes nothing; nothing here need be believed, since `ParseLaws` says of it that a term is
-- got exactly where its words stand.
-- A reader of a position answers with what it got and where that ends, or with nothing. What a word asks for behind it (`Head`) is
-- found from the word alone, so that all arithmetic is in `head_at`, `field_at` and `method_at`, and the recursion has one case for
-- each number of parts and none for a kind. Only terms take fuel; lists go by their count.
use Rattle.std.specs.Prelude.{ℕ, zero, suc, ◌+◌, ◌-◌, ◌/◌, ◌%◌, Bool, true, false, cond, List, [], ◌∷◌, length, get_or, eqb, ltb, leb}
use Rattle.std.proofs.Math.Option.{Option, some}
use Rattle.atlite.specs.Term.{Value, null, num, Name, plain, two_way, resolve, register, Op, call, send, written, Kind, Term, val, var, op, let_in, future, literal, Terms, nil, cons, Inits, no_field, Methods, no_method, method}
use Rattle.atlite.specs.State.{Message, message}
use Rattle.layout.specs.Numbers.{payload, field_kind, method_unit, name_limit, no_name, tag_limit, tagged_limit, second_place, third_place, digit_limit, message_size}
use Rattle.decoding.specs.Kinds.{Form, nothing, null_value, number, reference, variable, bare, on_field, calls, sends, form_in}
use Rattle.decoding.specs.TermReading.{ref_in}

-- what stands at a position, and the position of its end
pub data Got (A : Type 0) : Type 0 where
  none : Got A
  got : A → ℕ → Got A

-- nothing where the test fails
abbrev pub given : {A : Type 0} → Bool → Option A → Option A
given b o = cond b o Option.none

abbrev pub sure : {A : Type 0} → Bool → Got A → Got A
sure b g = cond b g none

module _ {A B : Type 0} where
  abbrev pub on_got : (A → B) → Got A → Got B
  on_got f none = none
  on_got f (got a i) = got (f a) i

  -- what a header leads
  abbrev pub behind : Option A → (A → Got B) → Got B
  behind Option.none q = none
  behind (some a) q = q a

-- one after another
abbrev pub pair : {A B C : Type 0} → (A → B → C) → Got A → (ℕ → Got B) → Got C
pair f none q = none
pair f (got a i) q = on_got (f a) (q i)

-- ---- one word
-- by kind and payload; an owner is below 128 since the payload is below 2^24
abbrev pub value_forms : ℕ → List (Option Value)
value_forms p = Option.none ∷ given (eqb p 0) (some null) ∷ some (num p) ∷ some (ref_in p) ∷ []

unfoldable pub value_in : ℕ → ℕ → Option Value
value_in k p = get_or (value_forms p) k Option.none

unfoldable pub value_at : ℕ → Option Value
value_at x = value_in (x / payload) (x % payload)

-- by tag and name
abbrev pub name_forms : ℕ → List (Option Name)
name_forms x = given (ltb x no_name) (some (plain x)) ∷ given (ltb x no_name) (some (two_way x)) ∷ given (eqb x 0) (some resolve) ∷ given (eqb x 0) (some register) ∷ []

unfoldable pub name_of : ℕ → ℕ → Option Name
name_of t x = get_or (name_forms x) t Option.none

-- What a word asks for behind it: nothing, one term, two, so many operands, or so many fields and so many methods.
pub data Head : Type 0 where
  no_head : Head
  leaf : Term → Head
  unary : (Term → Term) → Head
  binary : (Term → Term → Term) → Head
  many : Op Name → ℕ → Head
  parts : Kind → ℕ → ℕ → Head

abbrev pub only : Bool → Head → Head
only b h = cond b h no_head

abbrev pub value_head : Option Value → Head
value_head Option.none = no_head
value_head (some v) = leaf (val v)

abbrev pub ask_head : (Name → Op Name) → ℕ → Option Name → Head
ask_head f n Option.none = no_head
ask_head f n (some m) = many (f m) (suc n)

abbrev pub ask_in : (Name → Op Name) → ℕ → Head
ask_in f p = only (ltb (p / name_limit / tag_limit) 8) (ask_head f (p / name_limit / tag_limit) (name_of (p / name_limit % tag_limit) (p % name_limit)))

abbrev pub literal_head : Kind → ℕ → Head
literal_head k p = only (ltb (p / digit_limit) digit_limit) (parts k (p % digit_limit) (p / digit_limit))

unfoldable pub head_of : Form → ℕ → Head
head_of nothing p = no_head
head_of null_value p = value_head (value_in 1 p)
head_of number p = value_head (value_in 2 p)
head_of reference p = value_head (value_in 3 p)
head_of variable p = only (ltb p no_name) (leaf (var p))
head_of (bare o n e) p = only (eqb p 0) (many (written o) n)
head_of (on_field c k n e) p = only (ltb p no_name) (many (written (c p)) n)
head_of Form.let_in p = only (ltb p no_name) (binary (λ e d. let_in p e d))
head_of Form.future p = only (ltb (p % name_limit) no_name) (only (ltb (p / name_limit) no_name) (unary (λ e. future (p % name_limit) (p / name_limit) e)))
head_of calls p = ask_in call p
head_of sends p = ask_in send p
head_of (Form.literal k) p = literal_head k p

unfoldable pub head_in : ℕ → ℕ → Head
head_in k p = head_of (form_in k) p

unfoldable pub head_at : ℕ → Head
head_at x = head_in (x / payload) (x % payload)

unfoldable pub field_at : ℕ → Option ℕ
field_at x = given (eqb (x / payload) field_kind) (given (ltb (x % payload) no_name) (some (x % payload)))

-- the first n of three names, where the places behind them are empty
abbrev pub place_forms : ℕ → ℕ → ℕ → List (Option (List ℕ))
place_forms x y z =
    given (eqb x no_name) (given (eqb y no_name) (given (eqb z no_name) (some [])))
    ∷ given (ltb x no_name) (given (eqb y no_name) (given (eqb z no_name) (some (x ∷ []))))
    ∷ given (ltb x no_name) (given (ltb y no_name) (given (eqb z no_name) (some (x ∷ y ∷ []))))
    ∷ given (ltb x no_name) (given (ltb y no_name) (given (ltb z no_name) (some (x ∷ y ∷ z ∷ []))))
    ∷ []

unfoldable pub places_in : ℕ → ℕ → ℕ → ℕ → Option (List ℕ)
places_in n x y z = get_or (place_forms x y z) n Option.none

unfoldable pub params_at : ℕ → Option (List ℕ)
params_at x = places_in (x / name_limit % tag_limit) (x / tagged_limit % name_limit) (x / second_place % name_limit) (x / third_place % name_limit)

abbrev pub named : ℕ → Option (List ℕ) → Option (ℕ × List ℕ)
named m Option.none = Option.none
named m (some xs) = some (m, xs)

-- a method's name and its parameters
unfoldable pub method_at : ℕ → Option (ℕ × List ℕ)
method_at x = given (eqb (x / method_unit) 3) (given (ltb (x % name_limit) no_name) (named (x % name_limit) (params_at x)))

-- ---- terms, by a reader of the terms inside
unfoldable pub terms_by : (ℕ → Got Term) → ℕ → ℕ → Got Terms
terms_by p zero at = got nil at
terms_by p (suc c) at = pair cons (p at) (λ i. terms_by p c i)

unfoldable pub inits_by : (ℕ → Got Term) → List ℕ → ℕ → ℕ → Got Inits
inits_by p w zero at = got no_field at
inits_by p w (suc c) at = behind (field_at (get_or w at 0)) (λ f. pair (Inits.field f) (p (at + 1)) (λ i. inits_by p w c i))

unfoldable pub methods_by : (ℕ → Got Term) → List ℕ → ℕ → ℕ → Got Methods
methods_by p w zero at = got no_method at
methods_by p w (suc c) at = behind (method_at (get_or w at 0)) (λ h. pair (method h.0 h.1) (p (at + 1)) (λ i. methods_by p w c i))

-- behind a head
unfoldable pub formed : Head → (ℕ → Got Term) → List ℕ → ℕ → Got Term
formed no_head p w at = none
formed (leaf e) p w at = got e at
formed (unary f) p w at = on_got f (p at)
formed (binary f) p w at = pair f (p at) p
formed (many o n) p w at = on_got (op o) (terms_by p n at)
formed (parts k n m) p w at = pair (literal k) (inits_by p w n at) (λ i. methods_by p w m i)

unfoldable pub parse_term : ℕ → List ℕ → ℕ → Got Term
parse_term zero w at = none
parse_term (suc n) w at = formed (head_at (get_or w at 0)) (λ i. parse_term n w i) w (at + 1)

-- with the count of what is asked for
abbrev pub parse_terms : ℕ → List ℕ → ℕ → ℕ → Got Terms
parse_terms n w c at = terms_by (λ i. parse_term n w i) c at

abbrev pub parse_inits : ℕ → List ℕ → ℕ → ℕ → Got Inits
parse_inits n w c at = inits_by (λ i. parse_term n w i) w c at

abbrev pub parse_methods : ℕ → List ℕ → ℕ → ℕ → Got Methods
parse_methods n w c at = methods_by (λ i. parse_term n w i) w c at

-- ---- messages
abbrev pub before : Option Value → Option (List Value) → Option (List Value)
before Option.none l = Option.none
before (some v) Option.none = Option.none
before (some v) (some vs) = some (v ∷ vs)

unfoldable pub values_at : List ℕ → ℕ → ℕ → Option (List Value)
values_at w zero at = some []
values_at w (suc c) at = before (value_at (get_or w at 0)) (values_at w c (at + 1))

unfoldable pub zeros_at : List ℕ → ℕ → ℕ → Bool
zeros_at w zero at = true
zeros_at w (suc c) at = elim (eqb (get_or w at 0) 0) [ true ↦ zeros_at w c (at + 1) | false ↦ false ]

-- The name and n arguments are in the first word. The words must all be there, as an empty word is not told from none.
unfoldable pub parse_message : List ℕ → ℕ → Got Message
parse_message w at =
    let x = get_or w at 0 in
    let n = x % payload / name_limit / tag_limit in
    sure (leb (at + message_size) (length w))
    (sure (eqb (x / payload) 14)
    (sure (ltb n 5)
    (sure (zeros_at w (4 - n) (at + 2 + n))
    (behind (name_of (x % payload / name_limit % tag_limit) (x % payload % name_limit)) (λ m.
    behind (value_at (get_or w (at + 1) 0)) (λ v.
    behind (values_at w n (at + 2)) (λ vs. got (message v m vs) (at + message_size))))))))

unfoldable pub Parse : Unit {0}
unfolding value_in value_at name_of head_of head_in head_at field_at places_in params_at method_at terms_by inits_by methods_by formed parse_term values_at zeros_at parse_message
Parse = tt
