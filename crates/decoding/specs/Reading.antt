-- How words in Polish notation are read. Assumes nothing; nothing here need be believed, since what was read is laid out again
-- and compared.
-- Words are read from the last to the first onto a stack of what was read, so that reading needs no bound and no case of
-- failure: words that are no expression give something, whose words they are not. States and tables differ only in what a
-- node of each kind makes of the stack (`form`).
use Rattle.std.specs.Prelude.{ℕ, zero, suc, ◌-◌, ◌*◌, ◌/◌, ◌%◌, cond, List, [], ◌∷◌, take, drop, ltb}
use Rattle.layout.specs.Numbers.{payload, header, method_unit, name_limit, tag_limit}

-- n elements of s words each
unfoldable pub cut : {A : Type 0} → (List ℕ → A) → ℕ → ℕ → List ℕ → List A
cut f s zero w = []
cut f s (suc n) w = f (take s w) ∷ cut f s n (drop s w)

-- n names of seven bits
unfoldable pub names_in : ℕ → ℕ → List ℕ
names_in zero w = []
names_in (suc n) w = (w % name_limit) ∷ names_in n (w / name_limit)

-- an expression alone, or behind a header
pub data Item (E : Type 0) : Type 0 where
  alone : E → Item E
  a_field a_definition : ℕ → E → Item E
  a_method : ℕ → List ℕ → E → Item E

abbrev pub expr_in : {E : Type 0} → Item E → E
expr_in (alone e) = e
expr_in (a_field f e) = e
expr_in (a_definition x e) = e
expr_in (a_method m xs e) = e

-- an element of a list of expressions, of fields or of methods, put in front with that list's constructor
abbrev pub expr_of : {E L : Type 0} → (E → L → L) → Item E → L → L
expr_of c i l = c (expr_in i) l

abbrev pub field_of : {E L : Type 0} → (ℕ → E → L → L) → Item E → L → L
field_of c (alone e) l = l
field_of c (a_field f e) l = c f e l
field_of c (a_definition x e) l = l
field_of c (a_method m xs e) l = l

abbrev pub method_of : {E L : Type 0} → (ℕ → List ℕ → E → L → L) → Item E → L → L
method_of c (alone e) l = l
method_of c (a_field f e) l = l
method_of c (a_definition x e) l = l
method_of c (a_method m xs e) l = c m xs e l

-- a list of the first n elements
unfoldable pub gather : {I L : Type 0} → (I → L → L) → L → ℕ → List I → L
gather f z zero s = z
gather f z (suc n) [] = z
gather f z (suc n) (i ∷ s) = f i (gather f z n s)

-- `none` stands for what a short stack lacks
module _ {E : Type 0} (none : E) where
  abbrev pub first : List (Item E) → E
  first [] = none
  first (i ∷ s) = expr_in i

  abbrev pub headed : ℕ → List (Item E) → List (Item E)
  headed p s = a_method (p % name_limit) (names_in (p / name_limit % tag_limit) (p / name_limit / tag_limit)) (first s) ∷ drop 1 s

  module _ (form : ℕ → ℕ → List (Item E) → List (Item E)) where
    unfoldable pub push : ℕ → List (Item E) → List (Item E)
    push w s =
        cond (ltb w header) (form (w / payload) (w % payload) s)
        (cond (ltb w (130 * payload)) (a_field (w - header) (first s) ∷ drop 1 s)
        (cond (ltb w (3 * method_unit)) (a_definition (w - 130 * payload) (first s) ∷ drop 1 s) (headed (w - 3 * method_unit) s)))

    unfoldable pub stack : List ℕ → List (Item E)
    stack [] = []
    stack (w ∷ ws) = push w (stack ws)

unfoldable pub Reading : Unit {0}
unfolding cut names_in gather push stack
Reading = tt
