-- A script's wide words as trees: a word, the operands that stand in its own scope, the operands in the scope that it opens, and what
-- follows. A literal's fields are the first and its methods the others. Nothing here knows what a pass looks for. Assumes nothing.
use Rattle.std.specs.Prelude.{ℕ, suc, ◌+◌, ◌*◌, ◌/◌, ◌%◌, ◌≡◌, refl, cond, List, [], ◌∷◌, ◌++◌, eqb}
use Rattle.std.proofs.Common.{sym, ap, ◌∙◌, append_assoc, append-nil}
use Rattle.atlite.specs.Table.{count_fields, count_methods}
use Rattle.atlite.specs.Script.{Src, num, null, var, op, let_in, future, fn, when, literal, Srcs, nil, cons, SrcFields, no_field, field, SrcMethods, no_method, method, count_srcs}
use Rattle.layout.specs.Numbers.{field_kind, digit_limit}
use Rattle.decoding.specs.Kinds.{row_in}
use Rattle.layout.specs.Terms.{kind_number}
use Rattle.layout.specs.Tables.{src_kind}
use Rattle.words.specs.Wide.{wide_kinds, wide, pair, wide_payload, wide_method, wide_src, wide_srcs, wide_fields, wide_methods, wide_limit}

pub data Forest : Type 0 where
  empty : Forest
  tree : ℕ → Forest → Forest → Forest → Forest

unfoldable pub words : Forest → List ℕ
words empty = []
words (tree h a c b) = h ∷ (words a ++ (words c ++ words b))

unfoldable pub count : Forest → ℕ
count empty = 0
count (tree h a c b) = suc (count b)

-- ---- how many operands a word has, by its kind and payload; an operator's are in the table of kinds
abbrev pub outer_by : ℕ → ℕ → ℕ
outer_by k p =
    cond (eqb k 11) 1
    (cond (eqb k 12) 0
    (cond (eqb k 13) (1 + p / wide_limit % 4)
    (cond (eqb k 14) (1 + p / wide_limit % 4)
    (cond (eqb k 15) (p % digit_limit)
    (cond (eqb k 16) (p % digit_limit)
    (cond (eqb k 17) (p % digit_limit)
    (cond (eqb k 64) (1 + p / wide_limit % 4)
    (cond (eqb k 66) 2
    (cond (eqb k 67) 1
    (cond (eqb k 68) 2
    (cond (eqb k field_kind) 1
    (row_in k).operands)))))))))))

abbrev pub inner_by : ℕ → ℕ → ℕ
inner_by k p =
    cond (eqb k 11) 1
    (cond (eqb k 12) 1
    (cond (eqb k 15) (p / digit_limit % digit_limit)
    (cond (eqb k 16) (p / digit_limit % digit_limit)
    (cond (eqb k 17) (p / digit_limit % digit_limit)
    (cond (eqb k 65) 1
    (cond (eqb k 67) 1
    (cond (eqb k 192) 1
    0)))))))

unfoldable pub outer : ℕ → ℕ
outer h = outer_by (h % wide_kinds) (h / wide_kinds)

unfoldable pub inner : ℕ → ℕ
inner h = inner_by (h % wide_kinds) (h / wide_kinds)

-- every word has as many operands as it says
unfoldable pub Fits : Forest → Type 0
Fits empty = Unit {0}
Fits (tree h a c b) = (count a ≡ outer h) × (count c ≡ inner h) × Fits a × Fits c × Fits b

-- ---- a script's trees, before those of r
unfoldable mutual
  pub put : Src → Forest → Forest
  put null r = tree (wide 1 0) empty empty r
  put (num n) r = tree (wide 2 n) empty empty r
  put (var x) r = tree (wide 6 x) empty empty r
  put (op o es) r = tree (wide (src_kind o) (wide_payload o (count_srcs es))) (put_all es empty) empty r
  put (let_in x e d) r = tree (wide 11 x) (put e empty) (put d empty) r
  put (future x y e) r = tree (wide 12 (pair x y)) empty (put e empty) r
  put (literal k fs ms) r = tree (wide (kind_number k) (count_fields fs + digit_limit * count_methods ms)) (put_fields fs empty) (put_methods ms empty) r
  put (fn x e) r = tree (wide 65 x) empty (put e empty) r
  put (when e x d) r = tree (wide 67 x) (put e empty) (put d empty) r

  pub put_all : Srcs → Forest → Forest
  put_all nil r = r
  put_all (cons e es) r = put e (put_all es r)

  pub put_fields : SrcFields → Forest → Forest
  put_fields no_field r = r
  put_fields (field f e fs) r = tree (wide field_kind f) (put e empty) empty (put_fields fs r)

  pub put_methods : SrcMethods → Forest → Forest
  put_methods no_method r = r
  put_methods (method m xs e ms) r = tree (wide_method m xs) empty (put e empty) (put_methods ms r)

-- ---- their words
words-none : words empty ≡ []
unfolding words
words-none = refl

-- a word with operands of both kinds, of the first, of the second
both : (h : ℕ) (a c r : Forest) (v u : List ℕ) → words a ≡ v → words c ≡ u → words (tree h a c r) ≡ (h ∷ (v ++ u)) ++ words r
unfolding words
both h a c r v u p q = rw (p, q) (ap (λ l. h ∷ l) (sym (append_assoc v u (words r))))

first : (h : ℕ) (a r : Forest) (v : List ℕ) → words a ≡ v → words (tree h a empty r) ≡ (h ∷ v) ++ words r
unfolding words
first h a r v p = rw p

second : (h : ℕ) (c r : Forest) (u : List ℕ) → words c ≡ u → words (tree h empty c r) ≡ (h ∷ u) ++ words r
unfolding words
second h c r u p = rw p

one : (a : Forest) (v : List ℕ) → words a ≡ v ++ words empty → words a ≡ v
unfolding words
one a v p = p ∙ append-nil v

mutual
  unfolding put wide_src

  pub words-put : (e : Src) (r : Forest) → words (put e r) ≡ wide_src e ++ words r
  words-put null r = first _ empty r [] words-none
  words-put (num n) r = first _ empty r [] words-none
  words-put (var x) r = first _ empty r [] words-none
  words-put (op o es) r = first _ _ r _ (one _ (wide_srcs es) (words-all es empty))
  words-put (let_in x a b) r = both _ _ _ r _ _ (one _ (wide_src a) (words-put a empty)) (one _ (wide_src b) (words-put b empty))
  words-put (future x y e) r = second _ _ r _ (one _ (wide_src e) (words-put e empty))
  words-put (literal k fs ms) r = both _ _ _ r _ _ (one _ (wide_fields fs) (words-fields fs empty)) (one _ (wide_methods ms) (words-methods ms empty))
  words-put (fn x e) r = second _ _ r _ (one _ (wide_src e) (words-put e empty))
  words-put (when a x b) r = both _ _ _ r _ _ (one _ (wide_src a) (words-put a empty)) (one _ (wide_src b) (words-put b empty))

  words-all : (es : Srcs) (r : Forest) → words (put_all es r) ≡ wide_srcs es ++ words r
  words-all nil r = refl
  words-all (cons e es) r = words-put e (put_all es r) ∙ ap (λ l. wide_src e ++ l) (words-all es r) ∙ sym (append_assoc (wide_src e) (wide_srcs es) (words r))

  words-fields : (fs : SrcFields) (r : Forest) → words (put_fields fs r) ≡ wide_fields fs ++ words r
  words-fields no_field r = refl
  words-fields (field f e fs) r =
      first _ _ (put_fields fs r) _ (one _ (wide_src e) (words-put e empty)) ∙ ap (λ l. wide field_kind f ∷ (wide_src e ++ l)) (words-fields fs r)
      ∙ ap (λ l. wide field_kind f ∷ l) (sym (append_assoc (wide_src e) (wide_fields fs) (words r)))

  words-methods : (ms : SrcMethods) (r : Forest) → words (put_methods ms r) ≡ wide_methods ms ++ words r
  words-methods no_method r = refl
  words-methods (method m xs e ms) r =
      second _ _ (put_methods ms r) _ (one _ (wide_src e) (words-put e empty)) ∙ ap (λ l. wide_method m xs ∷ (wide_src e ++ l)) (words-methods ms r)
      ∙ ap (λ l. wide_method m xs ∷ l) (sym (append_assoc (wide_src e) (wide_methods ms) (words r)))

-- ---- how many trees
mutual
  unfolding put count

  pub count-put : (e : Src) (r : Forest) → count (put e r) ≡ suc (count r)
  count-put null r = refl
  count-put (num n) r = refl
  count-put (var x) r = refl
  count-put (op o es) r = refl
  count-put (let_in x a b) r = refl
  count-put (future x y e) r = refl
  count-put (literal k fs ms) r = refl
  count-put (fn x e) r = refl
  count-put (when a x b) r = refl

pub count-all : (es : Srcs) → count (put_all es empty) ≡ count_srcs es
unfolding put count count_srcs
count-all nil = refl
count-all (cons e es) = count-put e (put_all es empty) ∙ ap suc (count-all es)

pub count-fields : (fs : SrcFields) → count (put_fields fs empty) ≡ count_fields fs
unfolding put count count_fields
count-fields no_field = refl
count-fields (field f e fs) = ap suc (count-fields fs)

pub count-methods : (ms : SrcMethods) → count (put_methods ms empty) ≡ count_methods ms
unfolding put count count_methods
count-methods no_method = refl
count-methods (method m xs e ms) = ap suc (count-methods ms)
