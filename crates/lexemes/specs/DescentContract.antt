-- What the functions of the descent answer: the same as the reader does of the text behind the position, with the wide words of
-- what was read written in their place. The reader's fuel is any number above what is left of the text. Assumes nothing.
use Rattle.std.specs.Prelude.{◌≡◌, List, [], ◌∷◌, ◌++◌, ℕ, zero, suc, ◌+◌, ◌-◌, ◌*◌, ◌≤◌, ◌<◌, length, drop, set, Option, Some, None}
use Rattle.std.proofs.Math.Option.{none, some}
use Rattle.std.proofs.lemmas.List.Edits.{sets}
use Rattle.atlite.specs.Base.{Result, done, refused, ◌>>=◌, or_refuse}
use Rattle.atlite.specs.Lexicon.{Bytes, close, dictionary}
use Rattle.atlite.specs.Script.{Src, Srcs, SrcFields, SrcMethods, count_srcs}
use Rattle.atlite.specs.Table.{count_fields, count_methods}
use Rattle.atlite.specs.Reader.{Reading, spelled, item, eat, read_word, spaced, spaced_word, read_items, read_fields, read_methods, read_form, read_expr}
use Rattle.atlite.specs.Keywords.{operators}
use Rattle.words.specs.Wide.{wide, pair, wide_src, wide_srcs, wide_fields, wide_methods}
use Rattle.layout.specs.Numbers.{digit_limit}
use Rattle.lexemes.specs.Headers.{read_header}
use Rattle.lexemes.specs.Operators.{operator_of}
use Rattle.lexemes.specs.declared.scratch.Step.{Step}
use Rattle.lexemes.specs.declared.scratch.Listed.{Listed}

-- the answers of a step to i and p, and of a list to there with the count c
abbrev pub stepped : ℕ → ℕ → Option Step
stepped i p = Some (record { at = i; out = p })

abbrev pub listed : ℕ → ℕ → ℕ → Option Listed
listed i p c = Some (record { at = i; out = p; count = c })

-- what was read from `at` to i, and written from o to p: no more was written than read, so that all fits
pub record Read {A : Type 0} (enc : A → List ℕ) (t : Bytes) (at o : ℕ) (old new : List ℕ) (R : Result (A × Bytes)) (i p : ℕ) : Type 0 where
  pub value : A
  pub is : R ≡ done (value, drop i t)
  pub far : at < i
  pub within : i ≤ length t
  pub wrote : new ≡ sets old o (enc value)
  pub ends : p ≡ o + length (enc value)
  pub short : p + at ≤ o + i

unfoldable pub Took : {A : Type 0} → (A → List ℕ) → Bytes → ℕ → ℕ → List ℕ → List ℕ → Result (A × Bytes) → Option Step → Type 0
Took enc t at o old new R (Some s) = Read enc t at o old new R s.at s.out
Took enc t at o old new R None = R ≡ refused 2

unfoldable pub Reads : {A : Type 0} → (A → List ℕ) → (ℕ → Reading A) → Bytes → ℕ → ℕ → List ℕ → List ℕ → Option Step → Type 0
Reads enc R t at o old new r = (n : ℕ) → length t - at < n → Took enc t at o old new (R n (drop at t)) r

-- the closing bracket at j, and the head word
pub record ClosedAt (t : Bytes) (j : ℕ) (old : List ℕ) (o w q : ℕ) (new : List ℕ) (i p : ℕ) : Type 0 where
  pub is : eat 41 (drop j t) ≡ done (drop i t)
  pub next : i ≡ j + 1
  pub within : i ≤ length t
  pub ends : p ≡ q
  pub wrote : new ≡ set old o w

unfoldable pub Closed : Bytes → ℕ → List ℕ → ℕ → ℕ → ℕ → List ℕ → Option Step → Type 0
Closed t j old o w q new (Some s) = ClosedAt t j old o w q new s.at s.out
Closed t j old o w q new None = eat 41 (drop j t) ≡ refused 2

-- ---- the readers by shape, over the reader of expressions
unfoldable pub exprs : Bytes → ℕ → Reading Src
exprs t n i = read_expr operators n (dictionary t) i

unfoldable pub spaceds : Bytes → ℕ → Reading Src
spaceds t n i = spaced (read_expr operators n (dictionary t)) i

-- an expression, then the closing bracket; its words stand behind w
unfoldable pub read_one : Reading Src → Reading Src
read_one R i = do
  (e, i₁) ← spaced R i
  i₂ ← eat close i₁
  done (e, i₂)

unfoldable pub ones : Bytes → ℕ → Reading Src
ones t n i = read_one (read_expr operators n (dictionary t)) i

unfoldable pub one_words : ℕ → Src → List ℕ
one_words w e = w ∷ wide_src e

-- n expressions, then the closing bracket; their words
abbrev pub Parts : ℕ → Type 0
Parts zero = Unit {0}
Parts (suc n) = Src × Parts n

unfoldable pub read_parts : (n : ℕ) → Reading Src → Reading (Parts n)
read_parts zero R i = eat close i >>= λ j. done (tt, j)
read_parts (suc n) R i = do
  (e, i₁) ← spaced R i
  (v, i₂) ← read_parts n R i₁
  done ((e, v), i₂)

unfoldable pub parts : (k : ℕ) → Bytes → ℕ → Reading (Parts k)
parts k t n i = read_parts k (read_expr operators n (dictionary t)) i

unfoldable pub part_words : (n : ℕ) → Parts n → List ℕ
part_words zero v = []
part_words (suc n) v = wide_src v.0 ++ part_words n v.1

unfoldable pub head_words : (w n : ℕ) → Parts n → List ℕ
head_words w n v = w ∷ part_words n v

-- an expression, a word and n expressions
unfoldable pub read_mid : (n : ℕ) → List Bytes → Reading Src → Reading (Src × ℕ × Parts n)
read_mid n ws R i = do
  (e, i₁) ← spaced R i
  (x, i₂) ← spaced_word ws i₁
  (v, i₃) ← read_parts n R i₂
  done ((e, x, v), i₃)

unfoldable pub mids : (k : ℕ) → Bytes → ℕ → Reading (Src × ℕ × Parts k)
mids k t n i = read_mid k (dictionary t) (read_expr operators n (dictionary t)) i

unfoldable pub mid_words : (k n : ℕ) → Src × ℕ × Parts n → List ℕ
mid_words k n v = wide k v.1 ∷ (wide_src v.0 ++ part_words n v.2)

-- an expression, a word and arguments
unfoldable pub read_args : Reading Src → Reading Srcs
read_args R i = read_items Srcs.nil Srcs.cons R 3 i

unfoldable pub read_send : List Bytes → Reading Src → Reading (Src × ℕ × Srcs)
read_send ws R i = do
  (e, i₁) ← spaced R i
  (m, i₂) ← spaced_word ws i₁
  (es, i₃) ← read_args R i₂
  done ((e, m, es), i₃)

unfoldable pub sends : Bytes → ℕ → Reading (Src × ℕ × Srcs)
sends t n i = read_send (dictionary t) (read_expr operators n (dictionary t)) i

unfoldable pub send_words : ℕ → Src × ℕ × Srcs → List ℕ
send_words k v = wide k (pair v.1 (count_srcs v.2)) ∷ (wide_src v.0 ++ wide_srcs v.2)

-- what stands behind the word of the operator of kind k
unfoldable pub form_by : ℕ → List Bytes → Reading Src → Reading Src
form_by k ws R i = elim (operator_of operators k) [ none ↦ refused 2 | some o ↦ read_form o ws R i ]

unfoldable pub forms : ℕ → Bytes → ℕ → Reading Src
forms k t n i = form_by k (dictionary t) (read_expr operators n (dictionary t)) i

-- ---- lists: c is the count with those before
pub record ListRead {A : Type 0} (enc : A → List ℕ) (num : A → ℕ) (most b : ℕ) (t : Bytes) (at o : ℕ) (old new : List ℕ) (R : Result (A × Bytes)) (i p c : ℕ) : Type 0 where
  pub value : A
  pub is : R ≡ done (value, drop i t)
  pub far : at ≤ i
  pub within : i ≤ length t
  pub wrote : new ≡ sets old o (enc value)
  pub ends : p ≡ o + length (enc value)
  pub short : p + at ≤ o + i
  pub counted : c ≡ b + num value
  pub few : c ≤ most

unfoldable pub TookList : {A : Type 0} → (A → List ℕ) → (A → ℕ) → ℕ → ℕ → Bytes → ℕ → ℕ → List ℕ → List ℕ → Result (A × Bytes) → Option Listed → Type 0
TookList enc num most b t at o old new R (Some s) = ListRead enc num most b t at o old new R s.at s.out s.count
TookList enc num most b t at o old new R None = R ≡ refused 2

unfoldable pub Lists : {A : Type 0} → (A → List ℕ) → (A → ℕ) → ℕ → ℕ → (ℕ → Reading A) → Bytes → ℕ → ℕ → List ℕ → List ℕ → Option Listed → Type 0
Lists enc num most b R t at o old new r = (n : ℕ) → length t - at < n → TookList enc num most b t at o old new (R n (drop at t)) r

unfoldable pub args_from : ℕ → Bytes → ℕ → Reading Srcs
args_from b t n i = read_items Srcs.nil Srcs.cons (read_expr operators n (dictionary t)) (3 - b) i

unfoldable pub fields_from : ℕ → Bytes → ℕ → Reading SrcFields
fields_from b t n i = read_fields (dictionary t) (read_expr operators n (dictionary t)) (4 - b) i

unfoldable pub methods_from : ℕ → Bytes → ℕ → Reading SrcMethods
methods_from b t n i = read_methods (dictionary t) (read_expr operators n (dictionary t)) (4 - b) i

-- an operator and its form
unfoldable pub brackets : Bytes → ℕ → Reading Src
brackets t n i = or_refuse 2 (spelled operators (item i).0) >>= λ o. read_form o (dictionary t) (read_expr operators n (dictionary t)) (item i).1

-- the parts of a literal
unfoldable pub read_literal : List Bytes → Reading Src → Reading (SrcFields × SrcMethods)
read_literal ws R i = do
  (fs, i₁) ← read_fields ws R 4 i
  (ms, i₂) ← read_methods ws R 4 i₁
  i₃ ← eat close i₂
  done ((fs, ms), i₃)

unfoldable pub literals : Bytes → ℕ → Reading (SrcFields × SrcMethods)
literals t n i = read_literal (dictionary t) (read_expr operators n (dictionary t)) i

unfoldable pub literal_words : ℕ → SrcFields × SrcMethods → List ℕ
literal_words k v = wide k (count_fields v.0 + digit_limit * count_methods v.1) ∷ (wide_fields v.0 ++ wide_methods v.1)

-- a field or a method behind its opening, and those after it
unfoldable pub field_at : ℕ → Bytes → ℕ → Reading SrcFields
field_at b t n i = do
  (f, i₁) ← read_word (dictionary t) i
  (e, i₂) ← read_one (read_expr operators n (dictionary t)) i₁
  (fs, i₃) ← read_fields (dictionary t) (read_expr operators n (dictionary t)) (4 - (b + 1)) i₂
  done (SrcFields.field f e fs, i₃)

unfoldable pub method_at : ℕ → Bytes → ℕ → Reading SrcMethods
method_at b t n i = do
  (v, i₁) ← read_header (dictionary t) i
  (e, i₂) ← read_one (read_expr operators n (dictionary t)) i₁
  (ms, i₃) ← read_methods (dictionary t) (read_expr operators n (dictionary t)) (4 - (b + 1)) i₂
  done (SrcMethods.method v.0 v.1 e ms, i₃)

-- the last expressions of a form, or its arguments, with the head word w at o and the words of the part at p
pub record PartRead {A : Type 0} (s : ℕ) (enc : A → List ℕ) (head : A → ℕ) (t : Bytes) (at p : ℕ) (old : List ℕ) (o : ℕ) (new : List ℕ) (R : Result (A × Bytes)) (i q : ℕ) : Type 0 where
  pub value : A
  pub is : R ≡ done (value, drop i t)
  pub far : at + s ≤ i
  pub within : i ≤ length t
  pub wrote : new ≡ set (sets old p (enc value)) o (head value)
  pub ends : q ≡ p + length (enc value)
  pub short : q + at + s ≤ p + i

unfoldable pub TookPart : {A : Type 0} → ℕ → (A → List ℕ) → (A → ℕ) → Bytes → ℕ → ℕ → List ℕ → ℕ → List ℕ → Result (A × Bytes) → Option Step → Type 0
TookPart s enc head t at p old o new R (Some r) = PartRead s enc head t at p old o new R r.at r.out
TookPart s enc head t at p old o new R None = R ≡ refused 2

-- k expressions and the closing bracket
unfoldable pub Follow : ℕ → ℕ → Bytes → ℕ → ℕ → List ℕ → ℕ → List ℕ → Option Step → Type 0
Follow w k t at p old o new r = (n : ℕ) → length t - at < n → TookPart 1 (part_words k) (λ v. w) t at p old o new (parts k t n (drop at t)) r

unfoldable pub Argued : ℕ → ℕ → Bytes → ℕ → ℕ → List ℕ → ℕ → List ℕ → Option Step → Type 0
Argued k m t at p old o new r =
    (n : ℕ) → length t - at < n
    → TookPart 0 wide_srcs (λ es. wide k (pair m (count_srcs es))) t at p old o new (read_args (read_expr operators n (dictionary t)) (drop at t)) r

-- methods to the closing bracket of a literal with c fields
unfoldable pub read_rest : List Bytes → Reading Src → Reading SrcMethods
read_rest ws R i = do
  (ms, i₁) ← read_methods ws R 4 i
  i₂ ← eat close i₁
  done (ms, i₂)

pub record EndRead (k c : ℕ) (t : Bytes) (at p : ℕ) (old : List ℕ) (o : ℕ) (new : List ℕ) (R : Result (SrcMethods × Bytes)) (i q : ℕ) : Type 0 where
  pub value : SrcMethods
  pub is : R ≡ done (value, drop i t)
  pub far : at < i
  pub within : i ≤ length t
  pub wrote : new ≡ set (sets old p (wide_methods value)) o (wide k (c + digit_limit * count_methods value))
  pub ends : q ≡ p + length (wide_methods value)
  pub short : q + at + 1 ≤ p + i

unfoldable pub TookEnd : ℕ → ℕ → Bytes → ℕ → ℕ → List ℕ → ℕ → List ℕ → Result (SrcMethods × Bytes) → Option Step → Type 0
TookEnd k c t at p old o new R (Some r) = EndRead k c t at p old o new R r.at r.out
TookEnd k c t at p old o new R None = R ≡ refused 2

unfoldable pub Ended : ℕ → ℕ → Bytes → ℕ → ℕ → List ℕ → ℕ → List ℕ → Option Step → Type 0
Ended k c t at p old o new r = (n : ℕ) → length t - at < n → TookEnd k c t at p old o new (read_rest (dictionary t) (read_expr operators n (dictionary t)) (drop at t)) r
