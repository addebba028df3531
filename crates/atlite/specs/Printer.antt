-- The text of a script: the one text that the reader takes for it. Assumes nothing.
--
-- Document 01, "Script text", the sentences on spaces and brackets. The listing prints numbers, words and bracketed items in the same way.
use Rattle.std.specs.Prelude.{ℕ, zero, suc, ◌+◌, ◌-◌, ◌/◌, ◌%◌, true, false, List, [], ◌∷◌, ◌++◌, map, get_or, ltb, if◌then◌else◌}
use Rattle.atlite.specs.Base.{bytes}
use Rattle.atlite.specs.Term.{first_word, Name, plain, two_way, Op, Shape, exactly, on_field, calling, sending, shape}
use Rattle.atlite.specs.Keywords.{Keywords, src_word, print_kind, let_word, future_word, fn_word, when_word, null_word, this_word, def_word, field_word, method_word}
use Rattle.atlite.specs.Lexicon.{Bytes}
use Rattle.atlite.specs.Script.{SrcOp, src_shape, Src, num, null, var, op, let_in, future, fn, when, literal, Srcs, nil, cons, SrcFields, no_field, field, SrcMethods, no_method, method, Line, expression, define}

-- the digits of n before the bytes w, at most k of them
unfoldable pub digits : ℕ → ℕ → Bytes → Bytes
digits zero n w = w
digits (suc k) n w = elim (ltb n 10) [ true ↦ (48 + n) ∷ w | false ↦ digits k (n / 10) ((48 + n % 10) ∷ w) ]

-- every number of a script or state has at most 8 digits
unfoldable pub print_number : ℕ → Bytes
print_number n = digits 8 n []

-- items with a space between each two
unfoldable pub print_items : List Bytes → Bytes
print_items [] = []
print_items (w ∷ []) = w
print_items (w ∷ v ∷ ws) = w ++ (32 ∷ print_items (v ∷ ws))

-- the same in brackets
unfoldable pub form : List Bytes → Bytes
form ws = 40 ∷ (print_items ws ++ (41 ∷ []))

-- the words below the first of a script
unfoldable pub known : List Bytes
known = this_word ∷ bytes ".t" ∷ bytes ".f" ∷ bytes ".r" ∷ bytes ".l" ∷ bytes ".s" ∷ bytes ".x" ∷ bytes "apply" ∷ []

unfoldable pub print_word : List Bytes → ℕ → Bytes
print_word ws x = if ltb x first_word then get_or known x [] else get_or ws (x - first_word) []

unfoldable pub print_name : List Bytes → Name → Bytes
print_name ws (plain m) = print_word ws m
print_name ws (two_way m) = print_word ws m ++ bytes ".f"
print_name ws Name.resolve = bytes ".resolve"
print_name ws Name.register = bytes ".register"

-- what an operator names, as an item
abbrev pub labelled : {N : Type 0} → (ℕ → Bytes) → (N → Bytes) → Shape N → List Bytes
labelled f m (exactly k) = []
labelled f m (on_field x k) = f x ∷ []
labelled f m (calling x) = m x ∷ []
labelled f m (sending x) = m x ∷ []

unfoldable pub op_names : List Bytes → Op Name → List Bytes
op_names ws o = labelled (print_word ws) (print_name ws) (shape o)

unfoldable pub src_names : List Bytes → SrcOp → List Bytes
src_names ws o = labelled (print_word ws) (print_word ws) (src_shape o)

-- the operands as items, with the name behind the first of them
unfoldable pub placed : List Bytes → List Bytes → List Bytes
placed ns [] = ns
placed ns (e ∷ es) = e ∷ (ns ++ es)

unfoldable mutual
  pub print : List Bytes → Src → Bytes
  print ws (num n) = print_number n
  print ws null = null_word
  print ws (var x) = print_word ws x
  print ws (op o es) = form (src_word o ∷ placed (src_names ws o) (print_all ws es))
  print ws (let_in x e d) = form (let_word ∷ print_word ws x ∷ print ws e ∷ print ws d ∷ [])
  print ws (future x y e) = form (future_word ∷ print_word ws x ∷ print_word ws y ∷ print ws e ∷ [])
  print ws (fn x e) = form (fn_word ∷ print_word ws x ∷ print ws e ∷ [])
  print ws (when e x d) = form (when_word ∷ print ws e ∷ print_word ws x ∷ print ws d ∷ [])
  print ws (literal k fs ms) = form (print_kind k ∷ (print_fields ws fs ++ print_methods ws ms))

  pub print_all : List Bytes → Srcs → List Bytes
  print_all ws nil = []
  print_all ws (cons e es) = print ws e ∷ print_all ws es

  pub print_fields : List Bytes → SrcFields → List Bytes
  print_fields ws no_field = []
  print_fields ws (field f e fs) = form (field_word ∷ print_word ws f ∷ print ws e ∷ []) ∷ print_fields ws fs

  pub print_methods : List Bytes → SrcMethods → List Bytes
  print_methods ws no_method = []
  print_methods ws (method m xs e ms) = form (method_word ∷ print_word ws m ∷ form (map (print_word ws) xs) ∷ print ws e ∷ []) ∷ print_methods ws ms

unfoldable pub print_line : List Bytes → Line → Bytes
print_line ws (expression e) = print ws e ++ (10 ∷ [])
print_line ws (define x e) = form (def_word ∷ print_word ws x ∷ print ws e ∷ []) ++ (10 ∷ [])

unfoldable pub print_script : List Bytes → List Line → Bytes
print_script ws [] = []
print_script ws (l ∷ ls) = print_line ws l ++ print_script ws ls

unfoldable pub Printer : Unit {0}
unfolding Keywords digits print_number print_items form known print_word print_name op_names src_names placed print print_line print_script
Printer = tt
