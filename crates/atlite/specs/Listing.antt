-- The listing of a state as bytes. Assumes nothing.
--
-- Document 01, "Listing and worked examples": actors in order, of each its line, its entities and its inbox.
use Rattle.std.specs.Prelude.{ℕ, suc, List, [], ◌∷◌, ◌++◌, map, length}
use Rattle.std.proofs.Math.Option.{Option, none, some}
use Rattle.atlite.specs.Base.{bytes}
use Rattle.atlite.specs.Term.{Series, made, copied, Value, null, num, ref, Term, val, var, op, let_in, future, literal, Terms, nil, cons, Inits, no_field, field, Methods, no_method, method}
use Rattle.atlite.specs.State.{Message, message, Field, Tag, shared, isolated, Entity, object, resolver, Actor, State}
use Rattle.atlite.specs.Lexicon.{Bytes}
use Rattle.atlite.specs.Printer.{Printer, print_number, print_word, print_name, op_names, placed, form}
use Rattle.atlite.specs.Keywords.{op_word, print_kind, let_word, future_word, null_word, field_word, method_word}

unfoldable pub print_series : Series → Bytes
print_series made = bytes "m"
print_series copied = bytes "c"

unfoldable pub print_value : Value → Bytes
print_value null = null_word
print_value (num n) = print_number n
print_value (ref a s n) = form (bytes "ref" ∷ print_number a ∷ print_series s ∷ print_number n ∷ [])

unfoldable mutual
  pub print_term : List Bytes → Term → Bytes
  print_term ws (val v) = print_value v
  print_term ws (var x) = print_word ws x
  print_term ws (op o es) = form (op_word o ∷ placed (op_names ws o) (print_terms ws es))
  print_term ws (let_in x e d) = form (let_word ∷ print_word ws x ∷ print_term ws e ∷ print_term ws d ∷ [])
  print_term ws (future x y e) = form (future_word ∷ print_word ws x ∷ print_word ws y ∷ print_term ws e ∷ [])
  print_term ws (literal k fs ms) = form (print_kind k ∷ (print_inits ws fs ++ print_methods ws ms))

  pub print_terms : List Bytes → Terms → List Bytes
  print_terms ws nil = []
  print_terms ws (cons e es) = print_term ws e ∷ print_terms ws es

  pub print_inits : List Bytes → Inits → List Bytes
  print_inits ws no_field = []
  print_inits ws (field f e fs) = form (field_word ∷ print_word ws f ∷ print_term ws e ∷ []) ∷ print_inits ws fs

  pub print_methods : List Bytes → Methods → List Bytes
  print_methods ws no_method = []
  print_methods ws (method m xs e ms) = form (method_word ∷ print_word ws m ∷ form (map (print_word ws) xs) ∷ print_term ws e ∷ []) ∷ print_methods ws ms

unfoldable pub print_field : List Bytes → Field → Bytes
print_field ws (Field.field f v) = form (field_word ∷ print_word ws f ∷ print_value v ∷ [])

unfoldable pub print_message : List Bytes → Message → Bytes
print_message ws (message v m vs) = form (bytes "message" ∷ print_value v ∷ print_name ws m ∷ map print_value vs)

unfoldable pub print_tag : Tag → Bytes
print_tag shared = bytes "object"
print_tag isolated = bytes "isolate"

unfoldable pub print_content : Option Value → Bytes
print_content none = bytes "open"
print_content (some v) = print_value v

unfoldable pub line : List Bytes → Bytes
line ws = form ws ++ (10 ∷ [])

-- the line of the entity (a s n)
unfoldable pub print_entity : List Bytes → Entity → Bytes → Bytes → Bytes → Bytes
print_entity ws (object t F M) a s n = line (print_tag t ∷ a ∷ s ∷ n ∷ (map (print_field ws) F ++ print_methods ws M))
print_entity ws (Entity.future v q) a s n = line (future_word ∷ a ∷ s ∷ n ∷ print_content v ∷ map (print_message ws) q)
print_entity ws (resolver k) a s n = line (bytes "resolver" ∷ a ∷ s ∷ n ∷ print_number k ∷ [])

unfoldable pub print_entities : List Bytes → ℕ → Series → ℕ → List Entity → Bytes
print_entities ws a s n [] = []
print_entities ws a s n (o ∷ h) = print_entity ws o (print_number a) (print_series s) (print_number n) ++ print_entities ws a s (suc n) h

unfoldable pub print_inbox : List Bytes → List Message → Bytes
print_inbox ws [] = []
print_inbox ws (m ∷ q) = print_message ws m ++ (10 ∷ print_inbox ws q)

unfoldable pub print_actor : List Bytes → ℕ → Actor → Bytes
print_actor ws a A =
    line (bytes "actor" ∷ print_number a ∷ print_number A.moves ∷ print_number (length A.made) ∷ print_number (length A.copied) ∷ print_term ws A.expr ∷ [])
    ++ print_entities ws a made 0 A.made
    ++ print_entities ws a copied 0 A.copied
    ++ print_inbox ws A.inbox

unfoldable pub print_actors : List Bytes → ℕ → List Actor → Bytes
print_actors ws a [] = []
print_actors ws a (A ∷ As) = print_actor ws a A ++ print_actors ws (suc a) As

unfoldable pub listing : State → Bytes
listing σ = print_actors σ.words 0 σ.actors

unfoldable pub Listing : Unit {0}
unfolding Printer print_series print_value print_term print_field print_message print_tag print_content line print_entity print_entities print_inbox print_actor print_actors listing
Listing = tt
