-- The state that words are. Assumes nothing; nothing here need be believed but `state_of`, and that by its law alone
-- (`state-of-iff` of `StateLaws`, crate `layout_laws`).
-- Reading is total: what words that are no state give does not matter, since `state_of` compares the words of what was read.
use Rattle.std.specs.Prelude.{ℕ, zero, suc, ◌+◌, ◌*◌, ◌/◌, ◌%◌, ◌&&◌, List, [], ◌∷◌, take, drop, get_or, eqb, if◌then◌else◌}
use Rattle.std.proofs.Math.Option.{Option, none, some}
use Rattle.atlite.specs.Base.{same_bytes}
use Rattle.atlite.specs.Term.{Value, null, num, ref, Term}
use Rattle.atlite.specs.State.{Message, message, Field, field, Tag, shared, isolated, Entity, object, future, resolver, Actor, State}
use Rattle.decoding.specs.ValidTest.{is_state}
use Rattle.layout.specs.Numbers.{payload, name_limit, tag_limit, digit_limit, expr_at, expr_size, message_size, inbox_at, waiting_at, slot_size, made_at, copied_at, bodies_size, bodies_at, part_size, head_size}
use Rattle.decoding.specs.Reading.{cut, names_in, Item}
use Rattle.decoding.specs.TermReading.{name_in, methods_in, term_stack, term_at, decode_value}
use Rattle.layout.specs.Layout.{encode}

unfoldable pub values_in : ℕ → List ℕ → List Value
values_in zero w = []
values_in (suc n) [] = []
values_in (suc n) (x ∷ w) = decode_value x ∷ values_in n w

abbrev pub sent_in : ℕ → ℕ → List ℕ → Message
sent_in p v w = message (decode_value v) (name_in (p / name_limit % tag_limit) (p % name_limit)) (values_in (p / name_limit / tag_limit) w)

unfoldable pub decode_message : List ℕ → Message
decode_message w = sent_in (get_or w 0 0 % payload) (get_or w 1 0) (drop 2 w)

unfoldable pub fields_in : List ℕ → List Value → List Field
fields_in [] vs = []
fields_in (f ∷ fs) [] = []
fields_in (f ∷ fs) (v ∷ vs) = field f v ∷ fields_in fs vs

-- the number of the future at which a message waits
unfoldable pub aim_of : Value → ℕ
aim_of null = 0
aim_of (num n) = 0
aim_of (ref a s n) = n

unfoldable pub aim : Message → ℕ
aim (message v m vs) = aim_of v

unfoldable pub mine : ℕ → List Message → List Message
mine n [] = []
mine n (m ∷ q) = if eqb (aim m) n then m ∷ mine n q else []

unfoldable pub others : ℕ → List Message → List Message
others n [] = []
others n (m ∷ q) = if eqb (aim m) n then others n q else m ∷ q

unfoldable pub slot_methods : List ℕ → ℕ
slot_methods w = get_or w 0 0 / digit_limit / digit_limit % digit_limit

abbrev pub object_in : Tag → List ℕ → List (Item Term) → Entity
object_in t w s =
    object t (fields_in (names_in (get_or w 0 0 / digit_limit % digit_limit) (get_or w 1 0)) (values_in (get_or w 0 0 / digit_limit % digit_limit) (drop 2 w))) (methods_in (slot_methods w) s)

abbrev pub entity_forms : ℕ → List ℕ → List (Item Term) → List Message → List Entity
entity_forms n w s q =
    resolver 0 ∷ object_in shared w s ∷ object_in isolated w s ∷ future none (mine n q) ∷ future (some (decode_value (get_or w 2 0))) [] ∷ resolver (get_or w 2 0) ∷ []

-- the n-th slot, with the methods that are left and the messages that are left
unfoldable pub entity_in : ℕ → List ℕ → List (Item Term) → List Message → Entity
entity_in n w s q = get_or (entity_forms n w s q) (get_or w 0 0 % digit_limit) (resolver 0)

unfoldable pub entities_in : ℕ → ℕ → List ℕ → List (Item Term) → List Message → List Entity
entities_in zero n w s q = []
entities_in (suc k) n w s q = entity_in n (take slot_size w) s q ∷ entities_in k (suc n) (drop slot_size w) (drop (slot_methods (take slot_size w)) s) (others n q)

-- the methods that k slots leave
unfoldable pub methods_past : ℕ → List ℕ → List (Item Term) → List (Item Term)
methods_past zero w s = s
methods_past (suc k) w s = methods_past k (drop slot_size w) (drop (slot_methods (take slot_size w)) s)

unfoldable pub decode_actor : List ℕ → Actor
decode_actor w = record {
  moves = get_or w 0 0;
  made = entities_in (get_or w 1 0) 0 (drop made_at w) (term_stack (take bodies_size (drop bodies_at w))) (cut decode_message message_size (get_or w 4 0) (drop waiting_at w));
  copied = entities_in (get_or w 2 0) 0 (drop copied_at w) (methods_past (get_or w 1 0) (drop made_at w) (term_stack (take bodies_size (drop bodies_at w)))) [];
  inbox = cut decode_message message_size (get_or w 3 0) (drop inbox_at w);
  expr = term_at (take expr_size (drop expr_at w));
}

unfoldable pub bytes_in : ℕ → ℕ → List ℕ
bytes_in zero n = []
bytes_in (suc k) n = if eqb n 0 then [] else n % 256 ∷ bytes_in k (n / 256)

unfoldable pub decode_word : List ℕ → List ℕ
decode_word w = bytes_in 12 (get_or w 0 0 + 4294967296 * (get_or w 1 0 + 4294967296 * get_or w 2 0))

unfoldable pub decode : List ℕ → State
decode w = record { words = cut decode_word 3 (get_or w 1 0) (drop 2 w); actors = cut decode_actor part_size (get_or w 0 0) (drop head_size w) }

-- the state whose words these are
unfoldable pub state_of : List ℕ → Option State
state_of w = if is_state (decode w) && same_bytes (encode (decode w)) w then some (decode w) else none

unfoldable pub Decode : Unit {0}
unfolding values_in decode_message fields_in aim_of aim mine others slot_methods entity_in entities_in methods_past decode_actor bytes_in decode_word decode state_of
Decode = tt
