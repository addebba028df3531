-- The text of a state's words, whatever words they are: slots, messages and actors. A slot has an opening, fields, methods and
-- the messages that wait at its number, and whatever it has none of is shown as nothing; so one rule shows every entity. The
-- methods and the waiting messages of all slots stand in two regions, of which each slot leaves the rest to the next. A message
-- that waits is told by its kind, which neither a zero nor the head of a slot has. Assumes nothing.
use Rattle.std.specs.Prelude.{ℕ, zero, suc, ◌+◌, ◌/◌, ◌%◌, Bool, false, cond, List, [], ◌∷◌, ◌++◌, get_or, drop, eqb}
use Rattle.atlite.specs.Base.{bytes}
use Rattle.atlite.specs.Lexicon.{Bytes}
use Rattle.atlite.specs.Printer.{print_number}
use Rattle.layout.specs.Numbers.{payload, header, name_limit, no_name, tagged_limit, number_limit, digit_limit, digits_limit, slot_unit, expr_at, message_size, inbox_at, waiting_at, slot_size, made_at, copied_at, bodies_size, bodies_at, part_size, head_size}
use Rattle.showing.specs.TextOfWords.{series_in, leaf_in, Text, operands_in, form_in, shown}

-- no term has more words in one another than the bodies of an actor have words
abbrev pub deep : ℕ
deep = bodies_size

-- ---- messages
-- the message that w begins with: its receiver, its name and its arguments stand as a send's operands do
unfoldable pub message_in : List ℕ → List ℕ → Bytes
message_in t w = bytes "(message" ++ ((operands_in t (shown t 1) (get_or w 0 0 % slot_unit) (1 + get_or w 0 0 / tagged_limit % digit_limit) (drop 1 w)).text ++ (41 ∷ []))

-- the number in a reference
unfoldable pub aim_in : ℕ → ℕ
aim_in v = cond (eqb (v / payload) 3) (v % number_limit) 0

-- w begins with a message to the entity n
unfoldable pub waits : ℕ → List ℕ → Bool
waits n w = cond (eqb (get_or w 0 0 / payload) 14) (eqb (aim_in (get_or w 1 0)) n) false

-- the messages to n that w begins with, at most k
unfoldable pub waiting_in : List ℕ → ℕ → ℕ → List ℕ → Text
waiting_in t zero n w = record { text = []; rest = w }
waiting_in t (suc k) n w =
    let b = waiting_in t k n (drop message_size w) in
    cond (waits n w) (record { text = (32 ∷ []) ++ (message_in t w ++ b.text); rest = b.rest }) (record { text = []; rest = w })

unfoldable pub inbox_in : List ℕ → ℕ → List ℕ → Bytes
inbox_in t zero w = []
inbox_in t (suc n) w = message_in t w ++ ((10 ∷ []) ++ inbox_in t n (drop message_size w))

-- ---- slots
-- n fields, their names in x and their values in w
unfoldable pub fields_in : List ℕ → ℕ → ℕ → List ℕ → Bytes
fields_in t zero x w = []
fields_in t (suc n) x w =
    let a = form_in t (shown t 1) (header + x % name_limit) w in
    (32 ∷ []) ++ (a.text ++ fields_in t n (x / name_limit) a.rest)

unfoldable pub kind_in : ℕ → Bytes
kind_in k =
    cond (eqb k 1) (bytes "(object ") (cond (eqb k 2) (bytes "(isolate ") (cond (eqb k 5) (bytes "(resolver ") (bytes "(future ")))

-- what a future or a resolver has behind its number
unfoldable pub state_in : List ℕ → ℕ → ℕ → Bytes
state_in t k v =
    cond (eqb k 3) (bytes " open") (cond (eqb k 4) ((32 ∷ []) ++ leaf_in t v)
    (cond (eqb k 5) ((32 ∷ []) ++ print_number (v % payload)) []))

-- the kind and the owner
unfoldable pub entry_in : ℕ → ℕ → Bytes
entry_in k a = kind_in k ++ print_number a

-- the opening of the slot of head h, with v in its first place, in series s of the actor a
unfoldable pub opening_in : List ℕ → ℕ → ℕ → ℕ → ℕ → Bytes
opening_in t a s h v = entry_in (h % digit_limit) a ++ (series_in s ++ (print_number (h / slot_unit) ++ state_in t (h % digit_limit) v))

-- a text, and the words of the two regions that are left
pub record Entry : Type 0 where
  pub text : Bytes
  pub bodies : List ℕ
  pub waiting : List ℕ

-- behind the opening: fields with the names in x and the values in w, methods, messages, and the end
unfoldable pub parts_in : List ℕ → ℕ → ℕ → List ℕ → List ℕ → List ℕ → Entry
parts_in t h x w b q =
    let m = operands_in t (shown t deep) no_name (h / digits_limit % digit_limit) b in
    let u = waiting_in t 16 (h / slot_unit) q in
    record { text = fields_in t (h / digit_limit % digit_limit) x w ++ (m.text ++ (u.text ++ (41 ∷ 10 ∷ []))); bodies = m.rest; waiting = u.rest }

unfoldable pub slot_in : List ℕ → ℕ → ℕ → List ℕ → List ℕ → List ℕ → Entry
slot_in t a s w b q =
    let p = parts_in t (get_or w 0 0) (get_or w 1 0) (drop 2 w) b q in
    record { text = opening_in t a s (get_or w 0 0) (get_or w 2 0) ++ p.text; bodies = p.bodies; waiting = p.waiting }

-- n slots
unfoldable pub slots_in : List ℕ → ℕ → ℕ → ℕ → List ℕ → List ℕ → List ℕ → Entry
slots_in t a s zero w b q = record { text = []; bodies = b; waiting = q }
slots_in t a s (suc n) w b q =
    let x = slot_in t a s w b q in
    let y = slots_in t a s n (drop slot_size w) x.bodies x.waiting in
    record { text = x.text ++ y.text; bodies = y.bodies; waiting = y.waiting }

-- ---- actors
unfoldable pub spaced_in : ℕ → Bytes
spaced_in n = (32 ∷ []) ++ print_number n

unfoldable pub title_in : ℕ → Bytes
title_in a = bytes "(actor" ++ spaced_in a

-- moves and the lengths of the two series
unfoldable pub counts_in : List ℕ → Bytes
counts_in w = spaced_in (get_or w 0 0 % payload) ++ (spaced_in (get_or w 1 0 % 64) ++ spaced_in (get_or w 2 0 % 32))

unfoldable pub expr_in : List ℕ → List ℕ → Bytes
expr_in t w = (32 ∷ []) ++ ((shown t deep w).text ++ (41 ∷ 10 ∷ []))

unfoldable pub line_in : List ℕ → ℕ → List ℕ → Bytes
line_in t a w = title_in a ++ (counts_in w ++ expr_in t (drop expr_at w))

unfoldable pub entities_in : List ℕ → ℕ → List ℕ → Bytes
entities_in t a w =
    let m = slots_in t a 0 (get_or w 1 0 % 64) (drop made_at w) (drop bodies_at w) (drop waiting_at w) in
    m.text ++ (slots_in t a 1 (get_or w 2 0 % 32) (drop copied_at w) m.bodies m.waiting).text

-- the actor a, whose part w begins with
unfoldable pub actor_in : List ℕ → ℕ → List ℕ → Bytes
actor_in t a w = line_in t a w ++ (entities_in t a w ++ inbox_in t (get_or w 3 0 % 32) (drop inbox_at w))

unfoldable pub actors_in : List ℕ → ℕ → ℕ → List ℕ → Bytes
actors_in t a zero w = []
actors_in t a (suc n) w = actor_in t a w ++ actors_in t (a + 1) n (drop part_size w)

unfoldable pub listed_in : List ℕ → Bytes
listed_in t = actors_in t 0 (get_or t 0 0 % 5) (drop head_size t)
