-- What the code computes of the words of a part, test by test, as the words alone tell it. Nothing here need be believed: by `Sound`
-- and `Complete` the last test is true of the words of an actor that holds its conditions, and of no others. A slot is judged by where
-- its methods end among the bodies, if it holds. Assumes nothing.
use Rattle.std.specs.Prelude.{ℕ, zero, suc, ◌+◌, ◌-◌, ◌*◌, ◌/◌, ◌%◌, Bool, true, false, ◌&&◌, not, cond, Option, Some, None, List, [], ◌∷◌, take, drop, get_or, eqb, ltb, leb}
use Rattle.std.specs.Bool.{then_some}
use Rattle.std.specs.Option.{option_and_then}
use Rattle.std.proofs.Math.Seq.{slice}
use Rattle.atlite.specs.Base.{member, all}
use Rattle.atlite.specs.Term.{made, ref, top}
use Rattle.atlite.specs.Valid.{is_name}
use Rattle.layout.specs.Numbers.{payload, name_limit, tag_limit, number_limit, owner_unit, digit_limit, digits_limit, slot_unit, expr_at, expr_size, message_size, queue_size, inbox_at, waiting_at, slot_size, slot_body, made_size, copied_size, made_at, copied_at, bodies_size, bodies_at, rest_size}
use Rattle.decoding.specs.Reading.{names_in}
use Rattle.layout_laws.specs.Arity.{nodes_in}
use Rattle.layout_laws.specs.Parse.{value_at, values_at, zeros_at}
use Rattle.term_words.specs.Kinds.{allowed, future_by}
use Rattle.term_words.specs.Words.{within, send_in}
use Rattle.actor.specs.declared.slots.Series.{Series}
use Rattle.actor.specs.declared.slots.Series.TheVariants.{Made, Copied}

-- c names in seven bits each, none of them twice, and nothing behind them
unfoldable pub names_hold : ℕ → ℕ → ℕ → Bool
names_hold W zero x = eqb x 0
names_hold W (suc c) x = is_name W (x % name_limit) && not (member (x % name_limit) (names_in c (x / name_limit))) && names_hold W c (x / name_limit)

-- the payload of a word
abbrev pub low : ℕ → ℕ
low x = x % payload

-- how many arguments a send's word says
abbrev pub arguments : ℕ → ℕ
arguments x = low x / name_limit / tag_limit

-- there is a position, and it passes a test
abbrev pub ended : (ℕ → Bool) → Option ℕ → Bool
ended p None = false
ended p (Some e) = p e

-- a slot of neither fields nor methods
unfoldable pub plain_at : List ℕ → ℕ → Bool
plain_at w at = eqb (get_or w at 0 / digit_limit % digits_limit) 0 && eqb (get_or w (at + 1) 0) 0

unfoldable pub open_at : List ℕ → ℕ → Bool
open_at w at = plain_at w at && zeros_at w 6 (at + 2)

-- of the actor a: a future with its value, which is no future, and a resolver of a future of its own
unfoldable pub settled_at : List ℕ → ℕ → List ℕ → ℕ → Bool
settled_at K a w at =
    let v = value_at (get_or w (at + 2) 0) in
    plain_at w at && within (allowed K a) v && not (within (future_by K) v) && zeros_at w 5 (at + 3)

unfoldable pub resolver_at : List ℕ → ℕ → List ℕ → ℕ → Bool
resolver_at K a w at = plain_at w at && future_by K (ref a made (get_or w (at + 2) 0)) && zeros_at w 5 (at + 3)

-- an actor a of a state with W words and entities of the kinds K; w the part
module _ (K : List ℕ) (a W : ℕ) (w : List ℕ) where
  -- ---- messages
  -- a message but for its receiver
  unfoldable pub sent_at : ℕ → Bool
  sent_at at =
      let x = get_or w at 0 in
      let n = arguments x in
      eqb (x / payload) 14
      && ltb n 5
      && send_in W (low x)
      && within (all (allowed K a)) (values_at w n (at + 2))
      && zeros_at w (4 - n) (at + 2 + n)

  -- a message in the inbox: its receiver is the actor's own
  unfoldable pub arrived_at : ℕ → Bool
  arrived_at at =
      let x = get_or w (at + 1) 0 in
      eqb (x / owner_unit) (384 + a) && within (allowed K a) (value_at x) && sent_at at

  unfoldable pub arrivals_at : ℕ → ℕ → Bool
  arrivals_at zero at = true
  arrivals_at (suc c) at = arrived_at at && arrivals_at c (at + message_size)

  -- a message that waits at one of m entities, an open future from the number `lo` on
  unfoldable pub waits_at : ℕ → ℕ → ℕ → Bool
  waits_at m lo at =
      let x = get_or w (at + 1) 0 in
      let n = x % number_limit in
      eqb (x / number_limit) (768 + 2 * a) && leb lo n && ltb n m && eqb (get_or w (made_at + slot_size * n) 0 % digit_limit) 3 && sent_at at

  unfoldable pub waiters_at : ℕ → ℕ → ℕ → ℕ → Bool
  waiters_at m zero lo at = true
  waiters_at m (suc c) lo at = waits_at m lo at && waiters_at m c (get_or w (at + 1) 0 % number_limit) (at + message_size)

  -- ---- slots
  -- f fields of the slot at `at`
  unfoldable pub fields_at : ℕ → ℕ → Bool
  fields_at f at =
      ltb f 5
      && names_hold W f (get_or w (at + 1) 0)
      && within (all (allowed K a)) (values_at w f (at + 2))
      && zeros_at w (4 - f) (at + 2 + f)

  -- an object or an isolate whose methods begin at b and end at e
  unfoldable pub object_at : ℕ → ℕ → ℕ → Bool
  object_at at b e = fields_at (get_or w at 0 / digit_limit % digit_limit) at && eqb (get_or w (at + 7) 0) 0 && eqb (b + get_or w (at + slot_body) 0) e

  -- where its methods end, by where such methods do
  unfoldable pub object_end : ℕ → ℕ → Option ℕ → Option ℕ
  object_end at b o = option_and_then (λ e. then_some (object_at at b e) e) o

  -- the n-th slot, at `at`, of series m and of series c; f and g tell where the methods of an object and of an isolate end
  module _ (f g : ℕ → ℕ → Option ℕ) where
    abbrev pub slot_forms : ℕ → ℕ → ℕ → List (Option ℕ)
    slot_forms m at b =
        None
        ∷ object_end at b (f m b)
        ∷ object_end at b (g m b)
        ∷ then_some (open_at w at) b
        ∷ then_some (settled_at K a w at) b
        ∷ then_some (resolver_at K a w at) b
        ∷ []

    unfoldable pub made_end : ℕ → ℕ → ℕ → Option ℕ
    made_end n at b = cond (eqb (get_or w at 0 / slot_unit) n) (get_or (slot_forms (get_or w at 0 / digits_limit % digit_limit) at b) (get_or w at 0 % digit_limit) None) None

    unfoldable pub copied_end : ℕ → ℕ → ℕ → Option ℕ
    copied_end n at b =
        cond (eqb (get_or w at 0 / slot_unit) n && eqb (get_or w at 0 % digit_limit) 2) (object_end at b (g (get_or w at 0 / digits_limit % digit_limit) b)) None

    abbrev pub slot_end : Series → ℕ → ℕ → ℕ → Option ℕ
    slot_end Made = made_end
    slot_end Copied = copied_end

-- k slots from the n-th on, each judged by f
unfoldable pub slots_end : (ℕ → ℕ → ℕ → Option ℕ) → ℕ → ℕ → ℕ → ℕ → Option ℕ
slots_end f zero n at b = Some b
slots_end f (suc k) n at b = option_and_then (slots_end f k (suc n) (at + slot_size)) (f n at b)

-- ---- the regions of a part
-- each with zeros behind what it holds
module _ (w : List ℕ) where
  -- the counts, each within its limit
  unfoldable pub counts_hold : Bool
  counts_hold = leb (get_or w 1 0) 32 && leb (get_or w 2 0) 16 && leb (get_or w 3 0) 16 && leb (get_or w 4 0) 16 && leb (get_or w 5 0) expr_size

  unfoldable pub head_holds : Bool
  head_holds = leb (get_or w 0 0) top && counts_hold && zeros_at w 10 6

  -- an expression that ends at e
  unfoldable pub expr_holds : Option ℕ → Bool
  expr_holds o =
      let n = get_or w 5 0 in
      ended (λ e. eqb e n) o && leb (nodes_in (slice 0 n (take expr_size (drop expr_at w)))) 256 && zeros_at w (expr_size - n) (16 + n)

  -- what stands behind the slots of series m and of series c, whose methods end at d
  unfoldable pub made_holds : Bool
  made_holds = zeros_at w (made_size - slot_size * get_or w 1 0) (made_at + slot_size * get_or w 1 0)

  unfoldable pub copied_holds : Bool
  copied_holds = zeros_at w (copied_size - slot_size * get_or w 2 0) (copied_at + slot_size * get_or w 2 0)

  unfoldable pub bodies_hold : ℕ → Bool
  bodies_hold d = leb (nodes_in (slice 0 d (take bodies_size (drop bodies_at w)))) 768 && zeros_at w (bodies_size + rest_size - d) (bodies_at + d)

  unfoldable pub end_holds : ℕ → Bool
  end_holds d = copied_holds && bodies_hold d

  module _ (K : List ℕ) (a W : ℕ) where
    unfoldable pub inbox_holds : Bool
    inbox_holds = let n = get_or w 3 0 in arrivals_at K a W w n inbox_at && zeros_at w (queue_size - message_size * n) (inbox_at + message_size * n)

    unfoldable pub waiting_holds : Bool
    waiting_holds = let n = get_or w 4 0 in waiters_at K a W w (get_or w 1 0) n 0 waiting_at && zeros_at w (queue_size - message_size * n) (waiting_at + message_size * n)

    -- both series; f and g tell where methods end among the bodies
    module _ (f g : ℕ → ℕ → Option ℕ) where
      unfoldable pub made_reached : Option ℕ
      made_reached = slots_end (made_end K a W w f g) (get_or w 1 0) 0 made_at 0

      unfoldable pub copied_reached : ℕ → Option ℕ
      copied_reached e = slots_end (copied_end K a W w f g) (get_or w 2 0) 0 copied_at e

      unfoldable pub heap_holds : Bool
      heap_holds = ended (λ e. made_holds && ended end_holds (copied_reached e)) made_reached

      -- all but the head and the expression, and all of a part whose expression ends there
      unfoldable pub rest_holds : Bool
      rest_holds = inbox_holds && waiting_holds && heap_holds

      unfoldable pub part_holds : Option ℕ → Bool
      part_holds o = head_holds && expr_holds o && rest_holds

unfoldable pub Tests : Unit {0}
unfolding names_hold sent_at arrived_at arrivals_at waits_at waiters_at fields_at object_at object_end plain_at open_at settled_at resolver_at made_end copied_end slots_end counts_hold head_holds expr_holds made_holds copied_holds bodies_hold end_holds inbox_holds waiting_holds made_reached copied_reached heap_holds rest_holds part_holds
Tests = tt
