-- What an actor may hold, told from the kinds of all entities alone. Assumes nothing.
--
-- A table has 48 kinds for each of four actors, in the order of their slots: 32 of series m, then 16 of series c. A kind is 0 where no
-- entity is; else it is the number in the head of the slot: 1 object, 2 isolate, 3 open future, 4 future with its value, 5 resolver.
use Rattle.std.specs.Prelude.{ℕ, ◌+◌, ◌*◌, Bool, true, ◌&&◌, ◌||◌, not, cond, Option, Some, None, List, get_or, eqb, leb, ltb}
use Rattle.atlite.specs.Term.{top, Series, made, copied, Value, null, num, ref}
use Rattle.layout.specs.Numbers.{slot_count}

-- the kind of the n-th entity of a series of the actor b
unfoldable pub kind_at : List ℕ → ℕ → Series → ℕ → ℕ
kind_at K b made n = cond (ltb b 4 && ltb n 32) (get_or K (slot_count * b + n) 0) 0
kind_at K b copied n = cond (ltb b 4 && ltb n 16) (get_or K (slot_count * b + (32 + n)) 0) 0

-- the kind, where an entity is
unfoldable pub there : ℕ → Option ℕ
there k = cond (eqb k 0) None (Some k)

-- the kind of what a value names, or 0
unfoldable pub kind_of : List ℕ → Value → ℕ
kind_of K null = 0
kind_of K (num n) = 0
kind_of K (ref b s n) = kind_at K b s n

-- of an entity of the actor b: it is there, and if it is an isolate it is a's own
unfoldable pub visible_kind : ℕ → ℕ → ℕ → Bool
visible_kind a b k = not (eqb k 0) && (eqb a b || not (eqb k 2))

-- what the actor a may hold
unfoldable pub allowed : List ℕ → ℕ → Value → Bool
allowed K a null = true
allowed K a (num n) = leb n top
allowed K a (ref b s n) = visible_kind a b (kind_at K b s n)

-- a reference to a future, open or with its value
unfoldable pub future_by : List ℕ → Value → Bool
future_by K v = eqb (kind_of K v) 3 || eqb (kind_of K v) 4

unfoldable pub Kinds : Unit {0}
unfolding kind_at kind_of visible_kind allowed future_by
Kinds = tt
