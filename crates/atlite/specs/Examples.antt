-- The worked examples K1 to K11 of document 01, as one table that the definitions compute. Assumes nothing.
--
-- A row is a script, a schedule, what refused it, and the listing in the end. What refused it is the cause of reading, of loading or
-- of the schedule's last entry, whichever comes first, and 0 where nothing did.
use Rattle.std.specs.Prelude.{ℕ, ◌-◌, List, [], ◌∷◌, map, ◌≡◌, refl}
use Prim.Native.String.{String}
use Rattle.atlite.specs.Base.{Result, done, refused, ◌>>=◌, bytes}
use Rattle.atlite.specs.Lexicon.{Bytes}
use Rattle.atlite.specs.State.{State}
use Rattle.atlite.specs.Move.{move}
use Rattle.atlite.specs.Keywords.{operators}
use Rattle.atlite.specs.Table.{read}
use Rattle.atlite.specs.Load.{load}
use Rattle.atlite.specs.Run.{run}
use Rattle.atlite.specs.Listing.{listing}
use Rattle.atlite.specs.Loops.{All}

pub record Example : Type 0 where
  pub script : String
  pub schedule : String
  pub cause : ℕ
  pub final : String

-- cause and final listing, computed or as the table has them
pub record Shown : Type 0 where
  pub cause : ℕ
  pub final : Bytes

unfoldable pub cause_of : {A : Type 0} → Result A → ℕ
cause_of (done a) = 0
cause_of (refused n) = n

unfoldable pub scheduled : Bytes → List ℕ
scheduled t = map (λ b. b - 48) t

-- the cause that refuses the last entry
unfoldable pub last_cause : State → List ℕ → ℕ
last_cause σ [] = 0
last_cause σ (a ∷ []) = cause_of (move σ a)
last_cause σ (a ∷ b ∷ es) = last_cause (run σ (a ∷ [])).state (b ∷ es)

unfoldable pub shown_from : Result State → List ℕ → Shown
shown_from (refused n) es = record { cause = n; final = [] }
shown_from (done σ) es = record { cause = last_cause σ es; final = listing (run σ es).state }

unfoldable pub computed : Example → Shown
computed k = shown_from (read operators (bytes k.script) >>= load) (scheduled (bytes k.schedule))

unfoldable pub stated : Example → Shown
stated k = record { cause = k.cause; final = bytes k.final }

unfoldable pub row : String → String → ℕ → String → Example
row t es n l = record { script = t; schedule = es; cause = n; final = l }

unfoldable pub K1 : Example
unfolding row
K1 =
    row "(future f r (resolve r 5))\n" "000000000000" 0
    "(actor 0 12 3 0 null)\n(future 0 m 0 5)\n(resolver 0 m 1 0)\n(object 0 m 2 (method apply (.x) (send (ref 0 m 1) .resolve .x)))\n"

unfoldable pub table : List Example
unfolding row
table =
    K1
    -- K2: a thirteenth entry
    ∷ row "(future f r (resolve r 5))\n" "0000000000000" 9
    "(actor 0 12 3 0 null)\n(future 0 m 0 5)\n(resolver 0 m 1 0)\n(object 0 m 2 (method apply (.x) (send (ref 0 m 1) .resolve .x)))\n"
    -- K3 to K5: results
    ∷ row "(plus 2 3)\n" "0" 0 "(actor 0 1 0 0 5)\n"
    ∷ row "(percent 250 12)\n" "0" 0 "(actor 0 1 0 0 30)\n"
    ∷ row "(percent 1 99)\n" "0" 0 "(actor 0 1 0 0 0)\n"
    -- K6 and K7: refused moves
    ∷ row "(plus 16777215 1)\n" "0" 15 "(actor 0 0 0 0 (plus 16777215 1))\n"
    ∷ row "(get null a)\n" "0" 10 "(actor 0 0 0 0 (get null a))\n"
    -- K8 to K10: refused texts
    ∷ row "(def x 1)\n" "" 2 ""
    ∷ row "(let x 1 y)\n" "" 3 ""
    ∷ row "(object (field a 1) (field a 2))\n" "" 4 ""
    -- K11: a created actor sets its own field
    ∷ row "(actor (field a 1))\n" "011" 0 "(actor 0 1 0 0 (ref 1 m 0))\n(actor 1 2 1 0 (ref 1 m 0))\n(object 1 m 0 (field a 1))\n"
    ∷ []

pub worked-examples : map computed table ≡ map stated table
unfolding All cause_of scheduled last_cause shown_from computed stated row K1 table
worked-examples = refl

-- What the examples of document 01 leave open: a second message stands behind the first, and is taken after it.
unfoldable pub inbox_table : List Example
unfolding row
inbox_table =
    row "(def a (actor (field n 0) (method put (k) (set this n k))))\n(send a put 1)\n(send a put 2)\n" "00000" 0
    "(actor 0 5 0 0 null)\n(actor 1 0 1 0 (let .s (set (ref 1 m 0) n 0) (ref 1 m 0)))\n(object 1 m 0 (field n null) (method put (k) (set this n k)))\n(message (ref 1 m 0) put 1)\n(message (ref 1 m 0) put 2)\n"
    ∷ row "(def a (actor (field n 0) (method put (k) (set this n k))))\n(send a put 1)\n(send a put 2)\n" "00000111111" 0
    "(actor 0 5 0 0 null)\n(actor 1 6 1 0 (call (ref 1 m 0) put 2))\n(object 1 m 0 (field n 1) (method put (k) (set this n k)))\n"
    ∷ []

pub inbox-in-order : map computed inbox_table ≡ map stated inbox_table
unfolding All cause_of scheduled last_cause shown_from computed stated row inbox_table
inbox-in-order = refl
