-- What each request brought, by inputs of `replay` that the definitions compute: so no law here is about nothing. Assumes nothing.
use Prim.Native.String.{String}
use Rattle.std.specs.Prelude.{Bool, true, List, [], ◌∷◌, ◌≡◌, refl}
use Rattle.atlite.specs.Base.{bytes, same_bytes, all}
use Rattle.atlite.specs.Replay.{All, replay}

pub record Example : Type 0 where
  pub input : String
  pub output : String

unfoldable pub row : String → String → Example
row i o = record { input = i; output = o }

unfoldable pub agrees : Example → Bool
agrees k = same_bytes (replay (bytes k.input)) (bytes k.output)

-- P1: a .register to null is one move, and the send that it becomes another; null takes nothing else; an asked method may answer null; a
-- future whose value is null sends other messages on to null, and that stops its actor
unfoldable pub null_replies : List Example
unfolding row
null_replies =
    row "00000\n(when null x 5)\n"
    "I I I I I\n(actor 0 5 3 0 (let .s (send (ref 0 m 2) apply null) (ref 0 m 0)))\n(future 0 m 0 open)\n(resolver 0 m 1 0)\n(object 0 m 2 (method apply (x) (call (ref 0 m 1) .resolve 5)))\n"
    ∷ row "000000000\n(resolve null 5)\n"
    "I I I I I S0 T I 10\n(actor 0 8 1 0 (send null .resolve 5))\n(object 0 m 0 (method apply (.x) (send null .resolve .x)))\n"
    ∷ row "000\n(ask null m)\n"
    "I 10 10\n(actor 0 1 2 0 (let .s (send null m.f (ref 0 m 1)) (ref 0 m 0)))\n(future 0 m 0 open)\n(resolver 0 m 1 0)\n"
    ∷ row "00000000000000000\n(ask (object (method m () null)) m)\n"
    "I I S0 I T I I I I I I S0 T I S0 T I\n(actor 0 17 4 0 null)\n(future 0 m 0 null)\n(resolver 0 m 1 0)\n(object 0 m 2 (method m () null))\n(object 0 m 3 (method apply (.x) (send (ref 0 m 1) .resolve .x)))\n"
    ∷ row "000000000000000000\n(future f r (seq (resolve r null) (send f m)))\n"
    "I I I I I I S0 I S0 T I S0 T T I 10 10 10\n(actor 0 15 3 0 (let .s (send null m) null))\n(future 0 m 0 null)\n(resolver 0 m 1 0)\n(object 0 m 2 (method apply (.x) (send (ref 0 m 1) .resolve .x)))\n"
    ∷ []

pub null-replies : all agrees null_replies ≡ true
unfolding All row agrees null_replies
null-replies = refl

-- P2: the part that is taken is not reduced in the same move, and the other never; a reference says yes, of an open future too; null is the
-- same as null and not as 0, an object as itself and not as a number, an isolate not as one with equal fields; both words are reserved wherever
-- a name may stand; three parts and two, no other number; a listing shows them as a script writes them
unfoldable pub choices : List Example
unfolding row
choices =
    row "0\n(if 1 (plus 1 2) (get null a))\n" "I\n(actor 0 1 0 0 (plus 1 2))\n"
    ∷ row "00\n(if (plus 0 0) (get null a) (plus 1 2))\n" "I I\n(actor 0 2 0 0 (plus 1 2))\n"
    ∷ row "0\n(if null 1 2)\n" "I\n(actor 0 1 0 0 2)\n"
    ∷ row "00\n(future f r (if f 1 2))\n" "I I\n(actor 0 2 2 0 1)\n(future 0 m 0 open)\n(resolver 0 m 1 0)\n"
    ∷ row "000\n(plus (same null null) (same null 0))\n" "I I I\n(actor 0 3 0 0 1)\n"
    ∷ row "00000000\n(let i (isolate (field a 1)) (same i (isolate (field a 1))))\n" "I I I I I I I I\n(actor 0 8 2 0 0)\n(isolate 0 m 0 (field a 1))\n(isolate 0 m 1 (field a 1))\n"
    ∷ row "00000\n(let o (object) (if (same o o) (same o 1) 2))\n" "I I I I I\n(actor 0 5 1 0 0)\n(object 0 m 0)\n"
    ∷ row "0\n(send null same)\n" "(refused 2)\n"
    ∷ row "0\n(let if 1 2)\n" "(refused 2)\n"
    ∷ row "0\n(object (method if () 1))\n" "(refused 2)\n"
    ∷ row "0\n(if 1 2)\n" "(refused 2)\n"
    ∷ row "0\n(same 1 2 3)\n" "(refused 2)\n"
    ∷ row "\n(let x (if 1 2 3) (same x (if x 4 (same 5 6))))\n" "\n(actor 0 0 0 0 (let x (if 1 2 3) (same x (if x 4 (same 5 6)))))\n"
    ∷ []

pub choices-made : all agrees choices ≡ true
unfolding All row agrees choices
choices-made = refl

-- P3: other names of parameters make no other method, wherever the literal stands, and another count does; each of two methods of one name is
-- called, in whichever order they stand, also by a message; where none has the count, the call is refused and nothing else is; the resolver of a
-- two-way message is not counted, and a count that no method has shows at the call, after the take; a listing has them all, as they are written
unfoldable pub overloads : List Example
unfolding row
overloads =
    row "0\n(object (method cut (l) l) (method cut (w) w))\n" "(refused 4)\n"
    ∷ row "0\n(fn x (object (method a () 1) (method b () 2) (method a () 3)))\n" "(refused 4)\n"
    ∷ row "00\n(object (method cut (l) l) (method cut (l w) w))\n" "I 9\n(actor 0 1 1 0 (ref 0 m 0))\n(object 0 m 0 (method cut (l) l) (method cut (l w) w))\n"
    ∷ row "000000\n(let o (object (method cut (l) l) (method cut (l w) (plus l w))) (plus (call o cut 3) (call o cut 3 4)))\n"
    "I I I I I I\n(actor 0 6 1 0 10)\n(object 0 m 0 (method cut (l) l) (method cut (l w) (plus l w)))\n"
    ∷ row "000000\n(let o (object (method cut (l w) (plus l w)) (method cut (l) l)) (plus (call o cut 3) (call o cut 3 4)))\n"
    "I I I I I I\n(actor 0 6 1 0 10)\n(object 0 m 0 (method cut (l w) (plus l w)) (method cut (l) l))\n"
    ∷ row "0011\n(send (actor (method m (x) x) (method m (x y) y)) m 1 2)\n" "C1 S1 T I\n(actor 0 2 0 0 null)\n(actor 1 2 1 0 2)\n(object 1 m 0 (method m (x) x) (method m (x y) y))\n"
    ∷ row "000\n(call (object (method m () 1) (method m (x y) 2)) m 5)\n" "I 12 12\n(actor 0 1 1 0 (call (ref 0 m 0) m 5))\n(object 0 m 0 (method m () 1) (method m (x y) 2))\n"
    ∷ row "000000000000\n(ask (object (method m (x) (plus x 1)) (method m (x y) 7)) m 5)\n"
    "I I S0 I T I I I I I I I\n(actor 0 12 4 0 (send (ref 0 m 3) apply 6))\n(future 0 m 0 open)\n(resolver 0 m 1 0)\n(object 0 m 2 (method m (x) (plus x 1)) (method m (x y) 7))\n(object 0 m 3 (method apply (.x) (send (ref 0 m 1) .resolve .x)))\n"
    ∷ row "00000000000\n(ask (object (method m () 1)) m 5)\n"
    "I I S0 I T I I I I 12 12\n(actor 0 9 4 0 (send (call (ref 0 m 2) m 5) .register (ref 0 m 3)))\n(future 0 m 0 open)\n(resolver 0 m 1 0)\n(object 0 m 2 (method m () 1))\n(object 0 m 3 (method apply (.x) (send (ref 0 m 1) .resolve .x)))\n"
    ∷ row "0\n(isolate (method m () 0) (method m (x) x) (method m (x y) y) (method m (x y z) z))\n"
    "I\n(actor 0 1 1 0 (ref 0 m 0))\n(isolate 0 m 0 (method m () 0) (method m (x) x) (method m (x y) y) (method m (x y z) z))\n"
    ∷ []

pub overloads-called : all agrees overloads ≡ true
unfolding All row agrees overloads
overloads-called = refl
