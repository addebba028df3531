-- The laws of the functions that list actors: one for each way to return. Assumes nothing.
use Rattle.std.specs.Prelude.{◌≡◌, refl, List, [], ◌∷◌, drop, get_or}
use Prim.Native.Nat.{ℕ, zero, suc, ◌+◌, ◌-◌, ◌%◌}
use Rattle.std.proofs.Math.Numerals.{sub-one}
use Rattle.std.proofs.Math.Seq.{get_or-drop, drop-drop}
use Rattle.atlite.specs.Base.{bytes}
use Rattle.layout.specs.Numbers.{payload, expr_at, inbox_at, waiting_at, made_at, copied_at, bodies_at, part_size, head_size}
use Rattle.showing.specs.declared.writer.Writer.{Writer}
use Rattle.showing.specs.Put.{Put, then, Left, left-less, left-none}
use Rattle.showing.specs.TextOfWords.{shown}
use Rattle.lister.specs.TextOfState.{deep, inbox_in, slots_in, spaced_in, title_in, counts_in, expr_in, line_in, entities_in, actor_in, actors_in, listed_in}
use Rattle.showing.specs.ShowContract.{Showed}
use Rattle.lister.specs.SlotContract.{Slotted}
use Rattle.lister.specs.SlotLaws.{here}

-- the line, by its parts
pub line-whole : {a b c d e f g h i : Writer} {j : ℕ} (t : List ℕ) (n at : ℕ) → Put a (bytes "(actor") b → Put b (spaced_in n) c → Put c (spaced_in (get_or t at 0 % payload)) d
    → Put d (spaced_in (get_or t (at + 1) 0 % 64)) e → Put e (spaced_in (get_or t (at + 2) 0 % 32)) f → Put f (32 ∷ []) g → Showed t (shown t deep (drop (at + expr_at) t)) g h j
    → Put h (41 ∷ 10 ∷ []) i → Put a (line_in t n (drop at t)) i
unfolding line_in title_in counts_in expr_in
line-whole t n at p q r s u v w x =
    rw (here t at, get_or-drop at t 1 0, get_or-drop at t 2 0, drop-drop expr_at at t)
    (then (then p q) (then (then r (then s u)) (then v (then w.text x))))

pub actor-whole : {x y z u v : Writer} {i j k l : ℕ} (t : List ℕ) (a at : ℕ) → Put x (line_in t a (drop at t)) y
    → Slotted t (slots_in t a 0 (get_or t (at + 1) 0 % 64) (drop (at + made_at) t) (drop (at + bodies_at) t) (drop (at + waiting_at) t)) y z i j
    → Slotted t (slots_in t a 1 (get_or t (at + 2) 0 % 32) (drop (at + copied_at) t) (drop i t) (drop j t)) z u k l
    → Put u (inbox_in t (get_or t (at + 3) 0 % 32) (drop (at + inbox_at) t)) v → Put x (actor_in t a (drop at t)) v
unfolding actor_in entities_in
actor-whole t a at p e f q =
    rw (get_or-drop at t 1 0, get_or-drop at t 2 0, get_or-drop at t 3 0, drop-drop made_at at t, drop-drop bodies_at at t, drop-drop waiting_at at t, drop-drop copied_at at t, drop-drop inbox_at at t, ← e.bodies, ← e.waiting)
    (then p (then (then e.text f.text) q))

pub actors-next : {s : List ℕ} {x y z : Writer} (t : List ℕ) (a k at : ℕ) → Left x s y (actors_in t a k (drop at t)) → (k ≡ 0 → ⊥) → Put y (actor_in t a (drop at t)) z
    → Left x s z (actors_in t (a + 1) (k - 1) (drop (at + part_size) t))
unfolding actors_in
actors-next t a zero at l f p = absurd (f refl)
actors-next t a (suc k) at l f p = rw (sub-one, ← drop-drop part_size at t) (left-less _ l p)

pub actors-end : {y z : Writer} (t : List ℕ) (a k at : ℕ) → k ≡ 0 → Left y (actors_in t 0 (get_or t 0 0 % 5) (drop head_size t)) z (actors_in t a k (drop at t)) → Put y (listed_in t) z
unfolding actors_in listed_in
actors-end t a k at e l = left-none (rw e at l)
