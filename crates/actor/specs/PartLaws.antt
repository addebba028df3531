-- What each way through the functions over the regions of a part returns. Assumes nothing.
use Rattle.std.specs.Prelude.{ℕ, ◌+◌, ◌-◌, ◌*◌, ◌≤◌, ◌<◌, ◌≡◌, Bool, Option, Some, None, List, [], leb, length, take, drop, get_or}
use Rattle.std.proofs.Common.{sym, ◌∙◌, rules}
use Rattle.std.proofs.Math.Bool.{true, false}
use native.Mathlib.Omega.{arith}
use borrow.Author.Tests.{eq-eqb, ne_eqb, leb-true, le-leb, lt-leb}
use Rattle.std.proofs.Math.Seq.{slice}
use Rattle.decoding.specs.ValidTest.{well_formed}
use Rattle.atlite_laws.specs.Facts.{and₃, and₅}
use Rattle.atlite.specs.Term.{top}
use Rattle.layout.specs.Numbers.{owner_limit, expr_at, expr_size, slot_size, made_size, made_at, copied_at, bodies_size, bodies_at, part_size}
use Rattle.layout_laws.specs.Arity.{nodes_in}
use Rattle.layout_laws.specs.Parse.{zeros_at}
use Rattle.layout_laws.specs.ParseLaws.{parse}
use Rattle.term_words.specs.Kinds.{allowed}
use Rattle.term_words.specs.Ends.{end_of}
use Rattle.actor.specs.Tests.{made_end, copied_end, slots_end, counts_hold, head_holds, expr_holds, made_holds, end_holds, made_reached, copied_reached, heap_holds, rest_holds, part_holds}
use Rattle.actor.specs.Bodies.{methods_reach, expr_reach, judges-objects, judges-isolates, ends-expression}
use Rattle.actor.specs.PartContract.{Decides, IsPart, Heads}
use Rattle.actor.specs.Sound.{part_sound}
use Rattle.actor.specs.Complete.{part-complete}

-- ---- the head
module _ (w : List ℕ) where
  -- what a head that passed tells
  counted : length w ≡ part_size → counts_hold w ≡ true → Heads w
  unfolding counts_hold
  counted l h =
      let q = and₅ (leb (get_or w 1 0) 32) (leb (get_or w 2 0) 16) (leb (get_or w 3 0) 16) (leb (get_or w 4 0) 16) (leb (get_or w 5 0) expr_size) h in
      record { size = l; made = leb-true _ _ q.0; copied = leb-true _ _ q.1; inbox = leb-true _ _ q.2; waiting = leb-true _ _ q.3; expr = leb-true _ _ q.4 }

  pub heads-are : length w ≡ part_size → (v : Bool) → v ≡ head_holds w → v ≡ true → Heads w
  unfolding head_holds
  heads-are l v e t = counted l (and₃ (leb (get_or w 0 0) top) (counts_hold w) (zeros_at w 10 6) (sym e ∙ t)).1

  -- ---- the expression
  module _ (K : List ℕ) (a W : ℕ) where
    pub expr-none : None ≡ end_of (well_formed W (allowed K a) []) (parse (take expr_size (drop expr_at w)) 0) → false ≡ expr_holds w (expr_reach K a W (take expr_size (drop expr_at w)))
    unfolding expr_holds expr_reach
    expr-none d = rw (← d)

    module _ (e : ℕ) (d : Some e ≡ end_of (well_formed W (allowed K a) []) (parse (take expr_size (drop expr_at w)) 0)) where
      pub expr-other : (e ≡ get_or w 5 0 → ⊥) → false ≡ expr_holds w (expr_reach K a W (take expr_size (drop expr_at w)))
      unfolding expr_holds expr_reach
      expr-other h = rw (← d, ne_eqb e (get_or w 5 0) h)

      module _ (i : e ≡ get_or w 5 0) (n : ℕ) (c : n ≡ nodes_in (slice 0 (get_or w 5 0) (take expr_size (drop expr_at w)))) where
        pub expr-many : 256 < n → false ≡ expr_holds w (expr_reach K a W (take expr_size (drop expr_at w)))
        unfolding expr_holds expr_reach
        expr-many h = rw (← d, eq-eqb e (get_or w 5 0) i, ← c, lt-leb n 256 h)

        pub expr-all : n ≤ 256 → (r : Bool) → r ≡ zeros_at w (expr_size - get_or w 5 0) (expr_at + get_or w 5 0) → r ≡ expr_holds w (expr_reach K a W (take expr_size (drop expr_at w)))
        unfolding expr_holds expr_reach
        expr-all h r z = rw (← d, eq-eqb e (get_or w 5 0) i, ← c, le-leb n 256 h) z

  -- ---- both series
  module _ (K : List ℕ) (a W : ℕ) (f g : ℕ → ℕ → Option ℕ) where
    pub heap-none : None ≡ slots_end (made_end K a W w f g) (get_or w 1 0) 0 made_at 0 → false ≡ heap_holds w K a W f g
    unfolding heap_holds made_reached
    heap-none d = rw (← d)

    module _ (e : ℕ) (i : Some e ≡ slots_end (made_end K a W w f g) (get_or w 1 0) 0 made_at 0) (v : Bool) (z : v ≡ zeros_at w (made_size - slot_size * get_or w 1 0) (made_at + slot_size * get_or w 1 0)) where
      pub heap-rest : v ≡ false → false ≡ heap_holds w K a W f g
      unfolding heap_holds made_holds made_reached
      heap-rest t = rw (← i, ← z, t)

      module _ (t : v ≡ true) where
        pub heap-stop : None ≡ slots_end (copied_end K a W w f g) (get_or w 2 0) 0 copied_at e → false ≡ heap_holds w K a W f g
        unfolding heap_holds made_holds made_reached copied_reached
        heap-stop c = rw (← i, ← z, t, ← c)

        pub heap-all : (d : ℕ) → Some d ≡ slots_end (copied_end K a W w f g) (get_or w 2 0) 0 copied_at e → (r : Bool) → r ≡ end_holds w d → r ≡ heap_holds w K a W f g
        unfolding heap_holds made_holds made_reached copied_reached
        heap-all d c r h = rw (← i, ← z, t, ← c) h

  -- ---- all of it
  module _ (K : List ℕ) (a W : ℕ) (l : length w ≡ part_size) (few : W ≤ 64) (i : a < 4) where
    abbrev f : ℕ → ℕ → Option ℕ
    f = methods_reach true K a W (take bodies_size (drop bodies_at w))

    abbrev g : ℕ → ℕ → Option ℕ
    g = methods_reach false K a W (take bodies_size (drop bodies_at w))

    abbrev x : Option ℕ
    x = expr_reach K a W (take expr_size (drop expr_at w))

    part-decides : (r : Bool) → r ≡ part_holds w K a W f g x → Decides (IsPart K a W w) r
    unfolding Decides
    part-decides r h =
        let j : a < owner_limit = omega arith in
        let jf = judges-objects K a W w (take bodies_size (drop bodies_at w)) few in
        let jg = judges-isolates K a W w (take bodies_size (drop bodies_at w)) few in
        let je = ends-expression K a W (take expr_size (drop expr_at w)) in
        (λ t. part_sound K a W w few j l f g x jf jg je (sym h ∙ t), λ p. h ∙ part-complete K a W w few j f g x jf jg je p)

    module _ (v : Bool) (e : v ≡ head_holds w) where
      pub actor-head : v ≡ false → Decides (IsPart K a W w) false
      unfolding part_holds
      actor-head t = part-decides false (no t)
        where
          no : v ≡ false → false ≡ part_holds w K a W f g x
          no t = rw (← e, t)

      module _ (t : v ≡ true) (u : Bool) (d : u ≡ expr_holds w x) where
        pub actor-expr : u ≡ false → Decides (IsPart K a W w) false
        unfolding part_holds
        actor-expr s = part-decides false (no s)
          where
            no : u ≡ false → false ≡ part_holds w K a W f g x
            no s = rw (← e, t, ← d, s)

        pub actor-all : u ≡ true → (r : Bool) → r ≡ rest_holds w K a W f g → Decides (IsPart K a W w) r
        unfolding part_holds
        actor-all s r h = part-decides r (yes s)
          where
            yes : u ≡ true → r ≡ part_holds w K a W f g x
            yes s = rw (← e, t, ← d, s) h

pub ruleset expr_laws = (rules, expr-none, expr-other, expr-many, expr-all)

pub ruleset heap_laws = (rules, heap-none, heap-rest, heap-stop, heap-all)

pub ruleset actor_laws = (rules, heads-are, actor-head, actor-expr, actor-all)
