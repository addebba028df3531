-- Of an actor's part the tests are true: region by region, from the words of the actor. Assumes nothing.
use Prim.Native.Nat.{ℕ, ◌+◌, ◌-◌, ◌*◌, ◌≤◌, ◌<◌}
use Rattle.std.specs.Prelude.{◌≡◌, refl, Option, Some, drop}
use Rattle.std.proofs.Math.Path.{sym, ap, ap₂}
use Rattle.std.proofs.Common.{◌∙◌, eq-eqb, le-leb}
use Rattle.std.proofs.Math.Bool.{true}
use mathlib.Core.List.{List, [], ◌++◌, append-nil}
use native.Mathlib.Omega.{arith}
use Rattle.std.proofs.Math.ListN.{length, take, get_or}
use Rattle.std.proofs.Math.Seq.{slice}
use Rattle.atlite.specs.Base.{sum}
use Rattle.atlite.specs.Term.{Value, nodes, top}
use Rattle.atlite.specs.State.{shared, isolated, Entity, Actor, is_isolate}
use Rattle.atlite.specs.Limits.{body_nodes}
use Rattle.atlite.specs.Valid.{IsEntity, IsActor}
use Rattle.atlite_laws.specs.Facts.{both₂, both₃, both₄}
use Rattle.invariant.specs.TermTests.{Is}
use Rattle.layout.specs.Numbers.{owner_limit, expr_at, expr_size, message_size, queue_size, inbox_at, waiting_at, slot_size, made_size, copied_size, made_at, copied_at, bodies_size, bodies_at, rest_size}
use Rattle.layout.specs.Pack.{zeros, pad, flat}
use Rattle.layout_laws.specs.PackLaws.{pad-front}
use Rattle.layout.specs.Terms.{encode_term}
use Rattle.layout.specs.Layout.{encode_message, slots, bodies, queues, encode_actor}
use Rattle.layout_laws.specs.Slots.{slots_length, queues-fit}
use Rattle.layout_laws.specs.Parts.{ActorFits, messages-length, from_counts, from_copied, from_bodies, counts, regions, from-expr, from-inbox, from-waiting, from-made, from-copied, from-bodies}
use Rattle.layout_laws.specs.StateFits.{WithinActor, within-to}
use Rattle.layout_laws.specs.Arity.{nodes_in, nodes-append}
use Rattle.layout_laws.proofs.Arity.{term-nodes, bodies-nodes}
use Rattle.layout_laws.specs.Parse.{zeros_at}
use Rattle.layout_laws.specs.Spans.{Spans}
use Rattle.term_words.specs.Kinds.{allowed, future_by}
use Rattle.actor.specs.Tests.{made_end, copied_end, slots_end, counts_hold, head_holds, expr_holds, inbox_holds, waiting_holds, made_reached, copied_reached, made_holds, copied_holds, bodies_hold, end_holds, heap_holds, rest_holds, part_holds}
use Rattle.actor.specs.Messages.{inbox-complete, waiting-complete}
use Rattle.actor.specs.Objects.{Judges}
use Rattle.actor.specs.Entities.{made-complete, copied-complete}
use Rattle.actor.specs.Series.{whole_each, span-split, slots-complete}
use Rattle.actor.specs.Queues.{slots-kind}
use Rattle.actor.specs.Orders.{Kinds, queues-ordered}
use Rattle.actor.specs.Regions.{region-complete, span-in, span-front, tail-zeros}
use Rattle.actor.specs.PartContract.{IsPart, Ends}

module _ (K : List ℕ) (a W : ℕ) (w : List ℕ) (few : W ≤ 64) (l : a < owner_limit) where
  abbrev P : Value → Type 0
  P = Is (allowed K a)

  abbrev E : ℕ → Entity → Type 0
  E = IsEntity W P (future_by K) a

  abbrev C : ℕ → Entity → Type 0
  C n o = (is_isolate o ≡ true) × E n o

  module _ (A : Actor) (is : encode_actor A ≡ w) (within : WithinActor A) (holds : IsActor W P (future_by K) a A) (fits : ActorFits A) where
    abbrev x : List ℕ
    x = encode_term A.expr

    abbrev xs : List ℕ
    xs = bodies A.made ++ bodies A.copied

    whole : w ≡ from_counts (counts A fits) x (flat encode_message A.inbox) (flat encode_message (queues A.made)) (slots 0 A.made) (slots 0 A.copied) xs
    unfolding encode_actor
    whole = sym is

    -- ---- the head
    word0 : get_or w 0 0 ≡ A.moves
    unfolding pad
    word0 = ap (λ l. get_or l 0 0) whole

    word1 : get_or w 1 0 ≡ length A.made
    unfolding pad
    word1 = ap (λ l. get_or l 1 0) whole

    word2 : get_or w 2 0 ≡ length A.copied
    unfolding pad
    word2 = ap (λ l. get_or l 2 0) whole

    word3 : get_or w 3 0 ≡ length A.inbox
    unfolding pad
    word3 = ap (λ l. get_or l 3 0) whole

    word4 : get_or w 4 0 ≡ length (queues A.made)
    unfolding pad
    word4 = ap (λ l. get_or l 4 0) whole

    word5 : get_or w 5 0 ≡ length x
    unfolding pad
    word5 = ap (λ l. get_or l 5 0) whole

    head-complete : head_holds w ≡ true
    unfolding head_holds counts_hold
    head-complete =
        let z = region-complete w 0 16 (counts A fits) _ whole in
        both₃ (le-leb (get_or w 0 0) top (omega (arith, word0, fits.moves_fit)))
        (both₂ (both₄ (le-leb (get_or w 1 0) 32 (omega (arith, word1, fits.made_count))) (le-leb (get_or w 2 0) 16 (omega (arith, word2, fits.copied_count)))
        (le-leb (get_or w 3 0) 16 (omega (arith, word3, fits.inbox_count))) (le-leb (get_or w 4 0) 16 (omega (arith, word4, fits.waiting_count))))
        (le-leb (get_or w 5 0) expr_size (omega (arith, word5, fits.expression_words))))
        z.1

    -- ---- the expression
    expr-complete : (e : Option ℕ) → Ends K a W (take expr_size (drop expr_at w)) e → expr_holds w e ≡ true
    unfolding expr_holds
    expr-complete e j =
        let R = take expr_size (drop expr_at w) in
        let n = length x in
        let d = from-expr (regions A fits) w whole in
        let z = region-complete w expr_at expr_size x _ d in
        let s : Spans R 0 n x = span-in w expr_at expr_size x _ fits.expression_words z.0 in
        let i : e ≡ Some n = j.complete A.expr n (fits.expression, s) holds.expr in
        let nd : nodes_in (slice 0 n R) ≡ nodes A.expr = ap nodes_in (span-front R n x s) ∙ term-nodes A.expr fits.expression in
        rw (word5, i) (both₃ (eq-eqb n n refl) (le-leb (nodes_in (slice 0 n R)) 256 (omega (arith, within.nodes≤))) z.1)

    -- ---- messages
    inbox-part : inbox_holds w K a W ≡ true
    unfolding inbox_holds
    inbox-part =
        let q = flat encode_message A.inbox in
        let n = length A.inbox in
        let z = region-complete w inbox_at queue_size q _ (from-inbox (regions A fits) w whole) in
        let c : length q ≡ message_size * n = messages-length A.inbox fits.inbox_fits ∙ omega arith in
        let t : zeros_at w (queue_size - message_size * n) (inbox_at + message_size * n) ≡ true = rw c at z.1 in
        rw word3 (both₂ (inbox-complete K a W w l A.inbox inbox_at _ z.0 fits.inbox_fits holds.inbox) t)

    kinds-are : Kinds K a W w l 0 A.made
    kinds-are j o e =
        let d = from-made (regions A fits) w whole ∙ pad-front made_size (slots 0 A.made) _ in
        let z : j ≡ 0 + j = omega arith in
        rw z at (slots-kind w A.made 0 made_at _ fits.made_fits d j o e)

    waiting-part : waiting_holds w K a W ≡ true
    unfolding waiting_holds
    waiting-part =
        let m = queues A.made in
        let q = flat encode_message m in
        let n = length m in
        let M = length A.made in
        let f = queues-fit 0 A.made fits.made_fits in
        let z = region-complete w waiting_at queue_size q _ (from-waiting (regions A fits) w whole) in
        let c : length q ≡ message_size * n = messages-length m f ∙ omega arith in
        let t : zeros_at w (queue_size - message_size * n) (waiting_at + message_size * n) ≡ true = rw c at z.1 in
        let o = queues-ordered K a W w l A.made 0 0 M fits.made_fits (whole_each E A.made holds.made) kinds-are (omega arith) (omega arith) in
        rw (word4, word1) (both₂ (waiting-complete K a W w l M m 0 waiting_at _ (omega (arith, fits.made_count)) z.0 f o) t)

    -- ---- both series
    module _ (f g : ℕ → ℕ → Option ℕ) (jf : Judges K a W w (take bodies_size (drop bodies_at w)) few shared f) (jg : Judges K a W w (take bodies_size (drop bodies_at w)) few isolated g) where
      abbrev B : List ℕ
      B = take bodies_size (drop bodies_at w)

      abbrev e : ℕ
      e = length (bodies A.made)

      abbrev d : ℕ
      d = length xs

      at-bodies : drop bodies_at w ≡ pad (bodies_size + rest_size) xs ++ []
      at-bodies = from-bodies (regions A fits) w whole ∙ rest
        where
          rest : pad bodies_size xs ++ zeros rest_size ≡ pad (bodies_size + rest_size) xs ++ []
          rest = sym (append-nil (pad (bodies_size + rest_size) xs) ∙ tail-zeros xs fits.body_words)

      bodies-stand : Spans B 0 d xs
      bodies-stand = span-in w bodies_at bodies_size xs _ fits.body_words (region-complete w bodies_at (bodies_size + rest_size) xs [] at-bodies).0

      both-stand : Spans B 0 e (bodies A.made) × Spans B e d (bodies A.copied)
      both-stand = span-split B 0 e d (bodies A.made) (bodies A.copied) (omega arith) bodies-stand

      made_at_lem : drop made_at w ≡ slots 0 A.made ++ (zeros (made_size - length (slots 0 A.made)) ++ from_copied (slots 0 A.copied) xs)
      made_at_lem = (region-complete w made_at made_size (slots 0 A.made) _ (from-made (regions A fits) w whole)).0

      copied_at_lem : drop copied_at w ≡ slots 0 A.copied ++ (zeros (copied_size - length (slots 0 A.copied)) ++ from_bodies xs)
      copied_at_lem = (region-complete w copied_at copied_size (slots 0 A.copied) _ (from-copied (regions A fits) w whole)).0

      made-reached : made_reached w K a W f g ≡ Some e
      unfolding made_reached
      made-reached =
          ap (λ n. slots_end (made_end K a W w f g) n 0 made_at 0) word1
          ∙ slots-complete w B E (made_end K a W w f g) (λ n at b i o h. made-complete K a W w B few f g jf jg n at b i o h) A.made 0 made_at 0 e _ made_at_lem both-stand.0 fits.made_fits (whole_each E A.made holds.made)

      copied-reached : copied_reached w K a W f g e ≡ Some d
      unfolding copied_reached
      copied-reached =
          ap (λ n. slots_end (copied_end K a W w f g) n 0 copied_at e) word2
          ∙ slots-complete w B C (copied_end K a W w f g) (λ n at b i o h. copied-complete K a W w B few f g jf jg n at b i o (h.0, h.1, h.2, h.3.1) h.3.0) A.copied 0 copied_at e d _ copied_at_lem both-stand.1 fits.copied_fits (whole_each C A.copied holds.copied)

      made_holds_lem : made_holds w ≡ true
      unfolding made_holds
      made_holds_lem =
          let m = length A.made in
          let z = region-complete w made_at made_size (slots 0 A.made) _ (from-made (regions A fits) w whole) in
          let c : length (slots 0 A.made) ≡ slot_size * m = slots_length 0 A.made fits.made_fits ∙ omega arith in
          let t : zeros_at w (made_size - slot_size * m) (made_at + slot_size * m) ≡ true = rw c at z.1 in
          rw word1 t

      copied-holds : copied_holds w ≡ true
      unfolding copied_holds
      copied-holds =
          let m = length A.copied in
          let z = region-complete w copied_at copied_size (slots 0 A.copied) _ (from-copied (regions A fits) w whole) in
          let c : length (slots 0 A.copied) ≡ slot_size * m = slots_length 0 A.copied fits.copied_fits ∙ omega arith in
          let t : zeros_at w (copied_size - slot_size * m) (copied_at + slot_size * m) ≡ true = rw c at z.1 in
          rw word2 t

      bodies-hold : bodies_hold w d ≡ true
      unfolding bodies_hold
      bodies-hold =
          let z = region-complete w bodies_at (bodies_size + rest_size) xs [] at-bodies in
          let n : nodes_in (slice 0 d B) ≡ sum body_nodes A.made + sum body_nodes A.copied =
          ap nodes_in (span-front B d xs bodies-stand) ∙ nodes-append (bodies A.made) (bodies A.copied) ∙ ap₂ ◌+◌ (bodies-nodes 0 A.made fits.made_fits) (bodies-nodes 0 A.copied fits.copied_fits) in
          both₂ (le-leb (nodes_in (slice 0 d B)) 768 (omega (arith, within.bodies≤))) z.1

      heap-complete : heap_holds w K a W f g ≡ true
      unfolding heap_holds end_holds
      heap-complete = rw made-reached (both₂ made_holds_lem (rw copied-reached (both₂ copied-holds bodies-hold)))

  pub part-complete : (f g : ℕ → ℕ → Option ℕ) (e : Option ℕ) → Judges K a W w (take bodies_size (drop bodies_at w)) few shared f → Judges K a W w (take bodies_size (drop bodies_at w)) few isolated g → Ends K a W (take expr_size (drop expr_at w)) e
      → IsPart K a W w → part_holds w K a W f g e ≡ true
  unfolding IsPart part_holds rest_holds
  part-complete f g e jf jg je p =
      let A = p.0 in
      let is = p.1 in
      let within = within-to A p.2 in
      let holds = p.3 in
      let fits = p.4 in
      both₃ (head-complete A is within holds fits) (expr-complete A is within holds fits e je)
      (both₃ (inbox-part A is within holds fits) (waiting-part A is within holds fits) (heap-complete A is within holds fits f g jf jg))
