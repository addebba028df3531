-- A part of which the tests are true is an actor's: what each region was found to hold is put together, and the messages that wait are
-- given to their futures. Assumes nothing.
use Rattle.std.specs.Prelude.{ℕ, suc, ◌+◌, ◌-◌, ◌*◌, ◌≤◌, ◌<◌, ◌≡◌, Bool, true, ◌&&◌, Option, Some, None, List, [], ◌∷◌, ◌++◌, eqb, leb, drop}
use Rattle.std.proofs.Math.Path.{refl, sym, ap}
use Rattle.std.proofs.Common.{ap₂, ◌∙◌, true≢false, arith, length-drop, length-take-le}
use borrow.Author.Tests.{eqb-true, leb-true, le-leb}
use Rattle.std.proofs.Math.ListN.{length, take, get_or}
use Rattle.std.proofs.Math.Seq.{slice}
use Rattle.atlite.specs.Base.{sum}
use Rattle.atlite.specs.Term.{Value, Term, nodes, top}
use Rattle.atlite.specs.State.{Message, shared, isolated, Entity, Actor, is_isolate}
use Rattle.atlite.specs.Limits.{body_nodes, waiting_in, full, within_actor}
use Rattle.atlite.specs.Valid.{WellFormed, IsEntity, IsActor}
use Rattle.atlite_laws.specs.Facts.{and₂, and₃, and₅, both₂, both₃, both₄}
use Rattle.invariant.specs.TermTests.{Is}
use Rattle.layout.specs.Numbers.{owner_limit, expr_at, expr_size, message_size, queue_size, inbox_at, waiting_at, slot_size, made_size, copied_size, made_at, copied_at, bodies_size, bodies_at, rest_size, part_size}
use Rattle.layout.specs.Pack.{zeros, pad, flat}
use Rattle.layout_laws.specs.PackLaws.{pad-front}
use Rattle.layout.specs.Terms.{encode_term}
use Rattle.layout_laws.specs.TermLaws.{Fits}
use Rattle.layout.specs.Layout.{encode_message, slots, bodies, queues, encode_actor}
use Rattle.layout_laws.specs.Slots.{EntitiesFit}
use Rattle.layout_laws.specs.Parts.{ActorFits}
use Rattle.layout_laws.specs.StateFits.{isolate-waits, queues-count}
use Rattle.layout_laws.specs.Arity.{nodes_in, nodes-append}
use Rattle.layout_laws.proofs.Arity.{term-nodes, bodies-nodes}
use Rattle.layout_laws.specs.Parse.{zeros_at}
use Rattle.layout_laws.specs.Spans.{Spans, span-join, span-end}
use Rattle.term_words.specs.Kinds.{allowed, future_by}
use Rattle.actor.specs.Tests.{ended, arrivals_at, waiters_at, made_end, copied_end, counts_hold, head_holds, expr_holds, inbox_holds, waiting_holds, made_reached, copied_reached, made_holds, copied_holds, bodies_hold, end_holds, heap_holds, rest_holds, part_holds}
use Rattle.actor.specs.Messages.{InboxIs, inbox-sound, Ordered, WaitingIs, waiting-sound}
use Rattle.actor.specs.Objects.{Judges}
use Rattle.actor.specs.Entities.{made-sound, copied-sound}
use Rattle.actor.specs.Series.{EachFrom, each-whole, SeriesIs, slots-sound}
use Rattle.actor.specs.Queues.{fill, fill-length, fill-slots, fill-bodies, fill-nodes, fill-queues, fill-fits, fill_holds, slots-kind}
use Rattle.actor.specs.Orders.{Kinds, ordered-sorted, ordered-waits, ordered-opens}
use Rattle.actor.specs.Regions.{region-sound, six-words, regions-all, span-within, span-out, span-front, tail-zeros}
use Rattle.actor.specs.PartContract.{IsPart, Ends}

-- a position that passes is there
ended-true : (p : ℕ → Bool) (o : Option ℕ) → ended p o ≡ true → (e : ℕ) × (o ≡ Some e) × (p e ≡ true)
ended-true p None h = absurd (true≢false (sym h))
ended-true p (Some e) h = (e, refl, h)

no-queues : (E : ℕ → Entity → Type 0) (n : ℕ) (h : List Entity) → EachFrom (λ n o. (is_isolate o ≡ true) × E n o) n h → queues h ≡ []
unfolding queues
no-queues E n [] f = refl
no-queues E n (o ∷ h) f = ap₂ ◌++◌ (isolate-waits o f.0.0) (no-queues E (suc n) h f.1)

module _ (K : List ℕ) (a W : ℕ) (w : List ℕ) (few : W ≤ 64) (l : a < owner_limit) (len : length w ≡ part_size) where
  abbrev P : Value → Type 0
  P = Is (allowed K a)

  abbrev E : ℕ → Entity → Type 0
  E = IsEntity W P (future_by K) a

  abbrev C : ℕ → Entity → Type 0
  C n o = (is_isolate o ≡ true) × E n o

  -- ---- what each region holds
  pub record Head : Type 0 where
    pub moves : get_or w 0 0 ≤ top
    pub made : get_or w 1 0 ≤ 32
    pub copied : get_or w 2 0 ≤ 16
    pub inbox : get_or w 3 0 ≤ 16
    pub waiting : get_or w 4 0 ≤ 16
    pub expr : get_or w 5 0 ≤ expr_size
    pub rest : zeros_at w 10 6 ≡ true

  record ExprIs (t : Term) : Type 0 where
    pub fits : Fits t
    pub holds : WellFormed t W P []
    pub count : length (encode_term t) ≡ get_or w 5 0
    pub stands : Spans w expr_at inbox_at (pad expr_size (encode_term t))
    pub small : nodes t ≤ 256

  record HeapIs (h c : List Entity) : Type 0 where
    pub count_h : length h ≡ get_or w 1 0
    pub count_c : length c ≡ get_or w 2 0
    pub stands_h : Spans w made_at copied_at (pad made_size (slots 0 h))
    pub stands_c : Spans w copied_at bodies_at (pad copied_size (slots 0 c))
    pub fits_h : EntitiesFit 0 h
    pub fits_c : EntitiesFit 0 c
    pub holds_h : EachFrom E 0 h
    pub holds_c : EachFrom C 0 c
    pub body_words : length (bodies h ++ bodies c) ≤ bodies_size
    pub stands_b : Spans w bodies_at part_size (pad bodies_size (bodies h ++ bodies c) ++ zeros rest_size)
    pub small : sum body_nodes h + sum body_nodes c ≤ 768

  head-sound : head_holds w ≡ true → Head
  unfolding head_holds counts_hold
  head-sound h =
      let r = and₃ (leb (get_or w 0 0) top) (counts_hold w) (zeros_at w 10 6) h in
      let q = and₅ (leb (get_or w 1 0) 32) (leb (get_or w 2 0) 16) (leb (get_or w 3 0) 16) (leb (get_or w 4 0) 16) (leb (get_or w 5 0) expr_size) r.1 in
      record {
        moves = leb-true _ _ r.0;
        made = leb-true _ _ q.0;
        copied = leb-true _ _ q.1;
        inbox = leb-true _ _ q.2;
        waiting = leb-true _ _ q.3;
        expr = leb-true _ _ q.4;
        rest = r.2;
      }

  expr-sound : (o : Option ℕ) → Ends K a W (take expr_size (drop expr_at w)) o → Head → expr_holds w o ≡ true → (t : Term) × ExprIs t
  unfolding expr_holds
  expr-sound o j g h =
      let n = get_or w 5 0 in
      let R = take expr_size (drop expr_at w) in
      let r = and₃ (ended (λ e. eqb e n) o) (leb (nodes_in (slice 0 n R)) 256) (zeros_at w (expr_size - n) (expr_at + n)) h in
      let u = ended-true (λ e. eqb e n) o r.0 in
      let e = u.0 in
      let d = eqb-true e n u.2 in
      let k = g.expr in
      let t = j.sound e u.1 in
      let x = encode_term t.0 in
      let s : Spans R 0 n x = span-end R 0 e n x t.1.1 d in
      let nd : nodes t.0 ≡ nodes_in (slice 0 n R) = sym (term-nodes t.0 t.1.0) ∙ ap nodes_in (sym (span-front R n x s)) in
      let le = leb-true (nodes_in (slice 0 n R)) 256 r.1 in (
        t.0,
        record {
          fits = t.1.0;
          holds = t.2;
          count = omega (arith, s.1);
          stands = region-sound w expr_at expr_size n x (omega arith) k (span-out w expr_at expr_size n x (omega arith) (omega arith) s) r.2;
          small = omega arith;
        },
      )

  -- the messages of a region of 96 words
  inbox-part : Head → inbox_holds w K a W ≡ true → (q : List Message) × InboxIs K a W w l (get_or w 3 0) inbox_at q × Spans w inbox_at waiting_at (pad queue_size (flat encode_message q))
  unfolding inbox_holds
  inbox-part g h =
      let n = get_or w 3 0 in
      let k = g.inbox in
      let r = and₂ (arrivals_at K a W w n inbox_at) (zeros_at w (queue_size - message_size * n) (inbox_at + message_size * n)) h in
      let q = inbox-sound K a W w l n inbox_at (omega arith) r.0 in
      (q.0, q.1, region-sound w inbox_at queue_size (message_size * n) (flat encode_message q.0) (omega arith) (omega arith) q.1.1 r.1)

  waiting-part : Head → waiting_holds w K a W ≡ true → (q : List Message) × WaitingIs K a W w l (get_or w 1 0) (get_or w 4 0) 0 waiting_at q × Spans w waiting_at made_at (pad queue_size (flat encode_message q))
  unfolding waiting_holds
  waiting-part g h =
      let n = get_or w 4 0 in
      let m = get_or w 1 0 in
      let k = g.waiting in
      let r = and₂ (waiters_at K a W w m n 0 waiting_at) (zeros_at w (queue_size - message_size * n) (waiting_at + message_size * n)) h in
      let q = waiting-sound K a W w l m n 0 waiting_at (omega arith) r.0 in
      (q.0, q.1, region-sound w waiting_at queue_size (message_size * n) (flat encode_message q.0) (omega arith) (omega arith) q.1.1 r.1)

  -- two series found, their bodies one behind the other
  heap_of : (h c : List Entity) (m k e d : ℕ) → get_or w 1 0 ≡ m → get_or w 2 0 ≡ k → m ≤ 32 → k ≤ 16 → d ≤ bodies_size
      → SeriesIs w (take bodies_size (drop bodies_at w)) E m 0 made_at 0 e h → SeriesIs w (take bodies_size (drop bodies_at w)) C k 0 copied_at e d c
      → zeros_at w (made_size - slot_size * m) (made_at + slot_size * m) ≡ true → zeros_at w (copied_size - slot_size * k) (copied_at + slot_size * k) ≡ true → zeros_at w (bodies_size + rest_size - d) (bodies_at + d) ≡ true
      → nodes_in (slice 0 d (take bodies_size (drop bodies_at w))) ≤ 768 → HeapIs h c
  heap_of h c m k e d em ek lm lk ld sh sc zm zk zd nd =
      let B = take bodies_size (drop bodies_at w) in
      let xs = bodies h ++ bodies c in
      let s : Spans B 0 d xs = span-join B 0 e d (bodies h) (bodies c) sh.2 sc.2 in
      let short : length xs ≤ bodies_size = omega (arith, s.1) in
      let n : nodes_in (slice 0 d B) ≡ sum body_nodes h + sum body_nodes c = ap nodes_in (span-front B d xs s) ∙ nodes-append (bodies h) (bodies c) ∙ ap₂ ◌+◌ (bodies-nodes 0 h sh.3) (bodies-nodes 0 c sc.3) in
      record {
        count_h = sh.0 ∙ sym em;
        count_c = sc.0 ∙ sym ek;
        stands_h = region-sound w made_at made_size (slot_size * m) (slots 0 h) (omega arith) (omega arith) sh.1 zm;
        stands_c = region-sound w copied_at copied_size (slot_size * k) (slots 0 c) (omega arith) (omega arith) sc.1 zk;
        fits_h = sh.3;
        fits_c = sc.3;
        holds_h = sh.4;
        holds_c = sc.4;
        body_words = short;
        stands_b = rw (← tail-zeros xs short) (region-sound w bodies_at (bodies_size + rest_size) d xs (omega arith) (omega arith) (span-out w bodies_at bodies_size d xs (omega arith) (omega arith) s) zd);
        small = omega arith;
      }

  heap-sound : (f g : ℕ → ℕ → Option ℕ) → Judges K a W w (take bodies_size (drop bodies_at w)) few shared f → Judges K a W w (take bodies_size (drop bodies_at w)) few isolated g → Head → heap_holds w K a W f g ≡ true
      → (h : List Entity) × (c : List Entity) × HeapIs h c
  unfolding heap_holds made_holds copied_holds bodies_hold end_holds made_reached copied_reached
  heap-sound f g jf jg t x =
      let B = take bodies_size (drop bodies_at w) in
      let m = get_or w 1 0 in
      let k = get_or w 2 0 in
      let re = ended-true (λ e. made_holds w && ended (end_holds w) (copied_reached w K a W f g e)) (made_reached w K a W f g) x in
      let e = re.0 in
      let r = and₂ (made_holds w) (ended (end_holds w) (copied_reached w K a W f g e)) re.2 in
      let rd = ended-true (end_holds w) (copied_reached w K a W f g e) r.1 in
      let d = rd.0 in
      let y = and₂ (copied_holds w) (bodies_hold w d) rd.2 in
      let u = and₂ (leb (nodes_in (slice 0 d B)) 768) (zeros_at w (bodies_size + rest_size - d) (bodies_at + d)) y.1 in
      let lm = t.made in
      let lk = t.copied in
      let sh = slots-sound w B E (made_end K a W w f g) (λ n at b i z v. made-sound K a W w B few f g jf jg n at b i z v) m 0 made_at 0 e (omega arith) re.1 in
      let sc = slots-sound w B C (copied_end K a W w f g) (λ n at b i z v. let o = copied-sound K a W w B few f g jf jg n at b i z v in (o.0, (o.1.0, o.1.1, o.1.2, (o.2, o.1.3)))) k 0 copied_at e d (omega arith) rd.1 in
      let long : length B ≡ bodies_size = length-take-le bodies_size (drop bodies_at w) (omega (arith, length-drop bodies_at w)) in
      let le = span-within B 0 e (bodies sh.0) sh.1.2 (omega arith) in
      let ld = span-within B e d (bodies sc.0) sc.1.2 le in
      (sh.0, sc.0, heap_of sh.0 sc.0 m k e d refl refl lm lk (omega (arith, ld, long)) sh.1 sc.1 r.0 y.0 u.1 (leb-true (nodes_in (slice 0 d B)) 768 u.0))

  -- ---- an actor of them
  module _ (t : Term) (i q : List Message) (h c : List Entity) (g : Head) (et : ExprIs t)
      (ei : InboxIs K a W w l (get_or w 3 0) inbox_at i) (si : Spans w inbox_at waiting_at (pad queue_size (flat encode_message i)))
      (eq : WaitingIs K a W w l (get_or w 1 0) (get_or w 4 0) 0 waiting_at q) (sq : Spans w waiting_at made_at (pad queue_size (flat encode_message q))) (eh : HeapIs h c) where
    abbrev actor : Actor
    actor = record { moves = get_or w 0 0; made = fill 0 h q; copied = c; inbox = i; expr = t }

    kinds-of : Kinds K a W w l 0 h
    kinds-of j o e =
        let d = eh.stands_h.0 ∙ pad-front made_size (slots 0 h) (drop copied_at w) in
        let z : j ≡ 0 + j = omega arith in
        rw z at (slots-kind w h 0 made_at _ eh.fits_h d j o e)

    ordered : Ordered K a W w l (length h) 0 q
    ordered = rw eh.count_h eq.3

    all-given : queues (fill 0 h q) ≡ q
    all-given = fill-queues h 0 q eh.fits_h (ordered-sorted K a W w l (length h) 0 q ordered) (ordered-opens K a W w l h 0 q kinds-of ordered)

    abbrev numbers : List ℕ
    numbers = get_or w 0 0 ∷ length (fill 0 h q) ∷ length c ∷ length i ∷ length (queues (fill 0 h q)) ∷ length (encode_term t) ∷ []

    counted : Spans w 0 16 (pad expr_at numbers)
    counted =
        let s = six-words w (get_or w 0 0) (length (fill 0 h q)) (length c) (length i) (length (queues (fill 0 h q))) (length (encode_term t)) (omega arith)
        refl (sym (fill-length h 0 q ∙ eh.count_h)) (sym eh.count_c) (sym ei.0) (sym (ap length all-given ∙ eq.0)) (sym et.count) in
        region-sound w 0 16 6 numbers (omega arith) (omega arith) s g.rest

    laid_out : encode_actor actor ≡ w
    unfolding encode_actor
    laid_out =
        let m = fill 0 h q in
        let x = pad bodies_size (bodies m ++ bodies c) ++ zeros rest_size in
        let b6 : Spans w bodies_at part_size x = rw (fill-bodies h 0 q) eh.stands_b in
        let b4 : Spans w made_at copied_at (pad made_size (slots 0 m)) = rw (fill-slots h 0 q) eh.stands_h in
        let b3 : Spans w waiting_at made_at (pad queue_size (flat encode_message (queues m))) = rw all-given sq in
        regions-all w (pad expr_at numbers) (pad expr_size (encode_term t)) (pad queue_size (flat encode_message i)) (pad queue_size (flat encode_message (queues m))) (pad made_size (slots 0 m)) (pad copied_size (slots 0 c)) x len counted et.stands si b3 b4 eh.stands_c b6

    within : within_actor full actor ≡ true
    unfolding within_actor
    within =
        let ci = ei.0 in
        let ch = eh.count_h in
        let cc' = eh.count_c in
        let ck = fill-length h 0 q in
        let nb : sum body_nodes (fill 0 h q) + sum body_nodes c ≤ 768 = rw (fill-nodes h 0 q) eh.small in
        let nq : sum waiting_in (fill 0 h q) ≤ 16 = omega (arith, queues-count (fill 0 h q), ap length all-given, eq.0, g.waiting) in
        both₃ (both₂ (both₄ (le-leb (get_or w 0 0) top g.moves) (le-leb (length i) 16 (omega (arith, g.inbox))) (le-leb (length (fill 0 h q)) 32 (omega (arith, g.made))) (le-leb (length c) 16 (omega (arith, g.copied))))
        (le-leb _ 768 nb)) (le-leb _ 16 nq) (le-leb _ 256 et.small)

    holds : IsActor W P (future_by K) a actor
    holds = record {
      made = each-whole E (fill 0 h q) (fill_holds W P (future_by K) a h 0 q eh.holds_h (ordered-waits K a W w l (length h) 0 q ordered));
      copied = each-whole C c eh.holds_c;
      inbox = ei.3;
      expr = et.holds;
    }

    fits : ActorFits actor
    fits = record {
      moves_fit = g.moves;
      expression = et.fits;
      expression_words = omega (arith, et.count, g.expr);
      inbox_fits = ei.2;
      inbox_count = omega (arith, ei.0, g.inbox);
      made_fits = fill-fits h 0 q eh.fits_h eq.2;
      made_count = omega (arith, fill-length h 0 q, eh.count_h, g.made);
      copied_fits = eh.fits_c;
      copied_count = omega (arith, eh.count_c, g.copied);
      waiting_count = omega (arith, ap length all-given, eq.0, g.waiting);
      none_waits = no-queues E 0 c eh.holds_c;
      body_words = rw (fill-bodies h 0 q) eh.body_words;
    }

    is-part : IsPart K a W w
    unfolding IsPart
    is-part = (actor, laid_out, within, holds, fits)

  pub part_sound : (f g : ℕ → ℕ → Option ℕ) (e : Option ℕ) → Judges K a W w (take bodies_size (drop bodies_at w)) few shared f → Judges K a W w (take bodies_size (drop bodies_at w)) few isolated g → Ends K a W (take expr_size (drop expr_at w)) e
      → part_holds w K a W f g e ≡ true → IsPart K a W w
  unfolding part_holds rest_holds
  part_sound f g e jf jg je x =
      let r = and₃ (head_holds w) (expr_holds w e) (rest_holds w K a W f g) x in
      let s = and₃ (inbox_holds w K a W) (waiting_holds w K a W) (heap_holds w K a W f g) r.2 in
      let t = head-sound r.0 in
      let y = expr-sound e je t r.1 in
      let i = inbox-part t s.0 in
      let q = waiting-part t s.1 in
      let h = heap-sound f g jf jg t s.2 in
      is-part y.0 i.0 q.0 h.0 h.1 t y.1 i.1 i.2 q.1 q.2 h.2
