-- The words of a state show its listing: each actor's part its line, its entities and its inbox. Assumes nothing.
use Rattle.std.specs.Prelude.{◌≡◌, refl, ℕ, zero, suc, ◌+◌, ◌-◌, ◌*◌, ◌%◌, ◌≤◌, ◌<◌, drop}
use Rattle.std.proofs.Math.Path.{sym, ap, ap₂}
use Rattle.std.proofs.Common.{◌∙◌, subst as transp, add-one, arith, drop-drop, drop_at}
use mathlib.Core.List.{List, [], ◌∷◌, ◌++◌, append_assoc}
use Rattle.std.proofs.Math.Option.{none, some}
use Rattle.std.proofs.Math.ListN.{length, get_or, length-append}
use Rattle.atlite.specs.Base.{bytes}
use Rattle.atlite.specs.Lexicon.{Bytes}
use Rattle.atlite.specs.Printer.{print_number}
use Rattle.atlite.specs.Listing.{print_term, line, print_entities, print_inbox, print_actor, print_actors, listing}
use Rattle.atlite.specs.Term.{made, copied}
use Rattle.atlite.specs.State.{Entity, object, future, resolver, Actor, State}
use Rattle.reading.specs.Items.{form-closing}
use Rattle.layout.specs.Numbers.{payload, expr_at, expr_size, queue_size, inbox_at, waiting_at, made_size, copied_size, made_at, copied_at, bodies_size, bodies_at, rest_size, part_size, head_size, parts_size, tail_size}
use Rattle.layout.specs.Pack.{zeros, pad, flat}
use Rattle.layout_laws.specs.PackLaws.{pad-front, drop-pad, length-flat, Each}
use Rattle.layout.specs.Terms.{series_bit, count_methods, encode_term}
use Rattle.layout.specs.Layout.{encode_word, encode_message, slot_head, slot, slots, bodies, queues, encode_actor, encode}
use Rattle.layout_laws.specs.Slots.{EntitiesFit, tag-low}
use Rattle.layout_laws.specs.Parts.{ActorFits, from_counts, from_expr, from_inbox, from_waiting, from_made, from_copied, from_bodies, counts, regions, actor-length}
use Rattle.layout_laws.specs.StateReads.{StateFits, top_words, head-words, words-three}
use Rattle.showing.specs.TextOfWords.{Text, shown}
use Rattle.lister.specs.TextOfState.{deep, Entry, slots_in, spaced_in, title_in, counts_in, expr_in, line_in, entities_in, actor_in, actors_in, listed_in}
use Rattle.showing.specs.Spelling.{Spells, entry_at}
use Rattle.lister.specs.TermText.{show-term}
use Rattle.lister.specs.Messages.{Quiet, inbox-shown}
use Rattle.lister.specs.Entities.{entry, entities-shown}

-- ---- regions
-- past a region
step : (n k : ℕ) (xs X r W : List ℕ) → drop k W ≡ (pad n xs ++ X) ++ r → length xs ≤ n → drop (k + n) W ≡ X ++ r
step n k xs X r W e l = sym (drop-drop n k W) ∙ ap (drop n) (e ∙ append_assoc (pad n xs) X r) ∙ drop-pad n xs (X ++ r) l

-- what a region begins with
front : (n k : ℕ) (xs X r W : List ℕ) → drop k W ≡ (pad n xs ++ X) ++ r → drop k W ≡ xs ++ (zeros (n - length xs) ++ (X ++ r))
front n k xs X r W e = e ∙ append_assoc (pad n xs) X r ∙ pad-front n xs (X ++ r)

-- ---- no message begins where slots or zeros do
zeros-quiet : (k : ℕ) (w : List ℕ) → Quiet w → Quiet (zeros k ++ w)
unfolding Quiet zeros
zeros-quiet zero w h = h
zeros-quiet (suc k) w h = omega arith

head-quiet : (k f m : ℕ) → k < 8 → f < 8 → m < 8 → slot_head k f m 0 < payload
unfolding slot_head
head-quiet k f m h i j = omega arith

slots-quiet : (h : List Entity) (w : List ℕ) → EntitiesFit 0 h → Quiet (pad made_size (slots 0 h) ++ w)
unfolding Quiet pad zeros slots slot
slots-quiet [] w f = omega arith
slots-quiet (object g F M ∷ h) w f = head-quiet _ (length F) (count_methods M) (tag-low g) (omega (arith, f.0.0.0)) (omega (arith, f.0.1))
slots-quiet (future none q ∷ h) w f = head-quiet 3 0 0 (omega arith) (omega arith) (omega arith)
slots-quiet (future (some v) q ∷ h) w f = head-quiet 4 0 0 (omega arith) (omega arith) (omega arith)
slots-quiet (resolver k ∷ h) w f = head-quiet 5 0 0 (omega arith) (omega arith) (omega arith)

-- ---- one actor
nested : (K A M N C E R : Bytes) → (K ++ A) ++ ((M ++ (N ++ C)) ++ (E ++ R)) ≡ K ++ (A ++ (M ++ (N ++ (C ++ (E ++ R)))))
nested K A M N C E R = simp append_assoc

four : (K L M N : Bytes) → K ++ ((L ++ M) ++ N) ≡ ((K ++ L) ++ M) ++ N
four K L M N = simp append_assoc

module _ (t : List ℕ) (ws : List Bytes) (sp : Spells t ws) (a : ℕ) (A : Actor) (f : ActorFits A) (r W : List ℕ) (is : W ≡ encode_actor A ++ r) where
  abbrev e : List ℕ
  e = encode_term A.expr

  abbrev i : List ℕ
  i = flat encode_message A.inbox

  abbrev q : List ℕ
  q = flat encode_message (queues A.made)

  abbrev m : List ℕ
  m = slots 0 A.made

  abbrev c : List ℕ
  c = slots 0 A.copied

  abbrev b : List ℕ
  b = bodies A.made ++ bodies A.copied

  from-counts : drop 0 W ≡ from_counts (counts A f) e i q m c b ++ r
  unfolding encode_actor
  from-counts = is

  from-expr : drop expr_at W ≡ from_expr e i q m c b ++ r
  from-expr = step 16 0 (counts A f) (from_expr e i q m c b) r W from-counts (regions A f).lh

  from-inbox : drop inbox_at W ≡ from_inbox i q m c b ++ r
  from-inbox = step expr_size expr_at e (from_inbox i q m c b) r W from-expr (regions A f).le

  from-waiting : drop waiting_at W ≡ from_waiting q m c b ++ r
  from-waiting = step queue_size inbox_at i (from_waiting q m c b) r W from-inbox (regions A f).li

  from-made : drop made_at W ≡ from_made m c b ++ r
  from-made = step queue_size waiting_at q (from_made m c b) r W from-waiting (regions A f).lq

  from-copied : drop copied_at W ≡ from_copied c b ++ r
  from-copied = step made_size made_at m (from_copied c b) r W from-made (regions A f).lm

  from-bodies : drop bodies_at W ≡ from_bodies b ++ r
  from-bodies = step copied_size copied_at c (from_bodies b) r W from-copied (regions A f).lc

  count0 : get_or W 0 0 ≡ A.moves
  unfolding encode_actor pad
  count0 = ap (λ l. get_or l 0 0) is

  count1 : get_or W 1 0 ≡ length A.made
  unfolding encode_actor pad
  count1 = ap (λ l. get_or l 1 0) is

  count2 : get_or W 2 0 ≡ length A.copied
  unfolding encode_actor pad
  count2 = ap (λ l. get_or l 2 0) is

  count3 : get_or W 3 0 ≡ length A.inbox
  unfolding encode_actor pad
  count3 = ap (λ l. get_or l 3 0) is

  expr-shown : (shown t deep (drop expr_at W)).text ≡ print_term ws A.expr
  expr-shown =
      let l = f.expression_words in
      ap (λ w. (shown t deep w).text) (front expr_size expr_at e (from_inbox i q m c b) r W from-expr)
      ∙ ap (λ (x : Text). x.text) (show-term t ws sp A.expr deep _ f.expression (omega arith))

  -- counts are below what they are cut at
  small0 : get_or W 0 0 % payload ≡ A.moves
  small0 = let l = f.moves_fit in let z = count0 in omega arith

  small1 : get_or W 1 0 % 64 ≡ length A.made
  small1 = let l = f.made_count in let z = count1 in omega arith

  small2 : get_or W 2 0 % 32 ≡ length A.copied
  small2 = let l = f.copied_count in let z = count2 in omega arith

  small3 : get_or W 3 0 % 32 ≡ length A.inbox
  small3 = let l = f.inbox_count in let z = count3 in omega arith

  line-shown : line_in t a W ≡ line (bytes "actor" ∷ print_number a ∷ print_number A.moves ∷ print_number (length A.made) ∷ print_number (length A.copied) ∷ print_term ws A.expr ∷ [])
  unfolding line_in title_in counts_in expr_in spaced_in line bytes
  line-shown =
      rw (small0, small1, small2, expr-shown)
      (nested (40 ∷ bytes "actor") (32 ∷ print_number a) (32 ∷ print_number A.moves) (32 ∷ print_number (length A.made)) (32 ∷ print_number (length A.copied)) (32 ∷ print_term ws A.expr) (41 ∷ 10 ∷ [])
      ∙ sym (form-closing (bytes "actor") (print_number a ∷ print_number A.moves ∷ print_number (length A.made) ∷ print_number (length A.copied) ∷ print_term ws A.expr ∷ []) (10 ∷ [])))

  abbrev rest : List ℕ
  rest = zeros (queue_size - length q) ++ (from_made m c b ++ r)

  abbrev left : List ℕ
  left = zeros (bodies_size - length b) ++ (zeros rest_size ++ r)

  made-shown : slots_in t a 0 (get_or W 1 0 % 64) (drop made_at W) (drop bodies_at W) (drop waiting_at W) ≡ entry (print_entities ws a made 0 A.made) (bodies A.copied ++ left) rest
  unfolding series_bit
  made-shown =
      let x = length-append (bodies A.made) (bodies A.copied) in
      let y = f.body_words in
      let z : Quiet rest = zeros-quiet (queue_size - length q) _ (transp Quiet (sym (append_assoc (pad made_size m) (from_copied c b) r)) (slots-quiet A.made _ f.made_fits)) in
      rw (small1, front made_size made_at m (from_copied c b) r W from-made, front bodies_size bodies_at b (zeros rest_size) r W from-bodies, front queue_size waiting_at q (from_made m c b) r W from-waiting, append_assoc (bodies A.made) (bodies A.copied) left)
      (entities-shown t ws sp a made 0 A.made _ (bodies A.copied ++ left) rest f.made_fits (omega arith) f.waiting_count z)

  copied-shown : slots_in t a 1 (get_or W 2 0 % 32) (drop copied_at W) (bodies A.copied ++ left) rest ≡ entry (print_entities ws a copied 0 A.copied) left rest
  unfolding flat series_bit
  copied-shown =
      let x = length-append (bodies A.made) (bodies A.copied) in
      let y = f.body_words in
      let n = f.none_waits in
      let l : length (queues A.copied) ≡ 0 = ap length n in
      let z : Quiet rest = zeros-quiet (queue_size - length q) _ (transp Quiet (sym (append_assoc (pad made_size m) (from_copied c b) r)) (slots-quiet A.made _ f.made_fits)) in
      ap₂ (λ k w. slots_in t a 1 k w (bodies A.copied ++ left) rest) small2 (front copied_size copied_at c (from_bodies b) r W from-copied)
      ∙ ap {B = Entry} (λ p. slots_in t a 1 (length A.copied) (c ++ (zeros (copied_size - length c) ++ (from_bodies b ++ r))) (bodies A.copied ++ left) (flat encode_message p ++ rest)) (sym n)
      ∙ entities-shown t ws sp a copied 0 A.copied _ left rest f.copied_fits (omega arith) (omega arith) z

  pub actor-shown : actor_in t a W ≡ print_actor ws a A
  unfolding actor_in entities_in print_actor
  actor-shown =
      rw (line-shown, made-shown, copied-shown, small3, front queue_size inbox_at i (from_waiting q m c b) r W from-inbox, inbox-shown t ws sp A.inbox (zeros (queue_size - length i) ++ (from_waiting q m c b ++ r)) f.inbox_fits)
      (four (line _) (print_entities ws a made 0 A.made) (print_entities ws a copied 0 A.copied) (print_inbox ws A.inbox))

-- ---- all actors
pub actors-shown : (t : List ℕ) (ws : List Bytes) (sp : Spells t ws) (a : ℕ) (As : List Actor) (w : List ℕ) → Each ActorFits As
    → actors_in t a (length As) (flat encode_actor As ++ w) ≡ print_actors ws a As
unfolding actors_in flat print_actors
actors-shown t ws sp a [] w f = refl
actors-shown t ws sp a (A ∷ As) w f =
    let e = append_assoc (encode_actor A) (flat encode_actor As) w in
    rw (e, actor-shown t ws sp a A f.0 (flat encode_actor As ++ w) (encode_actor A ++ (flat encode_actor As ++ w)) refl, drop_at (encode_actor A) (flat encode_actor As ++ w) part_size (actor-length A f.0), add-one, actors-shown t ws sp (suc a) As w f.1)

module _ (σ : State) (f : StateFits σ) (t : List ℕ) (is : t ≡ encode σ) where
  words-at : t ≡ top_words σ f ++ (zeros (head_size - length (top_words σ f)) ++ (pad parts_size (flat encode_actor σ.actors) ++ zeros tail_size))
  unfolding encode
  words-at = is ∙ pad-front head_size (top_words σ f) _

  spells : Spells t σ.words
  spells = record {
    few = f.word_count;
    fit = f.words_fit;
    entries = λ k i l h.
        let z : 2 + (3 * k + i) ≡ suc (suc (3 * k + i)) = omega arith in
        let n = length-flat encode_word 3 σ.words (words-three σ.words) in
        ap₂ (λ w j. get_or w j 0) words-at z ∙ entry_at σ.words (head_size - length (top_words σ f)) _ k i (omega (arith, f.word_count)) h;
  }

  actors-at : drop head_size t ≡ flat encode_actor σ.actors ++ (zeros (parts_size - length (flat encode_actor σ.actors)) ++ zeros tail_size)
  unfolding encode
  actors-at = ap (drop head_size) is ∙ drop-pad head_size (top_words σ f) _ (head-words σ f) ∙ pad-front parts_size (flat encode_actor σ.actors) (zeros tail_size)

  count : get_or t 0 0 % 5 ≡ length σ.actors
  count = let z : get_or t 0 0 ≡ length σ.actors = ap (λ l. get_or l 0 0) words-at in let l = f.actor_count in omega arith

  pub listing-shown : listed_in t ≡ listing σ
  unfolding listed_in listing
  listing-shown = rw (count, actors-at) (actors-shown t σ.words spells 0 σ.actors _ f.actors_fit)
