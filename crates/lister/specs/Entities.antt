-- The slots of a series show its entities' lines, and leave what belongs to the slots behind them. By induction on the series. t
-- is a state that spells the words of ws. Assumes nothing.
use Rattle.std.specs.Prelude.{◌≡◌, false, ℕ, suc, ◌-◌, ◌/◌, ◌%◌, ◌≤◌, ◌<◌, get_or}
use Rattle.std.proofs.Math.Path.{refl, sym, ap, subst as transp}
use Rattle.std.proofs.Common.{◌∙◌}
use mathlib.Core.List.{List, [], ◌∷◌, ◌++◌, append_assoc, append-nil, map}
use Rattle.std.proofs.Math.Option.{none, some}
use native.Mathlib.Omega.{arith}
use Rattle.std.proofs.Math.ListN.{length, length-append}
use Rattle.std.proofs.Math.Seq.{drop_at}
use Rattle.atlite.specs.Base.{bytes}
use Rattle.atlite.specs.Lexicon.{Bytes}
use Rattle.atlite.specs.Printer.{print_number}
use Rattle.atlite.specs.Listing.{print_series, print_value, print_methods, print_field, print_message, print_tag, print_content, line, print_entity, print_entities}
use Rattle.atlite.specs.Term.{Series, made, copied, Value, Methods}
use Rattle.atlite.specs.State.{Message, Field, Tag, shared, isolated, Entity, object, future, resolver, field_names, field_values}
use Rattle.reading.specs.Items.{behind, behind-append, form-closing}
use Rattle.layout.specs.Numbers.{payload, no_name, number_limit, digit_limit, digits_limit, slot_unit, bodies_size}
use Rattle.layout.specs.Pack.{zeros, pad, flat, names}
use Rattle.layout_laws.specs.PackLaws.{pad-front, Each, each_map}
use Rattle.layout.specs.Terms.{series_bit, count_methods, encode_methods}
use Rattle.layout_laws.specs.TermLaws.{ValueFits}
use Rattle.layout.specs.Layout.{value_words, encode_message, slot_head, tag_number, slot, slots, entity_methods, bodies, queue, queues}
use Rattle.layout_laws.specs.Slots.{MessageFits, EntityFits, EntitiesFit, At, queue-at, queues-from, queues-fit, slot-length, tag-low}
use Rattle.layout_laws.specs.Places.{flat_append}
use Rattle.showing.specs.TextOfWords.{series_in, operands_in, shown}
use Rattle.lister.specs.TextOfState.{deep, waits, waiting_in, fields_in, kind_in, state_in, entry_in, opening_in, Entry, parts_in, slot_in, slots_in}
use Rattle.showing.specs.Spelling.{Spells}
use Rattle.showing.specs.Says.{behind-text, showing}
use Rattle.showing.specs.Words.{leaf-shown}
use Rattle.showing.specs.Forms.{operands-shown}
use Rattle.lister.specs.TermText.{show-methods}
use Rattle.lister.specs.Messages.{Quiet, later-waits, waiting-shown, fields-shown}

-- ---- the head of a slot
module _ (k f m n : ℕ) (h : k < 8) (i : f < 8) (j : m < 8) where
  head-kind : slot_head k f m n % digit_limit ≡ k
  unfolding slot_head
  head-kind = omega arith

  head-fields : slot_head k f m n / digit_limit % digit_limit ≡ f
  unfolding slot_head
  head-fields = omega arith

  head-methods : slot_head k f m n / digits_limit % digit_limit ≡ m
  unfolding slot_head
  head-methods = omega arith

  head-number : slot_head k f m n / slot_unit ≡ n
  unfolding slot_head
  head-number = omega arith

-- ---- the text of a slot
-- an entity's line: kind, place, and items
lined : (key A S N : Bytes) (items : List Bytes)
    → 40 ∷ (key ++ (32 ∷ (A ++ (32 ∷ (S ++ (32 ∷ (N ++ behind items (41 ∷ 10 ∷ []))))))))
    ≡ line (key ∷ A ∷ S ∷ N ∷ items)
unfolding line
lined key A S N items = sym (form-closing key (A ∷ S ∷ N ∷ items) (10 ∷ []))

nested : (K D A S N X R : Bytes) → (((K ++ D) ++ A) ++ ((D ++ (S ++ D)) ++ (N ++ X))) ++ R ≡ K ++ (D ++ (A ++ (D ++ (S ++ (D ++ (N ++ (X ++ R)))))))
nested K D A S N X R = simp append_assoc

series-text : (s : Series) → series_in (series_bit s) ≡ 32 ∷ (print_series s ++ (32 ∷ []))
unfolding series_in series_bit print_series bytes
series-text made = refl
series-text copied = refl

-- items of four sorts, each behind a space
four-behind : (a b c d : List Bytes) (e : Bytes) → behind a [] ++ (behind b [] ++ (behind c [] ++ (behind d [] ++ e))) ≡ behind (a ++ (b ++ (c ++ d))) e
four-behind a b c d e =
    behind-text a _
    ∙ ap {B = Bytes} (λ u. behind a u) (behind-text b _ ∙ ap {B = Bytes} (λ u. behind b u) (behind-text c _ ∙ ap {B = Bytes} (λ u. behind c u) (behind-text d e)))
    ∙ sym (behind-append a (b ++ (c ++ d)) e ∙ ap {B = Bytes} (λ u. behind a u) (behind-append b (c ++ d) e ∙ ap {B = Bytes} (λ u. behind b u) (behind-append c d e)))

abbrev pub entry : Bytes → List ℕ → List ℕ → Entry
entry s b q = record { text = s; bodies = b; waiting = q }

module _ (t : List ℕ) (ws : List Bytes) (sp : Spells t ws) (a : ℕ) (s : Series) where
  opening-text : (k n h v : ℕ) (key : Bytes) (si : List Bytes) (rest : Bytes) (items : List Bytes) → h % digit_limit ≡ k → h / slot_unit ≡ n
      → kind_in k ≡ 40 ∷ (key ++ (32 ∷ [])) → state_in t k v ≡ behind si [] → behind si [] ++ rest ≡ behind items (41 ∷ 10 ∷ [])
      → opening_in t a (series_bit s) h v ++ rest ≡ line (key ∷ print_number a ∷ print_series s ∷ print_number n ∷ items)
  unfolding opening_in entry_in
  opening-text k n h v key si rest items e f g i j =
      rw (e, f, g, series-text s, i)
      (nested (40 ∷ key) (32 ∷ []) (print_number a) (print_series s) (print_number n) (behind si []) rest
      ∙ ap {B = Bytes} (λ u. 40 ∷ (key ++ (32 ∷ (print_number a ++ (32 ∷ (print_series s ++ (32 ∷ (print_number n ++ u)))))))) j
      ∙ lined key (print_number a) (print_series s) (print_number n) items)

  -- a slot of kind k, with f fields and m methods, shows items of four sorts
  module _ (k f m n : ℕ) (i : k < 8) (j : f < 8) (l : m < 8) where
    slot-text : (key : Bytes) (si fi mi qi : List Bytes) (x : ℕ) (w b c q u : List ℕ)
        → kind_in k ≡ 40 ∷ (key ++ (32 ∷ [])) → state_in t k (get_or w 0 0) ≡ behind si []
        → fields_in t f x w ≡ behind fi []
        → operands_in t (shown t deep) no_name m b ≡ showing (behind mi []) c
        → waiting_in t 16 n q ≡ showing (behind qi []) u
        → slot_in t a (series_bit s) (slot_head k f m n ∷ x ∷ w) b q
        ≡ entry (line (key ∷ print_number a ∷ print_series s ∷ print_number n ∷ (si ++ (fi ++ (mi ++ qi))))) c u
    unfolding slot_in parts_in
    slot-text key si fi mi qi x w b c q u e g d o p =
        let y = head-number k f m n i j l in
        rw (head-fields k f m n i j l, head-methods k f m n i j l, y, d, o, p)
        (ap (λ z. entry z c u) (opening-text k n (slot_head k f m n) (get_or w 0 0) key si _ (si ++ (fi ++ (mi ++ qi))) (head-kind k f m n i j l) y e g (four-behind si fi mi qi (41 ∷ 10 ∷ []))))

  tag-kind : (g : Tag) → kind_in (tag_number g) ≡ 40 ∷ (print_tag g ++ (32 ∷ []))
  unfolding kind_in tag_number print_tag bytes
  tag-kind shared = refl
  tag-kind isolated = refl

  tag-state : (g : Tag) (v : ℕ) → state_in t (tag_number g) v ≡ []
  unfolding state_in tag_number
  tag-state shared v = refl
  tag-state isolated v = refl

  -- ---- the four entities
  module _ (n : ℕ) (w b q : List ℕ) (e : waits n q ≡ false) where
    object-shown : (g : Tag) (F : List Field) (M : Methods) → EntityFits n (object g F M) → length (encode_methods M) ≤ bodies_size
        → slot_in t a (series_bit s) (slot n (object g F M) ++ w) (encode_methods M ++ b) q
        ≡ entry (print_entity ws (object g F M) (print_number a) (print_series s) (print_number n)) b q
    unfolding slot print_entity flat
    object-shown g F M h l =
        let vs = value_words (field_values F) in
        let v = append_assoc (pad 4 vs) (length (encode_methods M) ∷ 0 ∷ []) w ∙ pad-front 4 vs (length (encode_methods M) ∷ 0 ∷ w) in
        let r = zeros (4 - length vs) ++ (length (encode_methods M) ∷ 0 ∷ w) in
        let fi = map (print_field ws) F in
        let mi = print_methods ws M in
        let z : fi ++ (mi ++ []) ≡ fi ++ mi = ap {B = List Bytes} (λ u. fi ++ u) (append-nil mi) in
        ap (λ u. slot_in t a (series_bit s) (slot_head (tag_number g) (length F) (count_methods M) n ∷ names (field_names F) ∷ u) (encode_methods M ++ b) q) v
        ∙ slot-text (tag_number g) (length F) (count_methods M) n (tag-low g) (omega (arith, h.0.0)) (omega (arith, h.1)) (print_tag g) [] fi mi [] (names (field_names F)) (vs ++ r) (encode_methods M ++ b) b q q
        (tag-kind g) (tag-state g _) (fields-shown t ws sp F r h.0.1 h.0.2) (operands-shown t (show-methods t ws sp M deep b h.2 l)) (waiting-shown t ws sp n 16 [] q (omega arith) tt tt e)
        ∙ ap (λ u. entry (line (print_tag g ∷ print_number a ∷ print_series s ∷ print_number n ∷ u)) b q) z

    open-shown : (p : List Message) → Each MessageFits p → At n p → length p ≤ 16
        → slot_in t a (series_bit s) (slot n (future none p) ++ w) b (flat encode_message p ++ q)
        ≡ entry (print_entity ws (future none p) (print_number a) (print_series s) (print_number n)) b q
    unfolding slot print_entity print_content kind_in state_in fields_in operands_in bytes
    open-shown p h k l =
        slot-text 3 0 0 n (omega arith) (omega arith) (omega arith) (bytes "future") (bytes "open" ∷ []) [] [] (map (print_message ws) p) 0 _ b b (flat encode_message p ++ q) q
        refl refl refl refl (waiting-shown t ws sp n 16 p q l h k e)

    value-shown : (v : Value) → ValueFits v
        → slot_in t a (series_bit s) (slot n (future (some v) []) ++ w) b q
        ≡ entry (print_entity ws (future (some v) []) (print_number a) (print_series s) (print_number n)) b q
    unfolding slot print_entity print_content kind_in state_in fields_in operands_in flat bytes
    value-shown v h =
        slot-text 4 0 0 n (omega arith) (omega arith) (omega arith) (bytes "future") (print_value v ∷ []) [] [] [] 0 _ b b q q
        refl (ap {B = Bytes} (λ u. 32 ∷ u) (leaf-shown t ws sp v h ∙ sym (append-nil (print_value v)))) refl refl (waiting-shown t ws sp n 16 [] q (omega arith) tt tt e)

    resolver-shown : (k : ℕ) → k < number_limit
        → slot_in t a (series_bit s) (slot n (resolver k) ++ w) b q
        ≡ entry (print_entity ws (resolver k) (print_number a) (print_series s) (print_number n)) b q
    unfolding slot print_entity kind_in state_in fields_in operands_in flat bytes
    resolver-shown k h =
        let z : k % payload ≡ k = omega arith in
        slot-text 5 0 0 n (omega arith) (omega arith) (omega arith) (bytes "resolver") (print_number k ∷ []) [] [] [] 0 _ b b q q
        refl (ap {B = Bytes} (λ u. 32 ∷ u) (ap print_number z ∙ sym (append-nil (print_number k)))) refl refl (waiting-shown t ws sp n 16 [] q (omega arith) tt tt e)

    entity-shown : (o : Entity) → EntityFits n o → length (encode_methods (entity_methods o)) ≤ bodies_size → length (queue o) ≤ 16
        → slot_in t a (series_bit s) (slot n o ++ w) (encode_methods (entity_methods o) ++ b) (flat encode_message (queue o) ++ q)
        ≡ entry (print_entity ws o (print_number a) (print_series s) (print_number n)) b q
    unfolding entity_methods queue flat encode_methods
    entity-shown (object g F M) h l k = object-shown g F M h l
    entity-shown (future none p) h l k = open-shown p (each_map _ MessageFits (λ m i. i.0) p h) (queue-at n (future none p) h) k
    entity-shown (future (some v) p) h l k =
        transp (λ p. slot_in t a (series_bit s) (slot n (future (some v) p) ++ w) b (flat encode_message p ++ q) ≡ entry (print_entity ws (future (some v) p) (print_number a) (print_series s) (print_number n)) b q)
        (sym h.1) (value-shown v h.0)
    entity-shown (resolver k) h l i = resolver-shown k h

  -- ---- all entities of a series
  pub entities-shown : (n : ℕ) (h : List Entity) (w b q : List ℕ) → EntitiesFit n h → length (bodies h) ≤ bodies_size → length (queues h) ≤ 16 → Quiet q
      → slots_in t a (series_bit s) (length h) (slots n h ++ w) (bodies h ++ b) (flat encode_message (queues h) ++ q) ≡ entry (print_entities ws a s n h) b q
  unfolding slots_in slots bodies queues flat print_entities
  entities-shown n [] w b q f l k i = refl
  entities-shown n (o ∷ h) w b q f l k i =
      let x = length-append (encode_methods (entity_methods o)) (bodies h) in
      let y = length-append (queue o) (queues h) in
      let e1 = append_assoc (slot n o) (slots (suc n) h) w in
      let e2 = append_assoc (encode_methods (entity_methods o)) (bodies h) b in
      let e3 = ap {B = List ℕ} (λ u. u ++ q) (flat_append encode_message (queue o) (queues h)) ∙ append_assoc (flat encode_message (queue o)) (flat encode_message (queues h)) q in
      let z = later-waits n (queues h) q (queues-fit (suc n) h f.1) (queues-from (suc n) h f.1) i in
      rw (e1, e2, e3, entity-shown n (slots (suc n) h ++ w) (bodies h ++ b) (flat encode_message (queues h) ++ q) z o f.0 (omega arith) (omega arith), drop_at (slot n o) (slots (suc n) h ++ w) 8 (slot-length n o f.0), entities-shown (suc n) h w b q f.1 (omega arith) (omega arith) i)
