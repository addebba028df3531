-- Every word of a state is below 2^32. By induction along the layout. Assumes nothing.
use Rattle.std.specs.Prelude.{ℕ, zero, suc, ◌+◌, ◌-◌, ◌*◌, ◌≤◌, ◌<◌, ◌/◌, ◌^◌, List, [], ◌∷◌, ◌++◌, length}
use Rattle.std.proofs.Math.Option.{none, some}
use Rattle.std.proofs.Common.{mod-lt, div-lt_iff_lt-mul, arith, length-append}
use Rattle.atlite.specs.Term.{made, copied, Value, null, num, ref, Name, Op, Term, val, var, op, let_in, future, literal, Terms, nil, cons, Inits, no_field, Methods, no_method, method, count_terms, shape}
use Rattle.atlite.specs.State.{Message, message, field, Entity, object, resolver, Actor, State, field_names, field_values}
use Rattle.atlite.specs.Valid.{IsState}
use Rattle.layout.specs.Numbers.{payload, name_limit, number_limit, digit_limit, expr_at, expr_size, queue_size, made_size, copied_size, bodies_size, rest_size, head_size, parts_size, tail_size}
use Rattle.layout.specs.Pack.{node, zeros, pad, flat}
use Rattle.layout_laws.specs.PackLaws.{Each, each_map, NameFits, names-small, places-small}
use Rattle.layout.specs.Terms.{count_inits, count_methods, encode_value, asked, op_kind, op_payload, kind_number, field_header, method_header, encode_term, encode_terms, encode_inits, encode_methods}
use Rattle.layout_laws.specs.KindRows.{op-kind, kind-small}
use Rattle.layout_laws.specs.TermLaws.{ValueFits, NameOk, OpFits, Fits, FitsAll, FitsInits, FitsMethods}
use Rattle.layout_laws.specs.TermReads.{bit, asked-small, label_small}
use Rattle.layout.specs.Layout.{value_words, encode_message, slot_head, tag_number, slot, slots, entity_methods, bodies, queues, encode_actor, bytes_number, three_words, encode_word, encode}
use Rattle.layout_laws.specs.Slots.{MessageFits, EntityFits, EntitiesFit, count-names, tag-low, fits-of, queues-fit}
use Rattle.layout_laws.specs.Parts.{ActorFits}
use Rattle.layout_laws.specs.StateReads.{ByteFits, WordFits}
use Rattle.layout_laws.specs.StateFits.{state-fits}

abbrev pub Small : List ℕ → Type 0
Small l = Each (λ x. x < 4294967296) l

pub both : (l r : List ℕ) → Small l → Small r → Small (l ++ r)
both [] r h k = k
both (x ∷ l) r h k = (h.0, both l r h.1 k)

pub zeros-small : (n : ℕ) → Small (zeros n)
unfolding zeros
zeros-small zero = tt
zeros-small (suc n) = (omega arith, zeros-small n)

pub pad-small : (n : ℕ) (l : List ℕ) → Small l → Small (pad n l)
unfolding pad
pad-small n l h = both l (zeros (n - length l)) h (zeros-small (n - length l))

pub flat-small : {A : Type 0} (g : A → List ℕ) (xs : List A) → Each (λ x. Small (g x)) xs → Small (flat g xs)
unfolding flat
flat-small g [] h = tt
flat-small g (x ∷ xs) h = both (g x) (flat g xs) h.0 (flat-small g xs h.1)

-- ---- terms
pub node-small : (k p : ℕ) → k < 256 → p < payload → node k p < 4294967296
node-small k p h l = omega arith

value-small : (v : Value) → ValueFits v → encode_value v < 4294967296
unfolding encode_value
value-small null h = omega arith
value-small (num n) h = omega arith
value-small (ref a s n) h = omega (arith, h, bit s)

pub method-small : (m : ℕ) (xs : List ℕ) → NameFits m → Each NameFits xs → length xs ≤ 3 → method_header m xs < 4294967296
unfolding method_header
method-small m xs h g l = omega (arith, h, places-small xs l g)

pub header-small : (f : ℕ) → NameFits f → field_header f < 4294967296
header-small f h = omega (arith, h)

pub name-small : (k x : ℕ) → k < 256 → NameFits x → node k x < 4294967296
name-small k x h l = node-small k x h (omega (arith, l))

pub asked-word : (k : ℕ) (m : Name) (n : ℕ) → k < 256 → NameOk m → n < 8 → node k (asked m n) < 4294967296
asked-word k m n h l g = node-small k (asked m n) h (omega (arith, asked-small m n l g))

pub op-word : (o : Op Name) (n : ℕ) → OpFits o n → node (op_kind o) (op_payload o n) < 4294967296
op-word o n h = node-small (op_kind o) (op_payload o n) (omega (arith, (op-kind o).1)) (label_small (shape o) n h)

mutual
  unfolding encode_term Fits

  term-small : (e : Term) → Fits e → Small (encode_term e)
  term-small (val v) h = (value-small v h, tt)
  term-small (var x) h = (name-small 6 x (omega arith) h, tt)
  term-small (op o es) h = (op-word o (count_terms es) h.0, terms-small es h.1)
  term-small (let_in x a b) h = (name-small 11 x (omega arith) h.0, both (encode_term a) (encode_term b) (term-small a h.1) (term-small b h.2))
  term-small (future x y e) h =
      (node-small 12 (x + name_limit * y) (omega arith) (omega (arith, h.0, h.1)), term-small e h.2)
  term-small (literal k fs ms) h =
      let i = h.0 in
      let j = h.1 in
      (node-small (kind_number k) (count_inits fs + digit_limit * count_methods ms) (omega (arith, kind-small k)) (omega arith), both (encode_inits fs) (encode_methods ms) (inits-small fs h.2) (methods-small ms h.3))

  terms-small : (es : Terms) → FitsAll es → Small (encode_terms es)
  terms-small nil h = tt
  terms-small (cons e es) h = both (encode_term e) (encode_terms es) (term-small e h.0) (terms-small es h.1)

  inits-small : (fs : Inits) → FitsInits fs → Small (encode_inits fs)
  inits-small no_field h = tt
  inits-small (Inits.field f e fs) h = (header-small f h.0, both (encode_term e) (encode_inits fs) (term-small e h.1) (inits-small fs h.2))

  methods-small : (ms : Methods) → FitsMethods ms → Small (encode_methods ms)
  methods-small no_method h = tt
  methods-small (method m xs e ms) h = (method-small m xs h.0 h.1 h.2, both (encode_term e) (encode_methods ms) (term-small e h.3) (methods-small ms h.4))

-- ---- messages and slots
values-small : (vs : List Value) → Each ValueFits vs → Small (value_words vs)
unfolding value_words
values-small [] h = tt
values-small (v ∷ vs) h = (value-small v h.0, values-small vs h.1)

message-small : (m : Message) → MessageFits m → Small (encode_message m)
unfolding encode_message
message-small (message v m vs) h =
    pad-small 6 _ (asked-word 14 m (length vs) (omega arith) h.1 (omega (arith, h.2)), (value-small v h.0, values-small vs h.3))

head_small : (k f m n : ℕ) → k < 8 → f < 8 → m < 8 → n < number_limit → slot_head k f m n < 4294967296
unfolding slot_head
head_small k f m n a b c d = omega arith

slot_small : (n : ℕ) (o : Entity) → n < number_limit → length (encode_methods (entity_methods o)) ≤ bodies_size → EntityFits n o → Small (slot n o)
unfolding slot entity_methods
slot_small n (object t F M) l b h = (
  head_small (tag_number t) (length F) (count_methods M) n (tag-low t) (omega (arith, h.0.0)) (omega (arith, h.1)) l,
  (
    omega (arith, names-small (field_names F) (omega (arith, h.0.0, count-names F)) h.0.1),
    both (pad 4 (value_words (field_values F))) (length (encode_methods M) ∷ 0 ∷ []) (pad-small 4 _ (values-small (field_values F) h.0.2)) (omega arith, (omega arith, tt)),
  ),
)
slot_small n (Entity.future none q) l b h =
    (head_small 3 0 0 n (omega arith) (omega arith) (omega arith) l, (omega arith, (omega arith, (omega arith, (omega arith, (omega arith, (omega arith, (omega arith, tt))))))))
slot_small n (Entity.future (some v) q) l b h =
    (head_small 4 0 0 n (omega arith) (omega arith) (omega arith) l, (omega arith, (value-small v h.0, (omega arith, (omega arith, (omega arith, (omega arith, (omega arith, tt))))))))
slot_small n (resolver k) l b h =
    (head_small 5 0 0 n (omega arith) (omega arith) (omega arith) l, (omega arith, (omega arith, (omega arith, (omega arith, (omega arith, (omega arith, (omega arith, tt))))))))

slots_small : (n : ℕ) (h : List Entity) → n + length h ≤ number_limit → length (bodies h) ≤ bodies_size → EntitiesFit n h → Small (slots n h)
unfolding slots bodies
slots_small n [] l b f = tt
slots_small n (o ∷ h) l b f =
    let e = length-append (encode_methods (entity_methods o)) (bodies h) in
    both (slot n o) (slots (suc n) h) (slot_small n o (omega arith) (omega arith) f.0) (slots_small (suc n) h (omega arith) (omega arith) f.1)

bodies-small : (n : ℕ) (h : List Entity) → EntitiesFit n h → Small (bodies h)
unfolding bodies
bodies-small n [] f = tt
bodies-small n (o ∷ h) f = both (encode_methods (entity_methods o)) (bodies h) (methods-small (entity_methods o) (fits-of n o f.0)) (bodies-small (suc n) h f.1)

-- ---- actors
actor-small : (A : Actor) → ActorFits A → Small (encode_actor A)
unfolding encode_actor
actor-small A f =
    let ab = length-append (bodies A.made) (bodies A.copied) in
    let bw = f.body_words in
    let mv = f.moves_fit in
    let c1 = f.made_count in
    let c2 = f.copied_count in
    let c3 = f.inbox_count in
    let c4 = f.waiting_count in
    let c5 = f.expression_words in
    both (pad expr_at _) _ (pad-small 16 _ (omega arith, (omega arith, (omega arith, (omega arith, (omega arith, (omega arith, tt)))))))
    (both (pad expr_size _) _ (pad-small expr_size _ (term-small A.expr f.expression))
    (both (pad queue_size _) _ (pad-small queue_size _ (flat-small encode_message A.inbox (each_map MessageFits (λ m. Small (encode_message m)) message-small A.inbox f.inbox_fits)))
    (both (pad queue_size _) _ (pad-small queue_size _ (flat-small encode_message (queues A.made) (each_map MessageFits (λ m. Small (encode_message m)) message-small (queues A.made) (queues-fit 0 A.made f.made_fits))))
    (both (pad made_size _) _ (pad-small made_size _ (slots_small 0 A.made (omega arith) (omega arith) f.made_fits))
    (both (pad copied_size _) _ (pad-small copied_size _ (slots_small 0 A.copied (omega arith) (omega arith) f.copied_fits))
    (both (pad bodies_size _) _ (pad-small bodies_size _ (both (bodies A.made) (bodies A.copied) (bodies-small 0 A.made f.made_fits) (bodies-small 0 A.copied f.copied_fits)))
    (zeros-small rest_size)))))))

-- ---- the dictionary
bytes-bound : (k : ℕ) (bs : List ℕ) → length bs ≤ k → Each ByteFits bs → bytes_number bs < 256 ^ k
unfolding bytes_number
bytes-bound zero [] l h = omega arith
bytes-bound zero (b ∷ bs) l h = absurd (omega arith)
bytes-bound (suc k) [] l h = let i = bytes-bound k [] (omega arith) tt in omega arith
bytes-bound (suc k) (b ∷ bs) l h = let i = bytes-bound k bs (omega arith) h.1 in omega (arith, h.0)

pub word_small : (bs : List ℕ) → WordFits bs → Small (encode_word bs)
unfolding encode_word three_words
word_small bs h =
    let n = bytes_number bs in
    let p : 0 < 4294967296 = omega arith in
    let b : n < 79228162514264337593543950336 = bytes-bound 12 bs h.0 h.1 in
    let d : n / 4294967296 < 18446744073709551616 = (div-lt_iff_lt-mul p).1 b in
    (mod-lt n p, (mod-lt (n / 4294967296) p, ((div-lt_iff_lt-mul p).1 d, tt)))

pub words_small : (σ : State) → IsState σ → Small (encode σ)
unfolding encode
words_small σ h =
    let f = state-fits σ h in
    let c1 = f.actor_count in
    let c2 = f.word_count in
    both (pad head_size _) _ (pad-small head_size _ (omega arith, (omega arith, flat-small encode_word σ.words (each_map WordFits (λ w. Small (encode_word w)) word_small σ.words f.words_fit))))
    (both (pad parts_size _) _ (pad-small parts_size _ (flat-small encode_actor σ.actors (each_map ActorFits (λ A. Small (encode_actor A)) actor-small σ.actors f.actors_fit))) (zeros-small tail_size))
