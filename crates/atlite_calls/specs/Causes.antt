-- No call is refused with a number that is no cause, whatever it is lent: a returned 0 says that it was done, and no number is above 16.
-- Shown by going through the definitions once, line by line. Assumes nothing.
use Rattle.std.specs.Prelude.{ℕ, zero, suc, ◌+◌, ◌*◌, ◌/◌, ◌≡◌, refl, Bool, ◌&&◌, not, List, [], ◌∷◌, ◌++◌, length, eqb, leb, if◌then◌else◌}
use Rattle.std.proofs.Math.Bool.{true, false}
use Rattle.std.proofs.Math.Option.{Option, none, some}
use Rattle.std.proofs.Math.ListN.{get_elem?}
use Rattle.atlite.specs.Base.{Result, done, refused, ◌>>=◌, ◌>>◌, or_refuse, require}
use Rattle.atlite.specs.Term.{made, Series, Value, null, num, ref, Name, plain, two_way, resolve, register, Kind, isolate, actor, Op, plus, percent, choose, get, set, call, send, Term, val, var, op, let_in, literal, Terms, nil, cons, Inits, Methods, no_method, method, values_of, is_value, same_signature}
use Rattle.atlite.specs.State.{Message, message, Entity, object, future, resolver, Actor, State, with_inbox, field_of}
use Rattle.atlite.specs.Outcome.{Copy, entity, own_entity, names_future}
use Rattle.atlite.specs.Passing.{meet, reach, held_values, isolates_for}
use Rattle.atlite.specs.Rules.{one_of, pair_of, receiver_of, as_number, number, plus_rule, percent_rule, same_rule, choice, choose_rule, make_rule, new_rule, fields_of, get_rule, set_rule, methods_of, invoke, call_rule, future_rule, ownerless_rule, send_rule, resolves, open_future, resolve_rule, call_by_name, operate, rule}
use Rattle.atlite.specs.Redex.{redex}
use Rattle.atlite.specs.Move.{take_to, take_from, take_rule, turn, free, limited, move_within, move}

-- the numbers of document 01's table
abbrev pub is_cause : ℕ → Bool
is_cause n = leb 1 n && leb n 16

pub data Caused {A : Type 0} : Result A → Type 0 where
  fine : {x : A} → Caused (done x)
  stopped : {n : ℕ} → is_cause n ≡ true → Caused (refused n)

-- ---- how it goes through a `do`
pub asked : {A : Type 0} (n : ℕ) (o : Option A) → is_cause n ≡ true → Caused (or_refuse n o)
unfolding or_refuse
asked n none h = stopped h
asked n (some x) h = fine

module _ {B : Type 0} where
  pub next : {A : Type 0} {r : Result A} {f : A → Result B} → Caused r → ((x : A) → Caused (f x)) → Caused (r >>= f)
  next (fine {x}) k = k x
  next (stopped h) k = stopped h

  pub tested : (n : ℕ) (b : Bool) {s : Result B} → is_cause n ≡ true → Caused s → Caused (require n b >> s)
  unfolding require
  tested n true h k = k
  tested n false h k = stopped h

  pub either : (b : Bool) {r s : Result B} → Caused r → Caused s → Caused (if b then r else s)
  either true h k = h
  either false h k = k

-- ---- the rules of a move
entity-caused : (A : Actor) (s : Series) (n : ℕ) → Caused (entity A s n)
unfolding entity
entity-caused A s n = asked 12 _ refl

own-caused : (a : ℕ) (A : Actor) (v : Value) → Caused (own_entity a A v)
unfolding own_entity
own-caused a A null = stopped refl
own-caused a A (num n) = stopped refl
own-caused a A (ref b s n) = tested 11 (eqb a b) refl (entity-caused A s n)

number-caused : (A : Actor) (n : ℕ) → Caused (number A n)
unfolding number
number-caused A n = tested 15 _ refl fine

as-number-caused : (v : Value) → Caused (as_number v)
unfolding as_number
as-number-caused null = stopped refl
as-number-caused (num n) = fine
as-number-caused (ref b s n) = stopped refl

one-caused : (vs : List Value) → Caused (one_of vs)
unfolding one_of
one-caused [] = stopped refl
one-caused (v ∷ []) = fine
one-caused (v ∷ w ∷ vs) = stopped refl

pair-caused : (vs : List Value) → Caused (pair_of vs)
unfolding pair_of
pair-caused [] = stopped refl
pair-caused (v ∷ vs) = next (one-caused vs) λ w. fine

receiver-caused : (vs : List Value) → Caused (receiver_of vs)
unfolding receiver_of
receiver-caused [] = stopped refl
receiver-caused (v ∷ vs) = fine

new-caused : (s : List Actor) (a : ℕ) (A : Actor) (k : Kind) (fs : Inits) (ms : Methods) → Caused (new_rule s a A k fs ms)
unfolding new_rule make_rule
new-caused s a A Kind.object fs ms = fine
new-caused s a A isolate fs ms = fine
new-caused s a A actor fs ms = fine

fields-caused : (o : Entity) → Caused (fields_of o)
unfolding fields_of
fields-caused (object t F M) = fine
fields-caused (future v q) = stopped refl
fields-caused (resolver n) = stopped refl

get-caused : (a : ℕ) (A : Actor) (v : Value) (f : ℕ) → Caused (get_rule a A v f)
unfolding get_rule
get-caused a A v f = next (own-caused a A v) λ o. next (fields-caused o) λ F. next (asked 12 (field_of F f) refl) λ w. fine

set-caused : (a : ℕ) (A : Actor) (v : Value) (f : ℕ) (w : Value) → Caused (set_rule a A v f w)
unfolding set_rule
set-caused a A v f w = next (own-caused a A v) λ o. next (fields-caused o) λ F. next (asked 12 (field_of F f) refl) λ x. fine

methods-caused : (o : Entity) → Caused (methods_of o)
unfolding methods_of
methods-caused (object t F M) = fine
methods-caused (future v q) = stopped refl
methods-caused (resolver n) = stopped refl

invoke-caused : (M : Methods) (m : ℕ) (v : Value) (vs : List Value) → Caused (invoke M m v vs)
unfolding invoke
invoke-caused no_method m v vs = stopped refl
invoke-caused (method k xs e M) m v vs = either (same_signature (k, length xs) (m, length vs)) fine (invoke-caused M m v vs)

call-caused : (a : ℕ) (A : Actor) (v : Value) (m : ℕ) (vs : List Value) → Caused (call_rule a A v m vs)
unfolding call_rule
call-caused a A v m vs = next (own-caused a A v) λ o. next (methods-caused o) λ M. next (invoke-caused M m v vs) λ e. fine

meet-caused : (a : ℕ) (A : Actor) (met : List Copy) (v : Value) → Caused (meet a A met v)
unfolding meet
meet-caused a A met null = fine
meet-caused a A met (num n) = fine
meet-caused a A met (ref b s n) = either (eqb a b) (next (entity-caused A s n) λ o. fine) fine

reach-caused : (k a : ℕ) (A : Actor) (met : List Copy) (vs : List Value) → Caused (reach k a A met vs)
unfolding reach
reach-caused zero a A met [] = fine
reach-caused zero a A met (v ∷ vs) = stopped refl
reach-caused (suc k) a A met [] = fine
reach-caused (suc k) a A met (v ∷ vs) = next (meet-caused a A met v) λ new. reach-caused k a A (met ++ new) (held_values new ++ vs)

ownerless-caused : (A : Actor) (v : Value) (m : Name) (vs : List Value) → Caused (ownerless_rule A v m vs)
unfolding ownerless_rule
ownerless-caused A v (plain m) vs = stopped refl
ownerless-caused A v (two_way m) vs = stopped refl
ownerless-caused A v resolve vs = stopped refl
ownerless-caused A v register vs = fine

send-caused : (s : List Actor) (a : ℕ) (A : Actor) (v : Value) (m : Name) (vs : List Value) → Caused (send_rule s a A v m vs)
unfolding send_rule isolates_for
send-caused s a A null m vs = ownerless-caused A null m vs
send-caused s a A (num n) m vs = ownerless-caused A (num n) m vs
send-caused s a A (ref b r n) m vs = tested 12 _ refl (next (either (eqb a b) fine (reach-caused 200 a A [] vs)) λ met. fine)

resolves-caused : (o : Entity) → Caused (resolves o)
unfolding resolves
resolves-caused (object t F M) = stopped refl
resolves-caused (future v q) = stopped refl
resolves-caused (resolver n) = fine

open-caused : (o : Entity) → Caused (open_future o)
unfolding open_future
open-caused (object t F M) = stopped refl
open-caused (future none q) = fine
open-caused (future (some v) q) = stopped refl
open-caused (resolver n) = stopped refl

future-caused : (s : List Actor) (v : Value) → Caused (names_future s v)
unfolding names_future
future-caused s null = fine
future-caused s (num n) = fine
future-caused s (ref b r n) = next (asked 12 (get_elem? s b) refl) λ B. next (entity-caused B r n) λ o. fine

resolve-caused : (s : List Actor) (a : ℕ) (A : Actor) (v : Value) (vs : List Value) → Caused (resolve_rule s a A v vs)
unfolding resolve_rule
resolve-caused s a A v vs = next (own-caused a A v) λ o. next (resolves-caused o) λ n. next (one-caused vs) λ w. next (entity-caused A made n) λ φ. next (open-caused φ) λ q. next (future-caused s w) λ f. tested 14 (not f) refl fine

name-caused : (s : List Actor) (a : ℕ) (A : Actor) (v : Value) (m : Name) (vs : List Value) → Caused (call_by_name s a A v m vs)
unfolding call_by_name
name-caused s a A v (plain m) vs = call-caused a A v m vs
name-caused s a A v (two_way m) vs = stopped refl
name-caused s a A v resolve vs = resolve-caused s a A v vs
name-caused s a A v register vs = stopped refl

choice-caused : (es : Terms) → Caused (choice es)
unfolding choice
choice-caused nil = stopped refl
choice-caused (cons c nil) = stopped refl
choice-caused (cons c (cons d nil)) = stopped refl
choice-caused (cons c (cons d (cons e nil))) = fine
choice-caused (cons c (cons d (cons e (cons x es)))) = stopped refl

operate-caused : (s : List Actor) (a : ℕ) (A : Actor) (o : Op Name) (vs : List Value) (es : Terms) → Caused (operate s a A o vs es)
unfolding operate plus_rule percent_rule same_rule choose_rule
operate-caused s a A plus vs es = next (pair-caused vs) λ p. next (as-number-caused p.0) λ m. next (as-number-caused p.1) λ n. number-caused A (m + n)
operate-caused s a A percent vs es = next (pair-caused vs) λ p. next (as-number-caused p.0) λ m. next (as-number-caused p.1) λ n. number-caused A (m * n / 100)
operate-caused s a A Op.same vs es = next (pair-caused vs) λ p. number-caused A _
operate-caused s a A choose vs es = next (choice-caused es) λ e. fine
operate-caused s a A (get f) vs es = next (one-caused vs) λ v. get-caused a A v f
operate-caused s a A (set f) vs es = next (pair-caused vs) λ p. set-caused a A p.0 f p.1
operate-caused s a A (call m) vs es = next (receiver-caused vs) λ p. name-caused s a A p.0 m p.1
operate-caused s a A (send m) vs es = next (receiver-caused vs) λ p. send-caused s a A p.0 m p.1

rule-caused : (s : List Actor) (a : ℕ) (A : Actor) (e : Term) → Caused (rule s a A e)
unfolding rule future_rule
rule-caused s a A (val v) = stopped refl
rule-caused s a A (var x) = stopped refl
rule-caused s a A (op o es) = operate-caused s a A o (values_of es) es
rule-caused s a A (let_in x e d) = fine
rule-caused s a A (Term.future x y e) = fine
rule-caused s a A (literal k fs ms) = new-caused s a A k fs ms

take-to-caused : (A : Actor) (o : Entity) (v : Value) (m : Name) (vs : List Value) → Caused (take_to A o v m vs)
unfolding take_to
take-to-caused A (object t F M) v m vs = fine
take-to-caused A (resolver n) v m vs = fine
take-to-caused A (future none q) v m vs = fine
take-to-caused A (future (some w) q) v m vs = fine

take-caused : (a : ℕ) (A : Actor) (q : List Message) → Caused (take_rule a A q)
unfolding take_rule take_from
take-caused a A [] = stopped refl
take-caused a A (message v m vs ∷ q) = next (own-caused a (with_inbox A q) v) λ o. take-to-caused (with_inbox A q) o v m vs

pub move-caused : (σ : State) (a : ℕ) → Caused (move σ a)
unfolding move move_within free turn limited
move-caused σ a = next (next (asked 8 (get_elem? σ.actors a) refl) λ A. either (is_value A.expr) (take-caused a A A.inbox) (rule-caused σ.actors a A (redex A.expr))) λ E. tested 16 _ refl fine
