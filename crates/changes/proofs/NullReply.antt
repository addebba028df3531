-- Request P1, null as a reply: a move that was made before is made as before, and what was refused before is refused as before, but for the .register
-- of null, which was refused with 10. By the rule of send before the request, and a rule by any rule of send (`specs/NullReply`). Assumes nothing.
use Rattle.std.specs.Prelude.{ℕ, ◌≡◌, Bool, List, [], ◌∷◌, if◌then◌else◌}
use Rattle.std.proofs.Math.Path.{refl}
use Rattle.std.proofs.Common.{sym, ap, ◌∙◌, subst as transp}
use Rattle.std.proofs.Math.Bool.{true, false}
use Rattle.std.proofs.Math.Option.{Option, none, some}
use Rattle.std.proofs.Math.ListN.{get_elem?}
use Rattle.atlite.specs.Base.{Result, done, refused, ◌>>=◌, or_refuse}
use Rattle.atlite_laws.specs.Facts.{refused-done}
use Rattle.atlite.specs.Term.{Value, null, num, ref, Name, plain, two_way, resolve, register, Op, send, Term, op, Terms, values_of, is_value}
use Rattle.atlite.specs.State.{Actor, State}
use Rattle.atlite.specs.Redex.{redex}
use Rattle.atlite.specs.Rules.{ownerless_rule, send_rule, receiver_of, operate, rule}
use Rattle.atlite.specs.Limits.{Bounds, full}
use Rattle.atlite.specs.Move.{Answer, AfterMove, limited, move_within, move}
use Rattle.layout_laws.specs.KindRows.{Row, is_bare, is_field, is_call, is_send, row}
use Rattle.layout.specs.Layout.{encode}
use Rattle.promises.specs.Meaning.{Reply, answered, lent, move_call}
use Rattle.changes.specs.MoveBy.{turn_by, move_by, move_call_by, redex-agrees, present, by_message, each-rule, rule-present}
use Rattle.changes.specs.NullReply.{operate_by, rule_by, send_before, Was, same, stopped, RegistersNull, NullAsked}

-- ---- by the present rule of send it is the present rule
operate-now : (s : List Actor) (a : ℕ) (A : Actor) (o : Op Name) (es : Terms) → operate_by send_rule s a A o es ≡ present s a A o es
unfolding operate_by by_message operate
operate-now s a A o es = go (row o)
  where
    go : {o : Op Name} → Row o → operate_by send_rule s a A o es ≡ present s a A o es
    go (is_bare o n e f w) = rw e.1
    go (is_field c k n e f i w) = rw (e.0 f).1
    go (is_call m) = refl
    go (is_send m) = refl

rule-now : (s : List Actor) (a : ℕ) (A : Actor) (e : Term) → rule_by send_rule s a A e ≡ rule s a A e
rule-now s a A e = each-rule (operate_by send_rule) present (λ e r u. r ≡ u) s a A (λ e r. refl) (operate-now s a A) e ∙ rule-present s a A e

pub send-now : (B : Bounds) (σ : State) (a : ℕ) → move_by (rule_by send_rule) B σ a ≡ move_within B σ a
send-now B σ a = redex-agrees (rule_by send_rule) B σ a λ A h. rule-now σ.actors a A (redex A.expr)

-- ---- what was: the same, or a refusal with 10 where P holds
was-then : {P A B : Type 0} (old new : Result A) (f : A → Result B) → Was P old new → Was P (old >>= f) (new >>= f)
was-then old new f (same e) = same (ap (λ r. r >>= f) e)
was-then old new f (stopped p e) = stopped p (ap (λ r. r >>= f) e)

was-where : {P Q A : Type 0} (old new : Result A) → (P → Q) → Was P old new → Was Q old new
was-where old new g (same e) = same e
was-where old new g (stopped p e) = stopped (g p) e

send-was : (s : List Actor) (a : ℕ) (A : Actor) (v : Value) (m : Name) (vs : List Value) → Was ((v ≡ null) × (m ≡ register)) (send_before s a A v m vs) (send_rule s a A v m vs)
unfolding send_before send_rule ownerless_rule
send-was s a A null (plain m) vs = same refl
send-was s a A null (two_way m) vs = same refl
send-was s a A null resolve vs = same refl
send-was s a A null register vs = stopped (refl, refl) refl
send-was s a A (num n) (plain m) vs = same refl
send-was s a A (num n) (two_way m) vs = same refl
send-was s a A (num n) resolve vs = same refl
send-was s a A (num n) register vs = same refl
send-was s a A (ref b r n) m vs = same refl

operate-was : (s : List Actor) (a : ℕ) (A : Actor) (es : Terms) {o : Op Name} → Row o → Was (RegistersNull (op o es)) (operate_by send_before s a A o es) (operate_by send_rule s a A o es)
unfolding operate_by by_message receiver_of
operate-was s a A es (is_bare o n e f w) = rw e.1 (same refl)
operate-was s a A es (is_field c k n e f i w) = rw (e.0 f).1 (same refl)
operate-was s a A es (is_call m) = same refl
operate-was s a A es (is_send m) = go (values_of es) refl
  where
    go : (vs : List Value) → values_of es ≡ vs → Was (RegistersNull (op (send m) es)) (receiver_of vs >>= λ (v, us). send_before s a A v m us) (receiver_of vs >>= λ (v, us). send_rule s a A v m us)
    go [] e = same refl
    go (v ∷ us) e = was-where (send_before s a A v m us) (send_rule s a A v m us) (λ p. record { parts = es; others = us; is = ap (λ k. op (send k) es) p.1; first = e ∙ ap (λ x. x ∷ us) p.0 }) (send-was s a A v m us)

rule-was : (s : List Actor) (a : ℕ) (A : Actor) (e : Term) → Was (RegistersNull e) (rule_by send_before s a A e) (rule_by send_rule s a A e)
rule-was s a A e = each-rule (operate_by send_before) (operate_by send_rule) (λ e. Was (RegistersNull e)) s a A (λ e r. same refl) (λ o es. operate-was s a A es (row o)) e

-- ---- the move
module _ (B : Bounds) (σ : State) (a : ℕ) where
  turn-was : (A : Actor) → get_elem? σ.actors a ≡ some A → (b : Bool) → is_value A.expr ≡ b → Was (NullAsked σ a) (turn_by (rule_by send_before) σ.actors a A) (turn_by (rule_by send_rule) σ.actors a A)
  unfolding turn_by
  turn-was A h true e = same (rw e)
  turn-was A h false e =
      let before = rule_by send_before σ.actors a A (redex A.expr) in
      let now = rule_by send_rule σ.actors a A (redex A.expr) in
      rw e (was-where before now (λ r. record { actor = A; here = h; busy = e; registers = r }) (rule-was σ.actors a A (redex A.expr)))

  by-was : Was (NullAsked σ a) (move_by (rule_by send_before) B σ a) (move_by (rule_by send_rule) B σ a)
  unfolding move_by or_refuse
  by-was = go (get_elem? σ.actors a) refl
    where
      go : (o : Option Actor) → get_elem? σ.actors a ≡ o → Was (NullAsked σ a) (or_refuse 8 o >>= λ A. (turn_by (rule_by send_before) σ.actors a A >>= limited B σ a)) (or_refuse 8 o >>= λ A. (turn_by (rule_by send_rule) σ.actors a A >>= limited B σ a))
      go none h = same refl
      go (some A) h = was-then (turn_by (rule_by send_before) σ.actors a A) (turn_by (rule_by send_rule) σ.actors a A) (limited B σ a) (turn-was A h (is_value A.expr) refl)

  -- each move answers and leaves what it did, refusals too, or is the .register of null, which was refused with 10
  pub move-was : Was (NullAsked σ a) (move_by (rule_by send_before) B σ a) (move_within B σ a)
  move-was = transp (Was (NullAsked σ a) (move_by (rule_by send_before) B σ a)) (send-now B σ a) by-was

  -- a move that was made is made
  pub made-as-before : (M : AfterMove) → move_by (rule_by send_before) B σ a ≡ done M → move_within B σ a ≡ done M
  made-as-before M e = go move-was
    where
      go : Was (NullAsked σ a) (move_by (rule_by send_before) B σ a) (move_within B σ a) → move_within B σ a ≡ done M
      go (same d) = sym d ∙ e
      go (stopped p d) = absurd (refused-done (sym d ∙ e))

-- ---- the call: the same answer and the same words
abbrev reply : List ℕ → Result AfterMove → Reply Answer
reply w R = answered w (R >>= λ M. done (M.answer, encode M.state))

reply-same : (w : List ℕ) (r : Answer) (old new : Result AfterMove) → ((M : AfterMove) → old ≡ done M → new ≡ done M) → (reply w old).result ≡ done r → reply w new ≡ reply w old
unfolding answered
reply-same w r (refused n) new h e = absurd (refused-done e)
reply-same w r (done M) new h e = ap (reply w) (h M refl)

pub call-as-before : (w : List ℕ) (a : ℕ) (r : Answer) → (move_call_by (rule_by send_before) w a).result ≡ done r → move_call w a ≡ move_call_by (rule_by send_before) w a
unfolding move_call_by move_call move
call-as-before w a r h = go (lent w) h
  where
    go : (L : Result State) → (answered w (L >>= λ σ. (move_by (rule_by send_before) full σ a >>= λ M. done (M.answer, encode M.state)))).result ≡ done r
        → answered w (L >>= λ σ. (move_within full σ a >>= λ M. done (M.answer, encode M.state))) ≡ answered w (L >>= λ σ. (move_by (rule_by send_before) full σ a >>= λ M. done (M.answer, encode M.state)))
    go (refused n) k = refl
    go (done σ) k = reply-same w r (move_by (rule_by send_before) full σ a) (move_within full σ a) (made-as-before full σ a) k
