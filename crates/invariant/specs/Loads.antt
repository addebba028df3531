-- Loading the table of an accepted text leaves a state. The start is one actor with nothing in its heap and inbox, so that only its
-- expression is to be looked at: it is the expanded script, well formed with `this` alone in scope, which null then takes the place
-- of. Assumes nothing.
use Rattle.std.specs.Prelude.{◌≡◌, refl, Bool, true, false, List, [], ◌∷◌, ℕ, ◌≤◌, length}
use Rattle.std.proofs.Common.{subst as transp, arith}
use Rattle.std.proofs.lemmas.Bool.{false≢true}
use Rattle.atlite.specs.Base.{Result, done, refused, ◌>>=◌, ◌>>◌, require}
use Rattle.atlite.specs.Term.{this, Value, null, num, ref, val, Term}
use Rattle.atlite.specs.Subst.{subst}
use Rattle.atlite.specs.State.{State, is_future}
use Rattle.atlite.specs.Expansion.{expand}
use Rattle.atlite.specs.Limits.{full, within_limits}
use Rattle.atlite.specs.Valid.{unreferring, words_hold, WellFormed, MayHold, IsState, IsActor}
use Rattle.atlite.specs.Table.{Grammatical, GrammaticalLines, IsTable, Table}
use Rattle.atlite.specs.Script.{seq, Src, nil, cons, Line, expression, define, count_srcs, join}
use Rattle.atlite.specs.Scope.{bound, single}
use Rattle.atlite.specs.Lexicon.{Bytes}
use Rattle.atlite.specs.Load.{start, load}
use Rattle.atlite_laws.specs.Facts.{refused-done, none-some}
use Rattle.reading.specs.Exact.{table-count, table-words}
use Rattle.invariant.specs.Terms.{put_first}
use Rattle.invariant.specs.Entries.{each-one}
use Rattle.invariant.specs.ExpandedForms.{Plain, expanded}

-- lines of the grammar are joined to a script of the grammar
pub joined : (w : ℕ) (ls : List Line) (e : Src) → GrammaticalLines w ls → join ls ≡ done e → Grammatical w e
unfolding join GrammaticalLines Grammatical count_srcs
joined w [] e g h = absurd (refused-done h)
joined w (expression d ∷ []) e g h = let q : d ≡ e = cc in transp (Grammatical w) q g.0
joined w (define x d ∷ []) e g h = absurd (refused-done h)
joined w (expression d ∷ l ∷ ls) e g h = go (join (l ∷ ls)) (λ s. joined w (l ∷ ls) s g.1) h
  where
    go : (r : Result Src) → ((s : Src) → r ≡ done s → Grammatical w s) → (r >>= λ s. done (Src.op seq (cons d (cons s nil)))) ≡ done e → Grammatical w e
    go (refused n) i k = absurd (refused-done k)
    go (done s) i k = let q : Src.op seq (cons d (cons s nil)) ≡ e = cc in transp (Grammatical w) q (refl, (g.0, (i s refl, tt)))
joined w (define x d ∷ l ∷ ls) e g h = go (join (l ∷ ls)) (λ s. joined w (l ∷ ls) s g.2) h
  where
    go : (r : Result Src) → ((s : Src) → r ≡ done s → Grammatical w s) → (r >>= λ s. done (Src.let_in x d s)) ≡ done e → Grammatical w e
    go (refused n) i k = absurd (refused-done k)
    go (done s) i k = let q : Src.let_in x d s ≡ e = cc in transp (Grammatical w) q (g.0, g.1, i s refl)

-- what has no reference may be held by every actor
plain-held : (σ : State) (a : ℕ) → Plain (MayHold σ a)
unfolding unreferring
plain-held σ a null h = tt
plain-held σ a (num n) h = h
plain-held σ a (ref b r n) h = absurd (false≢true h)

-- the script with null for `this` is closed
pub script-closed : (w : ℕ) (P : Value → Type 0) (e : Src) → Plain P → Grammatical w e → bound [] e ≡ true → single e ≡ true → WellFormed (subst this (val null) (expand e)) w P []
unfolding unreferring
script-closed w P e p g b s = put_first (expand e) w P this (val null) [] (p null refl) (expanded e w P [] (this ∷ []) p (λ z h. h) g b s)

-- an actor with nothing but an expression
fresh : {w : ℕ} {P : Value → Type 0} {φ : Value → Bool} {a : ℕ} {e : Term} → WellFormed e w P []
    → IsActor w P φ a (record { moves = 0; made = []; copied = []; inbox = []; expr = e })
fresh h = record { made = λ n o e. absurd (none-some e); copied = λ n o e. absurd (none-some e); inbox = tt; expr = h }

start-keeps : (ws : List Bytes) (e : Src) → length ws ≤ 64 → words_hold ws ≡ true → Grammatical (length ws) e → bound [] e ≡ true → single e ≡ true
    → within_limits full (start ws (expand e)).actors ≡ true → IsState (start ws (expand e))
unfolding start
start-keeps ws e l h g b s m =
    let σ = start ws (expand e) in
    let k = script-closed (length ws) (MayHold σ 0) e (plain-held σ 0) g b s in
    record { few = l; words = h; started = omega arith; limits = m; actors = each-one (λ a. IsActor (length ws) (MayHold σ a) (is_future σ) a) _ (fresh k) }

-- what load gives is the start of the joined lines, within the limits
load-start : (T : Table) (σ : State) (e : Src) → join T.lines ≡ done e → load T ≡ done σ
    → (within_limits full (start T.words (expand e)).actors ≡ true) × (start T.words (expand e) ≡ σ)
unfolding load require
load-start T σ e j h = go (within_limits full (start T.words (expand e)).actors) refl (rw j at h)
  where
    go : (b : Bool) → within_limits full (start T.words (expand e)).actors ≡ b → (require 16 b >> done (start T.words (expand e))) ≡ done σ
        → (within_limits full (start T.words (expand e)).actors ≡ true) × (start T.words (expand e) ≡ σ)
    go true m k = let q : start T.words (expand e) ≡ σ = cc in (m, q)
    go false m k = absurd (refused-done k)

pub load-keeps : (T : Table) (σ : State) → IsTable T → load T ≡ done σ → IsState σ
load-keeps T σ I h =
    let e = I.script in
    let (m, q) = load-start T σ e I.joined h in
    let g = joined (length T.words) T.lines e I.grammar I.joined in
    transp IsState q (start-keeps T.words e (table-count T I) (table-words T I) g I.binding I.lists m)
