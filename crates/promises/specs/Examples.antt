-- The worked example K1 through the six calls, computed, and each cause of a lent list in its place; and that each part of what two lists of
-- calls agree in is asked for. So no law of the calls is about nothing. Assumes nothing.
use Rattle.std.specs.Prelude.{ℕ, ◌+◌, ◌-◌, true, List, [], ◌∷◌, ◌≡◌, refl, length, replicate, get_or, if◌then◌else◌}
use Rattle.std.proofs.Common.{ap, arith}
use Rattle.atlite.specs.Base.{done, refused, bytes, same_bytes}
use Rattle.atlite.specs.Move.{Inner, Sent, Created}
use Rattle.atlite.specs.Loops.{All}
use Rattle.atlite.specs.Examples.{Example, row, K1, scheduled}
use Rattle.atlite.specs.Valid.{Valid}
use Rattle.decoding.specs.ValidTest.{ValidTest}
use Rattle.layout.specs.Numbers.{state_words, table_words}
use Rattle.layout.specs.Pack.{Pack}
use Rattle.layout.specs.Terms.{Terms·all}
use Rattle.layout.specs.Layout.{Layout}
use Rattle.layout.specs.Tables.{Tables}
use Rattle.decoding.specs.Reading.{Reading}
use Rattle.decoding.specs.TermReading.{TermReading}
use Rattle.decoding.specs.Decode.{Decode}
use Rattle.decoding.specs.TableReading.{TableReading}
use Rattle.promises.specs.Meaning.{Meaning, Reply, read_call, print_call, load_call, move_call, run_call, list_call}
use Rattle.promises.specs.Claim.{Claim, event, Agree}

unfoldable pub Everything : Unit {0}
unfolding All Valid ValidTest row Pack Terms·all Layout Tables Reading TermReading Decode TableReading Meaning scheduled
Everything = tt

-- ---- the calls, one after another, on buffers longer than published
unfoldable pub read_text : Example → List ℕ
read_text k = (read_call (bytes k.script) (replicate (table_words + 1) 7)).buffer

unfoldable pub loaded : Example → List ℕ
loaded k = (load_call (read_text k) (replicate (state_words + 1) 7)).buffer

unfoldable pub played : Example → List ℕ
played k = (run_call (loaded k) (scheduled (bytes k.schedule))).buffer

-- what they list is the example's listing, and what print gives is its text
k1-listed : same_bytes (list_call (played K1) (replicate (length (bytes K1.final)) 0)).buffer (bytes K1.final) ≡ true
unfolding Everything read_text loaded played K1
k1-listed = refl

k1-printed : same_bytes (print_call (read_text K1) (replicate (length (bytes K1.script)) 0)).buffer (bytes K1.script) ≡ true
unfolding Everything read_text K1
k1-printed = refl

unfoldable cause_of : {A : Type 0} → Reply A → ℕ
cause_of R = elim R.result [ done a ↦ 0 | refused n ↦ n ]

-- short lists before all else, then words that are nothing, then the call's own causes, and last a text that does not fit
causes : cause_of (read_call [] (replicate (table_words - 1) 0))
    ∷ cause_of (read_call [] (replicate table_words 0))
    ∷ cause_of (read_call (bytes K1.script) (replicate table_words 0))
    ∷ cause_of (print_call (replicate table_words 0) [])
    ∷ cause_of (print_call (read_text K1) [])
    ∷ cause_of (load_call (replicate (table_words - 1) 0) [])
    ∷ cause_of (load_call (replicate table_words 0) [])
    ∷ cause_of (load_call (replicate table_words 0) (replicate state_words 0))
    ∷ cause_of (load_call (read_text K1) (replicate state_words 0))
    ∷ cause_of (move_call (replicate (state_words - 1) 0) 0)
    ∷ cause_of (move_call (replicate state_words 0) 0)
    ∷ cause_of (move_call (loaded K1) 1)
    ∷ cause_of (list_call (loaded K1) [])
    ∷ [] ≡ 6 ∷ 1 ∷ 0 ∷ 7 ∷ 6 ∷ 6 ∷ 6 ∷ 7 ∷ 0 ∷ 6 ∷ 7 ∷ 8 ∷ 6 ∷ []
unfolding Everything read_text loaded K1 cause_of
causes = refl

-- a call that is refused leaves the list that it would write
refused-leaves : (list_call (replicate state_words 0) (1 ∷ 2 ∷ [])).buffer ≡ 1 ∷ 2 ∷ []
unfolding Everything
refused-leaves = refl

-- ---- each part of what two lists agree in
-- one move more
moves-matter : Agree (event 0 Inner ∷ []) [] → ⊥
unfolding Claim
moves-matter h = let e : ◌≡◌ {A = ℕ} 1 0 = h.moves 0 in omega arith

-- the same moves, and two senders to one inbox in another order
senders-matter : Agree (event 0 (Sent 2) ∷ event 1 (Sent 2) ∷ []) (event 1 (Sent 2) ∷ event 0 (Sent 2) ∷ []) → ⊥
unfolding Claim
senders-matter h = let e : ◌≡◌ {A = ℕ} 0 1 = ap (λ l. get_or l 0 0) (h.order 2) in omega arith

-- the same moves, and two creators in another order
creators-matter : Agree (event 0 (Created 2) ∷ event 1 (Created 3) ∷ []) (event 1 (Created 2) ∷ event 0 (Created 3) ∷ []) → ⊥
unfolding Claim
creators-matter h = let e : ◌≡◌ {A = ℕ} 0 1 = ap (λ l. get_or l 0 0) h.makers in omega arith
