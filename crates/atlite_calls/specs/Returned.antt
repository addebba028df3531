-- What a returned number can be, of each call and whatever it is lent: 0 only where it was done, and never above 16. Assumes nothing.
use Rattle.std.specs.Prelude.{ℕ, ◌≤◌, ◌≡◌, refl, true, List, leb}
use Rattle.std.proofs.Common.{arith, leb-true}
use Rattle.atlite.specs.Base.{Result, is_done}
use Rattle.atlite_laws.specs.Facts.{and₂}
use Rattle.promises.specs.Meaning.{answered, room, table_in, state_in, lent, read_call, print_call, load_call, move_call, run_call, list_call}
use Rattle.promises.specs.CallNumbers.{cause}
use Rattle.atlite_calls.specs.Causes.{is_cause, Caused, fine, stopped, asked, next, tested, move-caused}
use Rattle.atlite_calls.specs.Reading.{read-caused, load-caused}

-- ---- the calls
answered-caused : {A : Type 0} (old : List ℕ) {R : Result (A × List ℕ)} → Caused R → Caused (answered old R).result
unfolding answered
answered-caused old fine = fine
answered-caused old (stopped h) = stopped h

lent-caused : (w : List ℕ) → Caused (lent w)
unfolding lent room state_in
lent-caused w = tested 6 _ refl (asked 7 _ refl)

pub read_result : (text table : List ℕ) → Caused (read_call text table).result
unfolding read_call room
read_result text table = answered-caused table (tested 6 _ refl (next (read-caused text) λ T. fine))

pub print-result : (table text : List ℕ) → Caused (print_call table text).result
unfolding print_call room table_in
print-result table text = answered-caused text (tested 6 _ refl (next (asked 7 _ refl) λ T. tested 6 _ refl fine))

pub load-result : (table state : List ℕ) → Caused (load_call table state).result
unfolding load_call room table_in
load-result table state = answered-caused state (tested 6 _ refl (tested 6 _ refl (next (asked 7 _ refl) λ T. next (load-caused T) λ σ. fine)))

pub move-result : (state : List ℕ) (a : ℕ) → Caused (move_call state a).result
unfolding move_call
move-result state a = answered-caused state (next (lent-caused state) λ σ. next (move-caused σ a) λ M. fine)

pub run-result : (state entries : List ℕ) → Caused (run_call state entries).result
unfolding run_call
run-result state entries = answered-caused state (next (lent-caused state) λ σ. fine)

pub list-result : (state text : List ℕ) → Caused (list_call state text).result
unfolding list_call room
list-result state text = answered-caused text (next (lent-caused state) λ σ. tested 6 _ refl fine)

-- ---- what that says of the number
in-range : (n : ℕ) → is_cause n ≡ true → (1 ≤ n) × (n ≤ 16)
in-range n h = let r = and₂ (leb 1 n) (leb n 16) h in (leb-true 1 n r.0, leb-true n 16 r.1)

pub zero-is-done : {A : Type 0} {R : Result A} → Caused R → cause R ≡ 0 → is_done R ≡ true
unfolding cause is_done
zero-is-done fine e = refl
zero-is-done (stopped {n} h) e = absurd (omega (arith, (in-range n h).0, e))

pub at-most-sixteen : {A : Type 0} {R : Result A} → Caused R → cause R ≤ 16
unfolding cause
at-most-sixteen fine = omega arith
at-most-sixteen (stopped {n} h) = (in-range n h).1
