-- What the six calls do to the lists they are lent: a call is refused and leaves its list, or it answers and has written what its
-- outcome says; either way the list keeps its length. Assumes nothing.
use Rattle.std.specs.Prelude.{ℕ, ◌≤◌, ◌<◌, ◌≡◌, refl, List, ◌++◌, ◌↔◌, length, take, drop}
use Rattle.std.proofs.Common.{sym, ap, ◌∙◌, subst as transp, arith, length-append, take-append-drop, take_at, drop_at}
use Rattle.std.proofs.Math.Option.{none}
use Rattle.atlite.specs.Base.{done, refused, or_refuse}
use Rattle.atlite_laws.specs.Facts.{found}
use Rattle.atlite.specs.State.{State}
use Rattle.atlite.specs.Move.{Answer, AfterMove, move}
use Rattle.atlite.specs.Run.{run, Counts}
use Rattle.atlite.specs.Listing.{listing}
use Rattle.atlite.specs.Keywords.{operators}
use Rattle.atlite.specs.Table.{text_of, IsTable, Table, read}
use Rattle.atlite.specs.Load.{load}
use Rattle.atlite.specs.Valid.{IsState}
use Rattle.invariant.specs.Loads.{load-keeps}
use Rattle.reading.specs.Exact.{read-exact}
use Rattle.invariant.specs.Moves.{move-keeps, run-keeps}
use Rattle.layout.specs.Numbers.{state_words, table_words}
use Rattle.layout.specs.Layout.{encode}
use Rattle.decoding.specs.Decode.{state_of}
use Rattle.layout.specs.Tables.{encode_table}
use Rattle.decoding.specs.TableReading.{table_of}
use Rattle.promises.specs.Meaning.{answered, room, table_in, state_in, lent, read_call, print_call, load_call, move_call, run_call, list_call}
use Rattle.layout_laws.specs.Results.{done-same, bind_done, then-done}
use Rattle.layout_laws.specs.Outcomes.{room-done, room-enough, room-short, Outcome, outcome, refusal-leaves, answer-writes, length-stays}
use Rattle.layout_laws.specs.StateLaws.{state-length, state-of, of-state}
use Rattle.layout_laws.specs.TableLaws.{table-length, table-of, of-table}

-- ---- lent words that are a state
-- a state's words, and whatever follows
pub lent-state : (σ : State) (r : List ℕ) → IsState σ → lent (encode σ ++ r) ≡ done σ
unfolding lent state_in or_refuse
lent-state σ r h =
    let e = state-length σ h in
    let l : state_words ≤ length (encode σ ++ r) = omega (arith, length-append (encode σ) r) in
    rw (room-enough state_words (encode σ ++ r) l, take_at (encode σ) r state_words e, state-of σ h)

pub state-lent : (w : List ℕ) (σ : State) → lent w ≡ done σ → IsState σ × (w ≡ encode σ ++ drop state_words w) × (state_words ≤ length w)
unfolding lent state_in
state-lent w σ e =
    let a = then-done (room state_words w) (or_refuse 7 (state_of (take state_words w))) σ e in
    let q = of-state (take state_words w) σ (found 7 (state_of (take state_words w)) σ a.1) in
    (q.0, sym (take-append-drop state_words w) ∙ ap (λ l. l ++ drop state_words w) (sym q.1), room-done state_words w a.0)

-- which lists are lent as a state
pub lent-iff : (w : List ℕ) (σ : State) → (lent w ≡ done σ) ↔ (IsState σ × (w ≡ encode σ ++ drop state_words w))
lent-iff w σ = (λ e. let q = state-lent w σ e in (q.0, q.1), λ h. ap lent h.1 ∙ lent-state σ (drop state_words w) h.0)

-- words that are lent but are no state refuse every call on them
pub lent-short : (w : List ℕ) → length w < state_words → lent w ≡ refused 6
unfolding lent
lent-short w h = rw (room-short state_words w h)

pub lent_none : (w : List ℕ) → state_words ≤ length w → state_of (take state_words w) ≡ none → lent w ≡ refused 7
unfolding lent state_in or_refuse
lent_none w h e = rw (room-enough state_words w h, e)

pub move-unlent : (w : List ℕ) (a n : ℕ) → lent w ≡ refused n → move_call w a ≡ record { result = refused n; buffer = w }
unfolding move_call answered
move-unlent w a n e = rw e

pub run-unlent : (w es : List ℕ) (n : ℕ) → lent w ≡ refused n → run_call w es ≡ record { result = refused n; buffer = w }
unfolding run_call answered
run-unlent w es n e = rw e

-- ---- list: the state's words are only read
abbrev pub Listed : List ℕ → List ℕ → ℕ → List ℕ → Type 0
Listed state text n l = (σ : State) × (lent state ≡ done σ) × (l ≡ listing σ) × (n ≡ length l) × (length l ≤ length text)

pub list-outcome : (state text : List ℕ) → Outcome text (Listed state text) (list_call state text)
unfolding list_call
list-outcome state text = outcome text (Listed state text) _ λ n l e.
    let a = bind_done (lent state) _ (n, l) e in
    let b = then-done (room (length (listing a.0)) text) _ (n, l) a.2 in
    let d = done-same (length (listing a.0), listing a.0) (n, l) b.1 in
    let s : l ≡ listing a.0 = sym (ap (λ x. x.1) d) in
    (a.0, a.1, s, sym (ap (λ x. x.0) d) ∙ ap length (sym s), transp (λ k. length k ≤ length text) (sym s) (room-done (length (listing a.0)) text b.0))

pub list_length : (state text : List ℕ) → length (list_call state text).buffer ≡ length text
list_length state text = length-stays text (Listed state text) (list_call state text) (λ n l p. p.4) (list-outcome state text)

pub list-refused : (state text : List ℕ) (n : ℕ) → (list_call state text).result ≡ refused n → (list_call state text).buffer ≡ text
list-refused state text n e = refusal-leaves text (Listed state text) (list_call state text) n (list-outcome state text) e

-- ---- move and run
-- the words of a state in place of another's
over : (σ τ : State) (r : List ℕ) → IsState σ → IsState τ → encode τ ++ drop (length (encode τ)) (encode σ ++ r) ≡ encode τ ++ r
over σ τ r h k = ap (λ l. encode τ ++ l) (drop_at (encode σ) r (length (encode τ)) (state-length σ h ∙ sym (state-length τ k)))

-- what a state's words become: the words of a state, and what followed
abbrev pub Stated : List ℕ → State → List ℕ → Type 0
Stated old τ w = IsState τ × (w ≡ encode τ) × (state_words ≤ length old)

stated-fits : (old : List ℕ) (τ : State) (w : List ℕ) → Stated old τ w → length w ≤ length old
stated-fits old τ w p = omega (arith, ap length p.1, state-length τ p.0, p.2)

-- the published words are that state, and no word past them has changed
stated-words : (old : List ℕ) (τ : State) (w b : List ℕ) → Stated old τ w → b ≡ w ++ drop (length w) old
    → IsState τ × (take state_words b ≡ encode τ) × (drop state_words b ≡ drop state_words old)
stated-words old τ w b p e =
    let l : length w ≡ state_words = ap length p.1 ∙ state-length τ p.0 in
    let t : take state_words b ≡ encode τ = ap (take state_words) e ∙ take_at w (drop (length w) old) state_words l ∙ p.1 in
    let d : drop state_words b ≡ drop state_words old = ap (drop state_words) e ∙ drop_at w (drop (length w) old) state_words l ∙ ap (λ n. drop n old) l in
    (p.0, t, d)

abbrev pub Made : List ℕ → ℕ → Answer → List ℕ → Type 0
Made state a x w = (σ : State) × (M : AfterMove) × (lent state ≡ done σ) × (move σ a ≡ done M) × (x ≡ M.answer) × Stated state M.state w

pub move-outcome : (state : List ℕ) (a : ℕ) → Outcome state (Made state a) (move_call state a)
unfolding move_call
move-outcome state a = outcome state (Made state a) _ λ x w e.
    let s = bind_done (lent state) _ (x, w) e in
    let m = bind_done (move s.0 a) _ (x, w) s.2 in
    let d = done-same (m.0.answer, encode m.0.state) (x, w) m.2 in
    let q = state-lent state s.0 s.1 in
    (s.0, m.0, s.1, m.1, sym (ap (λ p. p.0) d), (move-keeps s.0 a m.0 q.0 m.1, sym (ap (λ p. p.1) d), q.2))

pub move-length : (state : List ℕ) (a : ℕ) → length (move_call state a).buffer ≡ length state
move-length state a = length-stays state (Made state a) (move_call state a) (λ x w p. stated-fits state p.1.state w p.5) (move-outcome state a)

pub move-refused : (state : List ℕ) (a n : ℕ) → (move_call state a).result ≡ refused n → (move_call state a).buffer ≡ state
move-refused state a n e = refusal-leaves state (Made state a) (move_call state a) n (move-outcome state a) e

-- a move that the definition makes, on the words of its state
pub move-leaves : (σ : State) (r : List ℕ) (a : ℕ) (M : AfterMove) → IsState σ → move σ a ≡ done M
    → move_call (encode σ ++ r) a ≡ record { result = done M.answer; buffer = encode M.state ++ r }
unfolding move_call answered
move-leaves σ r a M h e =
    rw (lent-state σ r h, e) (λ i. record { result = done M.answer; buffer = over σ M.state r h (move-keeps σ a M h e) i })

pub move-stays : (σ : State) (r : List ℕ) (a n : ℕ) → IsState σ → move σ a ≡ refused n
    → move_call (encode σ ++ r) a ≡ record { result = refused n; buffer = encode σ ++ r }
unfolding move_call answered
move-stays σ r a n h e = rw (lent-state σ r h, e)

abbrev pub Ended : List ℕ → List ℕ → Counts → List ℕ → Type 0
Ended state es x w = (σ : State) × (lent state ≡ done σ) × (x ≡ (run σ es).counts) × Stated state (run σ es).state w

pub run-outcome : (state es : List ℕ) → Outcome state (Ended state es) (run_call state es)
unfolding run_call
run-outcome state es = outcome state (Ended state es) _ λ x w e.
    let s = bind_done (lent state) _ (x, w) e in
    let d = done-same ((run s.0 es).counts, encode (run s.0 es).state) (x, w) s.2 in
    let q = state-lent state s.0 s.1 in
    (s.0, s.1, sym (ap (λ p. p.0) d), (run-keeps s.0 es q.0, sym (ap (λ p. p.1) d), q.2))

pub run_length : (state es : List ℕ) → length (run_call state es).buffer ≡ length state
run_length state es = length-stays state (Ended state es) (run_call state es) (λ x w p. stated-fits state (run p.0 es).state w p.3) (run-outcome state es)

pub run-refused : (state es : List ℕ) (n : ℕ) → (run_call state es).result ≡ refused n → (run_call state es).buffer ≡ state
run-refused state es n e = refusal-leaves state (Ended state es) (run_call state es) n (run-outcome state es) e

pub run-done : (state es : List ℕ) (x : Counts) → (run_call state es).result ≡ done x
    → (σ : State) × (lent state ≡ done σ) × (x ≡ (run σ es).counts) × IsState (run σ es).state × (take state_words (run_call state es).buffer ≡ encode (run σ es).state) × (drop state_words (run_call state es).buffer ≡ drop state_words state)
run-done state es x e =
    let r = answer-writes state (Ended state es) (run_call state es) x (run-outcome state es) e in
    let p = r.1 in
    let t = stated-words state (run p.0 es).state r.0 (run_call state es).buffer p.3 r.2 in
    (p.0, p.1, p.2, t.0, t.1, t.2)

pub run-leaves : (σ : State) (r es : List ℕ) → IsState σ
    → run_call (encode σ ++ r) es ≡ record { result = done (run σ es).counts; buffer = encode (run σ es).state ++ r }
unfolding run_call answered
run-leaves σ r es h =
    rw (lent-state σ r h) (λ i. record { result = done (run σ es).counts; buffer = over σ (run σ es).state r h (run-keeps σ es h) i })

-- ---- read, print and load
-- a table's words, and whatever follows
pub table-lent : (T : Table) (r : List ℕ) → IsTable T → table_in (encode_table T ++ r) ≡ done T
unfolding table_in or_refuse
table-lent T r h = rw (take_at (encode_table T) r table_words (table-length T h), table-of T h)

pub lent-table : (w : List ℕ) (T : Table) → table_in w ≡ done T → IsTable T × (encode_table T ≡ take table_words w)
unfolding table_in
lent-table w T e = of-table (take table_words w) T (found 7 (table_of (take table_words w)) T e)

abbrev pub Read : List ℕ → List ℕ → Unit {0} → List ℕ → Type 0
Read text table u w = (T : Table) × IsTable T × (text_of T ≡ text) × (w ≡ encode_table T) × (table_words ≤ length table)

pub read-outcome : (text table : List ℕ) → Outcome table (Read text table) (read_call text table)
unfolding read_call
read-outcome text table = outcome table (Read text table) _ λ u w e.
    let a = then-done (room table_words table) _ (u, w) e in
    let b = bind_done (read operators text) _ (u, w) a.1 in
    let d = done-same (tt, encode_table b.0) (u, w) b.2 in
    let q = (read-exact text b.0).0 b.1 in
    (b.0, q.0, q.1, sym (ap (λ p. p.1) d), room-done table_words table a.0)

pub read_length : (text table : List ℕ) → length (read_call text table).buffer ≡ length table
read_length text table =
    length-stays table (Read text table) (read_call text table) (λ u w p. omega (arith, ap length p.3, table-length p.0 p.1, p.4)) (read-outcome text table)

pub read-refused : (text table : List ℕ) (n : ℕ) → (read_call text table).result ≡ refused n → (read_call text table).buffer ≡ table
read-refused text table n e = refusal-leaves table (Read text table) (read_call text table) n (read-outcome text table) e

-- an accepted text leaves the words of the table that prints as the text, and what followed
pub read_done : (text table : List ℕ) → (read_call text table).result ≡ done tt
    → (T : Table) × IsTable T × (text_of T ≡ text) × (take table_words (read_call text table).buffer ≡ encode_table T) × (drop table_words (read_call text table).buffer ≡ drop table_words table)
read_done text table e =
    let r = answer-writes table (Read text table) (read_call text table) tt (read-outcome text table) e in
    let p = r.1 in
    let l : length r.0 ≡ table_words = ap length p.3 ∙ table-length p.0 p.1 in (
      p.0,
      p.1,
      p.2,
      ap (take table_words) r.2 ∙ take_at r.0 _ table_words l ∙ p.3,
      ap (drop table_words) r.2 ∙ drop_at r.0 _ table_words l ∙ ap (λ n. drop n table) l,
    )

pub read-leaves : (T : Table) (table : List ℕ) → IsTable T → table_words ≤ length table
    → read_call (text_of T) table ≡ record { result = done tt; buffer = encode_table T ++ drop table_words table }
unfolding read_call answered
read-leaves T table h l =
    rw (room-enough table_words table l, (read-exact (text_of T) T).1 (h, refl))
    (ap (λ n. record { result = done tt; buffer = encode_table T ++ drop n table }) (table-length T h))

abbrev pub Printed : List ℕ → List ℕ → ℕ → List ℕ → Type 0
Printed table text n l = (T : Table) × IsTable T × (encode_table T ≡ take table_words table) × (l ≡ text_of T) × (n ≡ length l) × (length l ≤ length text)

pub print-outcome : (table text : List ℕ) → Outcome text (Printed table text) (print_call table text)
unfolding print_call
print-outcome table text = outcome text (Printed table text) _ λ n l e.
    let a = then-done (room table_words table) _ (n, l) e in
    let b = bind_done (table_in table) _ (n, l) a.1 in
    let t = text_of b.0 in
    let c = then-done (room (length t) text) _ (n, l) b.2 in
    let d = done-same (length t, t) (n, l) c.1 in
    let s : l ≡ t = sym (ap (λ x. x.1) d) in
    let q = lent-table table b.0 b.1 in
    (b.0, q.0, q.1, s, sym (ap (λ x. x.0) d) ∙ ap length (sym s), transp (λ k. length k ≤ length text) (sym s) (room-done (length t) text c.0))

pub print-length : (table text : List ℕ) → length (print_call table text).buffer ≡ length text
print-length table text = length-stays text (Printed table text) (print_call table text) (λ n l p. p.5) (print-outcome table text)

pub print-refused : (table text : List ℕ) (n : ℕ) → (print_call table text).result ≡ refused n → (print_call table text).buffer ≡ text
print-refused table text n e = refusal-leaves text (Printed table text) (print_call table text) n (print-outcome table text) e

-- a table's words print as its text
pub print-leaves : (T : Table) (r text : List ℕ) → IsTable T → length (text_of T) ≤ length text
    → print_call (encode_table T ++ r) text ≡ record { result = done (length (text_of T)); buffer = text_of T ++ drop (length (text_of T)) text }
unfolding print_call answered
print-leaves T r text h l =
    let k : table_words ≤ length (encode_table T ++ r) = omega (arith, table-length T h, length-append (encode_table T) r) in
    rw (room-enough table_words (encode_table T ++ r) k, table-lent T r h, room-enough (length (text_of T)) text l)

-- print after read gives the text back
pub print-read : (text table out : List ℕ) → (read_call text table).result ≡ done tt → length text ≤ length out
    → print_call (read_call text table).buffer out ≡ record { result = done (length text); buffer = text ++ drop (length text) out }
print-read text table out e l =
    let b = (read_call text table).buffer in
    let r = read_done text table e in
    let T = r.0 in
    let s : b ≡ encode_table T ++ drop table_words b = sym (take-append-drop table_words b) ∙ ap (λ w. w ++ drop table_words b) r.3 in
    let k : length (text_of T) ≤ length out = transp (λ t. length t ≤ length out) (sym r.2) l in
    ap (λ w. print_call w out) s
    ∙ print-leaves T (drop table_words b) out r.1 k
    ∙ ap (λ t. record { result = done (length t); buffer = t ++ drop (length t) out }) r.2

abbrev pub Loaded : List ℕ → List ℕ → Unit {0} → List ℕ → Type 0
Loaded table state u w = (T : Table) × (σ : State) × IsTable T × (encode_table T ≡ take table_words table) × (load T ≡ done σ) × Stated state σ w

pub load-outcome : (table state : List ℕ) → Outcome state (Loaded table state) (load_call table state)
unfolding load_call
load-outcome table state = outcome state (Loaded table state) _ λ u w e.
    let a = then-done (room table_words table) _ (u, w) e in
    let b = then-done (room state_words state) _ (u, w) a.1 in
    let c = bind_done (table_in table) _ (u, w) b.1 in
    let s = bind_done (load c.0) _ (u, w) c.2 in
    let d = done-same (tt, encode s.0) (u, w) s.2 in
    let q = lent-table table c.0 c.1 in
    (c.0, s.0, q.0, q.1, s.1, (load-keeps c.0 s.0 q.0 s.1, sym (ap (λ p. p.1) d), room-done state_words state b.0))

pub load-length : (table state : List ℕ) → length (load_call table state).buffer ≡ length state
load-length table state = length-stays state (Loaded table state) (load_call table state) (λ u w p. stated-fits state p.1 w p.5) (load-outcome table state)

pub load-refused : (table state : List ℕ) (n : ℕ) → (load_call table state).result ≡ refused n → (load_call table state).buffer ≡ state
load-refused table state n e = refusal-leaves state (Loaded table state) (load_call table state) n (load-outcome table state) e

-- a load that is done leaves the words of the start, and what followed
pub load-done : (table state : List ℕ) → (load_call table state).result ≡ done tt
    → (T : Table) × (σ : State) × IsTable T × (encode_table T ≡ take table_words table) × (load T ≡ done σ) × IsState σ × (take state_words (load_call table state).buffer ≡ encode σ) × (drop state_words (load_call table state).buffer ≡ drop state_words state)
load-done table state e =
    let r = answer-writes state (Loaded table state) (load_call table state) tt (load-outcome table state) e in
    let p = r.1 in
    let t = stated-words state p.1 r.0 (load_call table state).buffer p.5 r.2 in
    (p.0, p.1, p.2, p.3, p.4, t.0, t.1, t.2)
