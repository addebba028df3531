-- What loading promises is what the call means, once a list is known to begin with a table's words and the other to have room: the call
-- answers if the script is not too large, and its buffer is the list afterwards. Assumes nothing.
use Rattle.std.specs.Prelude.{◌≡◌, refl, Bool, List, ℕ, ◌≤◌, length, take}
use Rattle.std.proofs.Common.{sym}
use Rattle.atlite.specs.Base.{Result, done, refused, require, or_refuse}
use Rattle.atlite.specs.State.{State}
use Rattle.atlite.specs.Table.{Table, IsTable}
use Rattle.atlite.specs.Load.{load}
use Rattle.invariant.specs.Loads.{load-keeps}
use Rattle.layout.specs.Numbers.{state_words, table_words}
use Rattle.layout_laws.specs.StateFits.{state-fits}
use Rattle.layout_laws.specs.StateReads.{encode-length}
use Rattle.layout.specs.Tables.{encode_table}
use Rattle.layout_laws.specs.TableLaws.{table-of-iff}
use Rattle.promises.specs.Meaning.{answered, table_in, load_call}
use Rattle.layout_laws.specs.Outcomes.{room-enough}
use Rattle.loading.specs.LoadContract.{Loads}

pub load-call : (table old : List ℕ) (r : Bool) (new : List ℕ) (T : Table) → table_words ≤ length table → state_words ≤ length old
    → IsTable T → take table_words table ≡ encode_table T → Loads table old r new
    → ((load_call table old).result ≡ require 16 r) × ((load_call table old).buffer ≡ new)
unfolding load_call answered table_in or_refuse require Loads
load-call table old r new T h k i e L = go (load T) refl
  where
    go : (q : Result State) → load T ≡ q → ((load_call table old).result ≡ require 16 r) × ((load_call table old).buffer ≡ new)
    go (done σ) f =
        let p = (L T i e).loads σ f in
        let l = encode-length σ (state-fits σ (load-keeps T σ i f)) in
        rw (room-enough table_words table h, room-enough state_words old k, (table-of-iff (take table_words table) T).1 (i, sym e), f, l, p.0, p.1) (refl, refl)
    go (refused n) f =
        let p = (L T i e).refuses n f in
        rw (room-enough table_words table h, room-enough state_words old k, (table-of-iff (take table_words table) T).1 (i, sym e), f, p.0, p.1, p.2) (refl, refl)
