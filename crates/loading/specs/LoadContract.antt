-- What loading promises. Assumes nothing.
use Rattle.std.specs.Prelude.{◌≡◌, Bool, true, false, List, ◌++◌, ℕ, take, drop}
use Rattle.atlite.specs.Base.{done, refused}
use Rattle.atlite.specs.State.{State}
use Rattle.atlite.specs.Table.{Table, IsTable}
use Rattle.atlite.specs.Load.{load}
use Rattle.layout.specs.Numbers.{state_words, table_words}
use Rattle.layout.specs.Layout.{encode}
use Rattle.layout.specs.Tables.{encode_table}

-- Of the table T the answer is r, and the words that were old are new: those of the first state, with what lies past them kept, or
-- the same as before where the script is too large, which is the only cause there is.
pub record Loaded (T : Table) (old : List ℕ) (r : Bool) (new : List ℕ) : Type 0 where
  pub loads : (σ : State) → load T ≡ done σ → (r ≡ true) × (new ≡ encode σ ++ drop state_words old)
  pub refuses : (n : ℕ) → load T ≡ refused n → (n ≡ 16) × (r ≡ false) × (new ≡ old)

-- the same of words that are a table's
unfoldable pub LoadsWords : List ℕ → List ℕ → Bool → List ℕ → Type 0
LoadsWords t old r new = (T : Table) → IsTable T → t ≡ encode_table T → Loaded T old r new

-- and of a list that begins with a table's; of other words nothing is said
unfoldable pub Loads : List ℕ → List ℕ → Bool → List ℕ → Type 0
Loads table old r new = (T : Table) → IsTable T → take table_words table ≡ encode_table T → Loaded T old r new
