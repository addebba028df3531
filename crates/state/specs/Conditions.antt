-- What 16,384 words have to be so that they are a state, part by part: counts, dictionary and zeros; then each actor's part, judged by
-- the kinds of all entities. Assumes nothing.
use Rattle.std.specs.Prelude.{ℕ, zero, suc, ◌+◌, ◌-◌, ◌*◌, ◌≤◌, ◌<◌, ◌≡◌, true, List, ◌++◌, length, take, drop, get_or}
use Rattle.std.proofs.Common.{Fits}
use Rattle.std.specs.Int.{w32}
use Rattle.atlite.specs.State.{State}
use Rattle.atlite.specs.Valid.{IsState}
use Rattle.layout.specs.Numbers.{slot_count, state_slots, part_size, head_size, state_words, word_size}
use Rattle.layout.specs.Pack.{zeros}
use Rattle.layout.specs.Layout.{encode}
use Rattle.dictionary.specs.Entries.{entries_hold}
use Rattle.actor.specs.PartContract.{IsPart}
use Rattle.entity_kinds.specs.Table.{rows, FewAll}

-- 16,384 words of 32 bits
pub record Words (w : List ℕ) : Type 0 where
  pub count : length w ≡ state_words
  pub small : (i : ℕ) → Fits w32 (get_or w i 0)

-- the head, and zeros behind what it says is used
pub record HeadHolds (w : List ℕ) : Type 0 where
  pub started : 0 < get_or w 0 0
  pub actors : get_or w 0 0 ≤ 4
  pub words : get_or w 1 0 ≤ 64
  pub dictionary : entries_hold w 2 (get_or w 1 0) ≡ true
  pub spare : take (head_size - (2 + word_size * get_or w 1 0)) (drop (2 + word_size * get_or w 1 0) w) ≡ zeros (head_size - (2 + word_size * get_or w 1 0))
  pub rest : drop (head_size + part_size * get_or w 0 0) w ≡ zeros (state_words - (head_size + part_size * get_or w 0 0))

-- the n parts that p begins with are those of the actors from a on
unfoldable pub PartsHold : List ℕ → ℕ → ℕ → ℕ → List ℕ → Type 0
PartsHold K W a zero p = Unit {0}
PartsHold K W a (suc n) p = IsPart K a W (take part_size p) × PartsHold K W (suc a) n (drop part_size p)

-- the table of kinds of the n parts that p begins with
unfoldable pub kinds_for : ℕ → List ℕ → List ℕ
kinds_for n p = rows n p ++ zeros (state_slots - slot_count * n)

-- all conditions
pub record Holds (w : List ℕ) : Type 0 where
  pub head : HeadHolds w
  pub few : FewAll (get_or w 0 0) (drop head_size w)
  pub parts : PartsHold (kinds_for (get_or w 0 0) (drop head_size w)) (get_or w 1 0) 0 (get_or w 0 0) (drop head_size w)

-- the words are a state
pub record AreState (w : List ℕ) : Type 0 where
  pub state : State
  pub valid : IsState state
  pub encoded : encode state ≡ w
