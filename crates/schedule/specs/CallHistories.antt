-- Demand 3 of the calls as they are made: whatever code meets the contracts of `move_actor`, `run` and `list`, two lists of its calls that
-- agree end in the same words and the same listing. Assumes nothing.
--
-- `two-lists` is the claim of the functions that the contracts cite; here a list of calls is what really happened (`Made`).
use Rattle.std.specs.Prelude.{ℕ, ◌≡◌, refl, List, [], ◌∷◌, length, take}
use Rattle.std.proofs.Math.Path.{sym, ap₂}
use Rattle.std.proofs.Common.{ap, ◌∙◌, subst as transp}
use Rattle.atlite.specs.Answers.{Returned, list_answer}
use Rattle.layout.specs.Numbers.{state_words}
use Rattle.promises.specs.Meaning.{MovesCall, RunsCall, ListsCall}
use Rattle.promises.specs.Claim.{Call, leaves, left_by, moved_by, Agree, written, SameEnd, Made, none, moved, ran}
use Rattle.schedule.specs.TwoLists.{two-lists}

left : (w w' : List ℕ) (cs : List Call) → Made w cs w' → w' ≡ left_by w cs
unfolding left_by leaves MovesCall RunsCall
left w w' cs (none x) = refl
left w w' cs (moved x new y a r ds c m) = left new w' ds m ∙ ap (λ l. left_by l ds) c.1
left w w' cs (ran x new y es r ds c m) = left new w' ds m ∙ ap (λ l. left_by l ds) c.1

-- ---- the theorem
module _ (w v w' v' : List ℕ) (cs ds : List Call) (one : Made w cs w') (two : Made v ds v') (same : take state_words w ≡ take state_words v) (agree : Agree (moved_by w cs) (moved_by v ds)) where
  pub same_end : SameEnd w v w' v'
  same_end = transp (λ x. SameEnd w v x v') (sym (left w w' cs one)) (transp (λ y. SameEnd w v (left_by w cs) y) (sym (left v v' ds two)) (two-lists w v same cs ds agree))

  -- and of the call `list`, made on both in the end with text buffers of one length
  module _ (s t s' t' : List ℕ) (q r : Returned ℕ) (equal : length s ≡ length t) (lists : ListsCall w' s q s') (lists_too : ListsCall v' t r t') where
    pub same_answer : list_answer q ≡ list_answer r
    unfolding ListsCall
    same_answer = lists.0 ∙ same_end.answers s t equal ∙ sym lists_too.0

    pub same_bytes : written (list_answer q) s' ≡ written (list_answer r) t'
    unfolding ListsCall
    same_bytes = ap₂ written lists.0 lists.1 ∙ same_end.writes s t equal ∙ sym (ap₂ written lists_too.0 lists_too.1)
