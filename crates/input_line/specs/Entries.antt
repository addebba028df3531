-- What a reader of the entries in a line answers, and what one entry more is: the numbers read so far stand before those that are left.
-- One law for a schedule and for a line of calls. Assumes nothing.
use Rattle.std.specs.Prelude as Code
use Rattle.std.specs.Prelude.{Some, None, ℕ, ◌+◌, ◌-◌, ◌≤◌, ◌<◌, ◌≡◌, List, [], ◌∷◌, ◌++◌, length, take, set}
use Rattle.std.proofs.Math.Path.{refl, ap}
use Rattle.std.proofs.Common.{sym, ◌∙◌, append_assoc, append-nil, arith, length-take, take-suc-set}
use Rattle.std.proofs.Math.Option.{Option, none, some}
use Rattle.std.proofs.Math.Numerals.{add-one}
use Rattle.std.proofs.Math.ListN.{length-set}
use Rattle.atlite.specs.Loops.{entry}
use Rattle.input_line.specs.Limits.{longest}

-- The entries o are there, and stand in front of xs: n of them.
pub record Held (o : Option (List ℕ)) (xs : List ℕ) (n : ℕ) : Type 0 where
  pub is : o ≡ some (take n xs)
  pub few : n ≤ longest
  pub inside : n ≤ length xs

-- what is answered where o are the entries of a line, with xs for their numbers
unfoldable pub EntriesOf : Option (List ℕ) → List ℕ → Code.Option ℕ → Type 0
EntriesOf o xs (Some n) = Held o xs n
EntriesOf o xs None = o ≡ none

pub entries-held : (o : Option (List ℕ)) (xs : List ℕ) (r : Code.Option ℕ) (n : ℕ) → EntriesOf o xs r → r ≡ Some n → Held o xs n
unfolding EntriesOf
entries-held o xs r n h e = rw e at h

pub entries_none : (o : Option (List ℕ)) (xs : List ℕ) (r : Code.Option ℕ) → EntriesOf o xs r → r ≡ None → o ≡ none
unfolding EntriesOf
entries_none o xs r h e = rw e at h

-- they are no more than a line has bytes, and all of them stand in xs
module _ (o : Option (List ℕ)) (xs : List ℕ) (r : Code.Option ℕ) (n : ℕ) (h : EntriesOf o xs r) (e : r ≡ Some n) where
  pub entries-few : n ≤ longest
  entries-few = (entries-held o xs r n h e).few

  pub entries-inside : n ≤ length xs
  entries-inside = (entries-held o xs r n h e).inside

  pub entries-short : length (take n xs) ≤ longest
  entries-short = omega (arith, length-take n xs, entries-few)

-- what is answered of the byte b, which may be a digit up to the byte `last`
abbrev pub DigitOf : ℕ → ℕ → Code.Option ℕ → Type 0
DigitOf b last (Some d) = (48 ≤ b) × (b ≤ last) × (d ≡ b - 48)
DigitOf b last None = 48 ≤ b → b ≤ last → ⊥

-- numbers before the entries that are left
unfoldable pub before : List ℕ → Option (List ℕ) → Option (List ℕ)
before xs none = none
before xs (some es) = some (xs ++ es)

-- Of the entries o the first n have been read, and stand in front of xs; left are q.
pub record Reading (o q : Option (List ℕ)) (xs : List ℕ) (n : ℕ) : Type 0 where
  pub size : length xs ≡ longest
  pub few : n ≤ longest
  pub left : o ≡ before (take n xs) q

pub read-starts : (o : Option (List ℕ)) (xs : List ℕ) → length xs ≡ longest → Reading o o xs 0
unfolding before
read-starts o xs z = record { size = z; few = omega arith; left = go o }
  where
    go : (o : Option (List ℕ)) → o ≡ before [] o
    go none = refl
    go (some es) = refl

module _ (o q : Option (List ℕ)) (xs : List ℕ) (n : ℕ) (g : Reading o q xs n) where
  pub read-ends : q ≡ some [] → EntriesOf o xs (Some n)
  unfolding EntriesOf before
  read-ends e = record {
    is = g.left ∙ rw e (ap some (append-nil (take n xs)));
    few = g.few;
    inside = omega (arith, g.few, g.size);
  }

  pub read-fails : q ≡ none → EntriesOf o xs None
  unfolding EntriesOf before
  read-fails e = g.left ∙ rw e

  pub read_goes : (b d : ℕ) (p : Option (List ℕ)) → d ≡ b - 48 → q ≡ entry b p → n < longest → Reading o p (set xs n d) (n + 1)
  unfolding before entry
  read_goes b d p z e m = rw z record {
    size = length-set xs n (b - 48) ∙ g.size;
    few = omega arith;
    left = g.left ∙ ap (before (take n xs)) e ∙ go p ∙ ap (λ t. before t p) (sym (rw add-one (take-suc-set xs n (b - 48) (omega (arith, g.size)))));
  }
    where
      go : (p : Option (List ℕ)) → before (take n xs) (entry b p) ≡ before (take n xs ++ ((b - 48) ∷ [])) p
      go none = refl
      go (some es) = ap some (sym (append_assoc (take n xs) ((b - 48) ∷ []) es))

  -- the same with what is left said otherwise
  pub read_same : (p : Option (List ℕ)) → q ≡ p → Reading o p xs n
  read_same p e = record { size = g.size; few = g.few; left = g.left ∙ ap (before (take n xs)) e }
