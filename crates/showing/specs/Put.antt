-- What is put into a text. Assumes nothing.
use Rattle.std.specs.Prelude.{◌≡◌, refl, List, [], ◌++◌, ℕ, length}
use Rattle.std.proofs.Common.{◌∙◌}
use Rattle.showing.specs.Writer.{Wrote, wrote_none, wrote-two}
use Rattle.showing.specs.declared.writer.Writer.{Writer}

-- The bytes s were put behind those that the text had: they were written where it ends, as far as there is room.
pub record Put (old : Writer) (s : List ℕ) (new : Writer) : Type 0 where
  pub same : new.out.ghost_name ≡ old.out.ghost_name
  pub kept : length new.out.now ≡ length old.out.now
  pub wrote : Wrote old.out.now old.len s new.out.now new.len

pub put_none : {a : Writer} → Put a [] a
put_none {a} = record { same = refl; kept = refl; wrote = wrote_none a.out.now a.len a.bounded }

-- what is put after something is put behind it
pub then : {a b c : Writer} {s t : List ℕ} → Put a s b → Put b t c → Put a (s ++ t) c
then {a} {b} {c} {s} {t} x y = record { same = y.same ∙ x.same; kept = y.kept ∙ x.kept; wrote = wrote-two a.out.now a.len s t b.out.now c.out.now b.len c.len x.wrote y.wrote }

-- Where s is to stand behind a and b has begun it, r is what is left of s.
pub record Left (a : Writer) (s : List ℕ) (b : Writer) (r : List ℕ) : Type 0 where
  pub whole : (c : Writer) → Put b r c → Put a s c

pub left-all : {a : Writer} (s : List ℕ) → Left a s a s
left-all s = record { whole = λ c p. p }

pub left-less : {a b c : Writer} {s t : List ℕ} (r : List ℕ) → Left a s b (t ++ r) → Put b t c → Left a s c r
left-less r l p = record { whole = λ d q. l.whole d (then p q) }

pub left-none : {a b : Writer} {s : List ℕ} → Left a s b [] → Put a s b
left-none {b = b} l = l.whole b put_none

-- what is put into a text with nothing in it yet stands in front of the bytes that were lent
pub from-start : {a b : Writer} {old s : List ℕ} → a.out.now ≡ old → a.len ≡ 0 → Put a s b → Wrote old 0 s b.out.now b.len
from-start e z p = rw (e, z) at p.wrote
