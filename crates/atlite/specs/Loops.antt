-- What the program `loops` prints for an input. Assumes nothing.
--
-- Document 01, "Listing and worked examples". The schedule line is judged before anything else is looked at.
use Rattle.std.specs.Prelude.{ℕ, ◌-◌, ◌&&◌, List, [], ◌∷◌, leb, if◌then◌else◌}
use Rattle.std.proofs.Math.Option.{Option, none, some}
use Rattle.atlite.specs.Base.{Base, Result, ◌>>=◌, or_refuse}
use Rattle.atlite.specs.Reader.{Reader}
use Rattle.atlite.specs.Lexicon.{Bytes, Lexicon}
use Rattle.atlite.specs.Script.{Script}
use Rattle.atlite.specs.Term.{Term·all}
use Rattle.atlite.specs.Subst.{Subst}
use Rattle.atlite.specs.Expansion.{Expansion}
use Rattle.atlite.specs.State.{State·all}
use Rattle.atlite.specs.Limits.{Limits}
use Rattle.atlite.specs.Redex.{Redex}
use Rattle.atlite.specs.Outcome.{Outcome·all}
use Rattle.atlite.specs.Passing.{Passing}
use Rattle.atlite.specs.Rules.{Rules}
use Rattle.atlite.specs.Move.{Move}
use Rattle.atlite.specs.Run.{Run, run}
use Rattle.atlite.specs.Load.{Load}
use Rattle.atlite.specs.Table.{Table·all}
use Rattle.atlite.specs.Listing.{Listing}
use Rattle.atlite.specs.Printer.{Printer}
use Rattle.atlite.specs.Scope.{Scope}
use Rattle.atlite.specs.Program.{Program, split, short, started, listed, shown}

-- an entry before others
unfoldable pub entry : ℕ → Option (List ℕ) → Option (List ℕ)
entry b none = none
entry b (some es) = some ((b - 48) ∷ es)

-- a schedule line: digits from 0 to 3, each an entry
unfoldable pub schedule : Bytes → Option (List ℕ)
schedule [] = some []
schedule (b ∷ w) = if leb 48 b && leb b 51 then entry b (schedule w) else none

unfoldable pub played : Bytes → Result Bytes
played w = do
  i ← or_refuse 2 (short (split w))
  es ← or_refuse 2 (schedule i.line)
  σ ← started i.script
  listed (run σ es).state

unfoldable pub loops : Bytes → Bytes
loops w = shown (played w)

-- every definition that `loops` goes through, opened together
unfoldable pub All : Unit {0}
unfolding Base Lexicon Script Printer Scope Reader Table·all Term·all Subst Expansion State·all Limits Redex Outcome·all Passing Rules Move Run Load Listing Program entry schedule played loops
All = tt
