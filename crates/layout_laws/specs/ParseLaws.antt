-- The reader of positions, with as much fuel as there are words. Assumes nothing.
use Rattle.std.specs.Prelude.{ℕ, suc, ◌+◌, ◌-◌, ◌≤◌, ◌≡◌, refl, List, ◌↔◌, length, drop, get_or}
use Rattle.std.proofs.Common.{sym, ap, ◌∙◌, arith}
use Rattle.atlite.specs.Term.{Term, Methods, val, var, op, let_in, future, literal}
use Rattle.layout.specs.Terms.{count_methods, encode_term, encode_methods}
use Rattle.layout_laws.specs.Parse.{Got, none, got, head_at, formed, parse_term, parse_methods}
use Rattle.layout_laws.specs.Spans.{Spans, span-short}

-- where all of w from `at` on may be read
abbrev pub Enough : ℕ → List ℕ → ℕ → Type 0
Enough n w at = length w ≤ at + n

-- ---- no fuel at all
-- As many words as there are is fuel enough at every position, and then one step takes none: what contracts of code may speak of.
abbrev pub parse : List ℕ → ℕ → Got Term
parse w at = parse_term (length w) w at
