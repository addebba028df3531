-- Request P2, choosing: a rule by any rules of the two operators `if` and `same`, so that a rule without them is an instance, and the terms that are
-- one of the two. What they come to, and that no other move asks for their rules, stands in `proofs/Choosing`. Assumes nothing.
--
-- What a script writes as (if c d e) is `choose` among the operators.
use Rattle.std.specs.Prelude.{Bool, false, ◌||◌, eqb, if◌then◌else◌}
use Rattle.atlite.specs.Term.{Op, Term, val, var, op, let_in, future, literal}
use Rattle.layout.specs.Terms.{op_kind}
use Rattle.changes.specs.MoveBy.{Rule, Operators, present, rule_of}

-- ---- a rule by rules of the two operators
abbrev pub TwoRules : Type 0
TwoRules = Operators

-- whether an operator is one of the two, by their kinds
unfoldable pub is_new : {N : Type 0} → Op N → Bool
is_new o = eqb (op_kind o) 18 || eqb (op_kind o) 19

unfoldable pub operate_by : TwoRules → Operators
operate_by X s a A o es = if is_new o then X s a A o es else present s a A o es

abbrev pub rule_by : TwoRules → Rule
rule_by X = rule_of (operate_by X)

-- whether a term is one of the two
unfoldable pub chooses : Term → Bool
chooses (val v) = false
chooses (var x) = false
chooses (op o es) = is_new o
chooses (let_in x e d) = false
chooses (future x y e) = false
chooses (literal k fs ms) = false
