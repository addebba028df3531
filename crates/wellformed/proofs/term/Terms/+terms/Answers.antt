-- Each function's laws (one for each turn and each way to return), and those of a scope that is put back.
use Rattle.std.proofs.Common.{rules, arith}
use Rattle.term_words.specs.ScopeLaws.{kept_laws}
use Rattle.wellformed.specs.FormLaws.{form_laws, binder_laws}
use Rattle.wellformed.specs.ListLaws.{left_laws, fields_laws, methods_laws}
use Rattle.wellformed.specs.LiteralLaws.{literal_laws, parts_laws}
use Rattle.wellformed.proofs.term.Terms.+terms.Goals as goal

pub fields_from-returns-then-n-eq0-clause-fields_end : goal.fields_from-returns-then-n-eq0-clause-fields_end
fields_from-returns-then-n-eq0-clause-fields_end t c = search fields_laws

pub fields_from-returns-then-n-eq0-clause-kept : goal.fields_from-returns-then-n-eq0-clause-kept
fields_from-returns-then-n-eq0-clause-kept t c = search kept_laws

pub fields_from-returns-then-self-at-clause-fields_end : goal.fields_from-returns-then-self-at-clause-fields_end
fields_from-returns-then-self-at-clause-fields_end t c = search fields_laws

pub fields_from-returns-then-self-at-clause-kept : goal.fields_from-returns-then-self-at-clause-kept
fields_from-returns-then-self-at-clause-kept t c = search kept_laws

pub fields_from-returns-then-not-field_header-clause-fields_end : goal.fields_from-returns-then-not-field_header-clause-fields_end
fields_from-returns-then-not-field_header-clause-fields_end t c = search fields_laws

pub fields_from-returns-then-not-field_header-clause-kept : goal.fields_from-returns-then-not-field_header-clause-kept
fields_from-returns-then-not-field_header-clause-kept t c = search kept_laws

pub fields_from-returns-in_err-a-clause-fields_end : goal.fields_from-returns-in_err-a-clause-fields_end
fields_from-returns-in_err-a-clause-fields_end t c = search fields_laws

pub fields_from-returns-clause-fields_end : goal.fields_from-returns-clause-fields_end
fields_from-returns-clause-fields_end t c = search fields_laws

pub fields_from-returns-clause-kept : goal.fields_from-returns-clause-kept
fields_from-returns-clause-kept t c = search kept_laws

pub form-returns-in-15-clause-form_ends : goal.form-returns-in-15-clause-form_ends
form-returns-in-15-clause-form_ends t c = search form_laws

pub form-returns-in_default-clause-form_ends : goal.form-returns-in_default-clause-form_ends
form-returns-in_default-clause-form_ends t c = search form_laws

pub form-returns-in_default-clause-kept : goal.form-returns-in_default-clause-kept
form-returns-in_default-clause-kept t c = search kept_laws

pub form-returns-in_default-2-clause-form_ends : goal.form-returns-in_default-2-clause-form_ends
form-returns-in_default-2-clause-form_ends t c = search form_laws

pub form-returns-in_default-2-clause-kept : goal.form-returns-in_default-2-clause-kept
form-returns-in_default-2-clause-kept t c = search kept_laws

pub future-returns-then-not-are_two-clause-form_ends : goal.future-returns-then-not-are_two-clause-form_ends
future-returns-then-not-are_two-clause-form_ends t c = search binder_laws

pub future-returns-then-not-are_two-clause-kept : goal.future-returns-then-not-are_two-clause-kept
future-returns-then-not-are_two-clause-kept t c = search kept_laws

pub future-returns-clause-form_ends : goal.future-returns-clause-form_ends
future-returns-clause-form_ends t c = search binder_laws

pub inside-returns-clause-kept : goal.inside-returns-clause-kept
inside-returns-clause-kept t c = search kept_laws

pub let_in-returns-then-not-is_variable-clause-form_ends : goal.let_in-returns-then-not-is_variable-clause-form_ends
let_in-returns-then-not-is_variable-clause-form_ends t c = search binder_laws

pub let_in-returns-then-not-is_variable-clause-kept : goal.let_in-returns-then-not-is_variable-clause-kept
let_in-returns-then-not-is_variable-clause-kept t c = search kept_laws

pub let_in-returns-in_err-a-clause-form_ends : goal.let_in-returns-in_err-a-clause-form_ends
let_in-returns-in_err-a-clause-form_ends t c = search binder_laws

pub let_in-swap-old-requires : goal.let_in-swap-old-requires
let_in-swap-old-requires t c = search binder_laws

pub let_in-swap-requires : goal.let_in-swap-requires
let_in-swap-requires t c = search binder_laws

pub let_in-returns-clause-form_ends : goal.let_in-returns-clause-form_ends
let_in-returns-clause-form_ends t c = search binder_laws

pub let_in-returns-clause-kept : goal.let_in-returns-clause-kept
let_in-returns-clause-kept t c = search kept_laws

pub literal-returns-then-not-is_small-clause-literal_ends : goal.literal-returns-then-not-is_small-clause-literal_ends
literal-returns-then-not-is_small-clause-literal_ends t c = search literal_laws

pub literal-returns-then-not-is_small-clause-kept : goal.literal-returns-then-not-is_small-clause-kept
literal-returns-then-not-is_small-clause-kept t c = search kept_laws

pub literal-returns-clause-literal_ends : goal.literal-returns-clause-literal_ends
literal-returns-clause-literal_ends t c = search literal_laws

pub literal-returns-clause-kept : goal.literal-returns-clause-kept
literal-returns-clause-kept t c = search kept_laws

pub methods_from-returns-then-n-eq0-clause-methods_end : goal.methods_from-returns-then-n-eq0-clause-methods_end
methods_from-returns-then-n-eq0-clause-methods_end t c = search methods_laws

pub methods_from-returns-then-n-eq0-clause-kept : goal.methods_from-returns-then-n-eq0-clause-kept
methods_from-returns-then-n-eq0-clause-kept t c = search kept_laws

pub methods_from-returns-then-self-at-clause-methods_end : goal.methods_from-returns-then-self-at-clause-methods_end
methods_from-returns-then-self-at-clause-methods_end t c = search methods_laws

pub methods_from-returns-then-self-at-clause-kept : goal.methods_from-returns-then-self-at-clause-kept
methods_from-returns-then-self-at-clause-kept t c = search kept_laws

pub methods_from-returns-then-not-method_header-clause-methods_end : goal.methods_from-returns-then-not-method_header-clause-methods_end
methods_from-returns-then-not-method_header-clause-methods_end t c = search methods_laws

pub methods_from-returns-then-not-method_header-clause-kept : goal.methods_from-returns-then-not-method_header-clause-kept
methods_from-returns-then-not-method_header-clause-kept t c = search kept_laws

pub methods_from-returns-in_err-a-clause-methods_end : goal.methods_from-returns-in_err-a-clause-methods_end
methods_from-returns-in_err-a-clause-methods_end t c = search methods_laws

pub methods_from-returns-clause-methods_end : goal.methods_from-returns-clause-methods_end
methods_from-returns-clause-methods_end t c = search methods_laws

pub methods_from-returns-clause-kept : goal.methods_from-returns-clause-kept
methods_from-returns-clause-kept t c = search kept_laws

pub parts-returns-in_err-a-clause-parts_end : goal.parts-returns-in_err-a-clause-parts_end
parts-returns-in_err-a-clause-parts_end t c = search parts_laws

pub parts-returns-clause-parts_end : goal.parts-returns-clause-parts_end
parts-returns-clause-parts_end t c = search parts_laws

pub parts-returns-clause-kept : goal.parts-returns-clause-kept
parts-returns-clause-kept t c = search kept_laws

pub term-loop-left-init : goal.term-loop-left-init
term-loop-left-init t c = record {
  terms = search left_laws;
  kept = search kept_laws;
  behind = search rules;
  within = search rules;
  few = search rules;
}

pub term-returns-then-self-i-clause-term_ends : goal.term-returns-then-self-i-clause-term_ends
term-returns-then-self-i-clause-term_ends t c = search left_laws

pub term-returns-then-not-leaf-clause-term_ends : goal.term-returns-then-not-leaf-clause-term_ends
term-returns-then-not-leaf-clause-term_ends t c = search left_laws

pub term-loop-left-preserved-then-h-lt-OPERANDS : goal.term-loop-left-preserved-then-h-lt-OPERANDS
term-loop-left-preserved-then-h-lt-OPERANDS t c = search left_laws

pub term-loop-left-preserved-in-Some : goal.term-loop-left-preserved-in-Some
term-loop-left-preserved-in-Some t c = search left_laws

pub term-returns-in_err-i-clause-term_ends : goal.term-returns-in_err-i-clause-term_ends
term-returns-in_err-i-clause-term_ends t c = search left_laws

pub term-returns-in_err-i-clause-kept : goal.term-returns-in_err-i-clause-kept
term-returns-in_err-i-clause-kept t c = search kept_laws

pub term-loop-left-preserved : goal.term-loop-left-preserved
term-loop-left-preserved t c =
    let b = c.in_ok-i.ensures.behind in
    record {
      terms = search left_laws;
      kept = search kept_laws;
      behind = omega (arith, b.0);
      within = omega (arith, b.0, b.1);
      few = omega (arith, b.0);
    }

pub term-returns-clause-term_ends : goal.term-returns-clause-term_ends
term-returns-clause-term_ends t c = search left_laws

pub inside-returns-clause-term_ends : goal.inside-returns-clause-term_ends
inside-returns-clause-term_ends t c = search binder_laws
