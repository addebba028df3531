-- The laws of the descent, a set for each function. Assumes nothing.
use Rattle.lexemes.specs.Operators.{field-counts}
use Rattle.lexemes.specs.NameLaws.{starts-room, name-small, name-far, name-within, spaced-small, spaced-far, spaced-within}
use Rattle.lexemes.specs.DescentLaws.{spaced-so, spaced-not, mid-word-bad, mid-first-bad, send-word-bad, send-first-bad, step-within, step-far, step-short}
use Rattle.parse.specs.PartLaws.{parts_none, parts-bad, parts_more, one-part, mid-part, send-part}
use Rattle.parse.specs.ArgumentLaws.{args-close, args-full, args-bad, args_more, argued-done, argued-bad, args-small}
use Rattle.parse.specs.FormLaws.{expr-open, expr-atom, bracket-form, bracket-none, form-bare, form-field, form-resolve, form-seq, form-when, form-call, form-message, form-ask, form-object, form-isolate, form-actor, form-own, let-bad, let-done, fn-bad, fn-done, future-bad, future-later-bad, future-done}
use Rattle.parse.specs.LiteralLaws.{list-within, list-far, list-short, list-few, fields-full, fields-more, fields-none, field-bad, field-value-bad, field-done, literal-bad, literal-done, ended-done, ended-bad}
use Rattle.parse.specs.MethodLaws.{methods-full, methods-more, methods-none, method-bad, method-value-bad, method-done, header-far, header-within}

pub ruleset spaced_laws = (spaced-so, spaced-not, starts-room)

pub ruleset parts_laws = (step-within, step-far, step-short, parts_none, parts-bad, parts_more)

pub ruleset one_laws = (one-part)

pub ruleset args_laws = (step-within, step-far, step-short, args-close, args-full, args-bad, args_more, starts-room)

pub ruleset expr_laws = (expr-open, expr-atom, starts-room)

pub ruleset bracket_laws = (bracket-form, bracket-none)

pub ruleset form_laws = (form-bare, form-field, form-resolve, form-seq, form-when, form-call, form-message, form-ask, form-object, form-isolate, form-actor, form-own, field-counts)

pub ruleset let_in_laws = (spaced-far, spaced-within, let-bad, let-done, spaced-small)

pub ruleset future_laws = (spaced-far, spaced-within, future-bad, future-later-bad, future-done, spaced-small)

pub ruleset func_laws = (spaced-far, spaced-within, fn-bad, fn-done, spaced-small)

pub ruleset literal_laws = (list-within, list-far, list-short, literal-bad, literal-done, list-few)

pub ruleset fields_laws = (fields-full, fields-more, fields-none, starts-room)

pub ruleset field_laws = (name-far, name-within, step-within, step-far, step-short, field-bad, field-value-bad, field-done, name-small)

pub ruleset methods_laws = (methods-full, methods-more, methods-none, starts-room)

pub ruleset method_laws = (header-far, header-within, step-within, step-far, step-short, method-bad, method-value-bad, method-done)

pub ruleset between_laws = (step-within, step-far, step-short, spaced-far, spaced-within, mid-part, mid-word-bad, mid-first-bad, spaced-small)

pub ruleset message_laws = (step-within, step-far, step-short, spaced-far, spaced-within, send-part, send-word-bad, send-first-bad, spaced-small)

pub ruleset arguments_laws = (argued-done, argued-bad, args-small)

pub ruleset bodies_laws = (list-within, list-far, list-short, ended-done, ended-bad, list-few)
