-- The descent: what is left of the text falls, and each way to return has its law. Assumes nothing.
use Rattle.std.proofs.Common.{length, ◌+◌, ◌-◌, ◌*◌}
use Rattle.parse.proofs.forms.+expressions.Given as goal

abbrev pub decreases-between : goal.decreases-between
decreases-between l = 6 * (length l.s.now.text.now - l.at) + 2

abbrev pub decreases-bracket : goal.decreases-bracket
decreases-bracket l = 6 * (length l.s.now.text.now - l.at) + 5

abbrev pub decreases-expr : goal.decreases-expr
decreases-expr l = 6 * (length l.s.now.text.now - l.at)

abbrev pub decreases-form : goal.decreases-form
decreases-form l = 6 * (length l.s.now.text.now - l.at) + 4

abbrev pub decreases-func : goal.decreases-func
decreases-func l = 6 * (length l.s.now.text.now - l.at) + 3

abbrev pub decreases-future : goal.decreases-future
decreases-future l = 6 * (length l.s.now.text.now - l.at) + 3

abbrev pub decreases-let_in : goal.decreases-let_in
decreases-let_in l = 6 * (length l.s.now.text.now - l.at) + 3

abbrev pub decreases-literals::bodies : goal.decreases-literals::bodies
decreases-literals::bodies l = 6 * (length l.s.now.text.now - l.at) + 2

abbrev pub decreases-literals::field : goal.decreases-literals::field
decreases-literals::field l = 6 * (length l.s.now.text.now - l.at) + 2

abbrev pub decreases-literals::fields : goal.decreases-literals::fields
decreases-literals::fields l = 6 * (length l.s.now.text.now - l.at) + 1

abbrev pub decreases-literals::literal : goal.decreases-literals::literal
decreases-literals::literal l = 6 * (length l.s.now.text.now - l.at) + 3

abbrev pub decreases-literals::method : goal.decreases-literals::method
decreases-literals::method l = 6 * (length l.s.now.text.now - l.at) + 2

abbrev pub decreases-literals::methods : goal.decreases-literals::methods
decreases-literals::methods l = 6 * (length l.s.now.text.now - l.at) + 1

abbrev pub decreases-args : goal.decreases-args
decreases-args l = 6 * (length l.s.now.text.now - l.at) + 2

abbrev pub decreases-arguments : goal.decreases-arguments
decreases-arguments l = 6 * (length l.s.now.text.now - l.at) + 3

abbrev pub decreases-message : goal.decreases-message
decreases-message l = 6 * (length l.s.now.text.now - l.at) + 2

abbrev pub decreases-one : goal.decreases-one
decreases-one l = 6 * (length l.s.now.text.now - l.at) + 3

abbrev pub decreases-parts : goal.decreases-parts
decreases-parts l = 6 * (length l.s.now.text.now - l.at) + 2

abbrev pub decreases-spaced : goal.decreases-spaced
decreases-spaced l = 6 * (length l.s.now.text.now - l.at) + 1
