-- The words of a term show the text that a listing prints of it, if as many of them may lie in one another as there are. By
-- induction on terms that fit their bits; t is a state that spells the words of ws. Assumes nothing.
use Rattle.std.specs.Prelude.{◌≡◌, List, ◌∷◌, ◌++◌, ℕ, ◌-◌, ◌≤◌, length}
use Rattle.std.proofs.Common.{arith, length-append}
use Rattle.atlite.specs.Lexicon.{Bytes}
use Rattle.atlite.specs.Printer.{placed}
use Rattle.atlite.specs.Listing.{print_term, print_terms, print_inits, print_methods}
use Rattle.atlite.specs.Term.{Term, val, var, op, let_in, future, literal, Terms, nil, cons, Inits, no_field, Methods, no_method, method, count_terms}
use Rattle.reading.specs.Items.{placed-none}
use Rattle.layout.specs.Terms.{count_inits, count_methods, field_header, method_header, encode_term, encode_terms, encode_inits, encode_methods}
use Rattle.layout_laws.specs.TermLaws.{Fits, FitsAll, FitsInits, FitsMethods}
use Rattle.showing.specs.TextOfWords.{shown}
use Rattle.showing.specs.Spelling.{Spells}
use Rattle.showing.specs.Says.{showing}
use Rattle.showing.specs.Words.{value-shown, variable-shown, let-says, field-says, future-says, literal-says, header-says}
use Rattle.showing.specs.Forms.{Operands, none, more, last, join, show-form}
use Rattle.showing.specs.Operators.{op-says}

module _ (t : List ℕ) (ws : List Bytes) (sp : Spells t ws) where
  mutual
    unfolding encode_term print_term Fits count_terms count_inits count_methods placed

    pub show-term : (e : Term) (n : ℕ) (r : List ℕ) → Fits e → length (encode_term e) ≤ n → shown t n (encode_term e ++ r) ≡ showing (print_term ws e) r
    show-term (val v) n r g d = value-shown t ws sp v n r g d
    show-term (var x) n r g d = variable-shown t ws sp x n r g d
    show-term (op o es) n r g d = show-form (op-says t ws sp o (count_terms es) g.0) (n - 1) n (omega arith) (show-terms es (n - 1) r g.1 (omega arith))
    show-term (let_in x a b) n r g d =
        let l = length-append (encode_term a) (encode_term b) in
        show-form (let-says t ws sp x g.0) (n - 1) n (omega arith)
        (more (encode_term a) (show-term a (n - 1) (encode_term b ++ r) g.1 (omega arith)) (last (encode_term b) (show-term b (n - 1) r g.2 (omega arith))))
    show-term (future x y e) n r g d =
        show-form (future-says t ws sp x g.0 y g.1) (n - 1) n (omega arith) (last (encode_term e) (show-term e (n - 1) r g.2 (omega arith)))
    show-term (literal k fs ms) n r g d =
        let l = length-append (encode_inits fs) (encode_methods ms) in
        rw (← placed-none (print_inits ws fs ++ print_methods ws ms))
        (show-form (literal-says t ws sp k (count_inits fs) (count_methods ms) g.0 g.1) (n - 1) n (omega arith)
        (join (show-inits fs (n - 1) (encode_methods ms ++ r) g.2 (omega arith)) (show-methods ms (n - 1) r g.3 (omega arith))))

    show-terms : (es : Terms) (n : ℕ) (r : List ℕ) → FitsAll es → length (encode_terms es) ≤ n → Operands (shown t n) r (count_terms es) (encode_terms es) (print_terms ws es)
    show-terms nil n r g d = none
    show-terms (cons e es) n r g d =
        let l = length-append (encode_term e) (encode_terms es) in
        more (encode_term e) (show-term e n (encode_terms es ++ r) g.0 (omega arith)) (show-terms es n r g.1 (omega arith))

    show-inits : (fs : Inits) (n : ℕ) (r : List ℕ) → FitsInits fs → length (encode_inits fs) ≤ n → Operands (shown t n) r (count_inits fs) (encode_inits fs) (print_inits ws fs)
    show-inits no_field n r g d = none
    show-inits (Inits.field f e fs) n r g d =
        let l = length-append (encode_term e) (encode_inits fs) in
        more (field_header f ∷ encode_term e)
        (show-form (field-says t ws sp f g.0) (n - 1) n (omega arith) (last (encode_term e) (show-term e (n - 1) (encode_inits fs ++ r) g.1 (omega arith))))
        (show-inits fs n r g.2 (omega arith))

    pub show-methods : (ms : Methods) (n : ℕ) (r : List ℕ) → FitsMethods ms → length (encode_methods ms) ≤ n → Operands (shown t n) r (count_methods ms) (encode_methods ms) (print_methods ws ms)
    show-methods no_method n r g d = none
    show-methods (method m xs e ms) n r g d =
        let l = length-append (encode_term e) (encode_methods ms) in
        more (method_header m xs ∷ encode_term e)
        (show-form (header-says t ws sp m xs g.0 g.1 g.2) (n - 1) n (omega arith) (last (encode_term e) (show-term e (n - 1) (encode_methods ms ++ r) g.3 (omega arith))))
        (show-methods ms n r g.4 (omega arith))
