-- Request P3, one name with several counts: a reader by any test for cause 4, and the reader before the request, which refused a text with 4 where a list
-- of methods had a name twice. That it gave what the present one gives stands in `proofs/NamesOnceTexts`. Assumes nothing.
--
-- The test for cause 4 is stated by any test for the signatures of a list of methods.
use Rattle.std.specs.Prelude.{◌≡◌, refl, Bool, true, false, ◌&&◌, not, List, [], ◌⊎◌, length, eqb, leb, ltb}
use Rattle.std.proofs.Common.{inl, inr}
use Rattle.atlite.specs.Base.{Result, is_done, done, refused, ◌>>=◌, ◌>>◌, require, distinct, bytes}
use Rattle.atlite.specs.Term.{Signature}
use Rattle.atlite.specs.Keywords.{Operator, operators}
use Rattle.atlite.specs.Lexicon.{Bytes, words_of, dictionary}
use Rattle.atlite.specs.Script.{Src, num, null, var, op, let_in, future, fn, when, literal, Srcs, nil, cons, SrcFields, no_field, field, SrcMethods, no_method, method, size, join}
use Rattle.atlite.specs.Scope.{bound, field_names, signatures}
use Rattle.atlite.specs.Reader.{depth, read_script}
use Rattle.atlite.specs.Table.{Table, read}
use Rattle.atlite.specs.Replay as P
use Rattle.changes.specs.NamesOnce.{names}

-- ---- cause 4 by a test for the signatures of a list of methods
module _ (D : List Signature → Bool) where
  unfoldable mutual
    pub single_by : Src → Bool
    single_by (num n) = true
    single_by null = true
    single_by (var x) = true
    single_by (op o es) = single_all_by es
    single_by (let_in x e d) = single_by e && single_by d
    single_by (future x y e) = not (eqb x y) && single_by e
    single_by (fn x e) = single_by e
    single_by (when e x d) = single_by e && single_by d
    single_by (literal k fs ms) = distinct (field_names fs) && D (signatures ms) && single_fields_by fs && single_methods_by ms

    pub single_all_by : Srcs → Bool
    single_all_by nil = true
    single_all_by (cons e es) = single_by e && single_all_by es

    pub single_fields_by : SrcFields → Bool
    single_fields_by no_field = true
    single_fields_by (field f e fs) = single_by e && single_fields_by fs

    pub single_methods_by : SrcMethods → Bool
    single_methods_by no_method = true
    single_methods_by (method m xs e ms) = distinct xs && single_by e && single_methods_by ms

-- ---- a reader by any test for cause 4
unfoldable pub read_by : (Src → Bool) → List Operator → Bytes → Result Table
read_by S os t = do
  require 1 (ltb 0 (length t) && leb (length t) 4096)
  ls ← read_script os t
  e ← join ls
  require 3 (bound [] e)
  require 4 (S e)
  require 5 (leb (depth t) 32 && leb (length (words_of t)) 64 && leb (size e) 512)
  done (record { words = dictionary t; lines = ls })

-- ---- the reader before the request: no two methods of a list had one name
abbrev pub read_before : Bytes → Result Table
read_before t = read_by (single_by (λ l. distinct (names l))) operators t

-- what it gave is the same, or a refusal with 4
abbrev pub Was : {A : Type 0} → Result A → Result A → Type 0
Was old new = (old ≡ new) ⊎ (old ≡ refused 4)

pub was-step : {A B : Type 0} (r : Result A) {f g : A → Result B} → ((x : A) → Was (f x) (g x)) → Was (r >>= f) (r >>= g)
was-step (done x) k = k x
was-step (refused n) k = inl refl

pub was-sure : {B : Type 0} (r : Result (Unit {0})) {u v : Result B} → Was u v → Was (r >> u) (r >> v)
was-sure (done x) k = k
was-sure (refused n) k = inl refl

pub was-four : {B : Type 0} (b c : Bool) (r : Result B) → (b ≡ true → c ≡ true) → Was (require 4 b >> r) (require 4 c >> r)
unfolding require
was-four true c r h = inl (rw (h refl) refl)
was-four false c r h = inr refl

-- By example: the former reader takes two methods of two names, and refuses two of one name with two counts, which the reader takes.
pub takes-names : is_done (read_before (bytes "(object (method cut (l) l) (method saw (l w) w))\n")) ≡ true
unfolding P.All read_by single_by
takes-names = refl

pub refuses-counts : read_before (bytes "(object (method cut (l) l) (method cut (l w) w))\n") ≡ refused 4
unfolding P.All read_by single_by
refuses-counts = refl

pub takes-counts : is_done (read operators (bytes "(object (method cut (l) l) (method cut (l w) w))\n")) ≡ true
unfolding P.All
takes-counts = refl
