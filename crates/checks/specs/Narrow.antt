-- A wide word as the word of a table, one for one: what is written for any word, and that for a script of at most 64 words of its own
-- it is the word of the table. By cases on the form; a payload's digits are got back by their bounds. Assumes nothing.
use Rattle.std.specs.Prelude.{ℕ, zero, suc, ◌+◌, ◌*◌, ◌/◌, ◌%◌, ◌≤◌, ◌<◌, ◌≡◌, refl, cond, true, List, [], ◌∷◌, ◌++◌, eqb, length}
use Rattle.std.proofs.Common.{ap, ◌∙◌, subst as transp, ne_eqb}
use Rattle.std.proofs.lemmas.Bool.{false≢true}
use native.Mathlib.Omega.{arith}
use Rattle.atlite.specs.Term.{Kind, plain, Op, written}
use Rattle.atlite_laws.specs.Facts.{and₂}
use Rattle.atlite.specs.Valid.{is_name, shapely}
use Rattle.reading.specs.Items.{call-few, send-few}
use Rattle.atlite.specs.Table.{Grammatical, GrammaticalAll, GrammaticalFields, GrammaticalMethods, GrammaticalLines, writable}
use Rattle.atlite.specs.Script.{SrcOp, ask, resolve, seq, Src, num, null, var, op, let_in, future, fn, when, literal, Srcs, nil, cons, SrcFields, no_field, field, SrcMethods, no_method, method, Line, expression, define, count_srcs}
use Rattle.layout.specs.Numbers.{payload, field_kind, method_unit, name_limit, no_name, tagged_limit}
use Rattle.layout.specs.Pack.{node, flat, places}
use Rattle.layout_laws.specs.PackLaws.{Each}
use Rattle.layout_laws.specs.KindRows.{Operating, SrcRow, is_bare, is_field, is_call, is_send, src-row, op-kind}
use Rattle.layout_laws.specs.KindLaws.{Unasked, bare-unasked, field-unasked}
use Rattle.layout.specs.Terms.{op_kind, kind_number, tagged, asked, method_header}
use Rattle.layout.specs.Tables.{src_kind, src_payload, encode_src, encode_srcs, encode_fields, encode_src_methods, encode_line}
use Rattle.words.specs.Wide.{wide_kinds, wide, pair, wide_params, wide_method, wide_payload, wide_src, wide_srcs, wide_fields, wide_methods, wide_line, wide_lines, wide_limit, wide_params_at, wide_third}
use Rattle.checks.specs.Names.{Name, named, variable, all_named}

unfoldable pub table_word : ℕ → ℕ → ℕ
table_word k p = p % payload + payload * k

-- an empty place of a table's method is 127, and 0 here
unfoldable pub placed : ℕ → ℕ
placed x = cond (eqb x 0) no_name x

unfoldable pub method_word : ℕ → ℕ
method_word p =
    (p % wide_limit + name_limit * (p / wide_limit % 4 + 4 * (placed (p / wide_params_at % wide_limit) + name_limit * (placed (p / wide_params_at / wide_limit % wide_limit) + name_limit * placed (p / wide_params_at / wide_third % wide_limit))))) % method_unit
    + 3 * method_unit

-- two digits of 12 bits, the second moved to where the table has it
unfoldable pub pair_word : ℕ → ℕ → ℕ → ℕ
pair_word m k p = table_word k (p % wide_limit + m * (p / wide_limit % wide_limit))

unfoldable pub narrow_by : ℕ → ℕ → ℕ
narrow_by k p =
    cond (eqb k 12) (pair_word name_limit k p)
    (cond (eqb k 13) (pair_word tagged_limit k p)
    (cond (eqb k 14) (pair_word tagged_limit k p)
    (cond (eqb k 64) (pair_word tagged_limit k p)
    (cond (eqb k 192) (method_word p)
    (table_word k p)))))

unfoldable pub narrow : ℕ → ℕ
narrow h = narrow_by (h % wide_kinds) (h / wide_kinds)

unfoldable pub narrow_all : List ℕ → List ℕ
narrow_all [] = []
narrow_all (h ∷ w) = narrow h ∷ narrow_all w

-- ---- the words of each form
of-wide : (k p : ℕ) → k < wide_kinds → narrow (wide k p) ≡ narrow_by k p
unfolding narrow
of-wide k p h =
    let a : (k + wide_kinds * p) % wide_kinds ≡ k = omega arith in
    let b : (k + wide_kinds * p) / wide_kinds ≡ p = omega arith in
    rw (a, b)

plain_word : (k p : ℕ) → p < payload → table_word k p ≡ node k p
unfolding table_word
plain_word k p h = omega arith

pair-word : (m k x y : ℕ) → x < wide_limit → y < wide_limit → x + m * y < payload → pair_word m k (pair x y) ≡ node k (x + m * y)
unfolding pair_word
pair-word m k x y h l s =
    let a : (x + wide_limit * y) % wide_limit ≡ x = omega arith in
    let b : (x + wide_limit * y) / wide_limit ≡ y = omega arith in
    let d : y % wide_limit ≡ y = omega arith in
    rw (a, b, d) (plain_word k (x + m * y) s)

-- a kind whose payload stands as it is
kept : (k p : ℕ) → k < wide_kinds → p < payload → narrow_by k p ≡ table_word k p → narrow (wide k p) ≡ node k p
kept k p l h e = of-wide k p l ∙ e ∙ plain_word k p h

-- a message's name and count
sent : (k m n : ℕ) → k < wide_kinds → m < wide_limit → n ≤ 3 → narrow_by k (pair m n) ≡ pair_word tagged_limit k (pair m n) → narrow (wide k (pair m n)) ≡ node k (asked (plain m) n)
unfolding tagged
sent k m n l h s e = of-wide k (pair m n) l ∙ e ∙ pair-word tagged_limit k m n h (omega arith) (omega arith) ∙ omega arith

literal-kept : (k : Kind) (p : ℕ) → p < payload → narrow (wide (kind_number k) p) ≡ node (kind_number k) p
unfolding kind_number narrow_by
literal-kept Kind.object p h = kept 15 p (omega arith) h refl
literal-kept Kind.isolate p h = kept 16 p (omega arith) h refl
literal-kept Kind.actor p h = kept 17 p (omega arith) h refl

-- ---- a method's header
placed-name : (w x : ℕ) → Name w x → placed x ≡ x
unfolding placed
placed-name w x h = rw (ne_eqb x 0 (λ e. omega (arith, h.above)))

module _ (m n x y z : ℕ) (hm : m < wide_limit) (hn : n < 4) (hx : x < wide_limit) (hy : y < wide_limit) (hz : z < wide_limit) where
  abbrev digits : ℕ
  digits = pair m (n + 4 * pair x (pair y z))

  method-digits : method_word digits ≡ (m + name_limit * (n + 4 * (placed x + name_limit * (placed y + name_limit * placed z)))) % method_unit + 3 * method_unit
  unfolding method_word
  method-digits =
      let a : digits % wide_limit ≡ m = omega arith in
      let b : digits / wide_limit ≡ n + 4 * pair x (pair y z) = omega arith in
      let b' : (n + 4 * pair x (pair y z)) % 4 ≡ n = omega arith in
      let c : digits / wide_params_at ≡ pair x (pair y z) = omega arith in
      let d : pair x (pair y z) % wide_limit ≡ x = omega arith in
      let e : pair x (pair y z) / wide_limit ≡ pair y z = omega arith in
      let e' : pair y z % wide_limit ≡ y = omega arith in
      let f : pair x (pair y z) / wide_third ≡ z = omega arith in
      let f' : z % wide_limit ≡ z = omega arith in
      rw (a, b, b', c, d, e, e', f, f')

method-word : (w m : ℕ) (xs : List ℕ) → w ≤ 64 → Name w m → length xs ≤ 3 → Each (Name w) xs → narrow (wide_method m xs) ≡ method_header m xs
unfolding wide_method wide_params method_header narrow_by places placed
method-word w m [] l hm h a = of-wide 192 _ (omega arith) ∙ method-digits m 0 0 0 0 (omega (arith, hm.below)) (omega arith) (omega arith) (omega arith) (omega arith) ∙ omega (arith, hm.below)
method-word w m (x ∷ []) l hm h a =
    of-wide 192 _ (omega arith)
    ∙ method-digits m 1 x 0 0 (omega (arith, hm.below)) (omega arith) (omega (arith, a.0.below)) (omega arith) (omega arith)
    ∙ rw (placed-name w x a.0) (omega (arith, hm.below, a.0.below))
method-word w m (x ∷ y ∷ []) l hm h a =
    of-wide 192 _ (omega arith)
    ∙ method-digits m 2 x y 0 (omega (arith, hm.below)) (omega arith) (omega (arith, a.0.below)) (omega (arith, a.1.0.below)) (omega arith)
    ∙ rw (placed-name w x a.0, placed-name w y a.1.0) (omega (arith, hm.below, a.0.below, a.1.0.below))
method-word w m (x ∷ y ∷ z ∷ []) l hm h a =
    let last : z + wide_limit * 0 ≡ z = omega arith in
    of-wide 192 _ (omega arith)
    ∙ ap (λ q. method_word (pair m (3 + 4 * pair x (pair y q)))) last
    ∙ method-digits m 3 x y z (omega (arith, hm.below)) (omega arith) (omega (arith, a.0.below)) (omega (arith, a.1.0.below)) (omega (arith, a.1.1.0.below))
    ∙ rw (placed-name w x a.0, placed-name w y a.1.0, placed-name w z a.1.1.0) (omega (arith, hm.below, a.0.below, a.1.0.below, a.1.1.0.below))
method-word w m (x ∷ y ∷ z ∷ u ∷ xs) l hm h a = absurd (omega arith)

-- ---- scripts
narrow-append : (v u : List ℕ) → narrow_all (v ++ u) ≡ narrow_all v ++ narrow_all u
unfolding narrow_all
narrow-append [] u = refl
narrow-append (x ∷ v) u = ap (λ l. narrow x ∷ l) (narrow-append v u)

narrow-nil : narrow_all [] ≡ []
unfolding narrow_all
narrow-nil = refl

pub length-narrow : (w : List ℕ) → length (narrow_all w) ≡ length w
unfolding narrow_all
length-narrow [] = refl
length-narrow (h ∷ w) = ap suc (length-narrow w)

one_word : (h h' : ℕ) (v v' : List ℕ) → narrow h ≡ h' → narrow_all v ≡ v' → narrow_all (h ∷ v) ≡ h' ∷ v'
unfolding narrow_all
one_word h h' v v' e p = rw (e, p)

two-words : (h h' : ℕ) (v v' u u' : List ℕ) → narrow h ≡ h' → narrow_all v ≡ v' → narrow_all u ≡ u' → narrow_all (h ∷ (v ++ u)) ≡ h' ∷ (v' ++ u')
two-words h h' v v' u u' e p q = one_word h h' (v ++ u) (v' ++ u') e (narrow-append v u ∙ rw (p, q))

small : (w x : ℕ) → w ≤ 64 → Name w x → x < payload
small w x l h = omega (arith, h.below)

-- the payload of an operator's word stands as it is, but for a message's
narrow-same : (k p : ℕ) → Operating k → Unasked k → narrow_by k p ≡ table_word k p
unfolding narrow_by
narrow-same k p h u =
    rw (
      ne_eqb k 12 h.3,
      ne_eqb k 13 (λ e. u (omega (arith, e)) (omega (arith, e))),
      ne_eqb k 14 (λ e. u (omega (arith, e)) (omega (arith, e))),
      ne_eqb k 64 (λ e. omega (arith, h.1, e)),
      ne_eqb k 192 (λ e. omega (arith, h.1, e)),
    )

kept-narrow : (w : ℕ) → w ≤ 64 → (o : Op ℕ) → SrcRow o → (n : ℕ) → writable w (SrcOp.kept o) n ≡ true
    → narrow (wide (src_kind (SrcOp.kept o)) (wide_payload (SrcOp.kept o) n)) ≡ node (src_kind (SrcOp.kept o)) (src_payload (SrcOp.kept o) n)
unfolding wide_payload narrow_by
kept-narrow w l _ (is_bare o m e f) n h =
    let k = op-kind (written o) in
    rw (e.0, e.1) (kept (op_kind (written o)) 0 (omega (arith, k.1)) (omega arith) (narrow-same _ 0 k (bare-unasked _ o m e f)))
kept-narrow w l _ (is_field c k m e x f) n h =
    let z = (e.0 x).2 in
    let j : Operating k = rw z at (op-kind (written (c x))) in
    let g = transp (λ s. shapely w s n ≡ true) (e.0 x).1 h in
    rw ((e.0 x).0, (e.0 x).1, z) (kept k x (omega (arith, j.1)) (small w x l (named w x (and₂ (is_name w x) (eqb n m) g).0)) (narrow-same k x j (field-unasked c k m e f)))
kept-narrow w l _ (is_call m) zero h = absurd (false≢true h)
kept-narrow w l _ (is_call m) (suc n) h = let f = call-few w m (suc n) h in sent 13 m n (omega arith) (omega (arith, (named w m f.0).below)) (omega (arith, f.2)) refl
kept-narrow w l _ (is_send m) zero h = absurd (false≢true h)
kept-narrow w l _ (is_send m) (suc n) h = let f = send-few w m (suc n) h in sent 14 m n (omega arith) (omega (arith, (named w m f.0).below)) (omega (arith, f.2)) refl

op-narrow : (w : ℕ) → w ≤ 64 → (o : SrcOp) (n : ℕ) → writable w o n ≡ true → narrow (wide (src_kind o) (wide_payload o n)) ≡ node (src_kind o) (src_payload o n)
unfolding wide_payload narrow_by
op-narrow w l (SrcOp.kept o) n h = kept-narrow w l o (src-row o) n h
op-narrow w l (ask m) zero h = absurd (false≢true h)
op-narrow w l (ask m) (suc n) h = let f = send-few w m (suc n) h in sent 64 m n (omega arith) (omega (arith, (named w m f.0).below)) (omega (arith, f.2)) refl
op-narrow w l resolve n h = kept 66 0 (omega arith) (omega arith) refl
op-narrow w l seq n h = kept 68 0 (omega arith) (omega arith) refl

mutual
  unfolding encode_src wide_src Grammatical narrow_by

  narrow-src : (e : Src) (w : ℕ) → w ≤ 64 → Grammatical w e → narrow_all (wide_src e) ≡ encode_src e
  narrow-src (num n) w l g = one_word _ _ [] [] (kept 2 n (omega arith) (omega arith) refl) narrow-nil
  narrow-src null w l g = one_word _ _ [] [] (kept 1 0 (omega arith) (omega arith) refl) narrow-nil
  narrow-src (var x) w l g = one_word _ _ [] [] (kept 6 x (omega arith) (omega (arith, variable w x g)) refl) narrow-nil
  narrow-src (op o es) w l g = one_word _ _ _ _ (op-narrow w l o (count_srcs es) g.0) (narrow-srcs es w l g.1)
  narrow-src (let_in x e d) w l g = two-words _ _ _ _ _ _ (kept 11 x (omega arith) (small w x l (named w x g.0)) refl) (narrow-src e w l g.1) (narrow-src d w l g.2)
  narrow-src (future x y e) w l g =
      let hx = (named w x g.0).below in
      let hy = (named w y g.1).below in
      one_word _ _ _ _ (of-wide 12 (pair x y) (omega arith) ∙ pair-word name_limit 12 x y (omega arith) (omega arith) (omega arith)) (narrow-src e w l g.2)
  narrow-src (literal k fs ms) w l g = two-words _ _ _ _ _ _ (literal-kept k _ (omega (arith, g.0, g.2))) (narrow-fields fs w l g.1) (narrow-methods ms w l g.3)
  narrow-src (fn x e) w l g = one_word _ _ _ _ (kept 65 x (omega arith) (small w x l (named w x g.0)) refl) (narrow-src e w l g.1)
  narrow-src (when e x d) w l g = two-words _ _ _ _ _ _ (kept 67 x (omega arith) (small w x l (named w x g.1)) refl) (narrow-src e w l g.0) (narrow-src d w l g.2)

  narrow-srcs : (es : Srcs) (w : ℕ) → w ≤ 64 → GrammaticalAll w es → narrow_all (wide_srcs es) ≡ encode_srcs es
  narrow-srcs nil w l g = narrow-nil
  narrow-srcs (cons e es) w l g = narrow-append (wide_src e) (wide_srcs es) ∙ rw (narrow-src e w l g.0, narrow-srcs es w l g.1)

  narrow-fields : (fs : SrcFields) (w : ℕ) → w ≤ 64 → GrammaticalFields w fs → narrow_all (wide_fields fs) ≡ encode_fields fs
  narrow-fields no_field w l g = narrow-nil
  narrow-fields (field f e fs) w l g = two-words _ _ _ _ _ _ (kept field_kind f (omega arith) (small w f l (named w f g.0)) refl) (narrow-src e w l g.1) (narrow-fields fs w l g.2)

  narrow-methods : (ms : SrcMethods) (w : ℕ) → w ≤ 64 → GrammaticalMethods w ms → narrow_all (wide_methods ms) ≡ encode_src_methods ms
  narrow-methods no_method w l g = narrow-nil
  narrow-methods (method m xs e ms) w l g = two-words _ _ _ _ _ _ (method-word w m xs l (named w m g.0) g.1 (all_named w xs g.2)) (narrow-src e w l g.3) (narrow-methods ms w l g.4)

pub narrow-lines : (ls : List Line) (w : ℕ) → w ≤ 64 → GrammaticalLines w ls → narrow_all (wide_lines ls) ≡ flat encode_line ls
unfolding wide_lines wide_line encode_line flat GrammaticalLines narrow_by
narrow-lines [] w l g = narrow-nil
narrow-lines (expression e ∷ ls) w l g = narrow-append (wide_src e) (flat wide_line ls) ∙ rw (narrow-src e w l g.0) (ap (λ v. encode_src e ++ v) (narrow-lines ls w l g.1))
narrow-lines (define x e ∷ ls) w l g = two-words _ _ _ _ _ _ (kept 130 x (omega arith) (small w x l (named w x g.0)) refl) (narrow-src e w l g.1) (narrow-lines ls w l g.2)
