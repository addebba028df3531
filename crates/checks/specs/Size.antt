-- The nodes of a script are the wide words whose kind is below 128, and one for each line but the last. Assumes nothing.
use Rattle.std.specs.Prelude.{ℕ, ◌+◌, ◌-◌, ◌%◌, ◌≤◌, ◌<◌, ◌≡◌, refl, Bool, true, false, cond, nat_lt, count_by, List, [], ◌∷◌, ◌++◌, ltb, length, take}
use Rattle.std.proofs.Common.{sym, ap, ◌∙◌, zero-add, arith, rules, lt-ltb, le-ltb}
use Rattle.std.proofs.lemmas.List.Recursion.{is_count_by}
use Rattle.atlite.specs.Base.{done}
use Rattle.atlite.specs.Script.{seq, Src, num, null, var, op, let_in, future, fn, when, literal, Srcs, nil, cons, SrcFields, no_field, field, SrcMethods, no_method, method, Line, expression, define, size, size_all, size_fields, size_methods, join}
use Rattle.atlite_laws.specs.Facts.{refused-done}
use Rattle.atlite.specs.Term.{Kind}
use Rattle.layout.specs.Numbers.{field_kind}
use Rattle.layout.specs.Pack.{flat}
use Rattle.layout.specs.Terms.{kind_number}
use Rattle.layout.specs.Tables.{src_kind}
use Rattle.checks.specs.Operators.{op-passed}
use Rattle.layout_laws.specs.Results.{done-same, bind_done}
use Rattle.checks.specs.LinesAt.{Stands}
use Rattle.words.specs.Wide.{wide_kinds, wide, wide_method, wide_src, wide_srcs, wide_fields, wide_methods, wide_line, wide_lines}

unfoldable pub is_node : ℕ → ℕ
is_node h = cond (ltb (h % wide_kinds) field_kind) 1 0

unfoldable pub nodes_in : List ℕ → ℕ
nodes_in [] = 0
nodes_in (h ∷ w) = is_node h + nodes_in w

-- of lines that stand in the words and join to a script, r is the script's size
unfoldable pub Size : List ℕ → ℕ → ℕ → ℕ → Type 0
Size s words lines r = (ls : List Line) (e : Src) → Stands s words lines ls → join ls ≡ done e → r ≡ size e

-- how many words are nodes and no headers
node_count : (w : List ℕ) → nodes_in w ≡ count_by (λ h. nat_lt (h % wide_kinds) field_kind) w
unfolding is_node nodes_in
node_count w = is_count_by nodes_in (λ h. nat_lt (h % wide_kinds) field_kind) refl (λ h w. go (nat_lt (h % wide_kinds) field_kind) (nodes_in w)) w
  where
    go : (b : Bool) (n : ℕ) → cond b 1 0 + n ≡ cond b (1 + n) n
    go true n = refl
    go false n = zero-add n

-- ---- the words of a script
nodes-append : (v w : List ℕ) → nodes_in (v ++ w) ≡ nodes_in v + nodes_in w
unfolding nodes_in
nodes-append [] w = sym (zero-add (nodes_in w))
nodes-append (h ∷ v) w = rw (nodes-append v w) (omega arith)

is-node : (k p : ℕ) → k < field_kind → is_node (wide k p) ≡ 1
unfolding is_node
is-node k p h = let e : wide k p % wide_kinds ≡ k = omega arith in rw e (rw (lt-ltb k field_kind h) refl)

is-header : (k p : ℕ) → field_kind ≤ k → k < wide_kinds → is_node (wide k p) ≡ 0
unfolding is_node
is-header k p h l = let e : wide k p % wide_kinds ≡ k = omega arith in rw e (rw (le-ltb k field_kind h) refl)

literal-node : (k : Kind) (p : ℕ) → is_node (wide (kind_number k) p) ≡ 1
unfolding kind_number
literal-node Kind.object p = is-node 15 p (omega arith)
literal-node Kind.isolate p = is-node 16 p (omega arith)
literal-node Kind.actor p = is-node 17 p (omega arith)

nodes-nil : nodes_in [] ≡ 0
unfolding nodes_in
nodes-nil = refl

one-part : (h : ℕ) (v : List ℕ) (n : ℕ) → is_node h ≡ 1 → nodes_in v ≡ n → nodes_in (h ∷ v) ≡ 1 + n
unfolding nodes_in
one-part h v n e i = rw (e, i)

two-parts : (h : ℕ) (v w : List ℕ) (m n : ℕ) → is_node h ≡ 1 → nodes_in v ≡ m → nodes_in w ≡ n → nodes_in (h ∷ (v ++ w)) ≡ 1 + (m + n)
two-parts h v w m n e i j = one-part h (v ++ w) (m + n) e (nodes-append v w ∙ rw (i, j))

no_part : (h : ℕ) (v w : List ℕ) (m n : ℕ) → is_node h ≡ 0 → nodes_in v ≡ m → nodes_in w ≡ n → nodes_in (h ∷ (v ++ w)) ≡ m + n
unfolding nodes_in
no_part h v w m n e i j = rw (e, nodes-append v w, i, j) (zero-add (m + n))

mutual
  unfolding size wide_src wide_method

  nodes-src : (e : Src) → nodes_in (wide_src e) ≡ size e
  nodes-src (num n) = one-part _ [] 0 (is-node 2 n (omega arith)) nodes-nil
  nodes-src null = one-part _ [] 0 (is-node 1 0 (omega arith)) nodes-nil
  nodes-src (var x) = one-part _ [] 0 (is-node 6 x (omega arith)) nodes-nil
  nodes-src (op o es) = one-part _ _ _ (is-node (src_kind o) _ (op-passed o).below) (nodes-srcs es)
  nodes-src (let_in x e d) = two-parts _ _ _ _ _ (is-node 11 x (omega arith)) (nodes-src e) (nodes-src d)
  nodes-src (future x y e) = one-part _ _ _ (is-node 12 _ (omega arith)) (nodes-src e)
  nodes-src (literal k fs ms) = two-parts _ _ _ _ _ (literal-node k _) (nodes-fields fs) (nodes-methods ms)
  nodes-src (fn x e) = one-part _ _ _ (is-node 65 x (omega arith)) (nodes-src e)
  nodes-src (when e x d) = two-parts _ _ _ _ _ (is-node 67 x (omega arith)) (nodes-src e) (nodes-src d)

  nodes-srcs : (es : Srcs) → nodes_in (wide_srcs es) ≡ size_all es
  nodes-srcs nil = nodes-nil
  nodes-srcs (cons e es) = nodes-append (wide_src e) (wide_srcs es) ∙ rw (nodes-src e, nodes-srcs es)

  nodes-fields : (fs : SrcFields) → nodes_in (wide_fields fs) ≡ size_fields fs
  nodes-fields no_field = nodes-nil
  nodes-fields (field f e fs) = no_part _ _ _ _ _ (is-header field_kind f (omega arith) (omega arith)) (nodes-src e) (nodes-fields fs)

  nodes-methods : (ms : SrcMethods) → nodes_in (wide_methods ms) ≡ size_methods ms
  nodes-methods no_method = nodes-nil
  nodes-methods (method m xs e ms) = no_part _ _ _ _ _ (is-header 192 _ (omega arith) (omega arith)) (nodes-src e) (nodes-methods ms)

nodes-lines : (ls : List Line) (e : Src) → join ls ≡ done e → nodes_in (wide_lines ls) + length ls ≡ size e + 1
unfolding join flat wide_line wide_lines size nodes_in
nodes-lines [] e j = absurd (refused-done j)
nodes-lines (expression d ∷ []) e j =
    let z : d ≡ e = done-same d e j in
    omega (arith, nodes-append (wide_src d) [], nodes-src d, ap size z)
nodes-lines (define x d ∷ []) e j = absurd (refused-done j)
nodes-lines (expression d ∷ l ∷ ls) e j =
    let q = bind_done (join (l ∷ ls)) (λ b. done (op seq (cons d (cons b nil)))) e j in
    let z : op seq (cons d (cons q.0 nil)) ≡ e = done-same (op seq (cons d (cons q.0 nil))) e q.2 in
    let i = nodes-lines (l ∷ ls) q.0 q.1 in
    omega (arith, nodes-append (wide_src d) (flat wide_line (l ∷ ls)), nodes-src d, ap size z, i)
nodes-lines (define x d ∷ l ∷ ls) e j =
    let q = bind_done (join (l ∷ ls)) (λ b. done (let_in x d b)) e j in
    let z : let_in x d q.0 ≡ e = done-same (let_in x d q.0) e q.2 in
    let i = nodes-lines (l ∷ ls) q.0 q.1 in
    omega (arith, no_part (wide 130 x) (wide_src d) (flat wide_line (l ∷ ls)) _ _ (is-header 130 x (omega arith) (omega arith)) (nodes-src d) refl, ap size z, i)

-- ---- the ways to return
module _ (s : List ℕ) (words lines k n : ℕ) (d : k ≡ words) (c : n ≡ count_by (λ h. nat_lt (h % wide_kinds) field_kind) (take k s)) where
  pub size_none : lines ≡ 0 → Size s words lines n
  unfolding Size join
  size_none z [] e st j = absurd (refused-done j)
  size_none z (l ∷ ls) e st j = absurd (omega (arith, st.count))

  pub size-some : (lines ≡ 0 → ⊥) → Size s words lines (n + lines - 1)
  unfolding Size
  size-some z ls e st j = omega (arith, c ∙ sym (node_count (take k s)) ∙ ap (λ i. nodes_in (take i s)) d, ap nodes_in st.here, nodes-lines ls e j, st.count)

pub ruleset laws = (rules, size_none, size-some)
