-- The words of a table's lines expand to those of the script that the lines mean together: a line before others is a let around
-- them. Assumes nothing.
use Rattle.std.specs.Prelude.{◌≡◌, refl, ℕ, suc, ◌+◌, ◌*◌, ◌/◌, ◌≤◌, ◌<◌, length}
use Rattle.std.proofs.Math.Path.{ap}
use Rattle.std.proofs.Common.{◌∙◌, ne_eqb}
use mathlib.Core.List.{List, [], ◌∷◌, ◌++◌, append_assoc, append-nil}
use native.Mathlib.Omega.{arith}
use Rattle.atlite.specs.Base.{Result, done, refused, ◌>>=◌}
use Rattle.atlite.specs.Term.{·s}
use Rattle.atlite.specs.Script.{seq, Src, num, null, var, op, let_in, future, fn, when, literal, nil, cons, Line, expression, define, count_srcs, join}
use Rattle.atlite.specs.Expansion.{of_two}
use Rattle.atlite.specs.Table.{count_fields, count_methods, Grammatical, GrammaticalLines}
use Rattle.atlite_laws.specs.Facts.{refused-done}
use Rattle.layout.specs.Numbers.{payload, name_limit, no_name, digit_limit}
use Rattle.layout.specs.Pack.{node, flat}
use Rattle.layout_laws.specs.Fitting.{name-fits}
use Rattle.layout_laws.specs.KindRows.{kind-small}
use Rattle.layout_laws.specs.TableReads.{variable-named, src-kind-small, src-payload-small}
use Rattle.layout.specs.Terms.{kind_number, encode_term, null_word, binding}
use Rattle.layout.specs.Tables.{src_kind, src_payload, encode_src, definition_header, encode_line}
use Rattle.printer.specs.Nesting.{nesting, nesting_line, nesting_lines}
use Rattle.loading.specs.Expanding.{outside, expand_op_with, expand_with}
use Rattle.loading.specs.ExpandedWords.{emitted, lead_in, lines_in}
use Rattle.loading.specs.Expands.{One, many-one, one-front}
use Rattle.loading.specs.FormWords.{brings-definition}
use Rattle.loading.specs.ExpressionLaws.{self_word, emit-src}

-- ---- the first word of an expression is no definition's
unfoldable pub Leads : List ℕ → Type 0
Leads w = (r : List ℕ) → lead_in (w ++ r) ≡ binding ·s ∷ []

leads : (h : ℕ) (w : List ℕ) → h / payload < 130 → Leads (h ∷ w)
unfolding Leads lead_in
leads h w u r = rw (ne_eqb (h / payload) 130 (λ e. omega arith))

module _ (w : ℕ) (few : w ≤ 64) where
  src-leads : (e : Src) → Grammatical w e → Leads (encode_src e)
  unfolding encode_src Grammatical count_fields count_methods
  src-leads (num m) g = leads (node 2 m) _ (omega (arith, g))
  src-leads null g = leads (node 1 0) _ (omega arith)
  src-leads (var x) g = let f = variable-named w few x g in leads (node 6 x) _ (omega arith)
  src-leads (op o es) g =
      let k = src-kind-small o in
      let f = src-payload-small w few o (count_srcs es) g.0 in
      leads (node (src_kind o) (src_payload o (count_srcs es))) _ (omega arith)
  src-leads (let_in x a b) g = let f = name-fits w few x g.0 in leads (node 11 x) _ (omega arith)
  src-leads (future x y e) g = let f = name-fits w few x g.0 in let f' = name-fits w few y g.1 in leads (node 12 (x + name_limit * y)) _ (omega arith)
  src-leads (fn x e) g = let f = name-fits w few x g.0 in leads (node 65 x) _ (omega arith)
  src-leads (when a x b) g = let f = name-fits w few x g.1 in leads (node 67 x) _ (omega arith)
  src-leads (literal k fs ms) g =
      let p = g.0 in
      let q = g.2 in
      let r = kind-small k in
      leads (node (kind_number k) (count_fields fs + digit_limit * count_methods ms)) _ (omega arith)

  -- ---- one line
  line-one : (e : Src) → Grammatical w e → nesting e ≤ 32 → One 33 null_word (encode_src e) (encode_term (expand_with e outside))
  unfolding self_word
  line-one e g d = emit-src w few e 33 outside g (omega arith)

  definition-one : (x : ℕ) (e : Src) → x < no_name → Grammatical w e → nesting e ≤ 31
      → One 33 null_word (definition_header x ∷ encode_src e) (binding x ∷ encode_term (expand_with e outside))
  unfolding self_word
  definition-one x e f g d =
      one-front null_word (definition_header x) 33 1 null_word (binding x ∷ []) _ _ (omega arith) (brings-definition null_word (definition_header x) x (omega arith) (omega arith))
      (many-one 32 null_word _ _ (emit-src w few e 32 outside g (omega arith)))

  definition-leads : (x : ℕ) (e : List ℕ) → x < no_name → (r : List ℕ) → lead_in ((definition_header x ∷ e) ++ r) ≡ []
  unfolding lead_in
  definition-leads x e f r = let z : (x + payload * 130) / payload ≡ 130 = omega arith in rw z

  -- ---- lines
  -- A line before others: its words a with what stands before them are, around what the lines below mean, what F makes of that.
  before-lines : (n : ℕ) (a b r lead s : List ℕ) (F : Src → Src) → lead_in (a ++ (b ++ r)) ≡ lead → One 33 null_word a s
      → ((d : Src) → lead ++ (s ++ encode_term (expand_with d outside)) ≡ encode_term (expand_with (F d) outside))
      → (q : Result Src) → ((d : Src) → q ≡ done d → lines_in (suc n) (b ++ r) ≡ encode_term (expand_with d outside))
      → (e : Src) → (q >>= λ d. done (F d)) ≡ done e → lines_in (suc (suc n)) ((a ++ b) ++ r) ≡ encode_term (expand_with e outside)
  unfolding lines_in
  before-lines n a b r lead s F p o f (refused c) i e k = absurd (refused-done k)
  before-lines n a b r lead s F p o f (done d) i e k =
      let q : F d ≡ e = cc in
      ap (λ v. lines_in (suc (suc n)) v) (append_assoc a b r) ∙ rw (p, o.put (b ++ r), i d refl) (f d) ∙ ap (λ v. encode_term (expand_with v outside)) q

  pub emit-lines : (ls : List Line) (e : Src) (r : List ℕ) → GrammaticalLines w ls → nesting_lines ls ≤ 32 → join ls ≡ done e
      → lines_in (length ls) (flat encode_line ls ++ r) ≡ encode_term (expand_with e outside)
  unfolding join GrammaticalLines nesting_lines nesting_line flat encode_line lines_in Leads expand_with expand_op_with of_two encode_term
  emit-lines [] e r g d j = absurd (refused-done j)
  emit-lines (expression c ∷ []) e r g d j =
      let q : c ≡ e = cc in
      ap (λ v. (emitted 33 null_word (v ++ r)).words) (append-nil (encode_src c))
      ∙ ap (λ v. v.words) ((line-one c g.0 (omega arith)).put r)
      ∙ ap (λ v. encode_term (expand_with v outside)) q
  emit-lines (define x c ∷ []) e r g d j = absurd (refused-done j)
  emit-lines (expression c ∷ l ∷ ls) e r g d j =
      before-lines (length ls) (encode_src c) (flat encode_line (l ∷ ls)) r _ _ (λ s. op seq (cons c (cons s nil)))
      (src-leads c g.0 (flat encode_line (l ∷ ls) ++ r)) (line-one c g.0 (omega arith)) (λ s. refl)
      (join (l ∷ ls)) (λ s. emit-lines (l ∷ ls) s r g.1 (omega arith)) e j
  emit-lines (define x c ∷ l ∷ ls) e r g d j =
      let f = name-fits w few x g.0 in
      before-lines (length ls) (definition_header x ∷ encode_src c) (flat encode_line (l ∷ ls)) r _ _ (let_in x c)
      (definition-leads x (encode_src c) f (flat encode_line (l ∷ ls) ++ r)) (definition-one x c f g.1 (omega arith)) (λ s. refl)
      (join (l ∷ ls)) (λ s. emit-lines (l ∷ ls) s r g.2 (omega arith)) e j
