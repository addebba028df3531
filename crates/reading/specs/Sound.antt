-- What the reader accepts is grammatical and prints as the text that was read: by induction on the fuel, each reader of a form
-- being sound if the reader of its expressions is. Assumes nothing.
use Rattle.std.specs.Prelude.{◌≡◌, refl, true, ◌↔◌, length, eqb}
use Rattle.std.proofs.Math.Path.{sym, ap, ap₂}
use Rattle.std.proofs.Common.{◌∙◌, eqb-true}
use mathlib.Core.List.{List, [], ◌∷◌, ◌++◌, map, append_assoc}
use Prim.Native.Nat.{ℕ, zero, suc, ◌+◌, ◌-◌, ◌≤◌}
use native.Mathlib.Omega.{arith}
use Rattle.atlite.specs.Base.{Base, bytes, same_bytes, all}
use Rattle.atlite.specs.Term.{this}
use Rattle.atlite.specs.Lexicon.{Bytes, is_word, is_number, number_of}
use Rattle.atlite.specs.Script.{Src, nil, cons, no_field, field, no_method, method, Line, expression, define, count_srcs, src_shape}
use Rattle.atlite.specs.Printer.{Printer, form, print_word, known, print, print_all, print_fields, print_methods, print_line, print_script, placed}
use Rattle.atlite.specs.Reader.{Reading, item, after, atom, read_atom, read_word, spaced, spaced_word, read_items, read_operands, read_params, read_names, read_head, read_fields, read_methods, least, more, spelled, read_form, read_expr, read_definition, read_line, read_lines}
use Rattle.atlite.specs.Keywords.{Operator, bare, naming, let_in, future, fn, when, literal, operators}
use Rattle.atlite.specs.Valid.{is_name}
use Rattle.atlite.specs.Table.{count_fields, count_methods, Named, Grammatical, GrammaticalAll, GrammaticalFields, GrammaticalMethods, GrammaticalLines}
use Rattle.atlite_laws.specs.Facts.{both₂, or_right, same_true, Every, holds, nothing, every_bind, every-weaken, checked, every-found, every-if, every-test, every-option}
use Rattle.reading.specs.Numbers.{number-print, number-top}
use Rattle.reading.specs.Words.{number_word}
use Rattle.reading.specs.Items.{behind, closing, behind-append, form-closing, item-whole, eat-reads, after-whole, placed-none, Writes, operator-writes}

-- What a reader gives has the property G, and its text stood before what is left.
abbrev pub Sound : {A : Type 0} → (A → Type 0) → (A → Bytes) → Reading A → Type 0
Sound G text R = (i : Bytes) → Every (λ r. G r.0 × (text r.0 ++ r.1 ≡ i)) (R i)

spaced-sound : {A : Type 0} (G : A → Type 0) (text : A → Bytes) (R : Reading A) → Sound G text R
    → Sound G (λ a. 32 ∷ text a) (spaced R)
unfolding spaced
spaced-sound G text R s i =
    every_bind (eat-reads 32 i) (λ j p. every-weaken (s j) (λ r q. (q.0, ap {B = Bytes} (λ k. 32 ∷ k) q.1 ∙ p)))

-- Items are as many as allowed, whatever builds their list: Text is the text of the list with its closing bracket.
items-sound :
    {A L : Type 0} (end : L) (more : A → L → L) (G : A → Type 0) (text : A → Bytes) (R : Reading A)
    (H : ℕ → L → Type 0) (Text : L → Bytes → Bytes) → Sound G text R
    → ((k : ℕ) → H k end) → ((k : ℕ) (a : A) (l : L) → G a → H k l → H (suc k) (more a l))
    → ((j : Bytes) → Text end j ≡ 41 ∷ j) → ((a : A) (l : L) (j : Bytes) → Text (more a l) j ≡ 32 ∷ (text a ++ Text l j))
    → (k : ℕ) (i : Bytes) → Every (λ r. H k r.0 × (Text r.0 r.1 ≡ i)) (read_items end more R k i)
unfolding read_items
items-sound end more G text R H Text s h₀ h₁ t₀ t₁ zero i = every_bind (eat-reads 41 i) (λ j p. holds (h₀ zero, t₀ j ∙ p))
items-sound end more G text R H Text s h₀ h₁ t₀ t₁ (suc k) i =
    every-option (after (41 ∷ []) i)
    (λ e. every_bind (spaced-sound G text R s i) (λ (a, i₁) p.
    every_bind (items-sound end more G text R H Text s h₀ h₁ t₀ t₁ k i₁) (λ (l, i₂) q.
    holds (h₁ k a l p.0 q.0, t₁ a l i₂ ∙ ap {B = Bytes} (λ j. 32 ∷ (text a ++ j)) q.1 ∙ p.1))))
    (λ j e. holds (h₀ (suc k), t₀ j ∙ after-whole (41 ∷ []) i j e))

-- the text of a form, from the text behind its operator's word
built : {v w : Bytes} → v ≡ w → (items : List Bytes) (i j : Bytes) → closing items j ≡ i → form (v ∷ items) ++ j ≡ 40 ∷ (w ++ i)
built {v} e items i j p = form-closing v items j ∙ ap₂ {C = Bytes} (λ u k. 40 ∷ (u ++ k)) e p

module _ (ws : List Bytes) where
  word_sound : Sound (Named (length ws)) (print_word ws) (read_word ws)
  unfolding read_word
  word_sound i =
      checked 2 (is_word (item i).0) (λ h. every-found 2 (number_of ws (item i).0) (λ x e.
      let p = number_word ws (item i).0 x e in
      holds (p.1, ap {B = Bytes} (λ w. w ++ (item i).1) p.0 ∙ item-whole i)))

  spaced_word-sound : Sound (Named (length ws)) (λ x. 32 ∷ print_word ws x) (spaced_word ws)
  unfolding spaced_word
  spaced_word-sound i = spaced-sound (Named (length ws)) (print_word ws) (read_word ws) word_sound i

  atom-sound : (w : Bytes) → Every (λ e. Grammatical (length ws) e × (print ws e ≡ w)) (atom ws w)
  unfolding atom Grammatical print print_word known Base
  atom-sound w =
      every-if (is_number w) (λ h. holds (number-top w h, number-print w h))
      (λ _. every-if (same_bytes w (bytes "null")) (λ h. holds (tt, sym (same_true w (bytes "null") h)))
      (λ _. every-if (same_bytes w (bytes "this")) (λ h. holds (refl, sym (same_true w (bytes "this") h)))
      (λ _. checked 2 (is_word w) (λ _. every-found 2 (number_of ws w) (λ x e.
      let p = number_word ws w x e in holds (or_right (eqb x this) p.1, p.0))))))

  read_atom-sound : Sound (Grammatical (length ws)) (print ws) (read_atom ws)
  unfolding read_atom
  read_atom-sound i =
      every_bind (atom-sound (item i).0) (λ e p. holds (p.0, ap {B = Bytes} (λ w. w ++ (item i).1) p.1 ∙ item-whole i))

  -- a list of parameters: at most k of them, all names
  Params : ℕ → List ℕ → Type 0
  Params k xs = (length xs ≤ k) × (all (is_name (length ws)) xs ≡ true)

  params-sound : (i : Bytes) → Every (λ r. Params 2 r.0 × (closing (map (print_word ws) r.0) r.1 ≡ i)) (read_params ws i)
  unfolding read_params Params all
  params-sound i =
      items-sound [] ◌∷◌ (Named (length ws)) (print_word ws) (read_word ws) Params (λ xs j. closing (map (print_word ws) xs) j) word_sound
      (λ k. (omega arith, refl)) (λ k x xs g h. let l = h.0 in (omega arith, both₂ g h.1)) (λ j. refl) (λ x xs j. refl) 2 i

  head-sound : (i : Bytes) → Every (λ r. Params 3 r.0 × (32 ∷ (form (map (print_word ws) r.0) ++ r.1) ≡ i)) (read_head ws i)
  unfolding read_head read_names Params all Base Printer
  head-sound i =
      every-found 2 (after (bytes " (") i) (λ i₁ e.
      let p = after-whole (bytes " (") i i₁ e in
      every-option (after (41 ∷ []) i₁)
      (λ _. every_bind (word_sound i₁) (λ (x, i₂) (n, a). every_bind (params-sound i₂) (λ (xs, i₃) ((l, ns), b).
      let t = form-closing (print_word ws x) (map (print_word ws) xs) i₃ in
      holds ((omega arith, both₂ n ns), cc))))
      (λ j f. holds ((omega arith, refl), ap {B = Bytes} (λ k. 32 ∷ 40 ∷ k) (after-whole (41 ∷ []) i₁ j f) ∙ p)))

  module _ (R : Reading Src) (s : Sound (Grammatical (length ws)) (print ws) R) where
    next : Sound (Grammatical (length ws)) (λ e. 32 ∷ print ws e) (spaced R)
    next i = spaced-sound (Grammatical (length ws)) (print ws) R s i

    -- k operands, at most n more, and the closing bracket
    operands-sound : (k n : ℕ) (i : Bytes)
        → Every (λ r. ((k ≤ count_srcs r.0) × (count_srcs r.0 ≤ k + n) × GrammaticalAll (length ws) r.0) × (closing (print_all ws r.0) r.1 ≡ i))
        (read_operands R k n i)
    unfolding read_operands Grammatical print count_srcs
    operands-sound zero n i =
        items-sound nil cons (Grammatical (length ws)) (print ws) R (λ n es. (0 ≤ count_srcs es) × (count_srcs es ≤ 0 + n) × GrammaticalAll (length ws) es)
        (λ es j. closing (print_all ws es) j) s (λ n. (omega arith, omega arith, tt)) (λ n e es g (_, most, gs). (omega arith, omega arith, (g, gs)))
        (λ j. refl) (λ e es j. refl) n i
    operands-sound (suc k) n i =
        every_bind (next i) (λ (e, i₁) (g, t). every_bind (operands-sound k n i₁) (λ (es, i₂) ((least, most, gs), ts).
        holds ((omega arith, omega arith, (g, gs)), cc)))

    fields-sound : (k : ℕ) (i : Bytes)
        → Every (λ r. (count_fields r.0 ≤ k) × GrammaticalFields (length ws) r.0 × (behind (print_fields ws r.0) r.1 ≡ i))
        (read_fields ws R k i)
    unfolding read_fields count_fields Grammatical print Base
    fields-sound zero i = holds {a = (no_field, i)} (omega arith, tt, refl)
    fields-sound (suc k) i =
        every-option (after (bytes " (field ") i) (λ _. holds (omega arith, tt, refl)) (λ i₁ h.
        every_bind (word_sound i₁) (λ (f, i₂) (n, a). every_bind (next i₂) (λ (e, i₃) (g, b). every_bind (eat-reads 41 i₃) (λ i₄ c.
        every_bind (fields-sound k i₄) (λ (fs, i₅) (few, gs, d).
        let t = form-closing (bytes "field") (print_word ws f ∷ print ws e ∷ []) (behind (print_fields ws fs) i₅) in
        holds (omega arith, (n, g, gs), cc (after-whole (bytes " (field ") i i₁ h)))))))

    methods-sound : (k : ℕ) (i : Bytes)
        → Every (λ r. (count_methods r.0 ≤ k) × GrammaticalMethods (length ws) r.0 × (behind (print_methods ws r.0) r.1 ≡ i))
        (read_methods ws R k i)
    unfolding read_methods count_methods Grammatical print Params Base
    methods-sound zero i = holds {a = (no_method, i)} (omega arith, tt, refl)
    methods-sound (suc k) i =
        every-option (after (bytes " (method ") i) (λ _. holds (omega arith, tt, refl)) (λ i₁ h.
        every_bind (word_sound i₁) (λ (m, i₂) (n, a). every_bind (head-sound i₂) (λ (xs, i₃) ((l, ns), b). every_bind (next i₃) (λ (e, i₄) (g, c).
        every_bind (eat-reads 41 i₄) (λ i₅ d. every_bind (methods-sound k i₅) (λ (ms, i₆) (few, gs, u).
        let items = print_word ws m ∷ form (map (print_word ws) xs) ∷ print ws e ∷ [] in
        let t = form-closing (bytes "method") items (behind (print_methods ws ms) i₆) in
        holds (omega arith, (n, l, ns, g, gs), cc (after-whole (bytes " (method ") i i₁ h))))))))

    form-sound : (o : Operator) (w i : Bytes) → Writes w o
        → Every (λ r. Grammatical (length ws) r.0 × (print ws r.0 ++ r.1 ≡ 40 ∷ (w ++ i))) (read_form o ws R i)
    unfolding read_form Grammatical print placed count_srcs
    form-sound (bare o) w i (word, names, asks) =
        every_bind (operands-sound (least (src_shape o)) (more (src_shape o)) i) (λ (es, j) ((low, high, gs), t).
        let h = (asks (length ws) (count_srcs es)).1 (refl, low, high) in
        holds ((h, gs), rw (names ws, placed-none (print_all ws es)) (built word (print_all ws es) i j t)))
    form-sound (naming c) w i z =
        every_bind (next i) (λ (e, i₁) (g, a). every_bind (spaced_word-sound i₁) (λ (x, i₂) (n, b).
        every_bind (operands-sound (least (src_shape (c x)) - 1) (more (src_shape (c x))) i₂) (λ (es, j) ((low, high, gs), t).
        let (word, names, first, asks) = z x in
        let h = (asks (length ws) (count_srcs (cons e es))).1 (n, omega arith, omega arith) in
        holds ((h, (g, gs)), rw (names ws) (built word (print ws e ∷ print_word ws x ∷ print_all ws es) i j (cc))))))
    form-sound let_in w i z =
        every_bind (spaced_word-sound i) (λ (x, i₁) v. every_bind (next i₁) (λ (e, i₂) p.
        every_bind (next i₂) (λ (d, i₃) q. every_bind (eat-reads 41 i₃) (λ j u.
        holds ((v.0, p.0, q.0), built z (print_word ws x ∷ print ws e ∷ print ws d ∷ []) i j (cc (v.1, p.1, q.1, u)))))))
    form-sound future w i z =
        every_bind (spaced_word-sound i) (λ (x, i₁) v. every_bind (spaced_word-sound i₁) (λ (y, i₂) q.
        every_bind (next i₂) (λ (e, i₃) p. every_bind (eat-reads 41 i₃) (λ j u.
        holds ((v.0, q.0, p.0), built z (print_word ws x ∷ print_word ws y ∷ print ws e ∷ []) i j (cc (v.1, p.1, q.1, u)))))))
    form-sound fn w i z =
        every_bind (spaced_word-sound i) (λ (x, i₁) v. every_bind (next i₁) (λ (e, i₂) p. every_bind (eat-reads 41 i₂) (λ j u.
        holds ((v.0, p.0), built z (print_word ws x ∷ print ws e ∷ []) i j (cc (v.1, p.1, u))))))
    form-sound when w i z =
        every_bind (next i) (λ (a, i₁) p. every_bind (spaced_word-sound i₁) (λ (x, i₂) v. every_bind (next i₂) (λ (b, i₃) q.
        every_bind (eat-reads 41 i₃) (λ j u.
        holds ((p.0, v.0, q.0), built z (print ws a ∷ print_word ws x ∷ print ws b ∷ []) i j (cc (p.1, v.1, q.1, u)))))))
    form-sound (literal k) w i z =
        every_bind (fields-sound 4 i) (λ (fs, i₁) p. every_bind (methods-sound 4 i₁) (λ (ms, i₂) q. every_bind (eat-reads 41 i₂) (λ j u.
        let t = behind-append (print_fields ws fs) (print_methods ws ms) (41 ∷ j) in
        holds ((p.0, p.1, q.0, q.1), built z (print_fields ws fs ++ print_methods ws ms) i j (cc (t, p.2, q.2, u))))))

  pub expr-sound : (n : ℕ) → Sound (Grammatical (length ws)) (print ws) (read_expr operators n ws)
  unfolding read_expr
  expr-sound zero i = nothing
  expr-sound (suc n) [] = nothing
  expr-sound (suc n) (b ∷ i) =
      every-test (eqb b 40)
      (λ h. every-found 2 (spelled operators (item i).0) (λ o e.
      every-weaken (form-sound (read_expr operators n ws) (λ j. expr-sound n j) o (item i).0 (item i).1 (operator-writes (item i).0 o e)) (λ r p.
      (p.0, p.1 ∙ ap₂ {C = Bytes} (λ c j. c ∷ j) (sym (eqb-true b 40 h)) (item-whole i)))))
      (λ _. read_atom-sound (b ∷ i))

  abbrev pub GrammaticalLine : Line → Type 0
  GrammaticalLine (expression e) = Grammatical (length ws) e
  GrammaticalLine (define x e) = Named (length ws) x × Grammatical (length ws) e

  line-sound : (n : ℕ) (i : Bytes) → Every (λ r. GrammaticalLine r.0 × (print_line ws r.0 ++ r.1 ≡ i)) (read_line operators n ws i)
  unfolding read_line read_definition print_line Base
  line-sound n i =
      every-option (after (bytes "(def ") i)
      (λ _. every_bind (expr-sound n i) (λ (e, i₁) p. every_bind (eat-reads 10 i₁) (λ j u.
      holds (p.0, cc (append_assoc (print ws e) (10 ∷ []) j, p.1, u)))))
      (λ i₁ h. every_bind (word_sound i₁) (λ (x, i₂) v.
      every_bind (spaced-sound (Grammatical (length ws)) (print ws) (read_expr operators n ws) (expr-sound n) i₂) (λ (e, i₃) p.
      every_bind (eat-reads 41 i₃) (λ i₄ u. every_bind (eat-reads 10 i₄) (λ j y.
      let w = form (bytes "def" ∷ print_word ws x ∷ print ws e ∷ []) in
      let t = form-closing (bytes "def") (print_word ws x ∷ print ws e ∷ []) (10 ∷ j) in
      holds ((v.0, p.0), cc (append_assoc w (10 ∷ []) j, t, v.1, p.1, u, y, after-whole (bytes "(def ") i i₁ h)))))))

  pub lines-grammatical : (l : Line) (ls : List Line)
      → GrammaticalLines (length ws) (l ∷ ls) ↔ (GrammaticalLine l × GrammaticalLines (length ws) ls)
  unfolding GrammaticalLines
  lines-grammatical (expression e) ls = (λ g. g, λ g. g)
  lines-grammatical (define x e) ls = (λ g. ((g.0, g.1), g.2), λ g. (g.0.0, g.0.1, g.1))

  pub lines-sound : (n : ℕ) (i : Bytes) → Every (λ ls. GrammaticalLines (length ws) ls × (print_script ws ls ≡ i)) (read_lines operators n ws i)
  unfolding read_lines print_script GrammaticalLines
  lines-sound zero i = nothing
  lines-sound (suc n) [] = holds {a = []} (tt, refl)
  lines-sound (suc n) (b ∷ i) =
      every_bind (line-sound (suc n) (b ∷ i)) (λ (l, i₁) p. every_bind (lines-sound n i₁) (λ ls q.
      holds ((lines-grammatical l ls).1 (p.0, q.0), ap {B = Bytes} (λ j. print_line ws l ++ j) q.1 ∙ p.1)))
