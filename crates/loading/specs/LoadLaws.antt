-- A table's words load as the definitions say: its lines expand to the words of the first expression, and the limits come down to that
-- expression's nodes. One law for each way to return. Assumes nothing.
use Rattle.std.specs.Prelude.{◌≡◌, Bool, true, false, ◌&&◌, ℕ, suc, ◌+◌, ◌-◌, ◌≤◌, ◌<◌, leb, take, get_or}
use Rattle.std.proofs.Math.Path.{refl, ap, ap₂}
use Rattle.std.proofs.Common.{sym, ◌∙◌, subst as transp, zero-add, rules, le-leb, leb-true, leb-false, take_at, length-take-le}
use mathlib.Core.List.{List, [], ◌∷◌, ◌++◌, append_assoc}
use native.Mathlib.Omega.{arith}
use Rattle.std.proofs.lemmas.Bool.{lt-leb}
use Rattle.std.proofs.Math.ListN.{length, drop, length-append}
use Rattle.std.proofs.Math.Seq.{sets, slice, sets-eq}
use Rattle.atlite.specs.Base.{Base, Result, done, refused, ◌>>◌, require}
use Rattle.atlite.specs.Term.{this, null, Term, val, nodes}
use Rattle.atlite.specs.Subst.{subst}
use Rattle.atlite.specs.Expansion.{expand}
use Rattle.atlite.specs.State.{State}
use Rattle.atlite.specs.Limits.{full, Limits, within_limits}
use Rattle.atlite.specs.Table.{Table, IsTable, text_of}
use Rattle.atlite.specs.Load.{start, load}
use Rattle.atlite.specs.Valid.{unreferring}
use Rattle.atlite_laws.specs.Facts.{refused-done}
use Rattle.reading.specs.Exact.{table-words}
use Rattle.invariant.specs.Loads.{joined, script-closed}
use Rattle.invariant.specs.TermTests.{Is, wf-from}
use Rattle.layout.specs.Numbers.{expr_size, made_size, state_words, lines_at, lines_size, table_words}
use Rattle.layout.specs.Pack.{zeros, pad, flat}
use Rattle.layout_laws.specs.PackLaws.{length-flat, length-pad, drop-pad}
use Rattle.layout_laws.specs.Writes.{zeros-split}
use Rattle.layout.specs.Terms.{encode_term}
use Rattle.layout_laws.specs.TermLaws.{Fits, term-length}
use Rattle.layout_laws.specs.Fitting.{plain_fits, fits-term}
use Rattle.layout_laws.specs.Arity.{nodes_in}
use Rattle.layout_laws.proofs.Arity.{term-nodes}
use Rattle.layout.specs.Layout.{encode_word, encode}
use Rattle.layout_laws.specs.StateReads.{words-three}
use Rattle.layout.specs.Tables.{encode_line, encode_table}
use Rattle.layout_laws.specs.TableFitting.{table_fits}
use Rattle.loading.specs.Writer.{Wrote, cap, cap-small, cap-large}
use Rattle.printer.specs.TextDepth.{depth-script}
use Rattle.loading.specs.Expanding.{outside, self_term, expand_with, expand-this}
use Rattle.loading.specs.ExpandedWords.{lines_in}
use Rattle.loading.specs.Lines.{emit-lines}
use Rattle.loading.specs.Start.{head_words, part_words, head-length, part_length, fresh, start-run}
use Rattle.loading.specs.LoadContract.{Loaded, LoadsWords, Loads}

-- ---- a table's words
-- the first 192 of more words, of which few are not zero
padded-run : (a b c : ℕ) (w r : List ℕ) → length w ≤ 192 → slice 3 195 (pad lines_at (a ∷ b ∷ c ∷ w) ++ r) ≡ pad 192 w
unfolding pad
padded-run a b c w r h =
    let k : lines_at - suc (suc (suc (length w))) ≡ (192 - length w) + 61 = omega arith in
    ap {B = List ℕ} (λ j. take 192 ((w ++ zeros j) ++ r)) k
    ∙ ap {B = List ℕ} (λ v. take 192 ((w ++ v) ++ r)) (zeros-split (192 - length w) 61)
    ∙ ap {B = List ℕ} (λ v. take 192 v) (three-parts w (zeros (192 - length w)) (zeros 61) r)
    ∙ take_at (w ++ zeros (192 - length w)) (zeros 61 ++ r) 192 (length-pad 192 w h)
  where
    three-parts : (a b c r : List ℕ) → (a ++ (b ++ c)) ++ r ≡ (a ++ b) ++ (c ++ r)
    three-parts a b c r = simp append_assoc

padded : (w : List ℕ) → pad lines_size w ≡ w ++ zeros (lines_size - length w)
unfolding pad
padded w = refl

module _ (T : Table) (i : IsTable T) where
  few : length T.words ≤ 64
  few = (table_fits T i).word_count

  dictionary-length : length (flat encode_word T.words) ≤ 192
  dictionary-length = let n = length-flat encode_word 3 T.words (words-three T.words) in let c = few in omega arith

  word_count_lem : get_or (encode_table T) 0 0 ≡ length T.words
  unfolding encode_table pad
  word_count_lem = refl

  line-count : get_or (encode_table T) 1 0 ≡ length T.lines
  unfolding encode_table pad
  line-count = refl

  line-words : drop lines_at (encode_table T) ≡ flat encode_line T.lines ++ zeros (lines_size - length (flat encode_line T.lines))
  unfolding encode_table
  line-words = let d = dictionary-length in drop-pad made_size _ _ (omega arith) ∙ padded (flat encode_line T.lines)

  dictionary-words : slice 3 195 (encode_table T) ≡ pad 192 (flat encode_word T.words)
  unfolding encode_table
  dictionary-words = let d = dictionary-length in padded-run _ _ _ (flat encode_word T.words) _ d

  -- ---- the first expression
  term : Term
  term = expand_with i.script outside

  expression-is : subst this (val null) (expand i.script) ≡ term
  unfolding term self_term
  expression-is = expand-this i.script (length T.words) outside (joined (length T.words) T.lines i.script i.grammar i.joined)

  lines_are : lines_in (get_or (encode_table T) 1 0) (drop lines_at (encode_table T)) ≡ encode_term term
  unfolding term text_of
  lines_are =
      let d = depth-script T.words (table-words T i) T.lines i.grammar in
      rw (line-count, line-words) (emit-lines (length T.words) few T.lines i.script _ i.grammar (omega (arith, i.brackets)) i.joined)

  term_fits : Fits term
  term_fits =
      let g = joined (length T.words) T.lines i.script i.grammar i.joined in
      let h = script-closed (length T.words) (Is unreferring) i.script (λ v u. u) g i.binding i.lists in
      transp Fits expression-is (fits-term _ (length T.words) unreferring [] few plain_fits tt (wf-from _ (length T.words) unreferring [] h))

  -- ---- the limits
  first : State
  first = record { words = T.words; actors = fresh term ∷ [] }

  and-true : (b : Bool) → (b && true) ≡ b
  and-true true = refl
  and-true false = refl

  limits-are : within_limits full first.actors ≡ leb (nodes term) 256
  unfolding Limits Base first fresh
  limits-are = and-true (leb (nodes term) 256)

  start_is : start T.words (expand i.script) ≡ first
  unfolding start first fresh
  start_is = ap (λ x. record { words = T.words; actors = record { moves = 0; made = []; copied = []; inbox = []; expr = x } ∷ [] }) expression-is

  load_is : load T ≡ (require 16 (leb (nodes term) 256) >> done first)
  unfolding load
  load_is = rw (i.joined, start_is, limits-are)

  load-small : nodes term ≤ 256 → load T ≡ done first
  unfolding require
  load-small h = load_is ∙ rw (le-leb (nodes term) 256 h)

  load-large : 256 < nodes term → load T ≡ refused 16
  unfolding require
  load-large h = load_is ∙ rw (lt-leb (nodes term) 256 h)

  -- ---- the ways to return
  refusing : (old : List ℕ) → 256 < nodes term → Loaded T old false old
  refusing old h = record {
    loads = λ σ e. absurd (refused-done (sym (load-large h) ∙ e));
    refuses = λ n e. let q : ◌≡◌ {A = Result State} (refused 16) (refused n) = sym (load-large h) ∙ e in let z : n ≡ 16 = cc in (z, refl, refl);
  }

  accepting : (old new : List ℕ) → nodes term ≤ 256 → new ≡ encode first ++ drop state_words old → Loaded T old true new
  accepting old new h e = record {
    loads = λ σ f.
        let q : ◌≡◌ {A = Result State} (done first) (done σ) = sym (load-small h) ∙ f in
        let z : first ≡ σ = cc in
        (refl, e ∙ ap {B = List ℕ} (λ τ. encode τ ++ drop state_words old) z);
    refuses = λ n f. absurd (refused-done (sym f ∙ load-small h));
  }

more-than : (n : ℕ) → (n ≤ 256 → ⊥) → 256 < n
more-than n f = go (leb n 256) refl
  where
    go : (b : Bool) → leb n 256 ≡ b → 256 < n
    go true e = absurd (f (leb-true n 256 e))
    go false e = leb-false n 256 e

module _ (t old out mid : List ℕ) (n o : ℕ) (p : Wrote out 0 (lines_in n (drop lines_at t)) mid o) (a : n ≡ get_or t 1 0) where
  wrote-term : (T : Table) (i : IsTable T) → t ≡ encode_table T → Wrote out 0 (encode_term (term T i)) mid o
  wrote-term T i e =
      transp (λ l. Wrote out 0 l mid o) (ap {B = List ℕ} (λ k. lines_in k (drop lines_at t)) a ∙ ap {B = List ℕ} (λ w. lines_in (get_or w 1 0) (drop lines_at w)) e ∙ lines_are T i) p

  pub loaded-long : expr_size < o → LoadsWords t old false old
  unfolding LoadsWords
  loaded-long h T i e =
      let q = wrote-term T i e in
      let l = term-length (term T i) in
      refusing T i old (more-than (nodes (term T i)) (λ s. let c = q.next ∙ cap-small (0 + length (encode_term (term T i))) (omega arith) in omega arith))

  module _ (f : length out ≡ 4096) (s : o ≤ expr_size) where
    term-end : (T : Table) (i : IsTable T) → t ≡ encode_table T → o ≡ length (encode_term (term T i))
    term-end T i e =
        let n = length (encode_term (term T i)) in
        let q = wrote-term T i e in
        go n q.next (leb n 4096) refl
      where
        go : (n : ℕ) → o ≡ cap (0 + n) → (b : Bool) → leb n 4096 ≡ b → o ≡ n
        go n q true l = let k = leb-true n 4096 l in q ∙ cap-small (0 + n) (omega arith) ∙ zero-add n
        go n q false l = let k = leb-false n 4096 l in absurd (omega (arith, q, cap-large (0 + n) (omega arith)))

    term-at : (T : Table) (i : IsTable T) → t ≡ encode_table T → slice 0 o mid ≡ encode_term (term T i)
    term-at T i e =
        let w = encode_term (term T i) in
        let n = term-end T i e in
        let q = wrote-term T i e in
        ap (λ l. slice 0 o l) (q.is f ∙ sets-eq w out 0 (omega arith)) ∙ take_at w _ o (sym n)

    module _ (k : ℕ) (c : k ≡ nodes_in (slice 0 o mid)) where
      nodes-are : (T : Table) (i : IsTable T) → t ≡ encode_table T → k ≡ nodes (term T i)
      nodes-are T i e = c ∙ ap nodes_in (term-at T i e) ∙ term-nodes (term T i) (term_fits T i)

      pub loaded-large : 256 < k → LoadsWords t old false old
      unfolding LoadsWords
      loaded-large h T i e = refusing T i old (let q = nodes-are T i e in omega arith)

      pub loaded-small : (new : List ℕ) → k ≤ 256 → state_words ≤ length old
          → new ≡ sets old 0 (head_words (get_or t 0 0) (slice 3 195 t) ++ part_words o (slice 0 o mid)) → LoadsWords t old true new
      unfolding LoadsWords first
      loaded-small new h r u T i e =
          let q = nodes-are T i e in
          let n = term-end T i e in
          let w = encode_term (term T i) in
          let d = dictionary-length T i in
          let c = length T.words in
          let D = pad 192 (flat encode_word T.words) in
          let a : head_words (get_or t 0 0) (slice 3 195 t) ++ part_words o (slice 0 o mid) ≡ head_words c D ++ part_words (length w) w =
          ap₂ (λ v l. head_words (get_or v 0 0) (slice 3 195 v) ++ part_words o l) e (term-at T i e)
          ∙ ap₂ (λ x y. head_words x y ++ part_words o w) (word_count_lem T i) (dictionary-words T i) ∙ ap (λ x. head_words c D ++ part_words x w) n in
          let b = length-append (head_words c D) (part_words (length w) w) in
          let y = head-length c D (length-pad 192 (flat encode_word T.words) d) in
          let z = part_length (length w) w refl (omega arith) in
          let m : 0 + length (head_words c D ++ part_words (length w) w) ≡ state_words = omega arith in
          accepting T i old new (omega arith)
          (u ∙ ap (λ v. sets old 0 v) a ∙ sets-eq (head_words c D ++ part_words (length w) w) old 0 (omega arith)
          ∙ ap₂ {C = List ℕ} (λ v j. v ++ drop j old) (sym (start-run T.words (term T i) (few T i) (omega arith))) m)

-- ---- the words that are published
module _ (w : List ℕ) (h : table_words ≤ length w) where
  pub published-length : length (take table_words w) ≡ table_words
  published-length = length-take-le table_words w h

  pub published-count : table_words ≡ length (take table_words w)
  published-count = sym published-length

pub loaded-words : (w old new : List ℕ) (r : Bool) → LoadsWords (take table_words w) old r new → Loads w old r new
unfolding LoadsWords Loads
loaded-words w old new r a = a

pub ruleset long-laws = (rules, loaded-long)

pub ruleset large-laws = (rules, loaded-large)

pub ruleset small-laws = (rules, loaded-small)

pub ruleset published-laws = (rules, published-length, published-count, loaded-words)
