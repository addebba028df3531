-- The expressions of a form, one after the other to its closing bracket, behind its head word or behind a word between them. Assumes nothing.
use Rattle.std.specs.Prelude.{◌≡◌, length, drop, Option, Some, None}
use Rattle.std.proofs.Math.Path.{ap}
use Rattle.std.proofs.Common.{◌∙◌}
use mathlib.Core.List.{List, ◌∷◌, ◌++◌, append-nil}
use Prim.Native.Nat.{ℕ, suc, ◌+◌, ◌-◌, ◌<◌}
use native.Mathlib.Omega.{arith}
use Rattle.std.proofs.Math.ListN.{set, length-append}
use Rattle.std.proofs.Math.Seq.{sets}
use Rattle.atlite.specs.Lexicon.{Bytes, dictionary}
use Rattle.atlite.specs.Script.{count_srcs}
use Rattle.atlite.specs.Keywords.{operators}
use Rattle.atlite.specs.Reader.{spaced, spaced_word, read_expr}
use Rattle.words.specs.Wide.{wide, pair, wide_src, wide_srcs}
use Rattle.lexemes.specs.declared.names.Name.{Name}
use Rattle.lexemes.specs.declared.scratch.Step.{Step}
use Rattle.lexemes.specs.Atoms.{NameRead, SpacedName}
use Rattle.lexemes.specs.DescentContract.{read_args, Read, Took, Reads, Closed, TookPart, Follow, Argued, spaceds, Parts, read_parts, parts, part_words, head_words, read_one, ones, one_words, read_mid, mids, mid_words, read_send, sends, send_words}
use Rattle.layout_laws.specs.Writes.{sets-append}
use Rattle.lexemes.specs.NameLaws.{spaced-read}
use Rattle.lexemes.specs.DescentLaws.{headed, bind_assoc, took-under}

-- ---- expressions to the closing bracket
module _ (t : Bytes) (at p o w : ℕ) (old new : List ℕ) where
  none-core : (n : ℕ) (r : Option Step) → Closed t at old o w p new r → TookPart 1 (part_words 0) (λ v. w) t at p old o new (parts 0 t n (drop at t)) r
  unfolding TookPart Closed parts read_parts part_words
  none-core n (Some s) c =
      let d = c.next in
      let g = c.ends in
      record { value = tt; is = rw c.is; far = omega arith; within = c.within; wrote = c.wrote; ends = omega arith; short = omega arith }
  none-core n None c = rw c

  pub parts_none : (k : ℕ) (r : Option Step) → k ≡ 0 → Closed t at old o w p new r → Follow w k t at p old o new r
  unfolding Follow
  parts_none k r e c = rw e (λ n l. none-core n r c)

  module _ (m₁ : List ℕ) where
    pub parts-bad : (k : ℕ) → (k ≡ 0 → ⊥) → Reads wide_src (spaceds t) t at p old m₁ None → Follow w k t at p old o new None
    unfolding Follow TookPart Reads Took spaceds parts read_parts
    parts-bad k z u = let y : k ≡ suc (k - 1) = omega arith in rw y (λ n l. rw (u n l))

    more-core : (n j i q : ℕ) (r : Option Step) → Read wide_src t at p old m₁ (spaced (read_expr operators n (dictionary t)) (drop at t)) i q
        → TookPart 1 (part_words j) (λ v. w) t i q m₁ o new (parts j t n (drop i t)) r
        → TookPart 1 (part_words (suc j)) (λ v. w) t at p old o new (parts (suc j) t n (drop at t)) r
    unfolding TookPart parts read_parts part_words
    more-core n j i q (Some s) x y =
        let b₁ = x.short in
        let b₂ = y.short in
        let f₁ = x.far in
        let f₂ = y.far in
        let a₁ = x.ends in
        let a₂ = y.ends in
        let both : sets m₁ q (part_words j y.value) ≡ sets old p (wide_src x.value ++ part_words j y.value) =
        rw (x.wrote, a₁) (sets-append (wide_src x.value) (part_words j y.value) old p) in
        record {
          value = (x.value, y.value);
          is = rw x.is (rw y.is);
          far = omega arith;
          within = y.within;
          wrote = y.wrote ∙ ap (λ (u : List ℕ). set u o w) both;
          ends = omega (arith, length-append (wide_src x.value) (part_words j y.value));
          short = omega arith;
        }
    more-core n j i q None x y = rw x.is (rw y)

    pub parts_more : (k : ℕ) (s : Step) (r : Option Step) → (k ≡ 0 → ⊥) → Reads wide_src (spaceds t) t at p old m₁ (Some s)
        → Follow w (k - 1) t s.at s.out m₁ o new r → Follow w k t at p old o new r
    unfolding Follow Reads Took spaceds
    parts_more k s r z v u =
        let y : k ≡ suc (k - 1) = omega arith in
        rw y (λ n l. let x = v n l in let f = x.far in more-core n (k - 1) s.at s.out r x (u n (omega arith)))

-- with the head word before them
module _ (t : Bytes) (at o w k : ℕ) (old new : List ℕ) where
  whole-core : (n : ℕ) (r : Option Step) → TookPart 1 (part_words k) (λ v. w) t at (o + 1) old o new (parts k t n (drop at t)) r
      → Took (head_words w k) t at o old new (parts k t n (drop at t)) r
  unfolding Took TookPart head_words
  whole-core n (Some s) x =
      let b = x.short in
      let f = x.far in
      let e = x.ends in
      record {
        value = x.value;
        is = x.is;
        far = omega arith;
        within = x.within;
        wrote = x.wrote ∙ headed (part_words k x.value) old o w;
        ends = omega arith;
        short = omega arith;
      }
  whole-core n None x = x

  pub whole : (r : Option Step) → Follow w k t at (o + 1) old o new r → Reads (head_words w k) (parts k t) t at o old new r
  unfolding Reads Follow
  whole r u n l = whole-core n r (u n l)

pub one-part : (t : Bytes) (at o w : ℕ) (old new : List ℕ) (r : Option Step) → Follow w 1 t at (o + 1) old o new r → Reads (one_words w) (ones t) t at o old new r
unfolding Reads head_words part_words one_words parts read_parts ones read_one
one-part t at o w old new r u n l =
    took-under (λ (v : Parts 1). v.0) (head_words w 1) (one_words w) (λ v. rw (append-nil (wide_src v.0))) t at at o old new (omega arith) _ _ r
    (simp bind_assoc) (whole t at o w 1 old new r u n l)

-- ---- behind an expression and a word
module _ (t : Bytes) (at o : ℕ) (old m₁ new : List ℕ) (e : Step) (s : Reads wide_src (spaceds t) t at (o + 1) old m₁ (Some e))
    (x : Name) (v : SpacedName t e.at (Some x)) where
  abbrev First : ℕ → Type 0
  First n = Read wide_src t at (o + 1) old m₁ (spaced (read_expr operators n (dictionary t)) (drop at t)) e.at e.out

  first : (n : ℕ) → length t - at < n → First n
  unfolding Reads Took spaceds
  first n l = s n l

  abbrev Between : Type 0
  Between = NameRead (spaced_word (dictionary t) (drop e.at t)) t e.at x.number x.end

  mid-core : (n w k h : ℕ) (r : Option Step) → First n → Between → w ≡ wide k x.number
      → TookPart 1 (part_words h) (λ v. w) t x.end e.out m₁ o new (parts h t n (drop x.end t)) r → Took (mid_words k h) t at o old new (mids h t n (drop at t)) r
  unfolding Took TookPart mids read_mid mid_words parts
  mid-core n w k h (Some s) f g u z =
      let b₁ = f.short in
      let b₂ = z.short in
      let f₁ = f.far in
      let f₂ = g.far in
      let f₃ = z.far in
      let a₁ = f.ends in
      let a₂ = z.ends in
      let both : sets m₁ e.out (part_words h z.value) ≡ sets old (o + 1) (wide_src f.value ++ part_words h z.value) =
      rw (f.wrote, a₁) (sets-append (wide_src f.value) (part_words h z.value) old (o + 1)) in
      record {
        value = (f.value, x.number, z.value);
        is = rw f.is (rw g.is (rw z.is));
        far = omega arith;
        within = z.within;
        wrote = z.wrote ∙ ap (λ (u : List ℕ). set u o w) both ∙ headed (wide_src f.value ++ part_words h z.value) old o w ∙ ap (λ (u : ℕ). sets old o (u ∷ (wide_src f.value ++ part_words h z.value))) u;
        ends = omega (arith, length-append (wide_src f.value) (part_words h z.value));
        short = omega arith;
      }
  mid-core n w k h None f g u z = rw f.is (rw g.is (rw z))

  pub mid-part : (w k h : ℕ) (r : Option Step) → w ≡ wide k x.number → Follow w h t x.end e.out m₁ o new r → Reads (mid_words k h) (mids h t) t at o old new r
  unfolding Reads Follow
  mid-part w k h r q u n l =
      let f = first n l in let f₁ = f.far in let g = spaced-read t e.at x v in let f₂ = g.far in mid-core n w k h r f g q (u n (omega arith))

  send-core : (n k : ℕ) (r : Option Step) → First n → Between
      → TookPart 0 wide_srcs (λ es. wide k (pair x.number (count_srcs es))) t x.end e.out m₁ o new (read_args (read_expr operators n (dictionary t)) (drop x.end t)) r
      → Took (send_words k) t at o old new (sends t n (drop at t)) r
  unfolding Took TookPart sends read_send send_words
  send-core n k (Some s) f g z =
      let b₁ = f.short in
      let b₂ = z.short in
      let f₁ = f.far in
      let f₂ = g.far in
      let f₃ = z.far in
      let a₁ = f.ends in
      let a₂ = z.ends in
      let w = wide k (pair x.number (count_srcs z.value)) in
      let both : sets m₁ e.out (wide_srcs z.value) ≡ sets old (o + 1) (wide_src f.value ++ wide_srcs z.value) =
      rw (f.wrote, a₁) (sets-append (wide_src f.value) (wide_srcs z.value) old (o + 1)) in
      record {
        value = (f.value, x.number, z.value);
        is = rw f.is (rw g.is (rw z.is));
        far = omega arith;
        within = z.within;
        wrote = z.wrote ∙ ap (λ (u : List ℕ). set u o w) both ∙ headed (wide_src f.value ++ wide_srcs z.value) old o w;
        ends = omega (arith, length-append (wide_src f.value) (wide_srcs z.value));
        short = omega arith;
      }
  send-core n k None f g z = rw f.is (rw g.is (rw z))

  pub send-part : (k : ℕ) (r : Option Step) → Argued k x.number t x.end e.out m₁ o new r → Reads (send_words k) (sends t) t at o old new r
  unfolding Reads Argued
  send-part k r u n l = let f = first n l in let f₁ = f.far in let g = spaced-read t e.at x v in let f₂ = g.far in send-core n k r f g (u n (omega arith))
