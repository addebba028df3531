-- The arguments of a message, one after the other to the closing bracket. Assumes nothing.
use Rattle.std.specs.Prelude.{◌≡◌, refl, Bool, true, false, length, drop, Option, Some, None}
use Rattle.std.proofs.Math.Path.{ap}
use Rattle.std.proofs.Common.{◌∙◌}
use mathlib.Core.List.{List, [], ◌∷◌}
use Prim.Native.Nat.{ℕ, zero, suc, ◌+◌, ◌-◌, ◌≤◌, ◌<◌}
use native.Mathlib.Omega.{arith}
use Rattle.std.proofs.Math.ListN.{set, length-append}
use Rattle.std.proofs.lemmas.List.Edits.{sets}
use Rattle.atlite.specs.Base.{done, refused}
use Rattle.atlite.specs.Lexicon.{Bytes, dictionary}
use Rattle.atlite.specs.Script.{Src, Srcs, count_srcs}
use Rattle.atlite.specs.Keywords.{operators}
use Rattle.atlite.specs.Reader.{spaced, read_items, read_expr}
use Rattle.layout_laws.specs.Writes.{sets-append}
use Rattle.words.specs.Wide.{wide, pair, wide_src, wide_srcs}
use Rattle.scan.specs.Runs.{Starts}
use Rattle.lexemes.specs.declared.scratch.Step.{Step}
use Rattle.lexemes.specs.declared.scratch.Listed.{Listed}
use Rattle.lexemes.specs.NameLaws.{eat-starts, eat-not, closes, open-still, starts-room}
use Rattle.lexemes.specs.DescentContract.{listed, stepped, Took, Reads, ListRead, TookList, Lists, spaceds, args_from, read_args, TookPart, Argued}
use Rattle.lexemes.specs.DescentLaws.{Spaced}

module _ (t : Bytes) (at o b : ℕ) (old new : List ℕ) (r : Bool) (s : Starts t at (41 ∷ []) r) where
  args_end : (n k : ℕ) → r ≡ true → read_items Srcs.nil Srcs.cons (read_expr operators n (dictionary t)) k (drop at t) ≡ done (Srcs.nil, drop (at + 1) t)
  unfolding read_items
  args_end n zero e = rw (eat-starts t at 41 r s e)
  args_end n (suc k) e = rw (closes t at r s e, read_items)

  pub args-close : r ≡ true → b ≤ 3 → Lists wide_srcs count_srcs 3 b (args_from b t) t at o old old (listed (at + 1) o b)
  unfolding Lists TookList args_from wide_src count_srcs
  args-close e h n l = record {
    value = Srcs.nil;
    is = args_end n (3 - b) e;
    far = omega arith;
    within = starts-room t at 1 (41 ∷ []) r s e refl;
    wrote = refl;
    ends = omega arith;
    short = omega arith;
    counted = omega arith;
    few = h;
  }

  pub args-full : r ≡ false → b ≡ 3 → Lists wide_srcs count_srcs 3 b (args_from b t) t at o old new None
  unfolding Lists TookList args_from read_items
  args-full e h n l = rw h (rw (eat-not t at 41 r s e))

  module _ (e : r ≡ false) (h : b ≤ 3) (z : b ≡ 3 → ⊥) (m₁ : List ℕ) where
    left : 3 - b ≡ suc (3 - (b + 1))
    left = omega arith

    args-worse : (n k : ℕ) → spaced (read_expr operators n (dictionary t)) (drop at t) ≡ refused 2
        → read_items Srcs.nil Srcs.cons (read_expr operators n (dictionary t)) (suc k) (drop at t) ≡ refused 2
    unfolding read_items
    args-worse n k p = rw (open-still t at r s e, read_items) (rw p)

    pub args-bad : Reads wide_src (spaceds t) t at o old m₁ None → Lists wide_srcs count_srcs 3 b (args_from b t) t at o old new None
    unfolding Lists TookList args_from Reads Took spaceds
    args-bad u n l = rw left (args-worse n (3 - (b + 1)) (u n l))

    Tail : ℕ → ℕ → ℕ → ℕ → ℕ → ℕ → Type 0
    Tail n i p k q c = ListRead wide_srcs count_srcs 3 (b + 1) t i p m₁ new (read_items Srcs.nil Srcs.cons (read_expr operators n (dictionary t)) (3 - (b + 1)) (drop i t)) k q c

    args-next : (n i p k q c : ℕ) → Spaced t n at o old m₁ i p → Tail n i p k q c
        → ListRead wide_srcs count_srcs 3 b t at o old new (read_items Srcs.nil Srcs.cons (read_expr operators n (dictionary t)) (suc (3 - (b + 1))) (drop at t)) k q c
    unfolding read_items wide_src count_srcs Spaced Tail
    args-next n i p k q c x y =
        let b₁ = x.short in
        let b₂ = y.short in
        let f = x.far in
        let g = y.far in
        let a₁ = x.ends in
        let a₂ = y.ends in
        let num = y.counted in
        record {
          value = Srcs.cons x.value y.value;
          is = rw (open-still t at r s e, read_items) (rw x.is (rw y.is));
          far = omega arith;
          within = y.within;
          wrote = y.wrote ∙ rw (x.wrote, a₁) (sets-append (wide_src x.value) (wide_srcs y.value) old o);
          ends = omega (arith, length-append (wide_src x.value) (wide_srcs y.value));
          short = omega arith;
          counted = omega arith;
          few = y.few;
        }

    args-last : (n i : ℕ) (v : Src) → spaced (read_expr operators n (dictionary t)) (drop at t) ≡ done (v, drop i t)
        → read_items Srcs.nil Srcs.cons (read_expr operators n (dictionary t)) (3 - (b + 1)) (drop i t) ≡ refused 2
        → read_items Srcs.nil Srcs.cons (read_expr operators n (dictionary t)) (suc (3 - (b + 1))) (drop at t) ≡ refused 2
    unfolding read_items
    args-last n i v x y = rw (open-still t at r s e, read_items) (rw x (rw y))

    pub args_more : (s : Step) (c : Option Listed) → Reads wide_src (spaceds t) t at o old m₁ (Some s)
        → Lists wide_srcs count_srcs 3 (b + 1) (args_from (b + 1) t) t s.at s.out m₁ new c → Lists wide_srcs count_srcs 3 b (args_from b t) t at o old new c
    unfolding Lists TookList args_from Reads Took spaceds Spaced Tail
    args_more s (Some z) u v n l =
        let x = u n l in let f = x.far in rw left (args-next n s.at s.out z.at z.out z.count x (v n (omega arith)))
    args_more s None u v n l =
        let x = u n l in let f = x.far in rw left (args-last n s.at x.value x.is (v n (omega arith)))

-- ---- behind the name of a message
module _ (t : Bytes) (at p o k m : ℕ) (old m₁ new : List ℕ) where
  pub argued-bad : Lists wide_srcs count_srcs 3 0 (args_from 0 t) t at p old m₁ None → Argued k m t at p old o new None
  unfolding Argued TookPart Lists TookList args_from read_args
  argued-bad s n l = s n l

  argued-core : (n l q c w : ℕ) (r : Option Step) → ListRead wide_srcs count_srcs 3 0 t at p old m₁ (read_args (read_expr operators n (dictionary t)) (drop at t)) l q c
      → w ≡ wide k (pair m c) → r ≡ stepped l q → new ≡ set m₁ o w
      → TookPart 0 wide_srcs (λ es. wide k (pair m (count_srcs es))) t at p old o new (read_args (read_expr operators n (dictionary t)) (drop at t)) r
  unfolding TookPart
  argued-core n l q c w r x h e u =
      let b₁ = x.short in
      let f = x.far in
      let a₁ = x.ends in
      let num = x.counted in
      let whole : w ≡ wide k (pair m (count_srcs x.value)) = omega arith in
      rw e (record {
        value = x.value;
        is = x.is;
        far = omega arith;
        within = x.within;
        wrote = u ∙ ap (λ (y : List ℕ). set y o w) x.wrote ∙ ap (λ (y : ℕ). set (sets old p (wide_srcs x.value)) o y) whole;
        ends = a₁;
        short = omega arith;
      })

  pub argued-done : (b : Listed) (w : ℕ) (r : Option Step) → Lists wide_srcs count_srcs 3 0 (args_from 0 t) t at p old m₁ (Some b) → w ≡ wide k (pair m b.count)
      → r ≡ stepped b.at b.out → new ≡ set m₁ o w → Argued k m t at p old o new r
  unfolding Argued Lists TookList args_from read_args
  argued-done b w r s h e u n i = argued-core n b.at b.out b.count w r (s n i) h e u

pub args-small : (t : Bytes) (at o : ℕ) (old new : List ℕ) (b : Listed) → Lists wide_srcs count_srcs 3 0 (args_from 0 t) t at o old new (Some b) → b.count < 4096
unfolding Lists TookList
args-small t at o old new b s = let r = s (length t - at + 1) (omega arith) in let f = r.few in omega arith
