-- Methods, in the same way as fields; the header word has the name and the parameters. Assumes nothing.
use Rattle.std.specs.Prelude.{◌≡◌, Bool, true, false, List, [], ◌∷◌, ℕ, suc, ◌+◌, ◌-◌, ◌≤◌, ◌<◌, length, drop, Option, Some, None}
use Rattle.std.proofs.Math.Path.{refl}
use Rattle.std.proofs.Common.{◌∙◌}
use native.Mathlib.Omega.{arith}
use Rattle.atlite.specs.Base.{done, refused, bytes}
use Rattle.atlite.specs.Lexicon.{Bytes, dictionary}
use Rattle.atlite.specs.Script.{SrcMethods}
use Rattle.atlite.specs.Table.{count_methods}
use Rattle.atlite.specs.Keywords.{operators}
use Rattle.atlite.specs.Reader.{read_methods, read_expr}
use Rattle.words.specs.Wide.{wide_src, wide_methods}
use Rattle.scan.specs.Runs.{Starts}
use Rattle.lexemes.specs.declared.headers.Header.{Header}
use Rattle.lexemes.specs.declared.scratch.Step.{Step}
use Rattle.lexemes.specs.declared.scratch.Listed.{Listed}
use Rattle.lexemes.specs.Headers.{HeadRead, TookHead, HeaderOf, read_all, read_header}
use Rattle.lexemes.specs.DescentLaws.{bind_assoc}
use Rattle.lexemes.specs.DescentContract.{listed, Reads, ListRead, TookList, Lists, read_one, ones, one_words, methods_from, method_at}
use Rattle.parse.specs.LiteralLaws.{no_item, behind, item-core, OneRead, value-bad, value}

-- ---- methods
module _ (t : Bytes) (at o b : ℕ) (old new : List ℕ) where
  pub methods-full : at ≤ length t → b ≡ 4 → Lists wide_methods count_methods 4 b (methods_from b t) t at o old old (listed at o b)
  unfolding Lists TookList methods_from read_methods wide_src count_methods
  methods-full h e n l = no_item SrcMethods wide_methods count_methods t at o b old SrcMethods.no_method _ refl refl (rw e) h (omega arith)

  module _ (r : Bool) (s : Starts t at (32 ∷ 40 ∷ 109 ∷ 101 ∷ 116 ∷ 104 ∷ 111 ∷ 100 ∷ 32 ∷ []) r) (h : b ≤ 4) (z : b ≡ 4 → ⊥) where
    left : 4 - b ≡ suc (4 - (b + 1))
    left = omega arith

    method-is : (n : ℕ) → r ≡ true → read_methods (dictionary t) (read_expr operators n (dictionary t)) (suc (4 - (b + 1))) (drop at t) ≡ method_at b t n (drop (at + 9) t)
    unfolding Starts read_methods method_at read_header read_all read_one bytes
    method-is n e = let y = rw e at s in rw (y.0, read_methods) (simp bind_assoc)

    pub methods-more : (a : Option Listed) → r ≡ true → Lists wide_methods count_methods 4 b (method_at b t) t (at + 9) o old new a
        → Lists wide_methods count_methods 4 b (methods_from b t) t at o old new a
    unfolding Lists TookList methods_from
    methods-more (Some z) e u n l = behind SrcMethods wide_methods count_methods t at o b old _ z.at z.out z.count new _ _ (rw left (method-is n e)) (u n (omega arith))
    methods-more None e u n l = rw left (method-is n e) ∙ u n (omega arith)

    none_is : (n : ℕ) → r ≡ false → read_methods (dictionary t) (read_expr operators n (dictionary t)) (suc (4 - (b + 1))) (drop at t) ≡ done (SrcMethods.no_method, drop at t)
    unfolding Starts read_methods bytes
    none_is n e = let y = rw e at s in rw (y, read_methods)

    pub methods-none : r ≡ false → at ≤ length t → Lists wide_methods count_methods 4 b (methods_from b t) t at o old old (listed at o b)
    unfolding Lists TookList methods_from wide_src count_methods
    methods-none e k n l = no_item SrcMethods wide_methods count_methods t at o b old SrcMethods.no_method _ refl refl (rw left (none_is n e)) k h

  pub method-bad : HeaderOf t at None → Lists wide_methods count_methods 4 b (method_at b t) t at o old new None
  unfolding Lists TookList method_at HeaderOf TookHead
  method-bad s n l = rw s

  module _ (x : Header) (s : HeaderOf t at (Some x)) (m₁ : List ℕ) where
    abbrev i : ℕ
    i = x.end

    abbrev w : ℕ
    w = x.word

    named : HeadRead (read_header (dictionary t) (drop at t)) t at i w
    unfolding HeaderOf TookHead
    named = s

    pub method-value-bad : Reads (one_words x.word) (ones t) t x.end o old m₁ None → Lists wide_methods count_methods 4 b (method_at b t) t at o old new None
    unfolding Lists TookList method_at
    method-value-bad u n l = let y = named in rw y.is (rw (value-bad t at i o w old m₁ y.far n u l))

    abbrev One : ℕ → ℕ → ℕ → Type 0
    One n j p = OneRead t i o w old m₁ n j p

    Rest : ℕ → ℕ → ℕ → ℕ → ℕ → ℕ → Type 0
    Rest n j p k q c = ListRead wide_methods count_methods 4 (b + 1) t j p m₁ new (read_methods (dictionary t) (read_expr operators n (dictionary t)) (4 - (b + 1)) (drop j t)) k q c

    method-core : (n j p k q c : ℕ) → HeadRead (read_header (dictionary t) (drop at t)) t at i w → One n j p → Rest n j p k q c
        → ListRead wide_methods count_methods 4 b t at o old new (method_at b t n (drop at t)) k q c
    unfolding method_at wide_src count_methods OneRead Rest
    method-core n j p k q c y z v =
        let g = y.far in
        item-core SrcMethods wide_methods count_methods (SrcMethods.method y.value.0 y.value.1) w (λ e l. rw y.word) (λ e l. refl) t at o b i j p k q c old m₁ new _ _ _ z v
        (rw y.is (rw z.is (rw v.is))) (omega arith)

    method-last : (n j p : ℕ) → One n j p → read_methods (dictionary t) (read_expr operators n (dictionary t)) (4 - (b + 1)) (drop j t) ≡ refused 2 → method_at b t n (drop at t) ≡ refused 2
    unfolding method_at OneRead
    method-last n j p z v = let y = named in rw y.is (rw z.is (rw v))

    pub method-done : (e : Step) (c : Option Listed) → Reads (one_words x.word) (ones t) t x.end o old m₁ (Some e)
        → Lists wide_methods count_methods 4 (b + 1) (methods_from (b + 1) t) t e.at e.out m₁ new c
        → Lists wide_methods count_methods 4 b (method_at b t) t at o old new c
    unfolding Lists TookList methods_from OneRead Rest
    method-done e (Some y) u v n l =
        let z = value t at i o w old m₁ named.far n e l u in let g = named.far in let g' = z.far in method-core n e.at e.out y.at y.out y.count named z (v n (omega arith))
    method-done e None u v n l =
        let z = value t at i o w old m₁ named.far n e l u in let g = named.far in let g' = z.far in method-last n e.at e.out z (v n (omega arith))

module _ (t : Bytes) (at : ℕ) (x : Header) (s : HeaderOf t at (Some x)) where
  pub header-far : at < x.end
  unfolding HeaderOf TookHead
  header-far = s.far

  pub header-within : x.end ≤ length t
  unfolding HeaderOf TookHead
  header-within = s.within
