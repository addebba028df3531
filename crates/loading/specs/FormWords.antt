-- What the forms of a script bring in, by their kinds. Most stand as they are; the script's own forms are written out. Assumes nothing.
use Rattle.std.specs.Prelude.{◌≡◌, refl, Bool, [], ◌∷◌, ℕ, suc, ◌/◌, ◌%◌, ◌≤◌, ◌<◌}
use Rattle.std.proofs.Math.Bool.{true, false}
use Rattle.std.proofs.Common.{arith}
use borrow.Author.Tests.{lt-ltb, le-ltb, ne_eqb, ltb-false}
use Rattle.std.proofs.Math.Dec.{ltb}
use Rattle.atlite.specs.Term.{this, ·t, ·f, ·r, ·s}
use Rattle.layout.specs.Numbers.{payload, field_kind, name_limit, tag_limit}
use Rattle.layout.specs.Pack.{node}
use Rattle.layout.specs.Terms.{variable, binding}
use Rattle.decoding.specs.Kinds.{Kinds}
use Rattle.layout_laws.specs.Arity.{arity, arity-header}
use Rattle.loading.specs.Ranges.{past, over, under}
use Rattle.loading.specs.ExpandedWords.{closure_words, ask_words, before, after, inner}
use Rattle.loading.specs.Expands.{Brings}

module _ (z : ℕ) where
  module _ (h : ℕ) where
    -- what binds no name and is no literal stands as it is, and so do let and future
    pub brings-copy : (c : ℕ) → 7 ≤ h / payload → h / payload < 32 → (h / payload ≡ 15 → ⊥) → (h / payload ≡ 16 → ⊥) → (h / payload ≡ 17 → ⊥) → arity h ≡ c
        → Brings z h (h ∷ []) z c []
    unfolding before inner after
    brings-copy c l u x y v e = record {
      is_form = omega arith;
      front = simp (under u);
      self = go (ltb (h / payload) 15) refl;
      count = e;
      back = simp (under u);
    }
      where
        go : (b : Bool) → ltb (h / payload) 15 ≡ b → inner z h ≡ z
        go true p = rw p
        go false p = let q = ltb-false (h / payload) 15 p in rw (p, le-ltb (h / payload) 18 (omega arith), ne_eqb (h / payload) 65 (λ d. omega arith))

    pub brings-literal : (c : ℕ) → 15 ≤ h / payload → h / payload < 18 → arity h ≡ c → Brings z h (h ∷ []) (variable this) c []
    unfolding before inner after
    brings-literal c l u e = record {
      is_form = omega arith;
      front = simp (under u);
      self = simp (le-ltb, lt-ltb);
      count = e;
      back = simp (under u);
    }

    pub brings-header : field_kind ≤ h / payload → (h / payload ≡ 130 → ⊥) → Brings z h (h ∷ []) z 1 []
    unfolding before inner after
    brings-header l n = record {
      is_form = omega arith;
      front = simp (over l, ne_eqb (h / payload) 130 n);
      self = simp (past l, over l);
      count = arity-header h (omega arith);
      back = simp (over l);
    }

    pub brings-definition : (x : ℕ) → h / payload ≡ 130 → h % name_limit ≡ x → Brings z h (binding x ∷ []) z 1 []
    unfolding before inner after
    brings-definition x e f = record {
      is_form = omega arith;
      front = rw (e, f);
      self = rw e;
      count = arity-header h (omega arith);
      back = rw e;
    }

    pub brings-fn : (x : ℕ) → h / payload ≡ 65 → h % name_limit ≡ x → Brings z h (closure_words z x) (variable ·t) 1 []
    unfolding before inner after arity Kinds
    brings-fn x e f = record {
      is_form = omega arith;
      front = rw (e, f);
      self = rw e;
      count = rw e;
      back = rw e;
    }

    pub brings-ask : (n : ℕ) → h / payload ≡ 64 → h % payload / name_limit / tag_limit ≡ n → Brings z h (ask_words h) z (suc n) (variable ·r ∷ variable ·f ∷ [])
    unfolding before inner after arity Kinds
    brings-ask n e f = record {
      is_form = omega arith;
      front = rw e;
      self = rw e;
      count = rw (e, f) (omega arith);
      back = rw e;
    }

  pub brings-seq : Brings z (node 68 0) (binding ·s ∷ []) z 2 []
  unfolding before inner after arity Kinds
  brings-seq = record {
    is_form = omega arith;
    front = refl;
    self = refl;
    count = refl;
    back = refl;
  }
