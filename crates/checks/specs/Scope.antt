-- Three names bound in a scope of n names, and back. Assumes nothing.
use Rattle.std.specs.Prelude.{ℕ, ◌/◌, ◌%◌, ◌<◌, ◌≡◌, refl, List, get_or, set}
use Rattle.std.proofs.Common.{ap, ◌∙◌, rules, set-set}
use Rattle.std.proofs.lemmas.List.{set-get_or}

pub record Swapped (L : List ℕ) (i v : ℕ) (M : List ℕ) (r : ℕ) : Type 0 where
  pub new : M ≡ set L i v
  pub old : r ≡ get_or L i 0

-- the names are the digits of n, of base N
pub record Bound (N : ℕ) (L : List ℕ) (n v : ℕ) (M : List ℕ) (x y z : ℕ) : Type 0 where
  pub new : M ≡ set (set (set L (n / N / N % N) v) (n / N % N) v) (n % N) v
  pub third : z ≡ get_or L (n / N / N % N) 0
  pub second : y ≡ get_or (set L (n / N / N % N) v) (n / N % N) 0
  pub first : x ≡ get_or (set (set L (n / N / N % N) v) (n / N % N) v) (n % N) 0

pub record Unbound (N : ℕ) (L : List ℕ) (n : ℕ) (M : List ℕ) (x y z : ℕ) : Type 0 where
  pub new : M ≡ set (set (set L (n % N) x) (n / N % N) y) (n / N / N % N) z

-- what was changed on the way is put back
unfoldable pub Kept : List ℕ → List ℕ → Type 0
Kept L M = M ≡ L

pub kept : (L : List ℕ) → Kept L L
unfolding Kept
kept L = refl

pub swapped : (L : List ℕ) (i v : ℕ) → Swapped L i v (set L i v) (get_or L i 0)
swapped L i v = record { new = refl; old = refl }

pub all-bound : (N : ℕ) (L : List ℕ) (n v : ℕ) (M O P : List ℕ) (x y z : ℕ) → Swapped L (n / N / N % N) v M z → Swapped M (n / N % N) v O y → Swapped O (n % N) v P x → Bound N L n v P x y z
all-bound N L n v M O P x y z p q r =
    let e : O ≡ set (set L (n / N / N % N) v) (n / N % N) v = q.new ∙ rw p.new in
    record {
      new = r.new ∙ rw e;
      third = p.old;
      second = q.old ∙ rw p.new;
      first = r.old ∙ rw e;
    }

pub all-unbound : (N : ℕ) (L : List ℕ) (n : ℕ) (M O P : List ℕ) (x y z a b c : ℕ) → Swapped L (n % N) x M a → Swapped M (n / N % N) y O b → Swapped O (n / N / N % N) z P c → Unbound N L n P x y z
all-unbound N L n M O P x y z a b c p q r = record { new = r.new ∙ rw (q.new, p.new) }

pub put_back : (L : List ℕ) (i v : ℕ) → set (set L i v) i (get_or L i 0) ≡ L
put_back L i v = set-set L i v (get_or L i 0) ∙ set-get_or L i 0

pub inside-kept : (N : ℕ) (L : List ℕ) (n v : ℕ) (M O P : List ℕ) (x y z : ℕ) → Bound N L n v M x y z → Kept M O → Unbound N O n P x y z → Kept L P
unfolding Kept
inside-kept N L n v M O P x y z p e q =
    let i : ℕ = n % N in
    let j : ℕ = n / N % N in
    let k : ℕ = n / N / N % N in
    q.new
    ∙ ap (λ K. set (set (set K (n % N) x) (n / N % N) y) (n / N / N % N) z) (e ∙ p.new)
    ∙ rw (p.first, p.second, p.third)
    (ap (λ K. set (set K j (get_or (set L k v) j 0)) k (get_or L k 0)) (put_back (set (set L k v) j v) i v)
    ∙ ap (λ K. set K k (get_or L k 0)) (put_back (set L k v) j v)
    ∙ put_back L k v)

pub ruleset laws = (rules, swapped, all-bound, all-unbound)
