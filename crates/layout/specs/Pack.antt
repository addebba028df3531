-- Numbers put into one word, and lists put into fixed places. Assumes nothing.
-- Digits stand low first, `a + m * b`: the low one is the rest by m, the others the quotient. A region of a layout has a fixed
-- length; what it holds stands in front and zeros fill it.
use Rattle.std.specs.Prelude.{ℕ, ◌+◌, ◌-◌, ◌*◌, List, [], ◌∷◌, ◌++◌, length, replicate}
use Rattle.layout.specs.Numbers.{payload, name_limit, no_name}

-- the word of a kind and a payload below 2^24
abbrev pub node : ℕ → ℕ → ℕ
node k p = p + payload * k

unfoldable pub zeros : ℕ → List ℕ
zeros n = replicate n 0

-- n words that begin with xs and end in zeros
unfoldable pub pad : ℕ → List ℕ → List ℕ
pad n xs = xs ++ zeros (n - length xs)

-- the words of each, one after another
unfoldable pub flat : {A : Type 0} → (A → List ℕ) → List A → List ℕ
flat g [] = []
flat g (x ∷ xs) = g x ++ flat g xs

-- names in seven bits each, the first lowest
unfoldable pub names : List ℕ → ℕ
names [] = 0
names (x ∷ xs) = x + name_limit * names xs

-- three names, an empty place filled with 127, which is no name
unfoldable pub places : List ℕ → ℕ
places [] = no_name + name_limit * (no_name + name_limit * no_name)
places (x ∷ []) = x + name_limit * (no_name + name_limit * no_name)
places (x ∷ y ∷ []) = x + name_limit * (y + name_limit * no_name)
places (x ∷ y ∷ z ∷ zs) = x + name_limit * (y + name_limit * z)

unfoldable pub Pack : Unit {0}
unfolding zeros pad flat names places
Pack = tt
