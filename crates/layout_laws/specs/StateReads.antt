-- A state's words are 16,384 and are read back, if it fits. Assumes nothing.
use Rattle.std.specs.Prelude.{ℕ, zero, suc, ◌+◌, ◌-◌, ◌*◌, ◌≤◌, ◌<◌, ◌/◌, ◌%◌, ◌≡◌, refl, List, [], ◌∷◌, ◌++◌, length, drop, if◌then◌else◌}
use Rattle.std.proofs.Math.Path.{ap}
use Rattle.std.proofs.Common.{ap₂, ◌∙◌, ne_eqb}
use Rattle.std.proofs.Math.Nat.{mod-add-div}
use native.Mathlib.Omega.{arith}
use Rattle.std.proofs.Math.ListN.{get_or, length-append}
use Rattle.atlite.specs.State.{Actor, State}
use Rattle.layout.specs.Numbers.{part_size, head_size, parts_size, tail_size, state_words}
use Rattle.layout.specs.Pack.{zeros, pad, flat}
use Rattle.decoding.specs.Reading.{cut}
use Rattle.layout_laws.specs.PackLaws.{pack-low, pack-high, length-zeros, length-pad, pad-front, drop-pad, Each, length-flat, cut-flat}
use Rattle.layout.specs.Layout.{encode_actor, bytes_number, three_words, encode_word, encode}
use Rattle.decoding.specs.Decode.{decode_actor, bytes_in, decode_word, decode}
use Rattle.layout_laws.specs.Parts.{ActorFits, actor-length, actor-back}

-- ---- a word of the dictionary
abbrev pub ByteFits : ℕ → Type 0
ByteFits b = (1 ≤ b) × (b < 256)

pub bytes_back : (k : ℕ) (bs : List ℕ) → length bs ≤ k → Each ByteFits bs → bytes_in k (bytes_number bs) ≡ bs
unfolding bytes_in bytes_number
bytes_back zero [] l h = refl
bytes_back zero (b ∷ bs) l h = absurd (omega arith)
bytes_back (suc k) [] l h = refl
bytes_back (suc k) (b ∷ bs) l h =
    let d : b + 256 * bytes_number bs ≡ 0 → ⊥ = λ e. omega (arith, h.0) in
    let i : b < 256 = h.0.1 in
    rw (ne_eqb (b + 256 * bytes_number bs) 0 d, pack-low 256 b (bytes_number bs) i, pack-high 256 b (bytes_number bs) i, bytes_back k bs (omega arith) h.1)

three_back : (n : ℕ) → n % 4294967296 + 4294967296 * (n / 4294967296 % 4294967296 + 4294967296 * (n / 4294967296 / 4294967296)) ≡ n
three_back n = rw (mod-add-div (n / 4294967296) 4294967296) (mod-add-div n 4294967296)

abbrev pub WordFits : List ℕ → Type 0
WordFits bs = (length bs ≤ 12) × Each ByteFits bs

pub word_back : (bs : List ℕ) → WordFits bs → decode_word (encode_word bs) ≡ bs
unfolding decode_word encode_word three_words
word_back bs h = rw (three_back (bytes_number bs)) (bytes_back 12 bs h.0 h.1)

-- ---- a state
pub record StateFits (σ : State) : Type 0 where
  pub word_count : length σ.words ≤ 64
  pub words_fit : Each WordFits σ.words
  pub actor_count : length σ.actors ≤ 4
  pub actors_fit : Each ActorFits σ.actors

pub words-cut : (ws : List (List ℕ)) → Each WordFits ws → Each (λ x. (length (encode_word x) ≡ 3) × (decode_word (encode_word x) ≡ x)) ws
unfolding encode_word three_words
words-cut [] h = tt
words-cut (x ∷ ws) h = ((refl, word_back x h.0), words-cut ws h.1)

pub words-three : (ws : List (List ℕ)) → Each (λ x. length (encode_word x) ≡ 3) ws
unfolding encode_word three_words
words-three [] = tt
words-three (x ∷ ws) = (refl, words-three ws)

actors-cut : (As : List Actor) → Each ActorFits As → Each (λ A. (length (encode_actor A) ≡ part_size) × (decode_actor (encode_actor A) ≡ A)) As
actors-cut [] h = tt
actors-cut (A ∷ As) h = ((actor-length A h.0, actor-back A h.0), actors-cut As h.1)

pub actors-parts : (As : List Actor) → Each ActorFits As → Each (λ A. length (encode_actor A) ≡ part_size) As
actors-parts [] h = tt
actors-parts (A ∷ As) h = (actor-length A h.0, actors-parts As h.1)

module _ (σ : State) (f : StateFits σ) where
  abbrev pub top_words : List ℕ
  top_words = length σ.actors ∷ length σ.words ∷ flat encode_word σ.words

  pub head-words : length top_words ≤ head_size
  head-words = omega (arith, length-flat encode_word 3 σ.words (words-three σ.words), f.word_count)

  pub part-words : length (flat encode_actor σ.actors) ≤ parts_size
  part-words = omega (arith, length-flat encode_actor part_size σ.actors (actors-parts σ.actors f.actors_fit), f.actor_count)

  pub encode-length : length (encode σ) ≡ state_words
  unfolding encode
  encode-length =
      let a0 = length-append (pad head_size top_words) (pad parts_size (flat encode_actor σ.actors) ++ zeros tail_size) in
      let a1 = length-append (pad parts_size (flat encode_actor σ.actors)) (zeros tail_size) in
      let b0 = length-pad head_size top_words head-words in
      let b1 = length-pad parts_size (flat encode_actor σ.actors) part-words in
      let b2 = length-zeros tail_size in
      omega arith

  module _ (w : List ℕ) (is : w ≡ encode σ) where
    pub count0 : get_or w 0 0 ≡ length σ.actors
    unfolding encode pad
    count0 = ap (λ l. get_or l 0 0) is

    pub count1 : get_or w 1 0 ≡ length σ.words
    unfolding encode pad
    count1 = ap (λ l. get_or l 1 0) is

    pub words-at : drop 2 w ≡ flat encode_word σ.words ++ (zeros (head_size - length top_words) ++ (pad parts_size (flat encode_actor σ.actors) ++ zeros tail_size))
    unfolding encode
    words-at = ap (drop 2) (is ∙ pad-front head_size top_words _)

    pub actors-at : drop head_size w ≡ flat encode_actor σ.actors ++ (zeros (parts_size - length (flat encode_actor σ.actors)) ++ zeros tail_size)
    unfolding encode
    actors-at = ap (drop head_size) is ∙ drop-pad head_size top_words _ head-words ∙ pad-front parts_size (flat encode_actor σ.actors) (zeros tail_size)

    pub words_are : cut decode_word 3 (get_or w 1 0) (drop 2 w) ≡ σ.words
    words_are = ap₂ (cut decode_word 3) count1 words-at ∙ cut-flat encode_word decode_word 3 σ.words _ (words-cut σ.words f.words_fit)

    actors-are : cut decode_actor part_size (get_or w 0 0) (drop head_size w) ≡ σ.actors
    actors-are = ap₂ (cut decode_actor part_size) count0 actors-at ∙ cut-flat encode_actor decode_actor part_size σ.actors _ (actors-cut σ.actors f.actors_fit)

    pub state-read : decode w ≡ σ
    unfolding decode
    state-read = λ i. record { words = words_are i; actors = actors-are i }
