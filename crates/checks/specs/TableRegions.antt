-- The regions, written one after another from the first word on, are the table. Assumes nothing.
use Prim.Native.Nat.{ℕ, suc, ◌+◌, ◌-◌, ◌*◌, ◌≤◌}
use Rattle.std.specs.Prelude.{◌≡◌, set, take, drop}
use Rattle.std.proofs.Math.Path.{refl, sym, ap}
use Rattle.std.proofs.Common.{◌∙◌, rules}
use mathlib.Core.List.{List, [], ◌∷◌, ◌++◌, append_assoc}
use native.Mathlib.Omega.{arith}
use Rattle.std.proofs.Math.ListN.{length, length-append}
use Rattle.std.proofs.Math.Seq.{sets}
use Rattle.std.proofs.lemmas.List.Edits.{sets-eq}
use Rattle.atlite.specs.Lexicon.{Bytes}
use Rattle.atlite.specs.Script.{Line}
use Rattle.atlite.specs.Table.{GrammaticalLines}
use Rattle.layout.specs.Numbers.{lines_at, lines_size, table_words, word_size}
use Rattle.layout.specs.Pack.{zeros, pad, flat}
use Rattle.layout_laws.specs.PackLaws.{length-zeros, length-flat}
use Rattle.layout.specs.Layout.{encode_word}
use Rattle.layout_laws.specs.StateReads.{words-three}
use Rattle.layout_laws.specs.Writes.{sets-append}
use Rattle.layout.specs.Tables.{encode_line, encode_table}
use Rattle.words.specs.Wide.{wide_lines}
use Rattle.checks.specs.LinesAt.{Stands, within}
use Rattle.checks.specs.Narrow.{narrow_all, narrow-lines, length-narrow}
use Rattle.checks.specs.TableWriteLaws.{Cleared, LinesPut, Numbers, WordsPut}

-- Where lines of a dictionary of at most 64 words stand in s, and the dictionary in low and high, new is their table and what the
-- old words have behind it.
unfoldable pub Written : List ℕ → ℕ → ℕ → List ℕ → List ℕ → ℕ → List ℕ → List ℕ → Type 0
Written s words lines low high count old new =
    (ws : List Bytes) (ls : List Line) → count ≡ length ws → Numbers low high ws → Stands s words lines ls → GrammaticalLines (length ws) ls
    → new ≡ encode_table (record { words = ws; lines = ls }) ++ drop table_words old

-- one region more
further : (old xs ys l new : List ℕ) (n : ℕ) → l ≡ sets old 0 xs → n ≡ length xs → new ≡ sets l n ys → new ≡ sets old 0 (xs ++ ys)
further old xs ys l new n e h p =
    let z : n ≡ 0 + length xs = omega arith in
    rw (p, e, z) (sets-append xs ys old 0)

module _ (s : List ℕ) (words lines : ℕ) (low high : List ℕ) (count : ℕ) (old : List ℕ) where
  -- the regions are the table's
  same : (ws : List Bytes) (ls : List Line) → narrow_all (take words s) ≡ flat encode_line ls → words ≡ length (flat encode_line ls) → length (flat encode_word ws) ≡ length ws * 3 → count ≡ length ws → lines ≡ length ls
      → (((count ∷ lines ∷ words ∷ []) ++ flat encode_word ws) ++ zeros (lines_at - (word_size * count + 3)) ++ narrow_all (take words s)) ++ zeros (table_words - (lines_at + words))
      ≡ encode_table (record { words = ws; lines = ls })
  unfolding encode_table pad
  same ws ls body n t hc hl =
      let a : lines_at - (word_size * count + 3) ≡ lines_at - suc (suc (suc (length (flat encode_word ws)))) = omega arith in
      let b : table_words - (lines_at + words) ≡ lines_size - length (flat encode_line ls) = omega arith in
      rw (a, b, body, hc, hl, n) (append_assoc ((length ws ∷ length ls ∷ length (flat encode_line ls) ∷ flat encode_word ws) ++ zeros (lines_at - suc (suc (suc (length (flat encode_word ws)))))) (flat encode_line ls) (zeros (lines_size - length (flat encode_line ls))))

  whole : (xs : List ℕ) → length xs ≡ table_words → table_words ≤ length old → sets old 0 xs ≡ xs ++ drop table_words old
  whole xs e l = sets-eq xs old 0 (omega arith) ∙ rw e

  pub written : (l₁ l₂ l₃ l₄ l₅ l₆ new : List ℕ) → table_words ≤ length old → count ≤ 64 → words ≤ lines_size
      → l₁ ≡ set old 0 count → l₂ ≡ set l₁ 1 lines → l₃ ≡ set l₂ 2 words → WordsPut l₃ low high count l₄
      → Cleared l₄ (word_size * count + 3) lines_at l₅ → LinesPut l₅ s words l₆ → Cleared l₆ (lines_at + words) table_words new → Written s words lines low high count old new
  unfolding Written WordsPut Cleared LinesPut encode_table pad
  written l₁ l₂ l₃ l₄ l₅ l₆ new long few short e₁ e₂ e₃ e₄ e₅ e₆ e₇ ws ls hc hn st g =
      let body : narrow_all (take words s) ≡ flat encode_line ls = ap narrow_all st.here ∙ narrow-lines ls (length ws) (omega arith) g in
      let n : words ≡ length (flat encode_line ls) = st.used ∙ sym (length-narrow (wide_lines ls)) ∙ ap length (narrow-lines ls (length ws) (omega arith) g) in
      let t : length (flat encode_word ws) ≡ length ws * 3 = length-flat encode_word 3 ws (words-three ws) in
      let h₃ : List ℕ = count ∷ lines ∷ words ∷ [] in
      let h₄ : List ℕ = h₃ ++ flat encode_word ws in
      let h₅ : List ℕ = h₄ ++ zeros (lines_at - (word_size * count + 3)) in
      let h₆ : List ℕ = h₅ ++ narrow_all (take words s) in
      let n₄ : word_size * count + 3 ≡ length h₄ = omega arith in
      let n₅ : lines_at ≡ length h₅ = omega (arith, length-append h₄ (zeros (lines_at - (word_size * count + 3))), length-zeros (lines_at - (word_size * count + 3))) in
      let n₆ : lines_at + words ≡ length h₆ = omega (arith, length-append h₅ (narrow_all (take words s)), ap length body) in
      let p₃ : l₃ ≡ sets old 0 h₃ = rw (e₃, e₂, e₁) in
      let p₄ = further old h₃ (flat encode_word ws) l₃ l₄ 3 p₃ refl (e₄ ws hc hn) in
      let p₅ = further old h₄ (zeros (lines_at - (word_size * count + 3))) l₄ l₅ (word_size * count + 3) p₄ n₄ e₅ in
      let p₆ = further old h₅ (narrow_all (take words s)) l₅ l₆ lines_at p₅ n₅ (e₆ (within s words lines ls st)) in
      let p₇ = further old h₆ (zeros (table_words - (lines_at + words))) l₆ new (lines_at + words) p₆ n₆ e₇ in
      let q : h₆ ++ zeros (table_words - (lines_at + words)) ≡ encode_table (record { words = ws; lines = ls }) = same ws ls body n t hc st.count in
      p₇ ∙ rw q (whole (encode_table (record { words = ws; lines = ls })) (sym (ap length q) ∙ omega (arith, length-append h₆ (zeros (table_words - (lines_at + words))), length-zeros (table_words - (lines_at + words)))) long)

pub ruleset laws = (rules, written)
