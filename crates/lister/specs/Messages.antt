-- The words of messages and fields show their lines' items, and a state's waiting messages are told apart by their aims. t is a
-- state that spells the words of ws. Assumes nothing.
use Rattle.std.specs.Prelude.{◌≡◌, true, false, get_or}
use Rattle.std.proofs.Math.Path.{refl, ap}
use Rattle.std.proofs.Common.{sym, ◌∙◌, eq-eqb, ne_eqb}
use mathlib.Core.List.{List, [], ◌∷◌, ◌++◌, append_assoc, append-nil, map}
use Prim.Native.Nat.{ℕ, zero, suc, ◌+◌, ◌-◌, ◌*◌, ◌/◌, ◌%◌, ◌≤◌, ◌<◌}
use native.Mathlib.Omega.{arith}
use Rattle.std.proofs.Math.ListN.{length}
use Rattle.std.proofs.Math.Seq.{drop_at}
use Rattle.atlite.specs.Base.{bytes}
use Rattle.atlite.specs.Lexicon.{Bytes}
use Rattle.atlite.specs.Keywords.{field_word}
use Rattle.atlite.specs.Printer.{form, placed, print_word, print_name}
use Rattle.atlite.specs.Listing.{print_value, print_field, print_message, print_inbox}
use Rattle.atlite.specs.Term.{made, copied, Value, null, num, ref}
use Rattle.atlite.specs.State.{Message, message, Field, field, field_names, field_values}
use Rattle.reading.specs.Items.{behind}
use Rattle.layout.specs.Numbers.{payload, header, name_limit, number_limit}
use Rattle.layout.specs.Pack.{zeros, pad, flat, names}
use Rattle.layout_laws.specs.PackLaws.{pack-low, pack-high, Each, NameFits}
use Rattle.layout.specs.Terms.{series_bit, encode_value, tagged, field_header}
use Rattle.layout_laws.specs.TermLaws.{ValueFits}
use Rattle.layout.specs.Layout.{value_words, encode_message}
use Rattle.decoding.specs.Decode.{aim_of, aim}
use Rattle.layout_laws.specs.Slots.{MessageFits, message-length, From, At}
use Rattle.showing.specs.TextOfWords.{form_in, shown}
use Rattle.lister.specs.TextOfState.{message_in, aim_in, waits, waiting_in, inbox_in, fields_in}
use Rattle.showing.specs.Spelling.{Spells}
use Rattle.showing.specs.Says.{form-text, showing}
use Rattle.showing.specs.Words.{asked-parts, tag-shown, value-shown, field-says}
use Rattle.showing.specs.Forms.{Operands, none, more, last, names-shown, form-shown}

-- ---- aims
pub aim-value : (v : Value) → ValueFits v → aim_in (encode_value v) ≡ aim_of v
unfolding aim_in encode_value series_bit aim_of
aim-value null h = refl
aim-value (num n) h = let z : (n + payload * 2) / payload ≡ 2 = omega arith in rw z
aim-value (ref a made n) h =
    let i = h.0 in
    let j = h.1 in
    let z : (n + number_limit * (0 + 2 * a) + payload * 3) / payload ≡ 3 = omega arith in
    let y : (n + number_limit * (0 + 2 * a) + payload * 3) % number_limit ≡ n = omega arith in
    rw (z, y)
aim-value (ref a copied n) h =
    let i = h.0 in
    let j = h.1 in
    let z : (n + number_limit * (1 + 2 * a) + payload * 3) / payload ≡ 3 = omega arith in
    let y : (n + number_limit * (1 + 2 * a) + payload * 3) % number_limit ≡ n = omega arith in
    rw (z, y)

message-waits : (n : ℕ) (m : Message) (r : List ℕ) → MessageFits m → aim m ≡ n → waits n (encode_message m ++ r) ≡ true
unfolding waits encode_message pad aim
message-waits n (message v m vs) r h e =
    let l : length vs < 8 = omega (arith, h.2) in
    rw ((asked-parts 14 m (length vs) h.1 l).0, aim-value v h.0, eq-eqb (aim_of v) n e)

message-later : (n : ℕ) (m : Message) (r : List ℕ) → MessageFits m → suc n ≤ aim m → waits n (encode_message m ++ r) ≡ false
unfolding waits encode_message pad aim
message-later n (message v m vs) r h e =
    let l : length vs < 8 = omega (arith, h.2) in
    rw ((asked-parts 14 m (length vs) h.1 l).0, aim-value v h.0, ne_eqb (aim_of v) n (λ d. omega arith))

-- words that begin with no message
unfoldable pub Quiet : List ℕ → Type 0
Quiet w = get_or w 0 0 < payload

none-waits : (n : ℕ) (w : List ℕ) → Quiet w → waits n w ≡ false
unfolding waits Quiet
none-waits n w h = rw (ne_eqb (get_or w 0 0 / payload) 14 (λ e. omega arith))

-- no message to n comes before those to later ones
pub later-waits : (n : ℕ) (q : List Message) (w : List ℕ) → Each MessageFits q → From (suc n) q → Quiet w → waits n (flat encode_message q ++ w) ≡ false
unfolding flat
later-waits n [] w h f k = none-waits n w k
later-waits n (m ∷ q) w h f k = ap (waits n) (append_assoc (encode_message m) (flat encode_message q) w) ∙ message-later n m _ h.0 f.0

module _ (t : List ℕ) (ws : List Bytes) (sp : Spells t ws) where
  -- ---- messages
  values-shown : (vs : List Value) (r : List ℕ) → Each ValueFits vs → Operands (shown t 1) r (length vs) (value_words vs) (map print_value vs)
  unfolding value_words
  values-shown [] r h = none
  values-shown (v ∷ vs) r h = more (encode_value v ∷ []) (value-shown t ws sp v 1 (value_words vs ++ r) h.0 (omega arith)) (values-shown vs r h.1)

  pub message-shown : (m : Message) (r : List ℕ) → MessageFits m → message_in t (encode_message m ++ r) ≡ print_message ws m
  unfolding message_in encode_message value_words pad print_message placed bytes
  message-shown (message v m vs) r h =
      let c = length vs in
      let (_, x, _, k) = asked-parts 14 m c h.1 (omega (arith, h.2)) in
      let z : 1 + c ≡ suc c = omega arith in
      let w = zeros (6 - suc (suc (length (value_words vs)))) in
      let n = tag-shown t ws sp m h.1 ∙ ap {B = Bytes} (λ u. 32 ∷ u) (sym (append-nil (print_name ws m))) in
      rw (x, k, z, append_assoc (value_words vs) w r, names-shown t (tagged m) (print_name ws m ∷ []) n (λ z. absurd (omega arith)) (values-shown (v ∷ vs) (w ++ r) (h.0, h.3)))
      (form-text (bytes "message") [] _)

  pub waiting-shown : (n k : ℕ) (q : List Message) (w : List ℕ) → length q ≤ k → Each MessageFits q → At n q → waits n w ≡ false
      → waiting_in t k n (flat encode_message q ++ w) ≡ showing (behind (map (print_message ws) q) []) w
  unfolding waiting_in flat
  waiting-shown n zero [] w l h a e = refl
  waiting-shown n (suc k) [] w l h a e = rw e
  waiting-shown n zero (m ∷ q) w l h a e = absurd (omega arith)
  waiting-shown n (suc k) (m ∷ q) w l h a e =
      let z = append_assoc (encode_message m) (flat encode_message q) w in
      rw (z, message-waits n m (flat encode_message q ++ w) h.0 a.0, message-shown m (flat encode_message q ++ w) h.0, drop_at (encode_message m) (flat encode_message q ++ w) 6 (message-length m h.0), waiting-shown n k q w (omega arith) h.1 a.1 e)

  pub inbox-shown : (q : List Message) (w : List ℕ) → Each MessageFits q → inbox_in t (length q) (flat encode_message q ++ w) ≡ print_inbox ws q
  unfolding inbox_in flat print_inbox
  inbox-shown [] w h = refl
  inbox-shown (m ∷ q) w h =
      let z = append_assoc (encode_message m) (flat encode_message q) w in
      rw (z, message-shown m (flat encode_message q ++ w) h.0, drop_at (encode_message m) (flat encode_message q ++ w) 6 (message-length m h.0), inbox-shown q w h.1)

  -- ---- fields
  field-shown : (f : ℕ) (v : Value) (r : List ℕ) → NameFits f → ValueFits v
      → form_in t (shown t 1) (header + f) (encode_value v ∷ r) ≡ showing (form (field_word ∷ print_word ws f ∷ print_value v ∷ [])) r
  unfolding placed
  field-shown f v r g h =
      let z : header + f ≡ field_header f = omega arith in
      rw z (form-shown (field-says t ws sp f g) (last (encode_value v ∷ []) (value-shown t ws sp v 1 r h (omega arith))))

  pub fields-shown : (F : List Field) (r : List ℕ) → Each NameFits (field_names F) → Each ValueFits (field_values F)
      → fields_in t (length F) (names (field_names F)) (value_words (field_values F) ++ r) ≡ behind (map (print_field ws) F) []
  unfolding fields_in names value_words field_names field_values print_field
  fields-shown [] r g h = refl
  fields-shown (field f v ∷ F) r g h =
      let i : f < name_limit = omega (arith, g.0) in
      rw (pack-low name_limit f (names (field_names F)) i, pack-high name_limit f (names (field_names F)) i, field-shown f v (value_words (field_values F) ++ r) g.0 h.0, fields-shown F r g.1 h.1)
