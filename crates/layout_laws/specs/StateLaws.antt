-- A state has one layout of 16,384 words, and words are the layout of at most one state. Assumes nothing.
use Rattle.std.specs.Prelude.{ℕ, ◌≡◌, refl, Bool, true, false, ◌&&◌, List, ◌↔◌, length, if◌then◌else◌}
use Rattle.std.proofs.Common.{sym, ap, ◌∙◌, subst as transp}
use Rattle.std.proofs.Math.Option.{none, some}
use Rattle.atlite.specs.Base.{same_bytes}
use Rattle.atlite.specs.State.{State}
use Rattle.decoding.specs.ValidTest.{is_state}
use Rattle.atlite_laws.specs.Facts.{none-some, same_true, same_refl}
use Rattle.atlite.specs.Valid.{IsState}
use Rattle.invariant.specs.Tests.{is_state_lem}
use Rattle.layout.specs.Numbers.{state_words}
use Rattle.layout.specs.Layout.{encode}
use Rattle.decoding.specs.Decode.{decode, state_of}
use Rattle.layout_laws.specs.StateReads.{encode-length, state-read}
use Rattle.layout_laws.specs.StateFits.{state-fits}

pub state-length : (σ : State) → IsState σ → length (encode σ) ≡ state_words
state-length σ h = encode-length σ (state-fits σ h)

pub decode-encode : (σ : State) → IsState σ → decode (encode σ) ≡ σ
decode-encode σ h = state-read σ (state-fits σ h) (encode σ) refl

pub encode_injective : (σ τ : State) → IsState σ → IsState τ → encode σ ≡ encode τ → σ ≡ τ
encode_injective σ τ h k e = sym (decode-encode σ h) ∙ ap decode e ∙ decode-encode τ k

-- the words of a state are that state, and no other words are
pub state-of : (σ : State) → IsState σ → state_of (encode σ) ≡ some σ
unfolding state_of
state-of σ h = rw (decode-encode σ h, (is_state_lem σ).1 h, same_refl (encode σ))

pub of-state : (w : List ℕ) (σ : State) → state_of w ≡ some σ → IsState σ × (encode σ ≡ w)
unfolding state_of
of-state w σ e = go (is_state (decode w)) (same_bytes (encode (decode w)) w) refl refl e
  where
    go : (b c : Bool) → is_state (decode w) ≡ b → same_bytes (encode (decode w)) w ≡ c → (if b && c then some (decode w) else none) ≡ some σ → IsState σ × (encode σ ≡ w)
    go true true p q e =
        let d : decode w ≡ σ = cc in
        ((is_state_lem σ).0 (transp (λ s. is_state s ≡ true) d p), transp (λ s. encode s ≡ w) d (same_true (encode (decode w)) w q))
    go true false p q e = absurd (none-some e)
    go false c p q e = absurd (none-some e)

pub state-of-iff : (w : List ℕ) (σ : State) → (state_of w ≡ some σ) ↔ (IsState σ × (encode σ ≡ w))
state-of-iff w σ = (of-state w σ, λ h. transp (λ l. state_of l ≡ some σ) h.1 (state-of σ h.0))
