-- What a program writes: bytes in front of a buffer, and no other byte of it changes. The line of a refusal, that of a bad token, and bytes in
-- front of others. Assumes nothing.
use Rattle.std.specs.Prelude.{ℕ, ◌+◌, ◌≤◌, ◌≡◌, List, ◌++◌, length, drop}
use Rattle.std.proofs.Common.{sym, ap, ◌∙◌, subst as transp, arith, length-append, append_assoc}
use Rattle.std.proofs.lemmas.List.Edits.{sets-eq}
use Rattle.atlite.specs.Base.{Result, refused, bytes}
use Rattle.atlite.specs.Causes.{number}
use Rattle.atlite.specs.declared.Cause.{Cause}
use Rattle.atlite.specs.Lexicon.{Bytes}
use Rattle.atlite.specs.Printer.{print_number}
use Rattle.atlite.specs.Program.{shown}
use Rattle.atlite.specs.Replay.{bad_token}
use Rattle.showing.specs.Writer.{most, Wrote}
use Rattle.showing.specs.declared.writer.Writer.{Writer}
use Rattle.showing.specs.Put.{Put, then, from-start}
use Rattle.transcript.specs.Digits.{byte-digits, cause-few}

-- the bytes that a listing may have
abbrev pub listing_room : ℕ
listing_room = 65536

-- The bytes s stand in front of what was old: that makes new, and r is their number.
pub record Written (s old : List ℕ) (r : ℕ) (new : List ℕ) : Type 0 where
  pub count : r ≡ length s
  pub fits : r ≤ length old
  pub text : new ≡ s ++ drop (length s) old

pub written_same : (s t old : List ℕ) (r : ℕ) (new : List ℕ) → s ≡ t → Written t old r new → Written s old r new
written_same s t old r new e g = transp (λ x. Written x old r new) (sym e) g

-- the same of results
pub result-same : (R Q : Result Bytes) (old : List ℕ) (r : ℕ) (new : List ℕ) → R ≡ Q → Written (shown Q) old r new → Written (shown R) old r new
result-same R Q old r new e g = written_same (shown R) (shown Q) old r new (ap shown e) g

-- what was put at the front
pub front-written : (s old new : List ℕ) (r : ℕ) → length s ≤ most → length s ≤ length old → Wrote old 0 s new r → Written s old r new
front-written s old new r h l g =
    let z : 0 + length s ≡ length s = omega arith in
    let n : r ≡ length s = g.next (omega arith) ∙ z in
    record { count = n; fits = omega arith; text = g.is (omega arith) ∙ sets-eq s old 0 (omega arith) ∙ ap (λ k. s ++ drop k old) z }

module _ {old : List ℕ} {a b : Writer} (room : listing_room ≤ length old) (e : a.out.now ≡ old) (z : a.len ≡ 0) where
  -- the line of a refusal that is told by the number c
  pub refusal-told : {m n : Writer} (c k : ℕ) → k ≡ c → k ≤ 255 → Put a (bytes "(refused ") m → Put m (print_number k) n → Put n (bytes ")\n") b
      → Written (shown (refused c)) old b.len b.out.now
  unfolding shown bytes
  refusal-told c k f d p q r =
      let x = bytes "(refused " in
      let y = bytes ")\n" in
      let t = x ++ (print_number k ++ y) in
      let l : length t ≤ listing_room = omega (arith, length-append x (print_number k ++ y), length-append (print_number k) y, byte-digits k d) in
      let w = front-written t old b.out.now b.len (omega arith) (omega arith) (from-start e z (then p (then q r))) in
      transp (λ k. Written (shown (refused k)) old b.len b.out.now) f (written_same _ t old b.len b.out.now (append_assoc x (print_number k) y) w)

  -- the same where it is told by its cause
  pub refusal-written : {m n : Writer} (c : Cause) (k : ℕ) → k ≡ number c → Put a (bytes "(refused ") m → Put m (print_number k) n → Put n (bytes ")\n") b
      → Written (shown (refused (number c))) old b.len b.out.now
  refusal-written c k f p q r = refusal-told (number c) k f (omega (arith, cause-few c)) p q r

  pub token-written : Put a (bytes "(bad token)\n") b → Written bad_token old b.len b.out.now
  unfolding bad_token bytes
  token-written p = front-written (bytes "(bad token)\n") old b.out.now b.len (omega arith) (omega arith) (from-start e z p)

-- The bytes h were put in front of n others: then there are r.
pub record Fronted (h : List ℕ) (n : ℕ) (old : List ℕ) (r : ℕ) (new : List ℕ) : Type 0 where
  pub count : r ≡ length h + n
  pub text : new ≡ h ++ drop (length h) old
