-- `replay`: the calls, made one after another. The invariant of their loop: the words are those of the state that the calls so far leave,
-- and the text is what they answered. Assumes nothing.
use base.Fml.{GName}
use Rattle.std.specs.Prelude.{ℕ, ◌+◌, ◌*◌, ◌≤◌, ◌<◌, ◌≡◌, refl, List, [], ◌∷◌, ◌++◌, drop, get_or}
use Rattle.std.proofs.Common.{sym, ◌∙◌, subst as transp, append_assoc, arith, add-one, length-append, take_at, take_all}
use Rattle.std.proofs.Math.Path.{ap}
use Rattle.std.proofs.Math.ListN.{length, take}
use Rattle.std.proofs.lemmas.List.Edits.{sets-eq}
use Rattle.std.proofs.Math.Seq.{take-suc, length-take-le}
use Rattle.atlite.specs.Base.{Result, done, refused, ◌>>=◌}
use Rattle.atlite.specs.Lexicon.{Bytes}
use Rattle.atlite.specs.Move.{AfterMove, move}
use Rattle.atlite.specs.Printer.{print_number, print_items}
use Rattle.atlite.specs.Replay.{answer_text, Replayed, after_call, call_from, called}
use Rattle.atlite.specs.Answers.{Returned, move_answer}
use Rattle.atlite.specs.declared.Moved.{Moved}
use Rattle.invariant.specs.Moves.{move-keeps}
use Rattle.layout.specs.Layout.{encode}
use Rattle.promises.specs.Meaning.{answered, lent, move_call}
use Rattle.layout_laws.specs.MeaningLaws.{lent-state, state-lent, move-length}
use Rattle.showing.specs.Writer.{Wrote}
use Rattle.showing.specs.declared.writer.Writer.{Writer}
use Rattle.showing.specs.Put.{Put, then}
use Rattle.input_line.specs.Limits.{longest}
use Rattle.transcript.specs.AnswerTexts.{gap, gap-few, told, Told}
use Rattle.play.specs.Limits.{answer_room, answers_room}
use Rattle.play.specs.Starts.{Holds}

-- The actor a was called, i others before it: the words w are now w', and the answer was put.
pub record CallMade (w : List ℕ) (a i : ℕ) (old : Writer) (w' : List ℕ) (new : Writer) : Type 0 where
  pub words : w' ≡ (move_call w a).buffer
  pub put : Put old (gap i ++ told (move_call w a).result) new
  pub few : length (gap i ++ told (move_call w a).result) ≤ answer_room

pub call-made : {x y z : Writer} (w : List ℕ) (a i : ℕ) (w' : List ℕ) (r : Returned Moved) → move_answer r ≡ (move_call w a).result → w' ≡ (move_call w a).buffer
    → Put x (gap i) y → Told y (told (move_answer r)) z → CallMade w a i x w' z
call-made {x} {y} {z} w a i w' r e d f g =
    let t = told (move_answer r) in
    let q = ap (λ u. gap i ++ told u) e in
    record {
      words = d;
      put = transp (λ s. Put x s z) q (then f g.put);
      few = transp (λ s. length s ≤ answer_room) q (omega (arith, length-append (gap i) t, gap-few i, g.few));
    }

-- ---- one call more
-- the last of some calls
call-last : (R : Replayed) (es : List ℕ) (a : ℕ) → call_from R (es ++ (a ∷ [])) ≡ after_call (call_from R es) (move (call_from R es).state a)
unfolding call_from
call-last R [] a = refl
call-last R (e ∷ es) a = call-last (after_call R (move R.state e)) es a

-- an answer for each call
answers-length : (R : Replayed) (es : List ℕ) → length (call_from R es).answers ≡ length R.answers + length es
unfolding call_from after_call
answers-length R [] = omega arith
answers-length R (e ∷ es) = answers-length (after_call R (move R.state e)) es ∙ omega (arith, one (move R.state e))
  where
    one : (m : Result AfterMove) → length (after_call R m).answers ≡ length R.answers + 1
    one (done M) = length-append R.answers (answer_text M.answer ∷ [])
    one (refused n) = length-append R.answers (print_number n ∷ [])

items-last : (vs : List Bytes) (x : Bytes) → print_items (vs ++ (x ∷ [])) ≡ print_items vs ++ (gap (length vs) ++ x)
unfolding print_items gap
items-last [] x = refl
items-last (u ∷ []) x = refl
items-last (u ∷ v ∷ vs) x = ap (λ y. u ++ (32 ∷ y)) (items-last (v ∷ vs) x) ∙ sym (append_assoc u (32 ∷ print_items (v ∷ vs)) (32 ∷ x))

module _ (w : List ℕ) (R : Replayed) (h : lent w ≡ done R.state) (a : ℕ) where
  -- the call's words and text are the definition's
  after-call : ((after_call R (move R.state a)).answers ≡ R.answers ++ (told (move_call w a).result ∷ [])) × (lent (move_call w a).buffer ≡ done (after_call R (move R.state a)).state)
  unfolding after_call move_call answered told
  after-call = rw h (go (move R.state a) refl)
    where
      go : (m : Result AfterMove) → move R.state a ≡ m
          → ((after_call R m).answers ≡ R.answers ++ (told (answered w (m >>= λ M. done (M.answer, encode M.state))).result ∷ []))
          × (lent (answered w (m >>= λ M. done (M.answer, encode M.state))).buffer ≡ done (after_call R m).state)
      go (done M) e = (refl, lent-state M.state (drop (length (encode M.state)) w) (move-keeps R.state a M (state-lent w R.state h).0 e))
      go (refused n) e = (refl, h)

-- ---- the loop
-- Of the calls es for the state in w₀ the first i have been made. The words are w, and their answers are what was put into the text, which
-- had the name m.
pub record Calling (w₀ es : List ℕ) (m : GName) (i : ℕ) (w : List ℕ) (text : Writer) : Type 0 where
  pub held : Holds w₀
  pub passed : i ≤ length es
  pub short : length es ≤ longest
  pub same : text.out.ghost_name ≡ m
  pub size : length text.out.now ≡ answers_room
  pub stays : length w ≡ length w₀
  pub few : text.len ≤ i * answer_room
  pub words : lent w ≡ done (called held.state (take i es)).state
  pub is : take text.len text.out.now ≡ print_items (called held.state (take i es)).answers

-- The words w are a state's, the calls es are few enough, and the text has nothing in it and room for their answers.
pub record Ready (w es : List ℕ) (text : Writer) : Type 0 where
  pub held : Holds w
  pub short : length es ≤ longest
  pub size : length text.out.now ≡ answers_room
  pub empty : text.len ≡ 0

pub call-starts : {w es : List ℕ} {text : Writer} → Ready w es text → Calling w es text.out.ghost_name 0 w text
unfolding called call_from print_items
call-starts {text = text} r = record {
  held = r.held;
  passed = omega arith;
  short = r.short;
  same = refl;
  size = r.size;
  stays = refl;
  few = omega (arith, r.empty);
  words = r.held.is;
  is = ap (λ k. take k text.out.now) r.empty;
}

-- what was written at the end of the first k bytes stands behind them
take-wrote : (old : List ℕ) (k : ℕ) (s new : List ℕ) (r : ℕ) → length old ≡ answers_room → k + length s ≤ answers_room → Wrote old k s new r
    → (r ≡ k + length s) × (take r new ≡ take k old ++ s)
take-wrote old k s new r z l g =
    let n : r ≡ k + length s = g.next (omega arith) in
    let t : length (take k old ++ s) ≡ r = length-append (take k old) s ∙ omega (arith, length-take-le k old (omega arith)) in
    (n, ap (take r) (g.is (omega arith) ∙ sets-eq s old k (omega arith)) ∙ take_at (take k old ++ s) (drop (k + length s) old) r t)

-- What answering the calls es leaves: the first r bytes of the text are the line of the answers, and the words are w'.
pub record Lined (w es w' : List ℕ) (r : ℕ) (text : List ℕ) : Type 0 where
  pub few : r ≤ answers_room
  pub inside : r ≤ length text
  pub held : Holds w
  pub words : lent w' ≡ done (called held.state es).state
  pub is : take r text ≡ print_items (called held.state es).answers ++ (10 ∷ [])

module _ {w₀ es : List ℕ} {m : GName} {i : ℕ} {w : List ℕ} {text : Writer} (g : Calling w₀ es m i w text) where
  abbrev so_far : Replayed
  so_far = called g.held.state (take i es)

  module _ {w' : List ℕ} {new : Writer} (h : i < length es) (c : CallMade w (get_or es i 0) i text w' new) where
    abbrev answer : Bytes
    answer = told (move_call w (get_or es i 0)).result

    -- the calls so far with this one
    call_next : called g.held.state (take (i + 1) es) ≡ after_call so_far (move so_far.state (get_or es i 0))
    unfolding called
    call_next =
        let t : take (i + 1) es ≡ take i es ++ (get_or es i 0 ∷ []) = rw (add-one, take-suc es i 0) in
        ap (called g.held.state) t ∙ call-last _ (take i es) (get_or es i 0)

    made : ((after_call so_far (move so_far.state (get_or es i 0))).answers ≡ so_far.answers ++ (answer ∷ [])) × (lent (move_call w (get_or es i 0)).buffer ≡ done (after_call so_far (move so_far.state (get_or es i 0))).state)
    made = after-call w so_far g.words (get_or es i 0)

    answer-next : print_items (called g.held.state (take (i + 1) es)).answers ≡ print_items so_far.answers ++ (gap i ++ answer)
    unfolding called
    answer-next =
        let n : length so_far.answers ≡ i = answers-length _ (take i es) ∙ omega (arith, length-take-le i es (omega arith)) in
        ap (λ R. print_items R.answers) call_next ∙ ap print_items made.0 ∙ items-last so_far.answers answer ∙ ap (λ j. print_items so_far.answers ++ (gap j ++ answer)) n

    pub call-goes : Calling w₀ es m (i + 1) w' new
    call-goes =
        let b : text.len + length (gap i ++ answer) ≤ answers_room = omega (arith, g.few, g.short, c.few) in
        let v = take-wrote text.out.now text.len (gap i ++ answer) new.out.now new.len g.size b c.put.wrote in
        record {
          held = g.held;
          passed = omega arith;
          short = g.short;
          same = c.put.same ∙ g.same;
          size = c.put.kept ∙ g.size;
          stays = ap length c.words ∙ move-length w (get_or es i 0) ∙ g.stays;
          few = omega (arith, v.0, g.few, c.few);
          words = ap lent c.words ∙ made.1 ∙ ap (λ R. done R.state) (sym call_next);
          is = v.1 ∙ ap (λ x. x ++ (gap i ++ answer)) g.is ∙ sym answer-next;
        }

  pub call_ends : {new : Writer} → length es ≤ i → Put text (10 ∷ []) new → Lined w₀ es w new.len new.out.now
  call_ends {new} h c =
      let e : take i es ≡ es = take_all i es h in
      let b : text.len + 1 ≤ answers_room = omega (arith, g.few, g.passed, g.short) in
      let v = take-wrote text.out.now text.len (10 ∷ []) new.out.now new.len g.size b c.wrote in
      record {
        few = omega (arith, v.0);
        inside = omega (arith, v.0, c.kept, g.size);
        held = g.held;
        words = g.words ∙ ap (λ x. done (called g.held.state x).state) e;
        is = v.1 ∙ ap (λ x. x ++ (10 ∷ [])) (g.is ∙ ap (λ x. print_items (called g.held.state x).answers) e);
      }

pub call_all : {w₀ es : List ℕ} {m : GName} {i : ℕ} {w : List ℕ} {text : Writer} → Calling w₀ es m i w text → length es ≤ i → Calling w₀ es m (length es) w text
call_all {w₀} {es} {m} {w = w} {text = text} g h = let e = g.passed in transp (λ i. Calling w₀ es m i w text) (omega arith) g
