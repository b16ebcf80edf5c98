-- Before each line come whole turns.
use Rattle.std.proofs.Common.{◌≡◌, ℕ, Bool, List, [], ◌∷◌, ◌++◌, refl, ◌∙◌, sym, ap, append_assoc, append-nil}
use Rattle.ss_console.specs.Event.{Event, read, wrote, write_events}
use Rattle.ss_console.specs.Meaning.{Meaning}
use Rattle.ss_console.specs.Dialogue.{Turn, line_of, answer_of, prompt, turn_events, events, state_after}
use Rattle.ss_console.specs.Dialogue.{state_after_all}

-- a line is not read within bytes that are written
split_written : (p : List ℕ) (rest before after : List Event) (line : List ℕ) →
    write_events p ++ rest ≡ before ++ read line ∷ after →
    (behind : List Event) × (before ≡ write_events p ++ behind) × (rest ≡ behind ++ read line ∷ after)
split_written [] rest before after line e = (before, refl, e)
split_written (b ∷ p) rest [] after line e = absurd (cc)
split_written (b ∷ p) rest (x ∷ before) after line e =
    let head : wrote b ≡ x = cc in
    let tail : write_events p ++ rest ≡ before ++ read line ∷ after = cc in
    let s = split_written p rest before after line tail in
    (s.0, ap (λ v. x ∷ v) s.1 ∙ ap (λ v. v ∷ (write_events p ++ s.0)) (sym head), s.2)

-- whole turns, and the prompt after them
abbrev IsWhole : (m : Meaning) → Bool → m.State → List (Turn m.State) → List Event → Type 0
IsWhole m terminal s turns before =
    (done : List (Turn m.State)) × (left : List (Turn m.State)) × (turns ≡ done ++ left)
    × (before ≡ events m terminal s done ++ write_events (prompt terminal (m.position (state_after_all m s done))))

-- a whole turn in front
whole_with : (m : Meaning) (terminal : Bool) (s : m.State) (turn : Turn m.State) (turns : List (Turn m.State))
    (before : List Event) → IsWhole m terminal (state_after m s turn) turns before →
    IsWhole m terminal s (turn ∷ turns) (turn_events m terminal s turn ++ before)
unfolding events state_after_all
whole_with m terminal s turn turns before w = (
  turn ∷ w.0,
  w.1,
  ap (λ v. turn ∷ v) w.2,
  ap (λ v. turn_events m terminal s turn ++ v) w.3 ∙ sym (append_assoc (turn_events m terminal s turn) _ _),
)

pub whole_before : (m : Meaning) (terminal : Bool) (s : m.State) (turns : List (Turn m.State))
    (before after : List Event) (line : List ℕ) →
    events m terminal s turns ≡ before ++ read line ∷ after →
    (done : List (Turn m.State)) × (left : List (Turn m.State)) × (turns ≡ done ++ left)
    × (before ≡ events m terminal s done ++ write_events (prompt terminal (m.position (state_after_all m s done))))
unfolding events state_after_all
whole_before m terminal s [] [] after line e = absurd (cc)
whole_before m terminal s [] (x ∷ before) after line e = absurd (cc)
whole_before m terminal s (turn ∷ turns) before after line e =
    let first = split_written (prompt terminal (m.position s)) _ before after line
    (sym
    (append_assoc (write_events (prompt terminal (m.position s)))
    (read (line_of turn) ∷ write_events (answer_of m s turn))
    (events m terminal (state_after m s turn) turns))
    ∙ e) in
    behind_prompt first.0 first.1 first.2 (λ b h. whole_before m terminal (state_after m s turn) turns b after line h)
  where
    behind_prompt : (behind : List Event) → before ≡ write_events (prompt terminal (m.position s)) ++ behind →
        read (line_of turn) ∷ (write_events (answer_of m s turn) ++ events m terminal (state_after m s turn) turns)
        ≡ behind ++ read line ∷ after →
        ((b : List Event) → events m terminal (state_after m s turn) turns ≡ b ++ read line ∷ after →
        IsWhole m terminal (state_after m s turn) turns b) → IsWhole m terminal s (turn ∷ turns) before
    behind_prompt [] same is others = ([], turn ∷ turns, refl, same ∙ append-nil _)
    behind_prompt (x ∷ behind) same is others =
        let head : read (line_of turn) ≡ x = cc in
        let tail : write_events (answer_of m s turn) ++ events m terminal (state_after m s turn) turns
        ≡ behind ++ read line ∷ after = cc in
        let second = split_written (answer_of m s turn) _ behind after line tail in
        let whole = whole_with m terminal s turn turns second.0 (others second.0 second.2) in
        let put : before ≡ turn_events m terminal s turn ++ second.0 =
        same
        ∙ ap (λ v. write_events (prompt terminal (m.position s)) ++ v)
        (ap (λ v. x ∷ v) second.1 ∙ ap (λ v. v ∷ (write_events (answer_of m s turn) ++ second.0)) (sym head))
        ∙ sym (append_assoc (write_events (prompt terminal (m.position s)))
        (read (line_of turn) ∷ write_events (answer_of m s turn)) second.0) in
        (whole.0, whole.1, whole.2, put ∙ whole.3)
