-- A dialogue grows by a turn.
use Rattle.std.proofs.Common.{◌≡◌, ℕ, ◌+◌, ◌-◌, ◌^◌, Bool, true, false, ◌||◌, List, [], ◌∷◌, ◌++◌, length, map, refl}
use Rattle.std.proofs.Common.{◌∙◌, sym, ap, arith, append_assoc, append-nil, length-append, Option, Some, None}
use Rattle.std.proofs.lemmas.List.{map-append}
use Rattle.ss_console.specs.Event.{Event, read, write_events, Adds}
use Rattle.ss_console.specs.Lines.{Gives, IsAtEnd}
use Rattle.ss_console.specs.Meaning.{Meaning}
use Rattle.ss_console.specs.Puts.{AddsPart}
use Rattle.ss_console.specs.Dialogue.{Turn, answered, refused, line_of, answer_of, state_after, is_last, IsAllowed}
use Rattle.ss_console.specs.Dialogue.{prompt, turn_events, events, state_after_all, AreAllowed, has_last}
use Rattle.ss_console.specs.Dialogue.{Lead, EndsByInput, EndsByLine, EndsInPrompt, EndsInAnswer}
use Rattle.ss_console.specs.Dialogue.{EndsByCount}
use Rattle.ss_console.specs.declared.reply.Reply.{Reply}
use Rattle.ss_console.specs.Reply.{IsReply, reply_text, reply_ends}
use Rattle.ss_console.proofs.Parts.{adds_then, adds_none, adds_no_more}

-- ---- lines that are shown

pub gives_none : (a : Option (List (List ℕ))) → Gives a a []
gives_none None = tt
gives_none (Some s) = refl

pub gives_then : (a b c : Option (List (List ℕ))) (x y : List (List ℕ)) → Gives a b x → Gives b c y → Gives a c (x ++ y)
gives_then None b c x y p q = tt
gives_then (Some s) None c x y p q = absurd p
gives_then (Some s) (Some t) None x y p q = absurd q
gives_then (Some s) (Some t) (Some u) x y p q = p ∙ ap (λ v. x ++ v) q ∙ sym (append_assoc x y u)

-- ---- one more turn

state_after_push : (m : Meaning) (s : m.State) (turns : List (Turn m.State)) (turn : Turn m.State) →
    state_after_all m s (turns ++ turn ∷ []) ≡ state_after m (state_after_all m s turns) turn
unfolding state_after_all
state_after_push m s [] turn = refl
state_after_push m s (t ∷ turns) turn = state_after_push m (state_after m s t) turns turn

pub events-push : (m : Meaning) (terminal : Bool) (s : m.State) (turns : List (Turn m.State)) (turn : Turn m.State) →
    events m terminal s (turns ++ turn ∷ [])
    ≡ events m terminal s turns ++ turn_events m terminal (state_after_all m s turns) turn
unfolding events state_after_all
events-push m terminal s [] turn = append-nil (turn_events m terminal s turn)
events-push m terminal s (t ∷ turns) turn =
    rw (events-push m terminal (state_after m s t) turns turn) (sym (append_assoc (turn_events m terminal s t) _ _))

allowed_push : (m : Meaning) (s : m.State) (turns : List (Turn m.State)) (turn : Turn m.State) →
    AreAllowed m s turns → IsAllowed m (state_after_all m s turns) turn → AreAllowed m s (turns ++ turn ∷ [])
unfolding AreAllowed state_after_all
allowed_push m s [] turn a b = (b, tt)
allowed_push m s (t ∷ turns) turn a b = (a.0, allowed_push m (state_after m s t) turns turn a.1 b)

pub or_parts : (a b : Bool) → (a || b) ≡ false → (a ≡ false) × (b ≡ false)
or_parts true true e = absurd (cc)
or_parts true false e = absurd (cc)
or_parts false true e = absurd (cc)
or_parts false false e = (refl, refl)

or_both : (a b : Bool) → a ≡ false → b ≡ false → (a || b) ≡ false
or_both a b p q = rw (p, q) refl

has_last-push : (m : Meaning) (turns : List (Turn m.State)) (turn : Turn m.State) → has_last m turns ≡ false →
    is_last m turn ≡ false → has_last m (turns ++ turn ∷ []) ≡ false
has_last-push m [] turn h e = or_both (is_last m turn) false e refl
has_last-push m (t ∷ turns) turn h e =
    let p = or_parts (is_last m t) (has_last m turns) h in
    or_both (is_last m t) (has_last m (turns ++ turn ∷ [])) p.0 (has_last-push m turns turn p.1 e)

pub lead_more : (m : Meaning) (from mid to : m.State) (before between after : Option (List (List ℕ)))
    (turns : List (Turn m.State)) (turn : Turn m.State) → Lead m from mid before between turns →
    IsAllowed m mid turn → to ≡ state_after m mid turn → Gives between after (line_of turn ∷ []) →
    Lead m from to before after (turns ++ turn ∷ [])
lead_more m from mid to before between after turns turn l a e g = record {
  allowed = allowed_push m from turns turn l.allowed (rw l.state at a);
  state = e ∙ rw (l.state, state_after_push m from turns turn) refl;
  lines =
      rw (map-append line_of turns (turn ∷ []))
      (gives_then before between after (map line_of turns) (line_of turn ∷ []) l.lines g);
}

lead_same : (m : Meaning) (from to : m.State) (before between after : Option (List (List ℕ)))
    (turns : List (Turn m.State)) → Lead m from to before between turns → Gives between after [] →
    Lead m from to before after turns
lead_same m from to before between after turns l g = record {
  allowed = l.allowed;
  state = l.state;
  lines = rw (sym (append-nil (map line_of turns))) (gives_then before between after _ [] l.lines g);
}

-- ---- the dialogue so far

pub record AreDone (m : Meaning) (terminal : Bool) (from to : m.State) (before after : Option (List (List ℕ)))
    (old new : Option (List Event)) (n : ℕ) : Type 0 where
  pub turns : List (Turn m.State)
  pub led : Lead m from to before after turns
  pub goes_on : has_last m turns ≡ false
  pub count : length turns ≡ n
  pub told : Adds old new (events m terminal from turns)

pub done_none : (m : Meaning) (terminal : Bool) (s : m.State) (before : Option (List (List ℕ)))
    (old : Option (List Event)) → AreDone m terminal s s before before old old 0
unfolding events state_after_all AreAllowed
done_none m terminal s before old = record {
  turns = [];
  led = record { allowed = tt; state = refl; lines = gives_none before };
  goes_on = refl;
  count = refl;
  told = adds_none old;
}

-- after the prompt and a line
pub record HasRead (m : Meaning) (terminal : Bool) (from to : m.State) (before after : Option (List (List ℕ)))
    (old new : Option (List Event)) (line : List ℕ) (n : ℕ) : Type 0 where
  pub turns : List (Turn m.State)
  pub left : Option (List (List ℕ))
  pub led : Lead m from to before left turns
  pub goes_on : has_last m turns ≡ false
  pub count : length turns ≡ n
  pub next : Gives left after (line ∷ [])
  pub told :
      Adds old new
      (events m terminal from turns ++ (write_events (prompt terminal (m.position to)) ++ read line ∷ []))

-- ---- how it ends, and how it goes on

pub ends_in_prompt : (m : Meaning) (terminal : Bool) (from to : m.State) (before after after' : Option (List (List ℕ)))
    (old mid new : Option (List Event)) (n : ℕ) (text : List ℕ) → AreDone m terminal from to before after old mid n →
    after' ≡ after → text ≡ prompt terminal (m.position to) → AddsPart text mid new →
    EndsInPrompt m terminal from to before after' old new
ends_in_prompt m terminal from to before after after' old mid new n text d same e w = record {
  turns = d.turns;
  count = w.count;
  led = rw same d.led;
  goes_on = d.goes_on;
  within = rw (← e) w.within;
  told = rw (← e) (adds_then old mid new _ _ d.told w.told);
}

pub ends_by_input : (m : Meaning) (terminal : Bool) (from to : m.State)
    (before after after' left : Option (List (List ℕ))) (old mid mid' new : Option (List Event)) (n : ℕ)
    (text : List ℕ) → AreDone m terminal from to before after old mid n → after' ≡ after →
    text ≡ prompt terminal (m.position to) → Adds mid mid' (write_events text) → Adds mid' new [] →
    Gives after' left [] → IsAtEnd left → EndsByInput m terminal from to before left old new
ends_by_input m terminal from to before after after' left old mid mid' new n text d same e a b g end = record {
  turns = d.turns;
  led = lead_same m from to before after left d.turns d.led (rw same at g);
  goes_on = d.goes_on;
  input = end;
  told = rw (← e) (adds_then old mid new _ _ d.told (adds_no_more mid mid' new _ a b));
}

pub has_read : (m : Meaning) (terminal : Bool) (from to : m.State) (before after after' left : Option (List (List ℕ)))
    (old mid mid' new : Option (List Event)) (n : ℕ) (text line : List ℕ) →
    AreDone m terminal from to before after old mid n → after' ≡ after → text ≡ prompt terminal (m.position to) →
    Adds mid mid' (write_events text) → Adds mid' new (read line ∷ []) → Gives after' left (line ∷ []) →
    HasRead m terminal from to before left old new line n
has_read m terminal from to before after after' left old mid mid' new n text line d same e a b g = record {
  turns = d.turns;
  left = after;
  led = d.led;
  goes_on = d.goes_on;
  count = d.count;
  next = rw same at g;
  told = rw (← e) (adds_then old mid new _ _ d.told (adds_then mid mid' new _ _ a b));
}

regroup : (e p a : List Event) (x : Event) → (e ++ (p ++ x ∷ [])) ++ a ≡ e ++ (p ++ x ∷ a)
regroup e p a x = rw (append_assoc e (p ++ x ∷ []) a, append_assoc p (x ∷ []) a) refl

told_one : (m : Meaning) (terminal : Bool) (from to : m.State) (before after : Option (List (List ℕ)))
    (old mid new : Option (List Event)) (line : List ℕ) (n : ℕ) (turn : Turn m.State) →
    (h : HasRead m terminal from to before after old mid line n) → line_of turn ≡ line →
    Adds mid new (write_events (answer_of m to turn)) →
    Adds old new (events m terminal from (h.turns ++ turn ∷ []))
told_one m terminal from to before after old mid new line n turn h e a =
    rw (events-push m terminal from h.turns turn, ← h.led.state, e, ← regroup)
    (adds_then old mid new _ _ h.told a)

pub goes_on_with : (m : Meaning) (terminal : Bool) (from to to' : m.State) (before after : Option (List (List ℕ)))
    (old mid new : Option (List Event)) (line answer text : List ℕ) (reply : Reply) (n : ℕ) →
    HasRead m terminal from to before after old mid line n → IsReply m to to' line answer reply →
    text ≡ reply_text m to' reply answer → Adds mid new (write_events text) → reply_ends reply ≡ false →
    AreDone m terminal from to' before after old new (n + 1)
goes_on_with m terminal from to to' before after old mid new line answer text reply n h r e a on = record {
  turns = h.turns ++ r.turn ∷ [];
  led = lead_more m from to to' before h.left after h.turns r.turn h.led r.allowed r.state (rw r.line_is h.next);
  goes_on = has_last-push m h.turns r.turn h.goes_on (sym r.ends ∙ on);
  count = rw (length-append, h.count) (omega arith);
  told =
      told_one m terminal from to before after old mid new line n r.turn h r.line_is
      (rw (e, r.text) at a);
}

ends_with : (m : Meaning) (terminal : Bool) (from to to' : m.State) (before after : Option (List (List ℕ)))
    (old mid new : Option (List Event)) (line : List ℕ) (n : ℕ) (turn : Turn m.State) →
    HasRead m terminal from to before after old mid line n → line_of turn ≡ line → IsAllowed m to turn →
    to' ≡ state_after m to turn → Adds mid new (write_events (answer_of m to turn)) → is_last m turn ≡ true →
    EndsByLine m terminal from to' before after old new
ends_with m terminal from to to' before after old mid new line n (answered l) h e w s a last = record {
  turns = h.turns;
  line = l;
  led = lead_more m from to to' before h.left after h.turns (answered l) h.led w s (rw e h.next);
  goes_on = h.goes_on;
  ends = last;
  told = told_one m terminal from to before after old mid new line n (answered l) h e a;
}
ends_with m terminal from to to' before after old mid new line n (refused l t) h e w s a last = absurd (cc)

pub ends_by_line : (m : Meaning) (terminal : Bool) (from to to' : m.State) (before after : Option (List (List ℕ)))
    (old mid new : Option (List Event)) (line answer text : List ℕ) (reply : Reply) (n : ℕ) →
    HasRead m terminal from to before after old mid line n → IsReply m to to' line answer reply →
    text ≡ reply_text m to' reply answer → Adds mid new (write_events text) → reply_ends reply ≡ true →
    EndsByLine m terminal from to' before after old new
ends_by_line m terminal from to to' before after old mid new line answer text reply n h r e a last =
    ends_with m terminal from to to' before after old mid new line n r.turn h r.line_is r.allowed r.state
    (rw (e, r.text) at a) (sym r.ends ∙ last)

pub ends_in_answer : (m : Meaning) (terminal : Bool) (from to to' : m.State) (before after : Option (List (List ℕ)))
    (old mid new : Option (List Event)) (line answer text : List ℕ) (reply : Reply) (n : ℕ) →
    HasRead m terminal from to before after old mid line n → IsReply m to to' line answer reply →
    text ≡ reply_text m to' reply answer → AddsPart text mid new →
    EndsInAnswer m terminal from to' before after old new
ends_in_answer m terminal from to to' before after old mid new line answer text reply n h r e w =
    let same : text ≡ answer_of m to r.turn = e ∙ r.text in
    record {
      turns = h.turns;
      last = r.turn;
      state = to;
      count = w.count;
      led = lead_more m from to to' before h.left after h.turns r.turn h.led r.allowed r.state (rw r.line_is h.next);
      goes_on = h.goes_on;
      reached = h.led.state;
      within = rw (← same) w.within;
      told = rw (← same, r.line_is, ← regroup) (adds_then old mid new _ _ h.told w.told);
    }

pub ends_by_count : (m : Meaning) (terminal : Bool) (from to : m.State) (before after : Option (List (List ℕ)))
    (old new : Option (List Event)) (n : ℕ) → AreDone m terminal from to before after old new n → n ≡ 2 ^ 64 - 1 →
    EndsByCount m terminal from to before after old new
ends_by_count m terminal from to before after old new n d e = record {
  turns = d.turns;
  led = d.led;
  goes_on = d.goes_on;
  many = d.count ∙ e;
  told = d.told;
}
