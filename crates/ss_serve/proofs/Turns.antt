-- Turns, one after the other.
use Rattle.std.proofs.Common.{◌≡◌, ℕ, ◌+◌, ◌-◌, ◌^◌, Bool, true, false, List, [], ◌∷◌, ◌++◌, length, map, refl}
use Rattle.std.proofs.Common.{◌∙◌, sym, ap, inl, inr, arith, append_assoc, append-nil, length-append}
use Rattle.std.proofs.Common.{Option, Some, Ok, Err}
use Rattle.std.proofs.lemmas.List.{map-append}
use Rattle.std.specs.Prelude.{Result, IfOk, IfErr}
use Rattle.ss_console.specs.Event.{Event, Adds}
use Rattle.ss_console.proofs.Parts.{adds_then, adds_none, adds_no_more}
use Rattle.ss_console.specs.declared.answerer.Go.{Go}
use Rattle.ss_console.specs.declared.answerer.Go.TheVariants.{On, Quit}
use Rattle.ss_console.specs.Going.{go_of}
use Rattle.ss_messages.specs.Frames.{first_message, message, IsRead}
use Rattle.ss_messages.specs.declared.frame.FrameFault.TheVariants as frame
use Rattle.ss_messages.specs.declared.request.RequestFault.TheVariants as asking
use Rattle.ss_messages.specs.Messages.{Sent, PostView}
use Rattle.ss_messages.specs.declared.request.Request.{Request}
use Rattle.ss_serve.specs.Meaning.{Meaning}
use Rattle.ss_serve.specs.Seen.{Seen, seen_of}
use Rattle.ss_serve.specs.Session.{BeginsWith, Gives, Turn, IsTurn, AreTurns, state_after}
use Rattle.ss_serve.specs.Session.{messages_of, turn_events}
use Rattle.ss_serve.specs.Session.{events, sent_after}
use Rattle.ss_serve.specs.Session.{EndsBy, HasEnded}
use Rattle.ss_serve.specs.Steps.{IsAsked, IsAnswered, Unanswered, IsMore, IsStep}
use Rattle.ss_serve.specs.declared.fault.SessionFault.{SessionFault}
use Rattle.ss_serve.specs.declared.fault.SessionFault.TheVariants.{NoRequest, CannotRead, CannotWrite, Memory, Count}

-- ---- one message more

begins_more : (text : List ℕ) (bodies : List (List ℕ)) (mid rest body : List ℕ) → BeginsWith text bodies mid →
    first_message mid ≡ message body rest → BeginsWith text (bodies ++ body ∷ []) rest
unfolding BeginsWith
begins_more text [] mid rest body h r = (rest, rw (← h) r, refl)
begins_more text (b ∷ bodies) mid rest body h r = (h.0, h.1, begins_more h.0 bodies mid rest body h.2 r)

gives_none : (before : Option (List ℕ)) → Gives before before []
unfolding BeginsWith
gives_none before = λ text e. (text, e, refl)

gives_more : (before mid after : Option (List ℕ)) (bodies : List (List ℕ)) (body : List ℕ) → Gives before mid bodies →
    IsRead (Some body) mid after → Gives before after (bodies ++ body ∷ [])
gives_more before mid after bodies body g r =
    λ text e. let at = g text e in
    let next = r at.0 at.1 in
    (next.0, next.1, begins_more text bodies at.0 next.0 body at.2 next.2)

-- ---- one turn more

events_push : {S : Type 0} (n : ℕ) (turns : List (Turn S)) (turn : Turn S) →
    events n (turns ++ turn ∷ []) ≡ events n turns ++ turn_events (sent_after n turns) turn
unfolding events sent_after
events_push n [] turn = append-nil (turn_events n turn)
events_push n (t ∷ turns) turn =
    rw (events_push (messages_of n t).sent turns turn) (sym (append_assoc (turn_events n t) _ _))

sent_push : {S : Type 0} (n : ℕ) (turns : List (Turn S)) (turn : Turn S) →
    sent_after n (turns ++ turn ∷ []) ≡ (messages_of (sent_after n turns) turn).sent
unfolding sent_after
sent_push n [] turn = refl
sent_push n (t ∷ turns) turn = sent_push (messages_of n t).sent turns turn

state_push : {S : Type 0} (s : S) (turns : List (Turn S)) (turn : Turn S) →
    state_after s (turns ++ turn ∷ []) ≡ turn.after
unfolding state_after
state_push s [] turn = refl
state_push s (t ∷ turns) turn = state_push t.after turns turn

turns_push : (m : Meaning) (s : m.State) (turns : List (Turn m.State)) (turn : Turn m.State) → AreTurns m s turns →
    IsTurn m (state_after s turns) turn → m.ends turn.request ≡ false → AreTurns m s (turns ++ turn ∷ [])
unfolding AreTurns state_after
turns_push m s [] turn a b e = (b, e, tt)
turns_push m s (t ∷ turns) turn a b e = (a.0, a.1, turns_push m t.after turns turn a.2 b e)

-- ---- the session so far

-- turns lead from a state to another, when n messages were sent, and k of them were made
pub record AreDone (m : Meaning) (from to : m.State) (n : ℕ) (post : PostView) (before left : Option (List ℕ))
    (old told : Option (List Event)) (k : ℕ) : Type 0 where
  pub turns : List (Turn m.State)
  pub made : AreTurns m from turns
  pub state : to ≡ state_after from turns
  pub count : post ≡ record { sent = sent_after n turns; bytes = [] }
  pub many : length turns ≡ k
  pub messages : Gives before left (map (λ turn. turn.body) turns)
  pub tells : Adds old told (events n turns)

same_post : (p : PostView) → p.bytes ≡ [] → p ≡ record { sent = p.sent; bytes = [] }
same_post p e = rw (← e) refl

pub done_none : (m : Meaning) (s : m.State) (post : PostView) (before : Option (List ℕ)) (old : Option (List Event)) →
    post.bytes ≡ [] → AreDone m s s post.sent post before before old old 0
unfolding AreTurns state_after events sent_after
done_none m s post before old e = record {
  turns = [];
  made = tt;
  state = refl;
  count = same_post post e;
  many = refl;
  messages = gives_none before;
  tells = adds_none old;
}

pub done_more : (m : Meaning) (from mid to : m.State) (n : ℕ) (post next : PostView)
    (before left after : Option (List ℕ)) (old told new : Option (List Event)) (k : ℕ) →
    AreDone m from mid n post before left old told k → IsMore m mid to post next (seen_of left after told new) →
    AreDone m from to n next before after old new (k + 1)
done_more m from mid to n post next before left after old told new k d a =
    let sent : post.sent ≡ sent_after n d.turns = ap (λ p. p.sent) d.count in
    record {
      turns = d.turns ++ a.turn ∷ [];
      made = turns_push m from d.turns a.turn d.made (rw (← d.state) a.made) a.goes_on;
      state = a.state ∙ sym (state_push from d.turns a.turn);
      count = rw (sent_push, ← sent) a.count;
      many = rw (length-append, d.many) (omega arith);
      messages =
          rw (map-append (λ turn. turn.body) d.turns (a.turn ∷ []))
          (gives_more before left after _ a.turn.body d.messages a.input);
      tells =
          rw (events_push, ← sent) (adds_then old told new _ _ d.tells a.told);
    }

-- ---- how it ends

ends_at : (m : Meaning) (s last : m.State) (k n : ℕ) (c : Seen) (result : Result (Unit {0}) SessionFault) →
    EndsBy m s last 0 n c result → EndsBy m s last k n c result
ends_at m s last k n c (Ok done) h = h
ends_at m s last k n c (Err NoRequest) h = h
ends_at m s last k n c (Err CannotRead) h = h
ends_at m s last k n c (Err CannotWrite) h = h
ends_at m s last k n c (Err Memory) h = h
ends_at m s last k n c (Err Count) (inl h, a) = (inl h, a)
ends_at m s last k n c (Err Count) (inr h, a) = absurd (cc)

pub has_ended : (m : Meaning) (from s last : m.State) (n : ℕ) (post : PostView)
    (before left after : Option (List ℕ)) (old told new : Option (List Event)) (k : ℕ)
    (result : Result (Unit {0}) SessionFault) → AreDone m from s n post before left old told k →
    EndsBy m s last 0 post.sent (seen_of left after told new) result →
    HasEnded m from last n (seen_of before after old new) result
has_ended m from s last n post before left after old told new k result d h =
    let sent : post.sent ≡ sent_after n d.turns = ap (λ p. p.sent) d.count in
    record {
      turns = d.turns;
      left = left;
      told = told;
      made = d.made;
      messages = d.messages;
      tells = d.tells;
      ends = rw (← d.state, ← sent) (ends_at m s last _ _ _ result h);
    }

pub ends_by_count : (m : Meaning) (from s last : m.State) (n : ℕ) (post : PostView) (before left : Option (List ℕ))
    (old told : Option (List Event)) (k : ℕ) → AreDone m from s n post before left old told k → k ≡ 2 ^ 64 - 1 →
    HasEnded m from last n (seen_of before left old told) (Err Count)
ends_by_count m from s last n post before left old told k d e = record {
  turns = d.turns;
  left = left;
  told = told;
  made = d.made;
  messages = d.messages;
  tells = d.tells;
  ends = (inr (d.many ∙ e), adds_none told);
}

-- ---- one turn, of its parts

-- the turn after the reading of a request
abbrev turn_of : {S : Type 0} → List ℕ → Request → List Sent → S → Turn S
turn_of body request sent after = record { body = body; request = request; sent = sent; after = after }

on_goes : (ends : Bool) → On ≡ go_of ends → ends ≡ false
on_goes true h = absurd (cc)
on_goes false h = refl

quit_ends : (ends : Bool) → Quit ≡ go_of ends → ends ≡ true
quit_ends true h = refl
quit_ends false h = absurd (cc)

pub answered_on : (m : Meaning) (from to : m.State) (request : Request) (post next : PostView)
    (before left after : Option (List ℕ)) (old told new : Option (List Event)) →
    IsAsked (Some request) (seen_of before left old told) → after ≡ left →
    IsAnswered m from to request post.sent next told new On →
    IsMore m from to post next (seen_of before after old new)
answered_on m from to request post next before left after old told new e l a = record {
  turn = turn_of e.body request a.sent to;
  made = record { asks = e.said; answers = a.answers };
  goes_on = on_goes (m.ends request) a.goes;
  state = refl;
  input = rw l e.input;
  told = adds_then old told new _ _ e.told a.told;
  count = a.count;
}

pub answered_quit : (m : Meaning) (from to : m.State) (request : Request) (n : ℕ) (next : PostView)
    (before left after : Option (List ℕ)) (old told new : Option (List Event)) →
    IsAsked (Some request) (seen_of before left old told) → after ≡ left →
    IsAnswered m from to request n next told new Quit →
    EndsBy m from to 0 n (seen_of before after old new) (Ok tt)
answered_quit m from to request n next before left after old told new e l a =
    inr (record {
      turn = turn_of e.body request a.sent to;
      made = record { asks = e.said; answers = a.answers };
      ends = quit_ends (m.ends request) a.goes;
      state = refl;
      input = rw l e.input;
      told = adds_then old told new _ _ e.told a.told;
    })

pub unanswered : (m : Meaning) (from last : m.State) (request : Request) (n : ℕ)
    (before left after : Option (List ℕ)) (old told new : Option (List Event)) (fault : SessionFault) →
    IsAsked (Some request) (seen_of before left old told) → after ≡ left →
    Unanswered m from request n told new fault → EndsBy m from last 0 n (seen_of before after old new) (Err fault)
unanswered m from last request n before left after old told new NoRequest e l h = absurd h
unanswered m from last request n before left after old told new CannotRead e l h = absurd h
unanswered m from last request n before left after old told new CannotWrite e l h = record {
  turn = turn_of e.body request h.0 h.1;
  made = record { asks = e.said; answers = h.2 };
  input = rw l e.input;
  heard = told;
  hears = e.told;
  told = h.3;
}
unanswered m from last request n before left after old told new Memory e l h =
    inr (record { body = e.body; said = tt; input = rw l e.input; told = adds_no_more old told new _ e.told h })
unanswered m from last request n before left after old told new Count e l h = absurd h

-- a request that was asked is answered, or is not
pub step_some : (m : Meaning) (from to : m.State) (request : Request) (post next : PostView)
    (before left after : Option (List ℕ)) (old told new : Option (List Event)) (result : Result Go SessionFault) →
    IsAsked (Some request) (seen_of before left old told) → after ≡ left →
    IfOk result (λ go. IsAnswered m from to request post.sent next told new go) →
    IfErr result (λ fault. Unanswered m from request post.sent told new fault) →
    IsStep m from to post next (seen_of before after old new) result
step_some m from to request post next before left after old told new (Ok On) e l a b =
    answered_on m from to request post next before left after old told new e l a
step_some m from to request post next before left after old told new (Ok Quit) e l a b =
    answered_quit m from to request post.sent next before left after old told new e l a
step_some m from to request post next before left after old told new (Err fault) e l a b =
    unanswered m from to request post.sent before left after old told new fault e l b

-- a turn that goes on leaves nothing to be written
pub none_left : (m : Meaning) (from to : m.State) (post next : PostView) (c : Seen) → IsMore m from to post next c →
    next.bytes ≡ []
none_left m from to post next c a = ap (λ p. p.bytes) a.count
