-- Launch, and turns of an editor.
use Rattle.std.proofs.Common.{◌≡◌, ◌≢◌, ℕ, Bool, List, [], codes, refl, ◌∙◌, sym, ap, Option, Some, None, Result, Ok, Err}
use Rattle.std.specs.Prelude.{MatchOption, IfOk}
use Rattle.ss_state.specs.Run.{Input, input_with}
use Rattle.ss_debug.specs.Turn.{DebuggerState, initial_debugger_state}
use Rattle.ss_session.specs.Load.{IsLoadFault}
use Rattle.ss_session.specs.declared.load.LoadFault.{LoadFault}
use Rattle.ss_session.specs.declared.load.LoadFault.TheVariants.{Memory}
use Rattle.ss_messages.specs.Messages.{PostView, posted_with, posted_all, failure}
use Rattle.ss_messages.proofs.Posts.{posted_one}
use Rattle.ss_messages.specs.declared.request.Command.TheVariants.{Launch}
use Rattle.ss_console.specs.declared.answerer.Go.{Go}
use Rattle.ss_console.specs.declared.answerer.Go.TheVariants as go
use Rattle.ss_messages.specs.declared.request.Request.{Request}
use Rattle.ss_messages.specs.declared.request.Stops.{Stops}
use Rattle.ss_messages.specs.declared.counting.Counting.{Counting}
use Rattle.ss_adapter.specs.declared.turns.Further.{Further}
use Rattle.ss_adapter.specs.Desk.{DeskView}
use Rattle.ss_adapter.specs.Before.{IsLaunched, IsRefusedLaunch, answer_to_launch, answers_before}
use Rattle.ss_adapter.specs.Turn.{AdapterState, further_of}
use Rattle.ss_prompt.specs.Names.{warnings_told}
use Rattle.ss_serve.specs.Meaning.{IsAnswer}
use Rattle.ssdap.specs.Shelves.{Stands, Given}
use Rattle.ssdap.specs.Editing.{editor_meaning, editing_state, go_behind, IsStart, Opens, Opening, no_model}
use Rattle.ssdap.specs.Editing.{IsElsewhere, IsTurned, source_path, counting_after, messages_by, run_by}
use Rattle.ssdap.specs.Editing.{no_data, refused}
use Rattle.ssdap.specs.Editing.{opened, IsOpened, opening_messages, AnswersBefore}

abbrev state_of : Input → DebuggerState → DeskView → AdapterState
state_of t d k = record { input = t; debugger = d; desk = k }

same_state : (t u : Input) (d e : DebuggerState) (k j : DeskView) → t ≡ u → d ≡ e → k ≡ j →
    state_of t d k ≡ state_of u e j
same_state t u d e k j p q r = rw (p, q, r) refl

-- a run that was launched is at the start
starts : (model text path : List ℕ) (counting : Counting) (stops : Stops) (s : AdapterState) →
    IsLaunched model text path counting stops s → IsStart path model text counting stops s
starts model text path counting stops s l =
    let same = same_state s.input _ s.debugger _ s.desk _ l.input l.start l.desk in
    (s.input.program, s.desk.symbols, l.program, same)

-- the run that launch leaves, and the messages that it posts
abbrev Launches : Request → List ℕ → List ℕ → List ℕ → Counting → Stops → PostView → PostView →
    Option AdapterState → Type 0
Launches request path model text counting stops old new run =
    MatchOption run
    ((fault : LoadFault) × (fault ≢ Memory) × IsLoadFault fault model × IsRefusedLaunch fault model request old new)
    (λ s. IsLaunched model text path counting stops s
    × (new ≡ posted_all request old (answer_to_launch (warnings_told s.input.program model))))

-- a launch that leaves this run and posts these messages is one opening
opens : (files : Option (List ℕ → Option (List ℕ))) (request : Request) (path : List ℕ)
    (data_path : Option (List ℕ)) (counting : Counting) (stops : Stops) (model text : List ℕ) (old new : PostView)
    (run : Option AdapterState) → Stands files path (Some model) → Given files data_path (Some text) →
    Launches request path model text counting stops old new run →
    IsOpened files request path data_path counting stops old new run
opens files request path data_path counting stops model text old new None s g h = record {
  opening = refused h.0 h.3.0;
  opens = (model, text, s, g, h.1, h.2, h.3.1);
  posted = h.3.2;
  run_is = refl;
}
opens files request path data_path counting stops model text old new (Some r) s g h = record {
  opening = opened r;
  opens = (model, text, s, g, starts model text path counting stops r h.0);
  posted = rw (ap (λ k. k.model) h.0.desk) h.1;
  run_is = refl;
}

-- an opening, from the result of launch on texts that are equal to these
pub launch_opens : (files : Option (List ℕ → Option (List ℕ))) (request : Request) (path : List ℕ)
    (data_path : Option (List ℕ)) (counting : Counting) (stops : Stops) (model text : List ℕ) (old new : PostView)
    {E : Type 0} (result : Result (Option AdapterState) E) (at over held : List ℕ) → at ≡ path →
    over ≡ model → held ≡ text → Stands files path (Some model) → Given files data_path (Some text) →
    IfOk result (λ run. Launches request at over held counting stops old new run) →
    IfOk result (λ run. IsOpened files request path data_path counting stops old new run)
launch_opens files request path data_path counting stops model text old new (Ok run) at over held p m t s g h =
    opens files request path data_path counting stops model text old new run s g (rw (p, m, t) at h)
launch_opens files request path data_path counting stops model text old new (Err fault) at over held p m t s g h = tt

-- a turn about a run
pub turned : (same : Option (List ℕ → List ℕ → Bool)) (s to : AdapterState) (request : Request) (old new : PostView)
    (further : Further) (elsewhere : Bool) → IsElsewhere same s.desk.path (source_path request.command) elsewhere →
    new ≡ posted_all request old (messages_by s request.command elsewhere) →
    to ≡ run_by s request.command elsewhere → further ≡ further_of request.command →
    IsTurned same s to request old new (go_behind further)
turned same s to request old new further elsewhere e p l f = record {
  elsewhere = elsewhere;
  is_elsewhere = e;
  posted = p;
  leads = l;
  goes = ap go_behind f;
}

-- it is an answer, however the editor counts
pub answered : (files : Option (List ℕ → Option (List ℕ))) (same : Option (List ℕ → List ℕ → Bool))
    (counting : Counting) (s to : AdapterState) (request : Request) (old new : PostView) (go : Go) →
    IsTurned same s to request old new go →
    IsAnswer editor_meaning (editing_state files same counting (Some s))
    (editing_state files same (counting_after counting request.command) (Some to)) request old new go
answered files same counting s to request old new go t = record {
  sent = messages_by s request.command t.elsewhere;
  answers = ((t.elsewhere, t.is_elsewhere, refl, ap Some t.leads), refl, refl, refl);
  posted = t.posted;
  goes = t.goes;
}

-- the model can't be read
pub no_model_is : (files : Option (List ℕ → Option (List ℕ))) (request : Request) (path : List ℕ)
    (data_path : Option (List ℕ)) (counting : Counting) (stops : Stops) (old new : PostView) →
    Stands files path None → new ≡ posted_with request old (failure (codes "cannot read the model")) →
    IsOpened files request path data_path counting stops old new None
no_model_is files request path data_path counting stops old new s p = record {
  opening = no_model;
  opens = s;
  posted = p ∙ sym (posted_one request old (failure (codes "cannot read the model")));
  run_is = refl;
}

-- the data can't be read
pub no_data_is : (files : Option (List ℕ → Option (List ℕ))) (request : Request) (path : List ℕ)
    (data_path : Option (List ℕ)) (counting : Counting) (stops : Stops) (model : List ℕ) (old new : PostView) →
    Stands files path (Some model) → Given files data_path None →
    new ≡ posted_with request old (failure (codes "cannot read the data")) →
    IsOpened files request path data_path counting stops old new None
no_data_is files request path data_path counting stops model old new s g p = record {
  opening = no_data;
  opens = (model, s, g);
  posted = p ∙ sym (posted_one request old (failure (codes "cannot read the data")));
  run_is = refl;
}

-- launch is answered
pub launched_is : (files : Option (List ℕ → Option (List ℕ))) (same : Option (List ℕ → List ℕ → Bool))
    (counting : Counting) (request : Request) (path : List ℕ) (data_path : Option (List ℕ)) (stops : Stops)
    (old new : PostView) (run : Option AdapterState) → request.command ≡ Launch path data_path stops →
    IsOpened files request path data_path counting stops old new run →
    IsAnswer editor_meaning (editing_state files same counting None)
    (editing_state files same (counting_after counting request.command) run) request old new go.On
unfolding AnswersBefore
launched_is files same counting request path data_path stops old new run e o = record {
  sent = opening_messages o.opening;
  answers = (rw e (o.opening, o.opens, refl, o.run_is), refl, refl, refl);
  posted = o.posted;
  goes = rw e refl;
}

-- another request is, before a run is launched
pub before_is : (files : Option (List ℕ → Option (List ℕ))) (same : Option (List ℕ → List ℕ → Bool))
    (counting : Counting) (request : Request) (old new : PostView) (further : Further) →
    AnswersBefore files counting request.command (answers_before request.command) None →
    new ≡ posted_all request old (answers_before request.command) → further ≡ further_of request.command →
    IsAnswer editor_meaning (editing_state files same counting None)
    (editing_state files same (counting_after counting request.command) None) request old new (go_behind further)
before_is files same counting request old new further a p f = record {
  sent = answers_before request.command;
  answers = (a, refl, refl, refl);
  posted = p;
  goes = ap go_behind f;
}

-- a turn before a run is launched
pub ruleset firsts = (launched_is, before_is)
