-- The data that the adapter keeps in addition to the debugger.
use Rattle.std.specs.Prelude.{ℕ, List, []}
use Rattle.ss_check.specs.Symbols.{Symbols}
use Rattle.ss_prompt.specs.declared.shown.Shown.{Shown}
use Rattle.ss_messages.specs.declared.counting.Counting.{Counting}
use Rattle.ss_messages.specs.declared.request.Stops.{Stops}

-- the data that the adapter keeps in addition to the debugger
pub record DeskView : Type 0 where
  -- the path of the model
  pub path : List ℕ
  -- the bytes of the model
  pub model : List ℕ
  -- the symbol table of the model
  pub symbols : Symbols
  -- the questions that are answered at each stop of the console
  pub displays : List Shown
  -- the break lines that requests set by lines
  pub set : List ℕ
  -- those that they set by sections
  pub sections : List ℕ
  -- the questions that are data break points, as they were asked
  pub watched : List (List ℕ)
  -- how much of the report is sent
  pub told : ℕ
  -- from which numbers the editor counts lines and columns
  pub counting : Counting
  -- whether configurationDone stops at the run's position, and whether the run stops at its end
  pub stops : Stops

-- the desk of a run of a model, on which nothing is set, and no part of the report is sent
abbrev pub new_desk : List ℕ → List ℕ → Symbols → Counting → Stops → DeskView
new_desk path model symbols counting stops = record {
  path = path;
  model = model;
  symbols = symbols;
  displays = [];
  set = [];
  sections = [];
  watched = [];
  told = 0;
  counting = counting;
  stops = stops;
}
