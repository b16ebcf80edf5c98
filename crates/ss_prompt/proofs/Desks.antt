-- A desk over the lines of a model, with a debugger that is lent.
use Rattle.std.proofs.Common.{◌≡◌, ℕ, List, [], Some, None, Result, Ok, Err, OnOk, OnErr, ◌⊎◌, inr, refl, ap, ◌∙◌, sym}
use Rattle.ss_check.specs.Symbols.{Symbols}
use Rattle.ss_debug.specs.View.{DebuggerView}
use Rattle.ss_prompt.specs.declared.shown.Shown.{Shown}
use Rattle.ss_prompt.specs.PromptState.{PromptState, PromptDeskView, with_questions, state_at, lent_state, as_lent}
use Rattle.ss_prompt.specs.Prompting.{IsRefused}
use Rattle.ss_prompt.specs.declared.commands.PromptCommand.{PromptCommand}
use Rattle.ss_prompt.specs.Source.{source_lines}

-- a desk is that of a model, with these questions
pub record IsDeskOf (model : List ℕ) (symbols : Symbols) (displays : List Shown) (k : PromptDeskView) : Type 0 where
  pub model_is : k.model ≡ model
  pub lines_are : k.lines ≡ source_lines model
  pub displays_are : k.displays ≡ displays
  pub no_data : k.data_text ≡ None
  pub symbols_are : k.symbols ≡ Some symbols

-- a new desk that took the questions
pub taken : (model : List ℕ) (symbols : Symbols) (lines : List (List ℕ)) (displays : List Shown)
    (new k : PromptDeskView) →
    new ≡ record {
      model = model;
      lines = lines;
      displays = [];
      listed = None;
      left = None;
      data_text = None;
      symbols = Some symbols;
    } →
    k ≡ with_questions new displays →
    lines ≡ source_lines model → IsDeskOf model symbols displays k
taken model symbols lines displays new k n t l = record {
  model_is = ap (λ (v : PromptDeskView). v.model) t ∙ ap (λ (v : PromptDeskView). v.model) n;
  lines_are = ap (λ (v : PromptDeskView). v.lines) t ∙ ap (λ (v : PromptDeskView). v.lines) n ∙ l;
  displays_are = ap (λ (v : PromptDeskView). v.displays) t;
  no_data = ap (λ (v : PromptDeskView). v.data_text) t ∙ ap (λ (v : PromptDeskView). v.data_text) n;
  symbols_are = ap (λ (v : PromptDeskView). v.symbols) t ∙ ap (λ (v : PromptDeskView). v.symbols) n;
}

-- it was used, and gave its questions back
pub given : (model : List ℕ) (symbols : Symbols) (displays others : List Shown) (k after : PromptDeskView) →
    IsDeskOf model symbols displays k → after.model ≡ k.model → after.lines ≡ k.lines → after.data_text ≡ k.data_text →
    after.symbols ≡ k.symbols → others ≡ after.displays → IsDeskOf model symbols others after
given model symbols displays others k after h m l t y d = record {
  model_is = m ∙ h.model_is;
  lines_are = l ∙ h.lines_are;
  displays_are = sym d;
  no_data = t ∙ h.no_data;
  symbols_are = y ∙ h.symbols_are;
}

-- no line is listed on a desk, and no position was left
abbrev pub IsBare : PromptDeskView → Type 0
IsBare k = (k.listed ≡ None) × (k.left ≡ None)

-- so is a new desk that took the questions
pub bare_still : (model : List ℕ) (symbols : Symbols) (lines : List (List ℕ)) (displays : List Shown)
    (new k : PromptDeskView) →
    new ≡ record {
      model = model;
      lines = lines;
      displays = [];
      listed = None;
      left = None;
      data_text = None;
      symbols = Some symbols;
    } →
    k ≡ with_questions new displays →
    IsBare k
bare_still model symbols lines displays new k n t = (
  ap (λ (v : PromptDeskView). v.listed) t ∙ ap (λ (v : PromptDeskView). v.listed) n,
  ap (λ (v : PromptDeskView). v.left) t ∙ ap (λ (v : PromptDeskView). v.left) n,
)

-- the state of the prompt for a lent debugger is that of the debugger and such a desk
pub lent_is : (d : DebuggerView) (model : List ℕ) (symbols : Symbols) (displays : List Shown) (k : PromptDeskView) →
    IsDeskOf model symbols displays k → IsBare k → lent_state d model symbols displays ≡ state_at d k
lent_is d model symbols displays k h l =
    rw (h.model_is, h.lines_are, h.displays_are, h.no_data, h.symbols_are, l.0, l.1) refl

-- and so it is with any such desk, but for where LIST goes on and the position that was left
pub lent_as : (d : DebuggerView) (model : List ℕ) (symbols : Symbols) (displays : List Shown) (k : PromptDeskView) →
    IsDeskOf model symbols displays k → lent_state d model symbols displays ≡ as_lent (state_at d k)
lent_as d model symbols displays k h = rw (h.model_is, h.lines_are, h.displays_are, h.no_data, h.symbols_are) refl

-- after a command that was obeyed
pub obeyed_so : {T E : Type 0} (result : Result T E) (a b : PromptState) → OnOk result (a ≡ b) →
    OnOk result (as_lent a ≡ as_lent b)
obeyed_so (Ok value) a b e = ap as_lent e
obeyed_so (Err error) a b e = e

-- the desk if memory was refused: no line is listed on it, and no position was left
pub still_bare : {T E : Type 0} (result : Result T E) (k after : PromptDeskView) → IsBare k →
    OnErr result (after.listed ≡ k.listed) → OnErr result (after.left ≡ k.left) → OnErr result (IsBare after)
still_bare (Ok value) k after e h i = h
still_bare (Err error) k after e h i = (h ∙ e.0, i ∙ e.1)

-- after a command for which memory was refused, or if something else holds
pub refused_so : {T E : Type 0} (A : Type 0) (result : Result T E) (s : PromptState) (command : PromptCommand)
    (d : DebuggerView) (model : List ℕ) (symbols : Symbols) (displays : List Shown) (k : PromptDeskView) →
    IsDeskOf model symbols displays k → OnErr result (IsBare k) → OnErr result (IsRefused s command (state_at d k)) →
    OnErr result (A ⊎ IsRefused s command (lent_state d model symbols displays))
refused_so A (Ok value) s command d model symbols displays k i l h = h
refused_so A (Err error) s command d model symbols displays k i l h = inr (rw (lent_is d model symbols displays k i l) h)
