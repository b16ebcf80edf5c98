-- Whatever a command says, the run and the model are the same ones.
use Rattle.std.proofs.Common.{◌≡◌, ℕ, Bool, true, false, List, Option, Some, None, Result, Ok, Err, OnOk, OnErr, inl, inr, refl, ap, ◌∙◌}
use Rattle.ss_debug.specs.declared.commands.Command.{Command}
use Rattle.ss_debug.specs.declared.commands.Command.TheVariants as plain
use Rattle.ss_prompt.specs.declared.commands.PromptCommand.{PromptCommand}
use Rattle.ss_prompt.specs.declared.commands.PromptCommand.TheVariants as prompt
use Rattle.ss_prompt.specs.PromptState.{PromptState, with_listed, with_left, IsSameBeside}
use Rattle.ss_prompt.specs.Plain.{IsPlainRefused}
use Rattle.ss_prompt.specs.Travel.{IsTravelRefused}
use Rattle.ss_prompt.specs.Left.{IsAskedRefused, IsChangedRefused}
use Rattle.ss_prompt.specs.Stops.{HasLookedBeside, IsStopRefused}
use Rattle.ss_prompt.specs.Causes.{back_cause_next, IsBackCauseRefused}
use Rattle.ss_prompt.specs.declared.causes.CauseCommand.TheVariants as causes
use Rattle.ss_prompt.proofs.StopRefusals.{beside as beside_stop}
use Rattle.ss_prompt.specs.Histories.{HasLookedBack}
use Rattle.ss_prompt.specs.Once.{IsOnceRefused}
use Rattle.ss_prompt.specs.Cleared.{IsClearRefused}
use Rattle.ss_prompt.specs.Sections.{on_line_next, line_of_section}
use Rattle.ss_prompt.specs.Prompting.{prompt_state_after, state_led, IsRefused}
use Rattle.ss_prompt.specs.Until.{aim_by, until_led, until_next, IsSeekRefused, IsAimRefused, IsUntilRefused}
use Rattle.ss_prompt.specs.Meant.{meaning_in, change_led, display_led, undisplay_led, meant_next, IsChangeRefused, IsChangeLedRefused}
use Rattle.ss_prompt.specs.Meant.{IsMannerRefused, IsMeantRefused}
use Rattle.ss_expressions.specs.Meanings.{Meant, meant}
use Rattle.ss_expressions.specs.Meanings as meanings
use Rattle.ss_prompt.specs.declared.manner.Manner.{Manner}
use Rattle.ss_prompt.specs.declared.manner.Manner.TheVariants.{Why, History, RunChange, BackChange, Display}
use Rattle.ss_prompt.specs.declared.manner.Manner.TheVariants.{Undisplay}
use Rattle.ss_prompt.specs.declared.until.Until.{Until}
use Rattle.ss_expressions.specs.Aims.{Aimed, aimed}
use Rattle.ss_expressions.specs.Aims as aims

-- the run of two states of the prompt is the same one, and so are the model, its lines, the text of
-- the data and the symbol table
pub record IsSameRun (s after : PromptState) : Type 0 where
  pub input : after.input ≡ s.input
  pub model : after.model ≡ s.model
  pub lines : after.lines ≡ s.lines
  pub data_text : after.data_text ≡ s.data_text
  pub symbols : after.symbols ≡ s.symbols

same : (s : PromptState) → IsSameRun s s
same s = record { input = refl; model = refl; lines = refl; data_text = refl; symbols = refl }

unchanged : (s after : PromptState) → after ≡ s → IsSameRun s after
unchanged s after e = record {
  input = ap (λ (v : PromptState). v.input) e;
  model = ap (λ (v : PromptState). v.model) e;
  lines = ap (λ (v : PromptState). v.lines) e;
  data_text = ap (λ (v : PromptState). v.data_text) e;
  symbols = ap (λ (v : PromptState). v.symbols) e;
}

beside : (s after : PromptState) → IsSameBeside s after → IsSameRun s after
beside s after h = record { input = h.2; model = h.0; lines = h.1; data_text = h.5; symbols = h.6 }

on_line : (s : PromptState) (make : ℕ → Command) (line : Option ℕ) → IsSameRun s (on_line_next s make line)
on_line s make None = same s
on_line s make (Some line) = record { input = refl; model = refl; lines = refl; data_text = refl; symbols = refl }

-- another line after which LIST goes on, and another position that was left
noted : (s after : PromptState) (x y : Option ℕ) → IsSameRun s after → IsSameRun s (with_left (with_listed after x) y)
noted s after x y h = record { input = h.input; model = h.model; lines = h.lines; data_text = h.data_text; symbols = h.symbols }

-- after a movement to a state in which a condition holds
sought : (s : PromptState) (way : Until) (o : Option Aimed) → IsSameRun s (until_led s way o)
sought s way None = same s
sought s way (Some (aimed aim)) = record { input = refl; model = refl; lines = refl; data_text = refl; symbols = refl }
sought s way (Some (aims.refused answer)) = same s

-- after a movement to a change
changed : (s : PromptState) (back : Bool) (o : Option Meant) → IsSameRun s (change_led s back o)
changed s back None = same s
changed s back (Some (meant meaning)) = record { input = refl; model = refl; lines = refl; data_text = refl; symbols = refl }
changed s back (Some (meanings.refused answer)) = same s

-- after DISPLAY and UNDISPLAY of a text
displayed : (s : PromptState) (text : List ℕ) (o : Option Meant) → IsSameRun s (display_led s text o)
displayed s text None = same s
displayed s text (Some (meant meaning)) = record { input = refl; model = refl; lines = refl; data_text = refl; symbols = refl }
displayed s text (Some (meanings.refused answer)) = same s

undisplayed : (s : PromptState) (text : List ℕ) (o : Option Meant) → IsSameRun s (undisplay_led s text o)
undisplayed s text None = same s
undisplayed s text (Some (meant meaning)) = record { input = refl; model = refl; lines = refl; data_text = refl; symbols = refl }
undisplayed s text (Some (meanings.refused answer)) = same s

-- after a command on what a text asks
asked : (s : PromptState) (manner : Manner) (text : List ℕ) → IsSameRun s (meant_next s manner text)
asked s Why text = same s
asked s History text = same s
asked s RunChange text = changed s false (meaning_in s text)
asked s BackChange text = changed s true (meaning_in s text)
asked s Display text = displayed s text (meaning_in s text)
asked s Undisplay text = undisplayed s text (meaning_in s text)

-- after a command
obeyed : (s : PromptState) (command : PromptCommand) → IsSameRun s (prompt_state_after s command)
unfolding prompt_state_after state_led
obeyed s (prompt.Plain command) = record { input = refl; model = refl; lines = refl; data_text = refl; symbols = refl }
obeyed s (prompt.Travel movement) = record { input = refl; model = refl; lines = refl; data_text = refl; symbols = refl }
obeyed s (prompt.Once line) = record { input = refl; model = refl; lines = refl; data_text = refl; symbols = refl }
obeyed s (prompt.Lines line) = record { input = refl; model = refl; lines = refl; data_text = refl; symbols = refl }
obeyed s (prompt.LinesBetween from to) = record { input = refl; model = refl; lines = refl; data_text = refl; symbols = refl }
obeyed s (prompt.SectionLines name) = record { input = refl; model = refl; lines = refl; data_text = refl; symbols = refl }
obeyed s (prompt.BreakSection name) =
    noted s (on_line_next s plain.Break (line_of_section s.input.program name)) s.listed s.left
    (on_line s plain.Break (line_of_section s.input.program name))
obeyed s (prompt.BreakWhen place text numbered) = record { input = refl; model = refl; lines = refl; data_text = refl; symbols = refl }
obeyed s (prompt.NoPlace line next) = record { input = refl; model = refl; lines = refl; data_text = refl; symbols = refl }
obeyed s (prompt.ClearSection name) =
    noted s (on_line_next s plain.Clear (line_of_section s.input.program name)) s.listed s.left
    (on_line s plain.Clear (line_of_section s.input.program name))
obeyed s prompt.ClearAll = record { input = refl; model = refl; lines = refl; data_text = refl; symbols = refl }
obeyed s prompt.Breaks = record { input = refl; model = refl; lines = refl; data_text = refl; symbols = refl }
obeyed s (prompt.Ask question) = record { input = refl; model = refl; lines = refl; data_text = refl; symbols = refl }
obeyed s (prompt.See sight) = record { input = refl; model = refl; lines = refl; data_text = refl; symbols = refl }
obeyed s prompt.Changed = record { input = refl; model = refl; lines = refl; data_text = refl; symbols = refl }
obeyed s (prompt.Why question) = record { input = refl; model = refl; lines = refl; data_text = refl; symbols = refl }
obeyed s (prompt.Cause causes.Why) = record { input = refl; model = refl; lines = refl; data_text = refl; symbols = refl }
obeyed s (prompt.Cause causes.Back) = record { input = refl; model = refl; lines = refl; data_text = refl; symbols = refl }
obeyed s (prompt.History question rows) = record { input = refl; model = refl; lines = refl; data_text = refl; symbols = refl }
obeyed s (prompt.Display question) = record { input = refl; model = refl; lines = refl; data_text = refl; symbols = refl }
obeyed s prompt.Undisplay = record { input = refl; model = refl; lines = refl; data_text = refl; symbols = refl }
obeyed s (prompt.UndisplayOne question) = record { input = refl; model = refl; lines = refl; data_text = refl; symbols = refl }
obeyed s (prompt.Until way text numbered) = noted s (until_next s way text) None None (sought s way (aim_by s text s.symbols))
obeyed s (prompt.Meant Why text numbered) = noted s (meant_next s Why text) s.listed s.left (asked s Why text)
obeyed s (prompt.Meant History text numbered) = noted s (meant_next s History text) s.listed s.left (asked s History text)
obeyed s (prompt.Meant RunChange text numbered) = noted s (meant_next s RunChange text) None None (asked s RunChange text)
obeyed s (prompt.Meant BackChange text numbered) = noted s (meant_next s BackChange text) None None (asked s BackChange text)
obeyed s (prompt.Meant Display text numbered) = noted s (meant_next s Display text) s.listed s.left (asked s Display text)
obeyed s (prompt.Meant Undisplay text numbered) = noted s (meant_next s Undisplay text) s.listed s.left (asked s Undisplay text)
obeyed s (prompt.Value text numbered) = record { input = refl; model = refl; lines = refl; data_text = refl; symbols = refl }
obeyed s (prompt.Unread word numbered) = record { input = refl; model = refl; lines = refl; data_text = refl; symbols = refl }
obeyed s (prompt.Missing missing) = record { input = refl; model = refl; lines = refl; data_text = refl; symbols = refl }
obeyed s (prompt.Names name) = record { input = refl; model = refl; lines = refl; data_text = refl; symbols = refl }
obeyed s prompt.Reads = record { input = refl; model = refl; lines = refl; data_text = refl; symbols = refl }
obeyed s prompt.Warnings = record { input = refl; model = refl; lines = refl; data_text = refl; symbols = refl }
obeyed s (prompt.Help word) = record { input = refl; model = refl; lines = refl; data_text = refl; symbols = refl }

refused_plain : (s after : PromptState) (command : Command) → IsPlainRefused s command after → IsSameRun s after
unfolding IsPlainRefused
refused_plain s after plain.Blank h = beside s after h.0
refused_plain s after plain.Bad h = beside s after h.0
refused_plain s after (plain.Move movement) h = beside s after h.0
refused_plain s after (plain.Break line) h = beside s after h.0
refused_plain s after (plain.Clear line) h = beside s after h.0
refused_plain s after (plain.Forget count) h = beside s after h.0
refused_plain s after (plain.Show question) h = beside s after h.0
refused_plain s after plain.Quit h = beside s after h.0

refused_aim : (s after : PromptState) (way : Until) (o : Option Aimed) → IsAimRefused s way o after → IsSameRun s after
unfolding IsSeekRefused
refused_aim s after way None h = unchanged s after h
refused_aim s after way (Some (aimed aim)) h = beside s after h.0
refused_aim s after way (Some (aims.refused answer)) h = unchanged s after h

refused_until : (s after : PromptState) (way : Until) (text : List ℕ) → IsUntilRefused s way text after → IsSameRun s after
unfolding IsUntilRefused
refused_until s after way text (inl e) = unchanged s after e
refused_until s after way text (inr h) = refused_aim s after way (aim_by s text s.symbols) h

refused_change : (s after : PromptState) (back : Bool) (o : Option Meant) → IsChangeLedRefused s back o after →
    IsSameRun s after
unfolding IsChangeRefused
refused_change s after back None h = unchanged s after h
refused_change s after back (Some (meant meaning)) h = beside s after h.0
refused_change s after back (Some (meanings.refused answer)) h = unchanged s after h

refused_manner : (s after : PromptState) (manner : Manner) (text : List ℕ) → IsMannerRefused s manner text after →
    IsSameRun s after
unfolding HasLookedBack
refused_manner s after Why text h = beside s after h.0
refused_manner s after History text h = beside s after h.0
refused_manner s after RunChange text h = refused_change s after false (meaning_in s text) h
refused_manner s after BackChange text h = refused_change s after true (meaning_in s text) h
refused_manner s after Display text h = unchanged s after h
refused_manner s after Undisplay text h = unchanged s after h

refused_meant : (s after : PromptState) (manner : Manner) (text : List ℕ) → IsMeantRefused s manner text after →
    IsSameRun s after
unfolding IsMeantRefused
refused_meant s after manner text (inl e) = unchanged s after e
refused_meant s after manner text (inr h) = refused_manner s after manner text h

-- if memory was refused for the text at the stop of BACK CAUSE
at_stop : (s after : PromptState) → IsStopRefused (back_cause_next s) after → IsSameRun s after
at_stop s after h =
    let b = beside_stop (back_cause_next s) after h in
    record { input = b.2; model = b.0; lines = b.1; data_text = b.5; symbols = b.6 }

-- if memory was refused for SHOW CHANGED, all but the debugger is the same
asked_beside : (s after : PromptState) (o : Option ℕ) → IsAskedRefused s o after → IsSameBeside s after
unfolding HasLookedBeside
asked_beside s after None h = h.0
asked_beside s after (Some p) h = h.0

-- if memory was refused for a command
refused : (s after : PromptState) (command : PromptCommand) → IsRefused s command after → IsSameRun s after
unfolding IsRefused IsTravelRefused IsOnceRefused IsClearRefused IsBackCauseRefused IsChangedRefused HasLookedBack
refused s after (prompt.Plain command) h = refused_plain s after command h
refused s after (prompt.Travel movement) h = beside s after h.0
refused s after (prompt.Once line) h = beside s after h.0
refused s after (prompt.Lines line) h = unchanged s after h
refused s after (prompt.LinesBetween from to) h = unchanged s after h
refused s after (prompt.SectionLines name) h = unchanged s after h
refused s after (prompt.BreakSection name) h = unchanged s after h
refused s after (prompt.BreakWhen place text numbered) h = unchanged s after h
refused s after (prompt.NoPlace line next) h = unchanged s after h
refused s after (prompt.ClearSection name) h = unchanged s after h
refused s after prompt.ClearAll h = beside s after h.0
refused s after prompt.Breaks h = unchanged s after h
refused s after (prompt.Ask question) h = unchanged s after h
refused s after (prompt.See sight) h = unchanged s after h
refused s after prompt.Changed h = beside s after (asked_beside s after s.left h)
refused s after (prompt.Why question) h = beside s after h.0
refused s after (prompt.Cause causes.Why) h = beside s after h.0
refused s after (prompt.Cause causes.Back) h = at_stop s after h
refused s after (prompt.History question rows) h = beside s after h.0
refused s after (prompt.Display question) h = unchanged s after h
refused s after prompt.Undisplay h = unchanged s after h
refused s after (prompt.UndisplayOne question) h = unchanged s after h
refused s after (prompt.Value text numbered) h = unchanged s after h
refused s after (prompt.Until way text numbered) h = refused_until s after way text h
refused s after (prompt.Meant manner text numbered) h = refused_meant s after manner text h
refused s after (prompt.Unread word numbered) h = unchanged s after h
refused s after (prompt.Missing missing) h = unchanged s after h
refused s after (prompt.Names name) h = unchanged s after h
refused s after prompt.Reads h = beside s after h.0
refused s after prompt.Warnings h = unchanged s after h
refused s after (prompt.Help word) h = unchanged s after h

-- the line after which LIST goes on is the same, and so is the position that was left
abbrev IsNotedSo : PromptState → PromptState → Type 0
IsNotedSo s after = (after.listed ≡ s.listed) × (after.left ≡ s.left)

noted_beside : (s after : PromptState) → IsSameBeside s after → IsNotedSo s after
noted_beside s after h = (h.4, h.7)

noted_same : (s after : PromptState) → after ≡ s → IsNotedSo s after
noted_same s after e = (ap (λ (v : PromptState). v.listed) e, ap (λ (v : PromptState). v.left) e)

-- if memory was refused for a command of docs/DEBUGGER.md
noted_plain : (s after : PromptState) (command : Command) → IsPlainRefused s command after → IsNotedSo s after
unfolding IsPlainRefused
noted_plain s after plain.Blank h = noted_beside s after h.0
noted_plain s after plain.Bad h = noted_beside s after h.0
noted_plain s after (plain.Move movement) h = noted_beside s after h.0
noted_plain s after (plain.Break line) h = noted_beside s after h.0
noted_plain s after (plain.Clear line) h = noted_beside s after h.0
noted_plain s after (plain.Forget count) h = noted_beside s after h.0
noted_plain s after (plain.Show question) h = noted_beside s after h.0
noted_plain s after plain.Quit h = noted_beside s after h.0

-- for a movement to a state in which a condition holds
noted_aim : (s after : PromptState) (way : Until) (o : Option Aimed) → IsAimRefused s way o after → IsNotedSo s after
unfolding IsSeekRefused
noted_aim s after way None h = noted_same s after h
noted_aim s after way (Some (aimed aim)) h = noted_beside s after h.0
noted_aim s after way (Some (aims.refused answer)) h = noted_same s after h

noted_until : (s after : PromptState) (way : Until) (text : List ℕ) → IsUntilRefused s way text after →
    IsNotedSo s after
unfolding IsUntilRefused
noted_until s after way text (inl e) = noted_same s after e
noted_until s after way text (inr h) = noted_aim s after way (aim_by s text s.symbols) h

-- for a command on what a text asks
noted_change : (s after : PromptState) (back : Bool) (o : Option Meant) → IsChangeLedRefused s back o after →
    IsNotedSo s after
unfolding IsChangeRefused
noted_change s after back None h = noted_same s after h
noted_change s after back (Some (meant meaning)) h = noted_beside s after h.0
noted_change s after back (Some (meanings.refused answer)) h = noted_same s after h

noted_manner : (s after : PromptState) (manner : Manner) (text : List ℕ) → IsMannerRefused s manner text after →
    IsNotedSo s after
unfolding HasLookedBack
noted_manner s after Why text h = noted_beside s after h.0
noted_manner s after History text h = noted_beside s after h.0
noted_manner s after RunChange text h = noted_change s after false (meaning_in s text) h
noted_manner s after BackChange text h = noted_change s after true (meaning_in s text) h
noted_manner s after Display text h = noted_same s after h
noted_manner s after Undisplay text h = noted_same s after h

noted_meant : (s after : PromptState) (manner : Manner) (text : List ℕ) → IsMeantRefused s manner text after →
    IsNotedSo s after
unfolding IsMeantRefused
noted_meant s after manner text (inl e) = noted_same s after e
noted_meant s after manner text (inr h) = noted_manner s after manner text h

-- and for a command
noted_still : (s after : PromptState) (command : PromptCommand) → IsRefused s command after → IsNotedSo s after
unfolding IsRefused IsTravelRefused IsOnceRefused IsClearRefused IsBackCauseRefused IsChangedRefused HasLookedBack
noted_still s after (prompt.Plain command) h = noted_plain s after command h
noted_still s after (prompt.Travel movement) h = noted_beside s after h.0
noted_still s after (prompt.Once line) h = noted_beside s after h.0
noted_still s after (prompt.Lines line) h = noted_same s after h
noted_still s after (prompt.LinesBetween from to) h = noted_same s after h
noted_still s after (prompt.SectionLines name) h = noted_same s after h
noted_still s after (prompt.BreakSection name) h = noted_same s after h
noted_still s after (prompt.BreakWhen place text numbered) h = noted_same s after h
noted_still s after (prompt.NoPlace line next) h = noted_same s after h
noted_still s after (prompt.ClearSection name) h = noted_same s after h
noted_still s after prompt.ClearAll h = noted_beside s after h.0
noted_still s after prompt.Breaks h = noted_same s after h
noted_still s after (prompt.Ask question) h = noted_same s after h
noted_still s after (prompt.See sight) h = noted_same s after h
noted_still s after prompt.Changed h = noted_beside s after (asked_beside s after s.left h)
noted_still s after (prompt.Why question) h = noted_beside s after h.0
noted_still s after (prompt.Cause causes.Why) h = noted_beside s after h.0
noted_still s after (prompt.Cause causes.Back) h = let b = beside_stop (back_cause_next s) after h in (b.4, b.7)
noted_still s after (prompt.History question rows) h = noted_beside s after h.0
noted_still s after (prompt.Display question) h = noted_same s after h
noted_still s after prompt.Undisplay h = noted_same s after h
noted_still s after (prompt.UndisplayOne question) h = noted_same s after h
noted_still s after (prompt.Value text numbered) h = noted_same s after h
noted_still s after (prompt.Until way text numbered) h = noted_until s after way text h
noted_still s after (prompt.Meant manner text numbered) h = noted_meant s after manner text h
noted_still s after (prompt.Unread word numbered) h = noted_same s after h
noted_still s after (prompt.Missing missing) h = noted_same s after h
noted_still s after (prompt.Names name) h = noted_same s after h
noted_still s after prompt.Reads h = noted_beside s after h.0
noted_still s after prompt.Warnings h = noted_same s after h
noted_still s after (prompt.Help word) h = noted_same s after h

-- after a command that was obeyed, or for which memory was refused
pub stays : {T E : Type 0} (result : Result T E) (s after : PromptState) (command : PromptCommand) →
    OnOk result (after ≡ prompt_state_after s command) → OnErr result (IsRefused s command after) →
    IsSameRun s after
stays (Ok value) s after command ok err = let h = obeyed s command in record {
  input = ap (λ (v : PromptState). v.input) ok ∙ h.input;
  model = ap (λ (v : PromptState). v.model) ok ∙ h.model;
  lines = ap (λ (v : PromptState). v.lines) ok ∙ h.lines;
  data_text = ap (λ (v : PromptState). v.data_text) ok ∙ h.data_text;
  symbols = ap (λ (v : PromptState). v.symbols) ok ∙ h.symbols;
}
stays (Err error) s after command ok err = refused s after command err

-- LIST goes on as before after a command for which memory was refused
pub listed_stays : {T E : Type 0} (result : Result T E) (s after : PromptState) (command : PromptCommand) →
    OnErr result (IsRefused s command after) → OnErr result (after.listed ≡ s.listed)
listed_stays (Ok value) s after command err = err
listed_stays (Err error) s after command err = (noted_still s after command err).0

-- the position that was left is as before
pub left_stays : {T E : Type 0} (result : Result T E) (s after : PromptState) (command : PromptCommand) →
    OnErr result (IsRefused s command after) → OnErr result (after.left ≡ s.left)
left_stays (Ok value) s after command err = err
left_stays (Err error) s after command err = (noted_still s after command err).1
