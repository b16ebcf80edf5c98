-- The lines that explain a fault.
use Rattle.std.specs.Prelude.{ℕ, ◌-◌, List, [], ◌∷◌, ◌++◌, codes, decimal, length, take, nat_lt, if◌then◌else◌}
use Rattle.std.specs.Prelude.{Option, Some, None}
use Rattle.ss_words.specs.declared.fault.RunFault.{RunFault}
use Rattle.ss_words.specs.Faults.{run_fault_number}
use Rattle.ss_program.specs.declared.place.Spot.{Spot}
use Rattle.ss_program.specs.Program.{ProgramTable, spot_at}
use Rattle.ss_state.specs.declared.status.Status.{Status}
use Rattle.ss_state.specs.declared.status.Status.TheVariants.{Ready, Stopped, Finished, Faulted}
use Rattle.ss_state.specs.State.{State}
use Rattle.ss_sentences.specs.Wording.{fault_sentence}
use Rattle.ss_faults.specs.declared.sentence.TheConstants.{LONGEST_LINE, CUT_MARK}
use Rattle.ss_faults.specs.About.{about}
use Rattle.ss_faults.specs.DataSentence.{data_sentence}

-- a line of at most LONGEST_LINE bytes: a longer one is cut
abbrev pub cut_line : List ℕ → List ℕ
cut_line line =
    if nat_lt LONGEST_LINE (length line) then take (LONGEST_LINE - length CUT_MARK.now) line ++ CUT_MARK.now else line

-- the parts that a fault names at the place of the last frame
abbrev pub about_here : ProgramTable → State → RunFault → Option Spot → List ℕ
about_here program state fault None = []
about_here program state fault (Some spot) = about program state fault spot.place

-- the number of a fault, its sentence, and the parts that it names
abbrev pub whole_line : ProgramTable → State → RunFault → List ℕ
whole_line program state fault =
    codes "F" ++ decimal (run_fault_number fault) ++ codes ": " ++ fault_sentence (run_fault_number fault)
    ++ about_here program state fault (spot_at program state.frame.section state.frame.place)

-- the sentence on the piece of the data, at the place of the last frame
abbrev pub data_sentence_here : ProgramTable → State → List ℕ → RunFault → Option Spot → List ℕ
data_sentence_here program state data_text fault None = []
data_sentence_here program state data_text fault (Some spot) = data_sentence program state data_text fault spot.place

-- a sentence as a line, if there is one
abbrev pub line_if_any : List ℕ → List ℕ
line_if_any [] = []
line_if_any (b ∷ bs) = cut_line (b ∷ bs) ++ codes "\n"

-- the line on the piece of the data at which the statement failed, if the text of the data is known
abbrev pub data_line : ProgramTable → State → Option (List ℕ) → RunFault → List ℕ
data_line program state None fault = []
data_line program state (Some data_text) fault =
    line_if_any (data_sentence_here program state data_text fault
    (spot_at program state.frame.section state.frame.place))

-- the lines that explain a fault
abbrev pub fault_lines : ProgramTable → State → Option (List ℕ) → RunFault → List ℕ
fault_lines program state data_text fault =
    (cut_line (whole_line program state fault) ++ codes "\n") ++ data_line program state data_text fault

-- the lines that explain a state's fault; empty for a state that is not faulted
unfoldable pub fault_text : ProgramTable → State → Option (List ℕ) → Status → List ℕ
fault_text program state data_text (Faulted f) = fault_lines program state data_text f
fault_text program state data_text Ready = []
fault_text program state data_text Stopped = []
fault_text program state data_text Finished = []
