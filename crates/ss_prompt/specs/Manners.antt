-- What is done with the question that a text asks.
use Rattle.std.specs.Prelude.{Bool, true, false, List, ℕ, [], ◌∷◌, codes, Option}
use Rattle.ss_prompt.specs.Words.{only_name_of}
use Rattle.ss_prompt.specs.declared.manner.Manner.{Manner}
use Rattle.ss_prompt.specs.declared.manner.Manner.TheVariants.{Why, History, RunChange, BackChange, Display}
use Rattle.ss_prompt.specs.declared.manner.Manner.TheVariants.{Undisplay}

-- the first word of the command
abbrev pub manner_verb : Manner → List ℕ
manner_verb Why = codes "WHY"
manner_verb History = codes "HISTORY"
manner_verb RunChange = codes "RUN"
manner_verb BackChange = codes "BACK"
manner_verb Display = codes "DISPLAY"
manner_verb Undisplay = codes "UNDISPLAY"

-- that word as the name of a form of commands
abbrev pub manner_word : Manner → Option (List ℕ)
manner_word manner = only_name_of (manner_verb manner ∷ [])

-- how many words come before the text
abbrev pub words_before : Manner → ℕ
words_before Why = 1
words_before History = 1
words_before RunChange = 2
words_before BackChange = 2
words_before Display = 1
words_before Undisplay = 1

-- it moves the debugger to another state of the run
abbrev pub moves : Manner → Bool
moves Why = false
moves History = false
moves RunChange = true
moves BackChange = true
moves Display = false
moves Undisplay = false
