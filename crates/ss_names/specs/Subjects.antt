-- The text about a breach of the checker's rules: about the name that is wrong, or about its statement.
use Rattle.std.specs.Prelude.{ℕ, List, [], ◌++◌, codes, Option, Some, None, Ok, Err}
use Rattle.ss_words.specs.Plain.{PlainAt}
use Rattle.ss_words.specs.PlainRules.{plain_words_of}
use Rattle.ss_words.specs.TextWords.{words_of}
use Rattle.ss_check.specs.declared.wrong.Reason.{Reason}
use Rattle.ss_check.specs.declared.wrong.Reason.TheVariants as w
use Rattle.ss_check.specs.declared.wrong.Wrong.{Wrong}
use Rattle.ss_names.specs.declared.collected.Wanted.{Wanted}
use Rattle.ss_names.specs.declared.collected.Wanted.TheVariants.{Declared, Owned, Joined, Ordered}
use Rattle.ss_names.specs.declared.collected.Wanted.TheVariants.{Disciplines, Ties, Externals}
use Rattle.ss_names.specs.declared.known.What.{What}
use Rattle.ss_names.specs.declared.known.What.TheVariants as k
use Rattle.ss_names.specs.Carets.{word_caret, wrong_word}
use Rattle.ss_names.specs.Collected.{collection}
use Rattle.ss_names.specs.Here.{at_start}
use Rattle.ss_names.specs.Known.{Knowledge, knowledge_of, knowledge_given, known_text}
use Rattle.ss_names.specs.Meanings.{Declaration, declared_as}
use Rattle.ss_names.specs.Statements.{place_text}

-- ---- about a name

-- the text for a reason that is about a name
abbrev pub reason_text : Reason → List ℕ
reason_text w.DeclaredTwice = codes ": it is declared a second time here.\n"
reason_text w.WrongClass = codes ": it is not the class that is needed here.\n"
reason_text w.WrongUse = codes ": it is used here as something that it is not.\n"
reason_text w.Ownerless = codes ": no OWNS names it.\n"
reason_text w.OwnedTwice = codes ": it is owned a second time here.\n"
reason_text w.Memberless = codes ": no BELONGS TO of a class names it.\n"
reason_text w.JoinedTwice = codes ": it is given members a second time here.\n"
reason_text w.JoinedBySystem = codes ": the system cannot belong to it.\n"
reason_text w.WrongKey = codes ": it is no attribute of the class that is ranked.\n"
reason_text w.NoSection = codes ": it has no EVENT section.\n"
reason_text w.NoEvent = codes ": it is no class of event notices.\n"
reason_text w.OrderedTwice = codes ": it is ordered a second time here.\n"
reason_text w.DisciplinedTwice = codes ": its discipline is given a second time here.\n"
reason_text w.ParameterTwice = codes ": it is a parameter twice here.\n"
reason_text w.BrokenTwice = codes ": its ties are broken a second time here.\n"
reason_text w.ExternalTwice = codes ": it is named external a second time here.\n"
reason_text w.WrongCount = codes ": it has another count of values here than it takes.\n"
reason_text w.Fixed = codes ": it cannot be set.\n"
reason_text w.NoVariable = codes ": it is no variable, as a loop needs.\n"
reason_text _ = []

-- the given knowledge of a name, if there is one, or else that of its declaration
abbrev pub knowledge_or : What → Knowledge → Knowledge → Knowledge
knowledge_or k.Undeclared a b = b
knowledge_or _ a b = a

-- the kind that the language, a set or a class gives a name, or else its declared kind
abbrev pub first_known : List Declaration → List ℕ → Knowledge
first_known names n = let a = knowledge_given names n in knowledge_or a.what a (knowledge_of names n)

-- the knowledge of a name, with the line of this declaration, if there is one
abbrev pub told_place : Knowledge → Option Declaration → Knowledge
told_place knowledge (Some d) = record knowledge { line = d.line }
told_place knowledge None = knowledge

-- the places among which the first of a repeated name is: after OWNS, BELONGS TO, PRIORITY, DEFINE, BREAK, EXTERNAL
abbrev pub repeated_in : Reason → Option Wanted
repeated_in w.OwnedTwice = Some Owned
repeated_in w.JoinedTwice = Some Joined
repeated_in w.OrderedTwice = Some Ordered
repeated_in w.DisciplinedTwice = Some Disciplines
repeated_in w.BrokenTwice = Some Ties
repeated_in w.ExternalTwice = Some Externals
repeated_in _ = None

-- the knowledge of a name, with the line of the first of these places of it, if it has one
abbrev pub told_at : List PlainAt → Knowledge → List ℕ → Wanted → Knowledge
told_at ws knowledge n wanted = told_place knowledge (declared_as (collection wanted [] at_start [] ws) n)

-- the same, if there are such places
abbrev pub told_among : List PlainAt → Knowledge → List ℕ → Option Wanted → Knowledge
told_among ws knowledge n (Some wanted) = told_at ws knowledge n wanted
told_among ws knowledge n None = knowledge

-- a name's kind, with the line of that place, if any; its first kind if its declaration is wrong
abbrev pub told_by : List PlainAt → List Declaration → List ℕ → Reason → Knowledge
told_by ws names n w.DeclaredTwice = first_known names n
told_by ws names n reason = told_among ws (knowledge_of names n) n (repeated_in reason)

-- the text about a name that is wrong
abbrev pub named_text : List PlainAt → List ℕ → Reason → List ℕ
named_text ws n reason =
    n ++ codes " is " ++ known_text (told_by ws (collection Declared [] at_start [] ws) n reason) ++ reason_text reason

-- ---- both

-- the text about a reason, by its name or by the statement on a line
abbrev pub reason_told : List PlainAt → ℕ → Reason → Option (List ℕ) → List ℕ
reason_told ws line reason (Some n) = named_text ws n reason
reason_told ws line reason None = place_text ws reason line

-- a caret below the name, and the text about what is wrong, of a line of a model; nothing if a rule L refuses the model
unfoldable pub breach_text : List ℕ → ℕ → Wrong → List ℕ
breach_text model line wrong = elim (words_of model) [
  | Ok ws ↦ word_caret model ws line (wrong_word (plain_words_of ws) line wrong.reason wrong.name)
      ++ reason_told (plain_words_of ws) line wrong.reason wrong.name
  | Err f ↦ []
]
