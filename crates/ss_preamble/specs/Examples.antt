-- Small texts and the answers to them.
use Rattle.std.specs.Prelude.{ℕ, zero, suc, ◌+◌, ◌/◌, ◌%◌, List, [], ◌∷◌, ◌++◌, codes, None, Some, Result, Ok, Err}
use Rattle.ss_words.specs.declared.fault.TextRule.TheVariants.{UnexpectedWord, UnexpectedEnd, PastLimit}
use Rattle.ss_words.specs.declared.fault.TextFault.{TextFault}
use Rattle.ss_words.specs.declared.fault.TextFault.TheVariants.{Refused}
use Rattle.ss_words.specs.declared.mark.Mark.TheVariants as m
use Rattle.ss_words.specs.declared.word.Sign.TheVariants as s
use Rattle.ss_words.specs.declared.reserved.Reserved.TheVariants as r
use Rattle.ss_words.specs.Words.{WordAt}
use Rattle.ss_words.specs.Plain.{Plain, PlainAt, name, mark}
use Rattle.ss_words.specs.PlainRules.{plain_words_of}
use Rattle.ss_words.specs.PlainLaws.{words_on}
use Rattle.ss_words.specs.Lists.{Name, Several}
use Rattle.ss_preamble.specs.declared.item.Heading.TheVariants.{PermanentEntities, TemporaryEntities, EventNotices}
use Rattle.ss_words.specs.declared.terms.Rank.TheVariants.{High, Low}
use Rattle.ss_preamble.specs.Tree.{Has, Owns, BelongsTo, Fifo, Lifo, Ranked, Variables, Sets, PriorityOrder}
use Rattle.ss_preamble.specs.Tree.{BreakTies, ExternalEvents, Item, Normally, Headed, OfEvery, OfSystem, Defines}
use Rattle.ss_preamble.specs.Tree.{Orders, ItemAt, Decls}
use Rattle.ss_preamble.specs.Spelling.{word}
use Rattle.ss_preamble.specs.Refused.{Answers, no_decls}

-- ---- texts by their lines

-- the words of these lines, the first of which has this number; the pieces of a line are parted by blanks
abbrev pub words_of_lines : ℕ → List (List ℕ) → List WordAt
words_of_lines k [] = []
words_of_lines k (line ∷ lines) = words_on k line ++ words_of_lines (k + 1) lines

-- the text with these lines is answered so
abbrev pub IsAnswered : List (List ℕ) → Result (Decls × ℕ) TextFault → Type 0
IsAnswered text a = Answers a (plain_words_of (words_of_lines 1 text))

-- a text without a preamble declares nothing
abbrev pub NothingIsDeclared : Type 0
NothingIsDeclared = IsAnswered (codes "MAIN" ∷ codes "END" ∷ []) (Ok (no_decls, 0))

-- after the END of an empty preamble is the word with number 2
abbrev pub EmptyPreamble : Type 0
EmptyPreamble = IsAnswered (codes "PREAMBLE END MAIN END" ∷ []) (Ok (record { items = []; end = Some 1 }, 2))

-- a text of only PREAMBLE is refused by P2
abbrev pub PreambleAlone : Type 0
PreambleAlone = IsAnswered (codes "PREAMBLE" ∷ []) (Err (Refused UnexpectedEnd 1))

-- no item begins with the name of a variable, nor with a word of a statement
abbrev pub NoItem : Type 0
NoItem =
    IsAnswered (codes "PREAMBLE" ∷ codes "X = 1" ∷ codes "END" ∷ []) (Err (Refused UnexpectedWord 2))
    × IsAnswered (codes "PREAMBLE" ∷ codes "LET X = 1" ∷ codes "END" ∷ []) (Err (Refused UnexpectedWord 2))

-- ---- each item once

-- one name
abbrev pub one : List ℕ → Several Name
one n = record { first = n; others = [] }

-- two names
abbrev pub two : List ℕ → List ℕ → Several Name
two n k = record { first = n; others = k ∷ [] }

-- a preamble that has each item
abbrev pub each_item : List (List ℕ)
each_item =
    codes "PREAMBLE NORMALLY MODE IS INTEGER"
    ∷ codes "PERMANENT ENTITIES INCLUDE CRANE , DOCK"
    ∷ codes "TEMPORARY ENTITIES"
    ∷ codes "EVERY SHIP HAS SIZE , AGE OWNS LOADS BELONGS TO QUEUE"
    ∷ codes "EVENT NOTICES INCLUDE ARRIVAL"
    ∷ codes "SYSTEM HAS COUNT OWNS QUEUE"
    ∷ codes "DEFINE TOTAL , LEAST AS INTEGER VARIABLES"
    ∷ codes "DEFINE LOADS AS FIFO SETS"
    ∷ codes "DEFINE STACK AS LIFO SETS"
    ∷ codes "DEFINE QUEUE AS SETS RANKED BY HIGH SIZE THEN BY LOW AGE"
    ∷ codes "PRIORITY ORDER IS ARRIVAL"
    ∷ codes "BREAK ARRIVAL TIES BY LOW AGE"
    ∷ codes "EXTERNAL EVENTS ARE ARRIVAL"
    ∷ codes "END"
    ∷ []

-- an item on a line
abbrev pub on : ℕ → Item → ItemAt
on l item = record { line = l; item = item }

-- its items
abbrev pub items_of_each : List ItemAt
items_of_each =
    on 1 Normally
    ∷ on 2 (Headed PermanentEntities (Some (two (codes "CRANE") (codes "DOCK"))))
    ∷ on 3 (Headed TemporaryEntities None)
    ∷ on 4 (OfEvery (codes "SHIP") (record {
      first = Has (two (codes "SIZE") (codes "AGE"));
      others = Owns (one (codes "LOADS")) ∷ BelongsTo (one (codes "QUEUE")) ∷ [];
    }))
    ∷ on 5 (Headed EventNotices (Some (one (codes "ARRIVAL"))))
    ∷ on 6 (OfSystem (record { first = Has (one (codes "COUNT")); others = Owns (one (codes "QUEUE")) ∷ [] }))
    ∷ on 7 (Defines (Variables (two (codes "TOTAL") (codes "LEAST"))))
    ∷ on 8 (Defines (Sets (one (codes "LOADS")) Fifo))
    ∷ on 9 (Defines (Sets (one (codes "STACK")) Lifo))
    ∷ on 10 (Defines (Sets (one (codes "QUEUE")) (Ranked (record {
      first = record { rank = High; name = codes "SIZE" };
      others = (record { rank = Low; name = codes "AGE" }) ∷ [];
    }))))
    ∷ on 11 (Orders (PriorityOrder (one (codes "ARRIVAL"))))
    ∷ on 12 (Orders (BreakTies (codes "ARRIVAL") (record {
      first = record { rank = Low; name = codes "AGE" };
      others = [];
    })))
    ∷ on 13 (Orders (ExternalEvents (one (codes "ARRIVAL"))))
    ∷ []

-- it is read so, and 77 words are there up to its END
abbrev pub EachItemIsRead : Type 0
EachItemIsRead = IsAnswered each_item (Ok (record { items = items_of_each; end = Some 14 }, 77))

-- ---- other words of one meaning

-- a class with two attributes, which owns a set and belongs to another one, and the DEFINE of both
abbrev pub ships : List ItemAt
ships =
    on 1 (Headed TemporaryEntities None)
    ∷ on 2 (OfEvery (codes "SHIP") (record {
      first = Has (two (codes "SIZE") (codes "AGE"));
      others = Owns (one (codes "LOADS")) ∷ BelongsTo (one (codes "QUEUE")) ∷ [];
    }))
    ∷ on 3 (Defines (Sets (two (codes "LOADS") (codes "QUEUE")) Fifo))
    ∷ []

-- a text declares the ships, and `number` words are there up to its END
abbrev pub DeclaresShips : List (List ℕ) → ℕ → Type 0
DeclaresShips text number = IsAnswered text (Ok (record { items = ships; end = Some 4 }, number))

-- in as few words as may be
abbrev pub short_ships : List (List ℕ)
short_ships =
    codes "PREAMBLE TEMPORARY ENTITIES"
    ∷ codes "EVERY SHIP HAS SIZE , AGE OWNS LOADS BELONGS TO QUEUE"
    ∷ codes "DEFINE LOADS , QUEUE AS FIFO SETS"
    ∷ codes "END"
    ∷ []

-- with words that are dropped, synonyms and AND
abbrev pub spoken_ships : List (List ℕ)
spoken_ships =
    codes "PREAMBLE THE TEMPORARY ENTITY"
    ∷ codes "EACH SHIP MAY HAVE A SIZE AND AN AGE , OWN A LOADS AND BELONG TO THE QUEUE"
    ∷ codes "DEFINE LOADS AND QUEUE AS A FIFO SET"
    ∷ codes "END"
    ∷ []

-- with more commas, and AND after a comma
abbrev pub listed_ships : List (List ℕ)
listed_ships =
    codes "PREAMBLE TEMPORARY ENTITIES"
    ∷ codes "ALL SHIP HAVE SIZE , , AGE , OWN LOADS , AND BELONG TO QUEUE ,"
    ∷ codes "DEFINE LOADS , AND QUEUE AS FIFO SETS"
    ∷ codes "END"
    ∷ []

-- each is answered with the same items
abbrev pub OtherWords : Type 0
OtherWords = DeclaresShips short_ships 22 × DeclaresShips spoken_ships 31 × DeclaresShips listed_ships 28

-- ---- the limits, in texts that have a word on each line

-- words from line k on
abbrev pub apart : ℕ → List Plain → List PlainAt
apart k [] = []
apart k (w ∷ ws) = record { line = k; index = k; word = w } ∷ apart (k + 1) ws

-- a preamble with these words between PREAMBLE and END
abbrev pub preamble_of : List Plain → List PlainAt
preamble_of ws = apart 1 (word r.Preamble ∷ (ws ++ word r.End ∷ []))

-- the words are read as a preamble
abbrev pub IsRead : List PlainAt → Type 0
IsRead ws = (d : Decls) × (number : ℕ) × Answers (Ok (d, number)) ws

-- a name of two letters for each number below 676
abbrev pub name_of_number : ℕ → Name
name_of_number k = (65 + k / 26) ∷ (65 + k % 26) ∷ []

-- n names with commas between, numbered from k on, and the words after them
abbrev pub names_then : ℕ → ℕ → List Plain → List Plain
names_then k zero ws = ws
names_then k (suc zero) ws = name (name_of_number k) ∷ ws
names_then k (suc (suc n)) ws = name (name_of_number k) ∷ mark (m.Sign s.Comma) ∷ names_then (k + 1) (suc n) ws

-- 32 classes after INCLUDE and, with them again, n after EVERY
abbrev pub classes : ℕ → List Plain
classes n =
    word r.Permanent ∷ word r.Entities ∷ word r.Include ∷ names_then 0 32 (every 0 n)
  where
    every : ℕ → ℕ → List Plain
    every k zero = []
    every k (suc n) = word r.Every ∷ name (name_of_number k) ∷ word r.Has ∷ name (codes "X") ∷ every (k + 1) n

-- each of 64 classes may be there twice; the 65th is refused at its name
abbrev pub ClassesLimit : Type 0
ClassesLimit = IsRead (preamble_of (classes 64)) × Answers (Err (Refused PastLimit 325)) (preamble_of (classes 65))

-- 16 attributes of a class, 32 of another one, and n more of the first
abbrev pub attributes : ℕ → List Plain
attributes n =
    word r.Every ∷ name (codes "SHIP") ∷ word r.Has ∷ names_then 0 16
    (word r.Every ∷ name (codes "CRANE") ∷ word r.Has ∷ names_then 0 32
    (word r.Every ∷ name (codes "SHIP") ∷ word r.Has ∷ names_then 16 n []))

-- a class has 32 attributes, over all its items; the 33rd is refused at its name
abbrev pub AttributesLimit : Type 0
AttributesLimit =
    IsRead (preamble_of (attributes 16)) × Answers (Err (Refused PastLimit 137)) (preamble_of (attributes 17))

-- 128 variables of the system, and n of the preamble
abbrev pub variables : ℕ → List Plain
variables n =
    word r.System ∷ word r.Has ∷ names_then 0 128
    (word r.Define ∷ names_then 128 n (word r.As ∷ word r.Integer ∷ word r.Variables ∷ []))

-- there are 256 variables of the system and the preamble; the 257th is refused at its name
abbrev pub VariablesLimit : Type 0
VariablesLimit =
    IsRead (preamble_of (variables 128)) × Answers (Err (Refused PastLimit 516)) (preamble_of (variables 129))

-- 64 sets in DEFINE, 32 of them after OWNS and 32 after BELONGS, and n more
abbrev pub sets : ℕ → List Plain
sets n =
    word r.Define ∷ names_then 0 64 (word r.As ∷ word r.Fifo ∷ word r.Sets
    ∷ word r.System ∷ word r.Owns ∷ names_then 0 32
    (word r.Every ∷ name (codes "SHIP") ∷ word r.Belongs ∷ word r.To ∷ names_then 32 (32 + n) []))

-- each of 64 sets may be in OWNS, BELONGS and DEFINE; the 65th is refused at its name
abbrev pub SetsLimit : Type 0
SetsLimit = IsRead (preamble_of (sets 0)) × Answers (Err (Refused PastLimit 266)) (preamble_of (sets 1))

-- a ranking of n + 1 keys
abbrev pub keys : ℕ → List Plain
keys zero = word r.By ∷ word r.High ∷ name (codes "SIZE") ∷ []
keys (suc n) = word r.By ∷ word r.Low ∷ name (codes "AGE") ∷ word r.Then ∷ keys n

-- two rankings: of eight keys, and of n + 1
abbrev pub rankings : ℕ → List Plain
rankings n =
    word r.Break ∷ name (codes "ARRIVAL") ∷ word r.Ties ∷ (keys 7
    ++ word r.Define ∷ name (codes "QUEUE") ∷ word r.As ∷ word r.Sets ∷ word r.Ranked ∷ keys n)

-- each ranking has eight keys; the ninth is refused at its name
abbrev pub KeysLimit : Type 0
KeysLimit = IsRead (preamble_of (rankings 7)) × Answers (Err (Refused PastLimit 75)) (preamble_of (rankings 8))
