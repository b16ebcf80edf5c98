-- Warnings of suspicious words of a model. Each says a fact, and not that it is wrong.
use Rattle.std.specs.Prelude.{ℕ, Bool, true, false, not, ◌==◌, ◌&&◌, ◌||◌, List, [], ◌∷◌, ◌++◌, map}
use Rattle.std.specs.Prelude.{count_by, bytes_eq, Option, Some, None, Ok, Err}
use Rattle.std.specs.Borrow.{Bor}
use Rattle.ss_words.specs.Plain.{PlainAt, name, number, mark, picture}
use Rattle.ss_words.specs.PlainRules.{plain_words_of}
use Rattle.ss_words.specs.Spellings.{is_reserved_name}
use Rattle.ss_words.specs.TextWords.{words_of}
use Rattle.ss_words.specs.declared.word.WordKind.{WordKind}
use Rattle.ss_words.specs.Words.{Kind, WordAt, kind_of}
use Rattle.ss_words.specs.Words as w
use Rattle.ss_names.specs.declared.once.TheConstants.{ONCE}
use Rattle.ss_names.specs.declared.dropped.TheConstants.{ARTICLES, FILLERS, DROPPED_HERE}
use Rattle.ss_columns.specs.Reserved.{is_kind_among, scheduling_words}
use Rattle.ss_names.specs.Names.{names_in, is_of_language}
use Rattle.ss_names.specs.Saying.{warning_line}
use Rattle.ss_names.specs.declared.collected.Wanted.TheVariants as wanted
use Rattle.ss_names.specs.declared.roles.Role.TheVariants.{Set, Read}
use Rattle.ss_names.specs.declared.unread.TheConstants.{UNREAD, UNSET}
use Rattle.ss_names.specs.declared.here.Here.{Here}
use Rattle.ss_names.specs.Collected.{collection, here_behind}
use Rattle.ss_names.specs.Here.{at_start}
use Rattle.ss_names.specs.Roles.{may_occur_once}
use Rattle.ss_names.specs.Meanings.{Declaration}
use Rattle.ss_names.specs.Printed.{printed_text}
use Rattle.ss_names.specs.Ranked.{none_filed, ranked_text}
use Rattle.ss_names.specs.Unread.{uses_text}

-- ---- names that occur once

-- a name, one of these, that occurs once, where it may not well do so, and is not the language's
unfoldable pub is_once : List (List ℕ) → Here → List ℕ → Bool
is_once names h n =
    not (may_occur_once h) && count_by (bytes_eq n) names == 1 && not (is_of_language n)

-- the warning about a word, if it is such a name
abbrev pub once_word : List (List ℕ) → Here → PlainAt → List ℕ
once_word names h word = elim word.word [
  | name n ↦ elim (is_once names h n) [ true ↦ warning_line word.line n ONCE.now | false ↦ [] ]
  | number n ↦ []
  | mark m ↦ []
  | picture ls ↦ []
]

-- each name of these words, after others, that occurs once among the names, with its line
unfoldable pub once_text : List (List ℕ) → Here → List PlainAt → List ℕ
once_text names h [] = []
once_text names h (w ∷ ws) = once_word names h w ++ once_text names (here_behind h w ws) ws

-- ---- words that are dropped where a name could be

-- a sign
abbrev pub is_sign : Option Kind → Bool
is_sign (Some (w.sign s)) = true
is_sign _ = false

-- a name that is not reserved
abbrev pub is_plain_name : Option Kind → Bool
is_plain_name (Some (w.name n)) = not (is_reserved_name n)
is_plain_name _ = false

-- SCHEDULE or CAUSE
abbrev pub is_scheduling : Option Kind → Bool
is_scheduling None = false
is_scheduling (Some k) = is_kind_among scheduling_words k

-- A, AN or OUTPUT next to a sign, or THE, THIS or MAY before one, not directly before a name nor
-- after SCHEDULE or CAUSE: all of these are dropped, and no name follows to which they could belong
abbrev pub is_suspect : Option Kind → Kind → Option Kind → Bool
is_suspect before kind behind =
    not (is_scheduling before) && not (is_plain_name behind)
    && ((is_kind_among (map (λ row. row.now) ARTICLES) kind && (is_sign before || is_sign behind))
    || (is_kind_among (map (λ row. row.now) FILLERS) kind && is_sign behind))

-- a word of the code, if there is one
abbrev pub kind_seen : Option (Bor WordKind) → Option Kind
kind_seen None = None
kind_seen (Some k) = Some (kind_of k.now)

-- the kind of the first of some words, if there is one
abbrev pub first_kind : List WordAt → Option Kind
first_kind [] = None
first_kind (w ∷ ws) = Some w.kind

-- the warning about a word of this kind between two others
abbrev pub dropped_kind : Option Kind → ℕ → Kind → Option Kind → List ℕ
dropped_kind before line (w.name n) behind =
    elim (is_suspect before (w.name n) behind) [ true ↦ warning_line line n DROPPED_HERE.now | false ↦ [] ]
dropped_kind before line _ behind = []

-- each of these words that is dropped where a name could be, after this word
unfoldable pub dropped_text : Option Kind → List WordAt → List ℕ
dropped_text before [] = []
dropped_text before (w ∷ ws) = dropped_kind before w.line w.kind (first_kind ws) ++ dropped_text (Some w.kind) ws

-- ---- all of them

-- the warnings of keys of ranked sets
abbrev pub key_warnings : List Declaration → List PlainAt → List ℕ
key_warnings declarations ws =
    ranked_text declarations (collection wanted.Keys [] at_start [] ws) none_filed at_start ws

-- the warnings of these names, some of which are declared
abbrev pub name_warnings : List (List ℕ) → List Declaration → List PlainAt → List ℕ
name_warnings names declarations ws = once_text names at_start ws
    ++ uses_text UNREAD.now Set names declarations ws
    ++ uses_text UNSET.now Read names declarations ws
    ++ key_warnings declarations ws

-- the warnings of plain words
abbrev pub plain_warnings : List PlainAt → List ℕ
plain_warnings ws =
    name_warnings (names_in ws) (collection wanted.Declared [] at_start [] ws) ws

-- the warnings of words
abbrev pub warnings_of_words : List WordAt → List ℕ
warnings_of_words ws = plain_warnings (plain_words_of ws) ++ dropped_text None ws ++ printed_text ws

-- the warnings of a model; none if a rule L refuses it
abbrev pub warnings : List ℕ → List ℕ
warnings model = elim (words_of model) [ Ok ws ↦ warnings_of_words ws | Err f ↦ [] ]
