-- The section of a word: its name, and the line of its head.
use Rattle.std.specs.Prelude.{ℕ, ◌&&◌, Bool, true, false, not, List, [], Option, Some, if◌then◌else◌}
use Rattle.ss_words.specs.declared.mark.Mark.{Mark}
use Rattle.ss_words.specs.declared.mark.Mark.TheVariants.{Reserved}
use Rattle.ss_words.specs.declared.reserved.Reserved.TheVariants as r
use Rattle.ss_words.specs.Plain.{PlainAt, name, number, mark, picture}
use Rattle.ss_names.specs.declared.here.Here.{Here}
use Rattle.ss_names.specs.declared.landmarks.InSection.{InSection}

-- the section of a word
pub record Section : Type 0 where
  -- its name, empty before the first named section and in MAIN
  pub name : List ℕ
  -- the line on which the head of the last named section begins
  pub head : ℕ

-- the section of the code
abbrev pub section_at : InSection → Section
section_at a = record { name = a.name.now; head = a.head }

-- before the first section
abbrev pub no_section : Section
no_section = record { name = []; head = 0 }

-- ROUTINE or EVENT
abbrev pub is_head : Option Mark → Bool
is_head (Some (Reserved r.Routine)) = true
is_head (Some (Reserved r.Event)) = true
is_head _ = false

-- a name here is that of a section
abbrev pub names_section : Here → Bool
names_section here = not here.in_preamble && is_head here.before

-- the section after a reserved word or sign: without a name after MAIN
abbrev pub behind_mark : Section → Mark → Section
behind_mark section (Reserved r.Main) = record section { name = [] }
behind_mark section _ = section

-- the section after a word
abbrev pub section_behind : Section → Here → PlainAt → Section
section_behind section here word = elim word.word [
  | name n ↦ if names_section here then record { name = n; head = here.line } else section
  | number n ↦ section
  | mark j ↦ behind_mark section j
  | picture ls ↦ section
]
