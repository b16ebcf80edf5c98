use Rattle.std.proofs.Common.{length, ◌≤◌, ◌-◌, map}
use Rattle.ss_words.specs.declared.limits.TheConstants.{MOST_SECTIONS}
use Rattle.ss_words.specs.Plain.{word_lines}
use Rattle.ss_routines.specs.PlacesAtLines.{limited_sections}
use Rattle.ss_routines.specs.View.{section_view}
use Rattle.ss_routines.proofs.SectionLoop.{Gathered}
use Rattle.ss_routines.proofs.program.section_list.Given as goal

abbrev pub invariant-loop-list : goal.invariant-loop-list
invariant-loop-list l = record {
  shorter : length l.cursor ≤ length l.fn.cursor;
  few : length l.list.items ≤ MOST_SECTIONS;
  gathered : Gathered (word_lines l.text) 50 64 16 32 (limited_sections (word_lines l.text) l.fn.cursor)
      (map section_view l.list.items) (MOST_SECTIONS - length l.list.items) l.cursor;
}

abbrev pub decreases-loop-list : goal.decreases-loop-list
decreases-loop-list l = length l.cursor
