use Rattle.std.proofs.Common.{[], ◌∷◌, codes, refl}
use Rattle.ss_words.specs.Spellings.{spellings, mark_of}
use Rattle.ss_words.specs.Reading.{bind, pure, refuse, look, skip, many_from, many}
use Rattle.ss_words.specs.Marks.{expect, eat, a_name}
use Rattle.ss_words.specs.Lists.{next_name, other_names, names, names_behind}
use Rattle.ss_preamble.specs.ItemReading.{next_clause, a_clause, other_clauses, clauses, a_rank, a_key, next_key}
use Rattle.ss_preamble.specs.ItemReading.{other_keys, keys, heading_with, definition_of, definition_with}
use Rattle.ss_preamble.specs.ItemReading.{normally_with, every_with, priority_with, break_with, external_with}
use Rattle.ss_preamble.specs.ItemReading.{next_item, items_with, preamble_with}
use Rattle.ss_preamble.proofs.AnswerByReading.{answered}
use Rattle.ss_preamble.proofs.examples.preamble_alone.Goals as goal

pub returns : goal.returns
unfolding spellings mark_of bind pure refuse look skip many_from many expect eat a_name next_name other_names names
    names_behind next_clause a_clause other_clauses clauses a_rank a_key next_key other_keys keys heading_with
    definition_of definition_with normally_with every_with priority_with break_with external_with next_item items_with
    preamble_with
returns c = answered (codes "PREAMBLE" ∷ []) _ refl
