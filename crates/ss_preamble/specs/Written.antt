-- The items of a preamble with their lines.
use Rattle.std.specs.Prelude.{ℕ, ◌+◌, List, [], ◌∷◌, length, Some}
use Rattle.ss_words.specs.Noting.{line}
use Rattle.ss_preamble.specs.Tree.{Item, Preamble, ItemAt, Decls}
use Rattle.ss_preamble.specs.Spelling.{spell_item, spell_items}

-- lines: the line of each plain word
module _ (lines : List ℕ) where
  -- the items whose first plain word has number k, with the line of each one's first word
  abbrev pub written_items : ℕ → List Item → List ItemAt
  written_items k [] = []
  written_items k (i ∷ is) = record { line = line lines k; item = i } ∷ written_items (k + length (spell_item i)) is

  -- the items of a preamble at the head of a text, and the line of its END
  abbrev pub written : Preamble → Decls
  written is = record { items = written_items 1 is; end = Some (line lines (1 + length (spell_items is))) }
