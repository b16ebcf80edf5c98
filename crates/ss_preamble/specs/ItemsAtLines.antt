-- Reading items and noting their lines.
use Rattle.std.specs.Prelude.{ℕ, true, false, Bool, List, [], ◌∷◌, ◌++◌, Some, None}
use Rattle.ss_words.specs.declared.mark.Mark.TheVariants as m
use Rattle.ss_words.specs.declared.reserved.Reserved.TheVariants as r
use Rattle.ss_words.specs.Reading.{Reading, ◌>>=◌, pure}
use Rattle.ss_words.specs.Marks.{expect}
use Rattle.ss_words.specs.Noting.{Noting, repeat, here}
use Rattle.ss_preamble.specs.Tree.{ItemAt, Decls}
use Rattle.ss_preamble.specs.ItemReading.{next_item}

-- lines: the line of each word of the text
module _ (lines : List ℕ) where
  -- an item after those that were noted before, if one is here
  unfoldable pub next_item_at : List ItemAt → Reading (Bool × List ItemAt)
  next_item_at acc =
      here lines (λ l. next_item >>= λ o. elim o [
        | Some i ↦ pure (
          true,
          acc ++ (record {
            line = l;
            item = i;
          }) ∷ [],
        )
        | None ↦ pure (false, acc)
      ])

  -- items, as long as there are
  unfoldable pub items_at : Noting ItemAt
  items_at acc = repeat next_item_at acc

  -- a preamble
  unfoldable pub preamble_at : Reading Decls
  preamble_at =
      expect (m.Reserved r.Preamble) >>= λ _. items_at [] >>= λ is.
      here lines (λ l. expect (m.Reserved r.End) >>= λ _. pure (record { items = is; end = Some l }))
