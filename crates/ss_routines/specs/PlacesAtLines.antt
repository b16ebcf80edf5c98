-- Reading statements and sections and noting their places after those that were noted before.
use Rattle.std.specs.Prelude.{ℕ, zero, suc, Bool, true, false, List, [], ◌∷◌, ◌++◌, Some, None}
use Rattle.ss_words.specs.declared.limits.TheConstants.{MOST_PARENTHESES, MOST_IFS, MOST_PHRASES}
use Rattle.ss_words.specs.declared.limits.TheConstants.{MOST_PARAMETERS, MOST_SECTIONS}
use Rattle.ss_words.specs.declared.mark.Mark.TheVariants as m
use Rattle.ss_words.specs.declared.reserved.Reserved.TheVariants as r
use Rattle.ss_words.specs.declared.refusal.Refusal.TheVariants.{Unexpected, PastLimit}
use Rattle.ss_words.specs.Reading.{Reading, ◌>>=◌, pure, refuse, look}
use Rattle.ss_words.specs.Marks.{expect, eat}
use Rattle.ss_words.specs.Noting.{Noting, repeat, here}
use Rattle.ss_routines.specs.Combined.{behind, eat_allowed}
use Rattle.ss_routines.specs.SimpleReading.{simple_at}
use Rattle.ss_routines.specs.Loops.{Phrase}
use Rattle.ss_routines.specs.LoopReading.{phrase_at, compute_at, question_at}
use Rattle.ss_routines.specs.Places.{If, Else, Always, For, Next, Find, Gather, Compute, Place, Simply, Branches, Loops}
use Rattle.ss_routines.specs.Places.{EndOfSection, Spot, LocalNames, Section}
use Rattle.ss_routines.specs.SectionReading.{head_at, a_define}
use Rattle.ss_routines.specs.Tree.{is_head}

-- a place and its line
abbrev pub noted_at : ℕ → Place → Spot
noted_at l place = record { line = l; place = place }

-- reads an item, if one is here, notes its places, and says whether it did
abbrev pub NotingItem : Type 0
NotingItem = List Spot → Reading (Bool × List Spot)

-- lines: of each word of the text; at most n parentheses may be open at once
module _ (lines : List ℕ) (n : ℕ) where
  -- [ELSE {stmt}]
  unfoldable pub noting_else : Noting Spot → Noting Spot
  noting_else inside acc =
      here lines (λ l. eat (m.Reserved r.Else) >>= λ b. elim b
      [ true ↦ inside (acc ++ noted_at l (Branches Else) ∷ []) | false ↦ pure acc ])

  -- after IF, which is in line l
  unfoldable pub noting_branch : Noting Spot → ℕ → Noting Spot
  noting_branch inside l acc =
      question_at n >>= λ q. inside (acc ++ noted_at l (Branches (If q)) ∷ []) >>= λ b. noting_else inside b >>= λ e.
      here lines (λ j. expect (m.Reserved r.Always) >>= λ u. pure (e ++ noted_at j (Branches Always) ∷ []))

  -- a_branch notes IF and the part after it, if it is here; a_loop notes FOR likewise
  module _ (a_branch a_loop : NotingItem) where
    -- a statement that is no loop, if one is here
    unfoldable pub noting_one : NotingItem
    noting_one acc =
        here lines (λ l. simple_at n >>= λ o. elim o [
          | Some a ↦ pure
              (true, acc ++ noted_at l (Simply a) ∷ [])
          | None ↦ a_branch acc
        ])

    -- a statement, if one is here
    unfoldable pub noting_statement : NotingItem
    noting_statement acc = noting_one acc >>= λ x. elim x.0 [ true ↦ pure x | false ↦ a_loop x.1 ]

    -- {stmt}
    unfoldable pub noting_block : Noting Spot
    noting_block acc = repeat noting_statement acc

    -- a statement that is no loop, which must be here
    unfoldable pub noting_must : Noting Spot
    noting_must acc = noting_one acc >>= λ x. elim x.0 [ true ↦ pure x.1 | false ↦ refuse Unexpected ]

    -- FIND FIRST CASE, COMPUTE, or one
    unfoldable pub noting_last : Noting Spot
    noting_last acc = here lines (λ j. eat (m.Reserved r.Find) >>= λ b. elim b [
      | true ↦ (behind (m.Reserved r.First) (behind (m.Reserved r.Case) (pure (tt {0}))) >>= λ u. pure
          (acc ++ noted_at j (Loops Find) ∷ []))
      | false ↦ (eat (m.Reserved r.Compute) >>= λ c. elim c [
        | true ↦ (compute_at n >>= λ x. pure (acc ++ noted_at j (Loops (Gather x.1)) ∷ noted_at j
            (Loops (Compute x.0)) ∷ []))
        | false ↦ noting_must acc
      ])
    ])

    -- {stmt} LOOP
    unfoldable pub noting_repeated : Noting Spot
    noting_repeated acc =
        noting_block acc >>= λ s. here lines (λ j. expect (m.Reserved r.Loop) >>= λ u. pure
        (s ++ noted_at j (Loops Next) ∷ []))

    -- after a phrase f, whose FOR is in line l
    unfoldable pub noting_controlled : ℕ → Phrase → Noting Spot
    noting_controlled l f acc = eat (m.Reserved r.Do) >>= λ b. elim b [
      | true ↦ noting_repeated (acc ++ noted_at l (Loops (For f true)) ∷ [])
      | false ↦ (a_loop (acc ++ noted_at l (Loops (For f false)) ∷ []) >>= λ x. elim x.0
          [ true ↦ pure x.1 | false ↦ noting_last x.1 ])
    ]

  -- FOR and the part after it, if n more phrases may be open
  unfoldable pub noting_loop : (ℕ → NotingItem) → ℕ → NotingItem
  noting_loop a_branch zero acc =
      eat_allowed 0 (m.Reserved r.For) >>= λ b. elim b [ true ↦ refuse PastLimit | false ↦ pure (false, acc) ]
  noting_loop a_branch (suc f) acc = here lines (λ l. eat_allowed (suc f) (m.Reserved r.For) >>= λ b. elim b [
    | true ↦ (phrase_at n >>= λ g. noting_controlled (a_branch f) (noting_loop a_branch f) l g acc >>= λ a. pure
        (true, a))
    | false ↦ pure (false, acc)
  ])

  -- IF and the part after it, if i more IFs and f more phrases may be open
  unfoldable pub noting_if : ℕ → ℕ → NotingItem
  noting_if zero f acc =
      eat_allowed 0 (m.Reserved r.If) >>= λ b. elim b [ true ↦ refuse PastLimit | false ↦ pure (false, acc) ]
  noting_if (suc i) f acc = here lines (λ l. eat_allowed (suc i) (m.Reserved r.If) >>= λ b. elim b [
    | true ↦ (noting_branch (noting_block (noting_if i f) (noting_loop (noting_if i) f)) l acc >>= λ a. pure (true, a))
    | false ↦ pure (false, acc)
  ])

  -- statements, if i IFs and f phrases may be open at once
  abbrev pub noting_statements : ℕ → ℕ → Noting Spot
  noting_statements i f = noting_block (noting_if i f) (noting_loop (noting_if i) f)

-- ---- sections

-- lines: of each word of the text
module _ (lines : List ℕ) where
  -- DEFINE names AS INTEGER VARIABLES, if it is here
  unfoldable pub noting_local : List LocalNames → Reading (Bool × List LocalNames)
  noting_local acc =
      here lines (λ l. eat (m.Reserved r.Define) >>= λ b. elim b [
        | true ↦ (a_define >>= λ ns. pure (true, acc ++ record { line = l; names = ns } ∷ []))
        | false ↦ pure (false, acc)
      ])

  -- with at most n parentheses, i IFs and f phrases open at once, and at most k parameters
  module _ (n i f k : ℕ) where
    -- a section, up to its END
    unfoldable pub noting_section : Reading Section
    noting_section =
        here lines (λ l. head_at k >>= λ h. repeat noting_local [] >>= λ ls. noting_statements lines n i f [] >>= λ ps.
        here lines (λ j. expect (m.Reserved r.End) >>= λ u.
        pure (record { line = l; head = h; locals = ls; places = ps ++ noted_at j EndOfSection ∷ [] })))

    -- at most n sections
    unfoldable pub noting_sections : ℕ → Reading (List Section)
    noting_sections zero = look (λ w. elim (is_head w) [ true ↦ refuse PastLimit | false ↦ pure [] ])
    noting_sections (suc j) =
        look (λ w. elim (is_head w) [
          | true ↦ (noting_section >>= λ t. noting_sections j >>= λ ts. pure
              (t ∷ ts))
          | false ↦ pure []
        ])

  -- statements within the limits
  abbrev pub limited_statements : Noting Spot
  limited_statements = noting_statements lines MOST_PARENTHESES MOST_IFS MOST_PHRASES

  -- a section within the limits
  abbrev pub limited_section : Reading Section
  limited_section = noting_section MOST_PARENTHESES MOST_IFS MOST_PHRASES MOST_PARAMETERS

  -- sections within the limits
  abbrev pub limited_sections : Reading (List Section)
  limited_sections = noting_sections MOST_PARENTHESES MOST_IFS MOST_PHRASES MOST_PARAMETERS MOST_SECTIONS
