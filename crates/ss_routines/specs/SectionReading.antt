-- Reading heads and sections from left to right.
use Rattle.std.specs.Prelude.{ℕ, zero, suc, ◌-◌, Bool, true, false, List, [], ◌∷◌, length, Option, Some, None}
use Rattle.ss_words.specs.declared.mark.Mark.TheVariants as m
use Rattle.ss_words.specs.declared.word.Sign.TheVariants as s
use Rattle.ss_words.specs.declared.reserved.Reserved.TheVariants as r
use Rattle.ss_words.specs.declared.refusal.Refusal.{Refusal}
use Rattle.ss_words.specs.declared.refusal.Refusal.TheVariants.{Unexpected, PastLimit}
use Rattle.ss_words.specs.Plain.{Plain, mark}
use Rattle.ss_words.specs.Lists.{Name, Several, all_of, names}
use Rattle.ss_words.specs.Reading.{Reading, ◌>>=◌, pure, refuse, look, skip}
use Rattle.ss_words.specs.Marks.{expect, eat, a_name}
use Rattle.ss_routines.specs.Combined.{pair, behind, made, if_mark, star}
use Rattle.ss_routines.specs.Simple.{Listing, Unwritten, BehindGiven, InParentheses}
use Rattle.ss_routines.specs.SimpleReading.{name_of}
use Rattle.ss_routines.specs.Tree.{Head, MainHead, RoutineHead, EventHead, SectionTree, Tree, listing_names}
use Rattle.ss_routines.specs.BlockReading.{block_at}
use Rattle.ss_routines.specs.Tree.{is_head}

-- how many parentheses, IFs and phrases may be open at once, how many parameters a section may have, and how many
-- sections there may be
pub record Room : Type 0 where
  -- open parentheses
  pub parentheses : ℕ
  -- open IFs
  pub ifs : ℕ
  -- open FOR phrases
  pub phrases : ℕ
  -- parameters, given and yielded
  pub parameters : ℕ
  -- sections
  pub sections : ℕ

-- ---- heads

-- how a name is refused if there may be no more, or how the word in its place is refused
abbrev pub refusal_of : Option Plain → Refusal
refusal_of w = elim (name_of w) [ Some n ↦ PastLimit | None ↦ Unexpected ]

-- refuses a name, if there may be no more, or the word in its place
unfoldable pub no_name : {A : Type 0} → Reading A
no_name = look (λ w. refuse (refusal_of w))

-- {"," name}, at most n names
unfoldable pub others_at : ℕ → Reading (List Name)
others_at zero = eat (m.Sign s.Comma) >>= λ b. elim b [ true ↦ no_name | false ↦ pure [] ]
others_at (suc k) =
    eat (m.Sign s.Comma) >>= λ b. elim b [
      | true ↦ (a_name >>= λ n. others_at k >>= λ ns. pure (n ∷ ns))
      | false ↦ pure
          []
    ]

-- name {"," name}, at most n names
unfoldable pub names_at : ℕ → Reading (Several Name)
names_at zero = no_name
names_at (suc k) = a_name >>= λ n. others_at k >>= λ ns. pure (record { first = n; others = ns })

-- [GIVEN names | "(" names ")"], at most n names
unfoldable pub given_at : ℕ → Reading (Listing Name)
given_at k = eat (m.Reserved r.Given) >>= λ g. elim g [
  | true ↦ (names_at k >>= λ ns. pure (BehindGiven ns))
  | false ↦ (eat (m.Sign s.Open) >>= λ b. elim b [
    | true ↦ (names_at k >>= λ ns. expect (m.Sign s.Close) >>= λ u. pure
        (InParentheses ns))
    | false ↦ pure Unwritten
  ])
]

-- [YIELDING names], at most n names
unfoldable pub yielded_at : ℕ → Reading (List Name)
yielded_at k =
    eat (m.Reserved r.Yielding) >>= λ b. elim b [ true ↦ (names_at k >>= λ ns. pure (all_of ns)) | false ↦ pure [] ]

-- [SAVING EVENT NOTICES]
unfoldable pub saving : Reading Bool
saving =
    eat (m.Reserved r.Saving) >>= λ b. elim b [
      | true ↦ (expect (m.Reserved r.Event) >>= λ u. expect
          (m.Reserved r.Notices) >>= λ v. pure true)
      | false ↦ pure false
    ]

-- with at most k parameters, given and yielded together
module _ (k : ℕ) where
  -- after ROUTINE: name [GIVEN names | "(" names ")"] [YIELDING names]
  unfoldable pub routine_at : Reading Head
  routine_at =
      a_name >>= λ n. given_at k >>= λ ps. yielded_at (k - length (listing_names ps)) >>= λ ys.
      pure (RoutineHead n ps ys)

  -- after EVENT: name [GIVEN names | "(" names ")"] [SAVING EVENT NOTICES]
  unfoldable pub event_at : Reading Head
  event_at = a_name >>= λ n. given_at k >>= λ ps. saving >>= λ b. pure (EventHead n ps b)

  -- MAIN, ROUTINE or EVENT and the part after it
  abbrev pub head_by : Option Plain → Reading Head
  head_by (Some (mark (m.Reserved r.Main))) = skip (pure MainHead)
  head_by (Some (mark (m.Reserved r.Routine))) = skip routine_at
  head_by (Some (mark (m.Reserved r.Event))) = skip event_at
  head_by _ = refuse Unexpected

  -- a head
  unfoldable pub head_at : Reading Head
  head_at = look head_by

-- ---- sections

-- AS INTEGER VARIABLES
unfoldable pub as_variables : Reading (Unit {0})
as_variables = behind (m.Reserved r.As) (behind (m.Reserved r.Integer) (behind (m.Reserved r.Variables) (pure tt)))

-- after DEFINE: names AS INTEGER VARIABLES
unfoldable pub a_define : Reading (Several Name)
a_define = made (λ x. x.0) (pair names as_variables)

-- {DEFINE names AS INTEGER VARIABLES}
unfoldable pub locals : Reading (List (Several Name))
locals = star (if_mark (m.Reserved r.Define) a_define)

-- with at most n parentheses, i IFs and f phrases open at once, and at most k parameters
module _ (n i f k : ℕ) where
  -- a section, up to its END
  unfoldable pub section_at : Reading SectionTree
  section_at =
      head_at k >>= λ h. locals >>= λ ls. block_at n i f >>= λ b. expect (m.Reserved r.End) >>= λ u. pure
      (record { head = h; locals = ls; block = b })

  -- at most n sections
  unfoldable pub sections_upto : ℕ → Reading Tree
  sections_upto zero = look (λ w. elim (is_head w) [ true ↦ refuse PastLimit | false ↦ pure [] ])
  sections_upto (suc j) =
      look (λ w. elim (is_head w) [
        | true ↦ (section_at >>= λ t. sections_upto j >>= λ ts. pure (t ∷ ts))
        | false ↦ pure
            []
      ])

-- the sections of a program
abbrev pub sections_at : Room → Reading Tree
sections_at room = sections_upto room.parentheses room.ifs room.phrases room.parameters room.sections
