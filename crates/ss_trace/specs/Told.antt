-- Private: whether all that a step may have changed of an entity agrees with its numbers on the
-- other side of the step.
use Rattle.std.specs.Prelude.{ℕ, zero, suc, ◌+◌, ◌*◌, ◌==◌, nat_lt, ℤ, pos, Bool, true, false, not, ◌&&◌, ◌||◌}
use Rattle.std.specs.Prelude.{List, [], ◌∷◌, length, slice_index_or, if◌then◌else◌}
use Rattle.std.specs.Ordering.{int_eq}
use Rattle.ss_program.specs.Program.{ProgramTable, class_of}
use Rattle.ss_store.specs.Store.{Store, number_of, exists}
use Rattle.ss_state.specs.Run.{Input, run}
use Rattle.ss_trace.specs.declared.attribute.Kept.{Kept}
use Rattle.ss_trace.specs.declared.attribute.Kept.TheVariants.{First, Last, Number, Predecessor, Successor, Membership}
use Rattle.ss_trace.specs.declared.question.Question.{Question}
use Rattle.ss_trace.specs.declared.sight.Sight.{Sight}
use Rattle.ss_trace.specs.declared.sight.Sight.TheVariants.{Entity}
use Rattle.ss_trace.specs.declared.told.TheConstants.{NUMBERS_OF_A_SET}
use Rattle.ss_trace.specs.declared.touches.Part.{Part}
use Rattle.ss_trace.specs.declared.touches.Part.TheVariants as parts
use Rattle.ss_trace.specs.declared.touches.Touch.{Touch}
use Rattle.ss_trace.specs.declared.touches.Touch.TheVariants.{Nothing, Attribute, Attributes, Set, Entities, Anything}
use Rattle.ss_trace.specs.EntityNumbers.{attribute_number, kept_number}
use Rattle.ss_trace.specs.Sight.{sight_of}
use Rattle.ss_trace.specs.Touches.{part_of}

-- whether number i of some is this one
abbrev pub tells : List ℤ → ℕ → ℤ → Bool
tells numbers i x = int_eq (slice_index_or numbers i (pos 0)) x

-- ---- attributes; the numbers are those after the 1

-- attribute a of entity number k of class c
abbrev pub tells_attribute : Store → ℕ → ℕ → List ℤ → ℕ → Bool
tells_attribute store c k numbers a = tells numbers a (attribute_number store c k a)

-- attributes 0 to n - 1
abbrev pub tells_attributes : Store → ℕ → ℕ → List ℤ → ℕ → Bool
tells_attributes store c k numbers zero = true
tells_attributes store c k numbers (suc n) = tells_attributes store c k numbers n && tells_attribute store c k numbers n

-- ---- sets, after the attributes

-- the place at which the numbers of set s begin
abbrev pub set_place : ProgramTable → ℕ → ℕ → ℕ
set_place program c s = length (class_of program c).attributes + NUMBERS_OF_A_SET * s

-- the place of a kept attribute among the numbers of a set
abbrev pub kept_place : Kept → ℕ
kept_place First = 0
kept_place Last = 1
kept_place Number = 2
kept_place Predecessor = 3
kept_place Successor = 4
kept_place Membership = 5

-- whether the numbers of a set, which begin at i, have 0 for a kept attribute
abbrev pub told_none : List ℤ → ℕ → Kept → Bool
told_none numbers i kept = tells numbers (i + kept_place kept) (pos 0)

-- whether they have the kept attribute of set s
abbrev pub tells_kept : ProgramTable → Store → ℕ → ℕ → List ℤ → ℕ → ℕ → Kept → Bool
tells_kept program store c k numbers s i kept =
    tells numbers (i + kept_place kept) (kept_number program store c k s kept)

-- the numbers of a set for a member, with P.s, S.s and M.s: one that was in no list is in none; one
-- that was in one has the same neighbours, and if it has none it is in one
abbrev pub tells_beside : List ℤ → ℕ → ℤ → ℤ → ℤ → Bool
tells_beside numbers i before behind member =
    if told_none numbers i Membership
    then tells numbers (i + kept_place Membership) member
    else tells numbers (i + kept_place Predecessor) before
    && (tells numbers (i + kept_place Successor) behind
    && (not (told_none numbers i Predecessor && told_none numbers i Successor)
    || tells numbers (i + kept_place Membership) member))

-- the numbers of set s for a member
abbrev pub tells_member : ProgramTable → Store → ℕ → ℕ → List ℤ → ℕ → ℕ → Bool
tells_member program store c k numbers s i =
    tells_beside numbers i (kept_number program store c k s Predecessor) (kept_number program store c k s Successor)
    (kept_number program store c k s Membership)

-- set s: a step makes its list longer or shorter, or leaves it, so N.s is enough for an owner
abbrev pub tells_set : ProgramTable → Store → ℕ → ℕ → List ℤ → ℕ → ℕ → Bool
tells_set program store c k numbers s i =
    tells_kept program store c k numbers s i Number && tells_member program store c k numbers s i

-- sets 0 to n - 1
abbrev pub tells_sets : ProgramTable → Store → ℕ → ℕ → List ℤ → ℕ → Bool
tells_sets program store c k numbers zero = true
tells_sets program store c k numbers (suc n) =
    tells_sets program store c k numbers n && tells_set program store c k numbers n (set_place program c n)

-- ---- an entity

-- all of it, if it is still there
abbrev pub tells_all : ProgramTable → Store → ℕ → ℕ → List ℤ → Bool
tells_all program store c k numbers =
    exists store c k && (tells_attributes store c k numbers (length (class_of program c).attributes)
    && tells_sets program store c k numbers (length program.sets))

-- the parts that a step may have changed of an entity that was there
abbrev pub tells_touched : ProgramTable → Store → ℕ → ℕ → List ℤ → Touch → Bool
tells_touched program store c k numbers Nothing = true
tells_touched program store c k numbers (Attribute d a) =
    not (d == c) || (nat_lt a (length (class_of program c).attributes) && tells_attribute store c k numbers a)
tells_touched program store c k numbers Attributes =
    tells_attributes store c k numbers (length (class_of program c).attributes)
tells_touched program store c k numbers (Set s) =
    nat_lt s (length program.sets) && tells_set program store c k numbers s (set_place program c s)
tells_touched program store c k numbers Entities = tells_all program store c k numbers
tells_touched program store c k numbers Anything = false

-- those of any entity, which has no numbers if it was not there
abbrev pub tells_entity : ProgramTable → Store → ℕ → ℕ → List ℤ → Touch → Bool
tells_entity program store c k [] Anything = false
tells_entity program store c k [] Entities = not (exists store c k)
tells_entity program store c k [] touched = true
tells_entity program store c k (x ∷ xs) touched = tells_touched program store c k xs touched

-- those of the entity at which a question with these parts and this sight looks
abbrev pub is_told : Part → Sight → ProgramTable → Store → List ℤ → Touch → Bool
is_told parts.Entities (Entity c x) program store numbers touched =
    tells_entity program store c (number_of x) numbers touched
is_told _ _ program store numbers touched = false

-- those parts in state p
abbrev pub is_told_at : Input → Question → List ℤ → Touch → ℕ → Bool
is_told_at input question numbers touched p =
    is_told (part_of question) (sight_of input.program question) input.program (run input p).store numbers touched
