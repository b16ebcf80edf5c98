-- Private: the numbers in the lines of an entity. If they are the same, so are the lines.
use Rattle.std.specs.Prelude.{◌≡◌, ℕ, zero, suc, ℤ, pos, Bool, true, false, List, [], ◌∷◌, ◌++◌, length, if◌then◌else◌}
use Rattle.std.specs.Prelude.{unwrap_or}
use Rattle.std.specs.Result.{result_unwrap_or}
use Rattle.ss_program.specs.Program.{ProgramTable, class_of, set_of}
use Rattle.ss_store.specs.declared.shape.Neighbours.{Neighbours}
use Rattle.ss_store.specs.Store.{Store, number_of, exists, attribute_of}
use Rattle.ss_state.specs.State.{State}
use Rattle.ss_state.specs.Run.{Input, run}
use Rattle.ss_debug.specs.Entities.{shape_of}
use Rattle.ss_trace.specs.declared.attribute.Kept.{Kept}
use Rattle.ss_trace.specs.declared.attribute.Kept.TheVariants.{First, Last, Number, Predecessor, Successor, Membership}
use Rattle.ss_trace.specs.declared.question.Question.{Question}
use Rattle.ss_trace.specs.declared.sight.Sight.{Sight}
use Rattle.ss_trace.specs.declared.sight.Sight.TheVariants.{Entity}
use Rattle.ss_trace.specs.declared.touches.Part.{Part}
use Rattle.ss_trace.specs.declared.touches.Part.TheVariants.{Entities}
use Rattle.ss_trace.specs.Question.{has_kept, kept_value}
use Rattle.ss_trace.specs.Sight.{sight_of}
use Rattle.ss_trace.specs.Touches.{part_of}

-- the numbers that belong to 0 to n - 1, in order
abbrev pub numbers_below : (ℕ → List ℤ) → ℕ → List ℤ
numbers_below numbers zero = []
numbers_below numbers (suc n) = numbers_below numbers n ++ numbers n

-- attribute a of entity number k of class c
abbrev pub attribute_number : Store → ℕ → ℕ → ℕ → ℤ
attribute_number store c k a = result_unwrap_or (attribute_of store c a k) (pos 0)

-- that number as a list
abbrev pub attribute_numbers : Store → ℕ → ℕ → ℕ → List ℤ
attribute_numbers store c k a = attribute_number store c k a ∷ []

-- a kept attribute of entity number k of class c in set s, 0 if entities of the class lack it
abbrev pub kept_number : ProgramTable → Store → ℕ → ℕ → ℕ → Kept → ℤ
kept_number program store c k s kept =
    if has_kept (set_of program s) c kept then pos (kept_value (shape_of program s) store k kept) else pos 0

-- the neighbours that were read of it in set s are P.s, S.s and M.s
abbrev pub AreKept : ProgramTable → Store → ℕ → ℕ → ℕ → Neighbours → Type 0
AreKept program store c k s neighbours =
    (kept_number program store c k s Predecessor ≡ pos (unwrap_or neighbours.before 0))
    × (kept_number program store c k s Successor ≡ pos (unwrap_or neighbours.behind 0))
    × (kept_number program store c k s Membership ≡ pos (if neighbours.is_filed then 1 else 0))

-- its numbers in set s, as an owner of lists and as a member: F.s, L.s, N.s, P.s, S.s and M.s
abbrev pub set_numbers : ProgramTable → Store → ℕ → ℕ → ℕ → List ℤ
set_numbers program store c k s =
    kept_number program store c k s First ∷ kept_number program store c k s Last
    ∷ kept_number program store c k s Number
    ∷ kept_number program store c k s Predecessor ∷ kept_number program store c k s Successor
    ∷ kept_number program store c k s Membership ∷ []

-- the numbers of its lines: its attributes, then the numbers of each set
abbrev pub entity_numbers : ProgramTable → Store → ℕ → ℕ → List ℤ
entity_numbers program store c k =
    numbers_below (attribute_numbers store c k) (length (class_of program c).attributes)
    ++ numbers_below (set_numbers program store c k) (length program.sets)

-- these numbers after a 1, if it exists
abbrev pub living_numbers : ProgramTable → Store → ℕ → ℕ → List ℤ
living_numbers program store c k = if exists store c k then pos 1 ∷ entity_numbers program store c k else []

-- whether the numbers of an entity give all of an answer with these parts and this sight
abbrev pub is_counted : Part → Sight → Bool
is_counted Entities (Entity c x) = true
is_counted _ _ = false

-- the numbers of the entity there, if there is one
abbrev pub numbers_there : ProgramTable → State → Sight → List ℤ
numbers_there program state (Entity c x) = living_numbers program state.store c (number_of x)
numbers_there program state _ = []

-- the numbers of the entity at which a question with these parts and this sight looks
abbrev pub numbers_of : Part → ProgramTable → State → Sight → List ℤ
numbers_of Entities program state sight = numbers_there program state sight
numbers_of _ program state sight = []

-- the numbers in state p
abbrev pub numbers_at : Input → Question → ℕ → List ℤ
numbers_at input question p =
    numbers_of (part_of question) input.program (run input p) (sight_of input.program question)
