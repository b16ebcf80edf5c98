-- What expressions and conditions come to in the sections of a small text.
use Rattle.std.specs.Prelude.{◌≡◌, ℕ, false, List, [], ◌∷◌, None, Result, Ok, Err}
use Rattle.ss_words.specs.Lists.{Name}
use Rattle.ss_words.specs.declared.terms.Copula.TheVariants.{Is}
use Rattle.ss_routines.specs.Expr.{named, applied, no_exprs}
use Rattle.ss_routines.specs.Condition.{condition, no_alternatives, conjunction, no_additions, is_in}
use Rattle.ss_routines.specs.Simple.{BehindGiven, Unwritten}
use Rattle.ss_routines.specs.Tree.{MainHead, EventHead}
use Rattle.ss_routines.specs.Places.{Section}
use Rattle.ss_program.specs.declared.variable.Variable.TheVariants.{Global, Local}
use Rattle.ss_program.specs.ProgramExpr as program
use Rattle.ss_program.specs.ProgramCondition as truth
use Rattle.ss_check.specs.declared.fault.CheckRule.TheVariants.{WrongUse, WrongCount}
use Rattle.ss_check.specs.Asked.{AskedFault, Unknown, Broken, judged_expression, judged_condition}
use Rattle.ss_check.specs.Breach.{breach}
use Rattle.ss_check.specs.Examples.{alone, abs_f, let_be, name_a, name_i, name_y, one, plain, preamble}
use Rattle.ss_check.specs.Examples.{section_at}
use Rattle.ss_check.specs.Symbols.{Symbols, symbols_of}
use Rattle.ss_check.specs.TableExample.{arrival, closing_event, load, queue, shop_items, total}

-- ---- the text

-- MAIN with LET I = TOTAL; EVENT ARRIVAL GIVEN A1 with LET Y = A1; an empty EVENT CLOSING
abbrev pub asked_sections : List Section
asked_sections =
    section_at 20 MainHead (let_be (plain name_i) (alone (named total)) ∷ []) ∷
    section_at 30 (EventHead arrival (BehindGiven (one name_a)) false)
    (let_be (plain name_y) (alone (named name_a)) ∷ []) ∷
    section_at 40 (EventHead closing_event Unwritten false) [] ∷
    []

-- its symbols
abbrev pub asked_symbols : Symbols
asked_symbols = symbols_of (preamble shop_items) asked_sections

-- ---- the questions

-- a name, in section number q
abbrev pub judged_name : ℕ → Name → Result program.Expr AskedFault
judged_name q name = judged_expression asked_symbols q (alone (named name))

-- name(argument), in section number q
abbrev pub judged_of : ℕ → Name → Name → Result program.Expr AskedFault
judged_of q name argument = judged_expression asked_symbols q (alone (applied name (alone (named argument)) no_exprs))

-- name IS IN set, in section number q
abbrev pub judged_in : ℕ → Name → Name → Result truth.Condition AskedFault
judged_in q name set =
    judged_condition asked_symbols q
    (condition (conjunction (is_in (alone (named name)) Is (plain set)) no_additions) no_alternatives)

-- ---- the answers

-- an expression of one factor
abbrev pub value : program.Factor → program.Expr
value factor = program.expr None (program.term factor program.no_products) program.no_sums

-- each section has its own local variables; a name that no section declares is unknown, before any rule; a set has no
-- value, a variable no subscript, and ABS.F needs an argument
abbrev pub AskedNamesAreJudged : Type 0
AskedNamesAreJudged =
    (breach (preamble shop_items) asked_sections ≡ None)
    × (judged_name 0 total ≡ Ok (value (program.variable (Global 5))))
    × (judged_name 0 name_i ≡ Ok (value (program.variable (Local 0))))
    × (judged_name 0 name_a ≡ Err (Unknown name_a))
    × (judged_name 1 name_a ≡ Ok (value (program.variable (Local 0))))
    × (judged_name 1 name_y ≡ Ok (value (program.variable (Local 1))))
    × (judged_name 1 name_i ≡ Err (Unknown name_i))
    × (judged_name 3 name_a ≡ Err (Unknown name_a))
    × (judged_of 0 load name_i
    ≡ Ok (value (program.attribute 1 1 (program.at (value (program.variable (Local 0)))))))
    × (judged_of 0 total name_i ≡ Err (Broken WrongUse))
    × (judged_of 0 total name_y ≡ Err (Unknown name_y))
    × (judged_name 0 queue ≡ Err (Broken WrongUse))
    × (judged_name 0 abs_f ≡ Err (Broken WrongCount))
    × (judged_in 0 name_i queue
    ≡ Ok (truth.any (truth.all (truth.is_in (value (program.variable (Local 0))) Is
    (record { set = 0; owner = program.implied 2 })) truth.no_relations) truth.no_conjunctions))
    × (judged_in 0 name_i total ≡ Err (Broken WrongUse))
    × (judged_in 0 name_y total ≡ Err (Unknown name_y))
