-- What an expression or a condition comes to when it is asked for in a section of a text.
use Rattle.std.specs.Prelude.{◌≡◌, ℕ, Bool, not, ◌||◌, List, [], slice_get, slice_index_or}
use Rattle.std.specs.Prelude.{Option, Some, None, Result, Ok, Err}
use Rattle.std.specs.List.{All, find, flat_map}
use Rattle.ss_words.specs.Lists.{Name}
use Rattle.ss_preamble.specs.Tree.{Decls}
use Rattle.ss_routines.specs.Expr.{Expr}
use Rattle.ss_routines.specs.Condition.{Condition}
use Rattle.ss_routines.specs.Places.{Section}
use Rattle.ss_program.specs.Program.{ProgramTable}
use Rattle.ss_program.specs.ProgramExpr.{Expr as ProgramExpr}
use Rattle.ss_program.specs.ProgramCondition.{Condition as ProgramCondition}
use Rattle.ss_program.specs.ProgramSound.{IsSoundExpr, IsSoundCondition, scope_in}
use Rattle.ss_check.specs.declared.fault.CheckRule.{CheckRule}
use Rattle.ss_check.specs.Breach.{breach}
use Rattle.ss_check.specs.Declarations.{Declared, is_declared}
use Rattle.ss_check.specs.Facts.{is_among}
use Rattle.ss_check.specs.PlaceRules.{use_breaks}
use Rattle.ss_check.specs.Resolved.{resolved_expr, resolved_condition, program_resolved}
use Rattle.ss_check.specs.ResolvedNames.{variable_used}
use Rattle.ss_check.specs.Statements.{lowest}
use Rattle.ss_check.specs.Symbols.{Symbols, symbols_of}
use Rattle.ss_check.specs.Uses.{Use, uses, uses_expr, uses_condition}

-- ---- the fault of what is asked for

-- why it has no meaning in a section: a name that is unknown there, or a rule that it breaks
pub data AskedFault : Type 0 where
  Unknown : Name → AskedFault
  Broken : CheckRule → AskedFault

-- a name that is neither declared nor a local variable
abbrev pub is_unknown : Declared → List Name → Name → Bool
is_unknown declared locals name = not (is_declared declared name || is_among name locals)

-- the first name that uses take for a variable and that is unknown, if there is one
abbrev pub first_unknown : Declared → List Name → List Use → Option Name
first_unknown declared locals us = find (is_unknown declared locals) (flat_map variable_used us)

-- a rule that is broken, if one is, as a fault
abbrev pub rule_fault : Option CheckRule → Option AskedFault
rule_fault None = None
rule_fault (Some rule) = Some (Broken rule)

-- an unknown name, if there is one, as a fault, else that of a rule that is broken
abbrev pub name_fault : Option Name → Option CheckRule → Option AskedFault
name_fault None rule = rule_fault rule
name_fault (Some name) rule = Some (Unknown name)

-- the fault of uses in a section with these local variables: the first unknown name, else the lowest rule on names that
-- they break
abbrev pub fault_of_uses : Declared → List Name → List Use → Option AskedFault
fault_of_uses declared locals us = name_fault (first_unknown declared locals us) (lowest (use_breaks declared us))

-- something that has a meaning, unless there is a fault
abbrev pub unless : {A : Type 0} → Option AskedFault → A → Result A AskedFault
unless None x = Ok x
unless (Some fault) x = Err fault

-- ---- the judgement

-- the local variables of section number q, none if there is no such section
abbrev pub locals_at : Symbols → ℕ → List Name
locals_at symbols q = slice_index_or symbols.locals q []

-- an expression in section number q: with the numbers of its names, or its fault
abbrev pub judged_expression : Symbols → ℕ → Expr → Result ProgramExpr AskedFault
judged_expression symbols q e =
    unless (fault_of_uses symbols.declared (locals_at symbols q) (uses_expr e))
    (resolved_expr symbols.declared symbols.names (locals_at symbols q) e)

-- a condition in section number q
abbrev pub judged_condition : Symbols → ℕ → Condition → Result ProgramCondition AskedFault
judged_condition symbols q c =
    unless (fault_of_uses symbols.declared (locals_at symbols q) (uses_condition c))
    (resolved_condition symbols.declared symbols.names (locals_at symbols q) c)

-- ---- what has a meaning can be evaluated

-- a symbol table and a program are of one text, which has no breach
abbrev pub IsSymbolsOf : ProgramTable → Symbols → Type 0
IsSymbolsOf program symbols =
    (decls : Decls) × (sections : List Section) × (breach decls sections ≡ None)
    × (program ≡ program_resolved decls sections) × (symbols ≡ symbols_of decls sections)

-- an expression that has a meaning in a section names only rows that exist there
abbrev pub AskedExpressionsAreSound : Type 0
AskedExpressionsAreSound =
    (program : ProgramTable) (symbols : Symbols) (q : ℕ) (e : Expr) (x : ProgramExpr) → IsSymbolsOf program symbols →
    judged_expression symbols q e ≡ Ok x → IsSoundExpr (scope_in program q) x

-- so does a condition
abbrev pub AskedConditionsAreSound : Type 0
AskedConditionsAreSound =
    (program : ProgramTable) (symbols : Symbols) (q : ℕ) (c : Condition) (x : ProgramCondition) →
    IsSymbolsOf program symbols → judged_condition symbols q c ≡ Ok x → IsSoundCondition (scope_in program q) x

-- in a text without a breach the places of a section have no fault there, so what they ask for has a meaning
abbrev pub OwnPlacesHaveNoFault : Type 0
OwnPlacesHaveNoFault =
    (decls : Decls) (sections : List Section) (q : ℕ) (section : Section) → breach decls sections ≡ None →
    slice_get sections q ≡ Some section →
    All (λ x. fault_of_uses (symbols_of decls sections).declared (locals_at (symbols_of decls sections) q)
    (uses x.place) ≡ None) section.places
