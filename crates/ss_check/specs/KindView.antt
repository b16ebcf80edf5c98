-- Private: the pure data for kinds of names, functions and needs of the code.
use Rattle.ss_check.specs.declared.declared.class_need.ClassNeed.{ClassNeed as CodeNeed}
use Rattle.ss_check.specs.declared.declared.class_need.ClassNeed.TheVariants as code_need
use Rattle.ss_check.specs.declared.declared.function.Function.{Function as CodeFunction}
use Rattle.ss_check.specs.declared.declared.function.Function.TheVariants as code_function
use Rattle.ss_check.specs.declared.declared.name_kind.NameKind.{NameKind as CodeKind}
use Rattle.ss_check.specs.declared.declared.name_kind.NameKind.TheVariants as code_kind
use Rattle.ss_check.specs.ClassNeed.{ClassNeed, Permanent, Ending, Event}
use Rattle.ss_check.specs.LanguageFunction.{LanguageFunction, Absolute, Greatest, Least, Quotient, Remainder}
use Rattle.ss_check.specs.NameKind as kinds

-- a need of the code
abbrev pub need_view : CodeNeed → ClassNeed
need_view code_need.Permanent = Permanent
need_view code_need.Ending = Ending
need_view code_need.Event = Event

-- a function of the code
abbrev pub function_view : CodeFunction → LanguageFunction
function_view code_function.Absolute = Absolute
function_view code_function.Greatest = Greatest
function_view code_function.Least = Least
function_view code_function.Quotient = Quotient
function_view code_function.Remainder = Remainder

-- a kind of the code
abbrev pub kind_view : CodeKind → kinds.NameKind
kind_view (code_kind.Class heading) = kinds.Class heading
kind_view (code_kind.Attribute class) = kinds.Attribute class
kind_view code_kind.Variable = kinds.Variable
kind_view code_kind.ClassCount = kinds.ClassCount
kind_view code_kind.Set = kinds.Set
kind_view code_kind.Routine = kinds.Routine
kind_view code_kind.Clock = kinds.Clock
kind_view (code_kind.OwnerKept kept set) = kinds.OwnerKept kept set
kind_view (code_kind.MemberKept kept set) = kinds.MemberKept kept set
kind_view (code_kind.Function f) = kinds.Function (function_view f)
