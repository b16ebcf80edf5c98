-- The pure data for the parts of statements and conditions of the code.
use Rattle.std.specs.Prelude.{List, map, Option}
use Rattle.std.specs.Global.{Vec}
use Rattle.ss_words.specs.declared.several.Several.{Several as CodeSeveral}
use Rattle.ss_words.specs.Lists.{Name, Several, several_view}
use Rattle.ss_words.specs.Reading.{option_view}
use Rattle.ss_words.specs.declared.terms.TermSign.{TermSign}
use Rattle.ss_routines.specs.declared.tree.expr.Expr.{Expr as CodeExpr}
use Rattle.ss_routines.specs.declared.tree.expr.Added.{Added as CodeAdded}
use Rattle.ss_routines.specs.declared.tree.expr.Factor.{Factor as CodeFactor}
use Rattle.ss_routines.specs.declared.tree.condition.Reference.{Reference as CodeReference}
use Rattle.ss_routines.specs.declared.tree.condition.Conjunction.{Conjunction as CodeConjunction}
use Rattle.ss_routines.specs.declared.tree.condition.Relation.{Relation as CodeRelation}
use Rattle.ss_routines.specs.declared.tree.place.Qualifier.{Qualifier as CodeQualifier}
use Rattle.ss_routines.specs.declared.tree.place.Computed.{Computed as CodeComputed}
use Rattle.ss_routines.specs.Expr.{Expr, Term, Factor}
use Rattle.ss_routines.specs.Condition.{Reference, Conjunction, Relation}
use Rattle.ss_routines.specs.Loops.{Qualifier, Computed}
use Rattle.ss_routines.specs.View.{expr_view, factor_view, added_view, reference_view, conjunction_view, relation_view}
use Rattle.ss_routines.specs.View.{qualifier_view, computed_view}

-- values
abbrev pub values_view : Vec CodeExpr → List Expr
values_view v = map expr_view v.items

-- one or more values
abbrev pub several_values_view : CodeSeveral CodeExpr → Several Expr
several_values_view = several_view expr_view

-- references
abbrev pub references_view : Vec CodeReference → List Reference
references_view v = map reference_view v.items

-- relations after a first one
abbrev pub relations_view : Vec CodeRelation → List Relation
relations_view v = map relation_view v.items

-- conjunctions after a first one
abbrev pub conjunctions_view : Vec CodeConjunction → List Conjunction
conjunctions_view v = map conjunction_view v.items

-- factors after a first one
abbrev pub factors_view : Vec CodeFactor → List Factor
factors_view v = map factor_view v.items

-- terms after a first one
abbrev pub terms_view : Vec CodeAdded → List (TermSign × Term)
terms_view v = map added_view v.items

-- factors and terms after a first factor
abbrev pub rest_view : Vec CodeFactor × Vec CodeAdded → List Factor × List (TermSign × Term)
rest_view x = (factors_view x.0, terms_view x.1)

-- a name and a reference or none
abbrev pub named_view : Name × Option CodeReference → Name × Option Reference
named_view x = (x.0, option_view reference_view x.1)

-- a target and a value
abbrev pub equation_view : CodeReference × CodeExpr → Reference × Expr
equation_view x = (reference_view x.0, expr_view x.1)

-- a value and a target
abbrev pub moved_view : CodeExpr × CodeReference → Expr × Reference
moved_view x = (expr_view x.0, reference_view x.1)

-- the qualifiers of a FOR phrase
abbrev pub qualifiers_view : Vec CodeQualifier → List Qualifier
qualifiers_view v = map qualifier_view v.items

-- targets of COMPUTE after a first one
abbrev pub computed_list_view : Vec CodeComputed → List Computed
computed_list_view v = map computed_view v.items

-- the targets of COMPUTE
abbrev pub several_computed_view : CodeSeveral CodeComputed → Several Computed
several_computed_view = several_view computed_view

-- the targets of COMPUTE and its expression
abbrev pub compute_view : CodeSeveral CodeComputed × CodeExpr → Several Computed × Expr
compute_view x = (several_computed_view x.0, expr_view x.1)
