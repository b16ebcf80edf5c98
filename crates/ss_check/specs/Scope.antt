-- Private: the scope in which the names of a section are resolved.
use Rattle.std.specs.Prelude.{List}
use Rattle.ss_words.specs.Lists.{Name}
use Rattle.ss_check.specs.declared.resolved.scope.Scope.{Scope}
use Rattle.ss_check.specs.Declarations.{Declared}
use Rattle.ss_check.specs.ResolvedNames.{Names}

-- the value of a definition in a scope
abbrev pub in_scope : {A : Type 0} → Scope → (Declared → Names → List Name → A) → A
in_scope scope f = f scope.whole.now scope.names.now scope.locals.now
