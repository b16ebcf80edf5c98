-- The readings of a view, and the tables that places may name rows of. Public contracts cite it.
use Rattle.std.specs.Prelude.{length, map}
use Rattle.ss_program.specs.ProgramSound.{Scope}
use Rattle.ss_values.specs.declared.view.View.{View}
use Rattle.ss_values.specs.Values.{Readings}

-- the readings of a view
abbrev pub view_readings : {S : Type 0} → View S → Readings
view_readings v = record {
  tables = v.store.now.tables;
  store = v.store.now.state;
  variables = v.variables.now;
  locals = v.locals.now;
  clock = v.clock;
}

-- the tables that a place may name rows of, by the readings
abbrev pub scope_of : Readings → Scope
scope_of readings = record {
  globals = length readings.variables;
  locals = length readings.locals;
  permanent = map (λ c. c.permanent) readings.tables.classes;
  sets = length readings.tables.sets;
}

-- a property within the scope of a view
abbrev pub InView : {A S : Type 0} → View S → (Scope → A → Type 0) → A → Type 0
InView v P x = P (scope_of (view_readings v)) x
