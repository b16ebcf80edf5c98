-- The results of a run: the values of some measures in its last state.
use Rattle.std.specs.Prelude.{ℕ, List, [], ◌∷◌, ◌++◌, map, codes, decimal}
use Rattle.ss_check.specs.Symbols.{Symbols}
use Rattle.ss_state.specs.Run.{Input}
use Rattle.ss_run.specs.declared.measure.Measure.{Measure}
use Rattle.ss_run.specs.Measure.{measure_name, measure_at}
use Rattle.ss_run.specs.Rows.{csv_row}

-- the results that are asked for
pub record Asked : Type 0 where
  -- the name of the run's data
  pub name : List ℕ
  -- what is measured
  pub results : List Measure

-- the results that are asked for, and the symbol table by which expressions and conditions are read
pub record Wanted : Type 0 where
  -- the name of the run's data
  pub name : List ℕ
  -- what is measured
  pub results : List Measure
  -- the symbol table of the model
  pub symbols : Symbols

-- those that are asked for, by a symbol table
abbrev pub wanted : Asked → Symbols → Wanted
wanted asked symbols = record { name = asked.name; results = asked.results; symbols = symbols }

-- the names of the columns: the data, the status, and each measure as it is asked
abbrev pub result_names : List Measure → List (List ℕ)
result_names ms = codes "data" ∷ codes "status" ∷ map measure_name ms

-- the values of some measures in state p
abbrev pub values_at : Input → Symbols → List Measure → ℕ → List (List ℕ)
values_at input symbols ms p = map (λ m. measure_at input symbols m p) ms

-- for a run that ended in state p with this status: data name, status, the value of each measure
abbrev pub result_fields : Input → Wanted → ℕ → ℕ → List (List ℕ)
result_fields input asked status p =
    asked.name ∷ decimal status ∷ values_at input asked.symbols asked.results p

-- the row of a run
abbrev pub results_row : Input → Wanted → ℕ → ℕ → List ℕ
results_row input asked status p = csv_row (result_fields input asked status p)
