-- What the code has of a value, as pure data.
use Rattle.std.specs.Prelude.{Option}
use Rattle.std.specs.Option.{option_map}
use Rattle.ss_readings.specs.declared.value.Value.{Value as Code}
use Rattle.ss_readings.specs.declared.value.Value.TheVariants as code
use Rattle.ss_readings.specs.Value.{Value, number, truth, members}

-- a value
abbrev pub value_view : Code → Value
value_view (code.Number x) = number x
value_view (code.Truth b) = truth b
value_view (code.Members ks) = members ks.items

-- a value, if there is one
abbrev pub value_if : Option Code → Option Value
value_if v = option_map value_view v
