-- The changes of an accumulator by the operations of a linear expression.
use Rattle.std.specs.Prelude.{◌<◌, ℤ, pos, neg_ℤ, ◌+ℤ◌, ◌-ℤ◌, ◌*ℤ◌, unsigned_abs, List, [], ◌∷◌, Result, Ok}
use Rattle.ss_words.specs.declared.fault.RunFault.{RunFault}
use Rattle.ss_program.specs.declared.variable.Variable.TheVariants.{Global, Local, Clock}
use Rattle.ss_program.specs.declared.op.Op.{Op}
use Rattle.ss_program.specs.declared.op.Op.TheVariants.{LoadConstant, LoadGlobal, LoadLocal, LoadClock, LoadAttribute}
use Rattle.ss_program.specs.declared.op.Op.TheVariants.{AddConstant, AddGlobal, AddLocal, AddScaledGlobal}
use Rattle.ss_program.specs.declared.op.Op.TheVariants.{AddScaledLocal, AddAttributeGlobal, AddAttributeLocal}
use Rattle.ss_program.specs.declared.op.Op.TheVariants.{SubtractConstant, SubtractGlobal, SubtractLocal}
use Rattle.ss_program.specs.declared.op.Op.TheVariants.{SubtractScaledGlobal, SubtractScaledLocal}
use Rattle.ss_program.specs.declared.op.Op.TheVariants.{SubtractAttributeGlobal, SubtractAttributeLocal}
use Rattle.ss_program.specs.declared.op.Op.TheVariants.{MultiplyConstant, MultiplyGlobal, MultiplyLocal}
use Rattle.ss_program.specs.declared.op.Op.TheVariants.{DivideConstant, RemainderConstant, Negate, Absolute}
use Rattle.ss_program.specs.ProgramSound.{Scope}
use Rattle.ss_store.specs.Store.{number_of, attribute_of}
use Rattle.ss_values.specs.Faults.{◌>>=◌}
use Rattle.ss_values.specs.Values.{Readings, result_in_range, variable_value, quotient_value, remainder_value}

-- the new value of the accumulator after an operation, or its fault
abbrev pub acted : Readings → Op → ℤ → Result ℤ RunFault
acted v (LoadConstant c) x = Ok c
acted v (LoadGlobal i) x = Ok (variable_value v (Global i))
acted v (LoadLocal i) x = Ok (variable_value v (Local i))
acted v LoadClock x = Ok (variable_value v Clock)
acted v (LoadAttribute c a) x = attribute_of v.store c a (number_of x)
acted v (AddConstant c) x = result_in_range (x +ℤ c)
acted v (AddGlobal i) x = result_in_range (x +ℤ variable_value v (Global i))
acted v (AddLocal i) x = result_in_range (x +ℤ variable_value v (Local i))
acted v (AddScaledGlobal c i) x =
    result_in_range (c *ℤ variable_value v (Global i)) >>= λ y. result_in_range (x +ℤ y)
acted v (AddScaledLocal c i) x =
    result_in_range (c *ℤ variable_value v (Local i)) >>= λ y. result_in_range (x +ℤ y)
acted v (AddAttributeGlobal c a i) x =
    attribute_of v.store c a (number_of (variable_value v (Global i))) >>= λ y. result_in_range (x +ℤ y)
acted v (AddAttributeLocal c a i) x =
    attribute_of v.store c a (number_of (variable_value v (Local i))) >>= λ y. result_in_range (x +ℤ y)
acted v (SubtractConstant c) x = result_in_range (x -ℤ c)
acted v (SubtractGlobal i) x = result_in_range (x -ℤ variable_value v (Global i))
acted v (SubtractLocal i) x = result_in_range (x -ℤ variable_value v (Local i))
acted v (SubtractScaledGlobal c i) x =
    result_in_range (c *ℤ variable_value v (Global i)) >>= λ y. result_in_range (x -ℤ y)
acted v (SubtractScaledLocal c i) x =
    result_in_range (c *ℤ variable_value v (Local i)) >>= λ y. result_in_range (x -ℤ y)
acted v (SubtractAttributeGlobal c a i) x =
    attribute_of v.store c a (number_of (variable_value v (Global i))) >>= λ y. result_in_range (x -ℤ y)
acted v (SubtractAttributeLocal c a i) x =
    attribute_of v.store c a (number_of (variable_value v (Local i))) >>= λ y. result_in_range (x -ℤ y)
acted v (MultiplyConstant c) x = result_in_range (x *ℤ c)
acted v (MultiplyGlobal i) x = result_in_range (x *ℤ variable_value v (Global i))
acted v (MultiplyLocal i) x = result_in_range (x *ℤ variable_value v (Local i))
acted v (DivideConstant c) x = quotient_value x c
acted v (RemainderConstant c) x = remainder_value x c
acted v Negate x = result_in_range (neg_ℤ x)
acted v Absolute x = result_in_range (pos (unsigned_abs x))

-- the new value of the accumulator after several operations in order, or the first fault
abbrev pub run : Readings → ℤ → List Op → Result ℤ RunFault
run v x [] = Ok x
run v x (op ∷ ops) = acted v op x >>= λ y. run v y ops

-- the variable of an operation is one of its table
abbrev pub IsSoundOp : Scope → Op → Type 0
IsSoundOp sc (LoadGlobal i) = i < sc.globals
IsSoundOp sc (AddGlobal i) = i < sc.globals
IsSoundOp sc (AddScaledGlobal c i) = i < sc.globals
IsSoundOp sc (AddAttributeGlobal c a i) = i < sc.globals
IsSoundOp sc (SubtractGlobal i) = i < sc.globals
IsSoundOp sc (SubtractScaledGlobal c i) = i < sc.globals
IsSoundOp sc (SubtractAttributeGlobal c a i) = i < sc.globals
IsSoundOp sc (MultiplyGlobal i) = i < sc.globals
IsSoundOp sc (LoadLocal i) = i < sc.locals
IsSoundOp sc (AddLocal i) = i < sc.locals
IsSoundOp sc (AddScaledLocal c i) = i < sc.locals
IsSoundOp sc (AddAttributeLocal c a i) = i < sc.locals
IsSoundOp sc (SubtractLocal i) = i < sc.locals
IsSoundOp sc (SubtractScaledLocal c i) = i < sc.locals
IsSoundOp sc (SubtractAttributeLocal c a i) = i < sc.locals
IsSoundOp sc (MultiplyLocal i) = i < sc.locals
IsSoundOp sc _ = Unit {0}
