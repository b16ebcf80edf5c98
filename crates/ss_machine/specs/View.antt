-- Private: the values that the types of the code represent.
use Rattle.std.specs.Prelude.{◌≡◌}
use Rattle.std.proofs.Common.{refl}
use Rattle.ss_machine.specs.declared.state.loops.Walk.{Walk as CodeWalk}
use Rattle.ss_machine.specs.declared.state.loops.Walk.TheVariants as walks
use Rattle.ss_machine.specs.declared.statements.looping.verdict.Verdict.{Verdict as CodeVerdict}
use Rattle.ss_machine.specs.declared.statements.looping.verdict.Verdict.TheVariants as verdicts
use Rattle.ss_state.specs.Loops.{Walk, Numbers, Members, Verdict, Runs, Passes, Closes}

-- the values or members that a loop goes through, from the code's form
abbrev pub as_walk : CodeWalk → Walk
as_walk (walks.Numbers direction last step) = Numbers direction last step
as_walk (walks.Members direction set owner) = Members direction set owner

-- the code's form of a walk
abbrev pub code_walk : Walk → CodeWalk
code_walk (Numbers direction last step) = walks.Numbers direction last step
code_walk (Members direction set owner) = walks.Members direction set owner

-- a walk has one form in the code
pub code_walk_is : (w : CodeWalk) → code_walk (as_walk w) ≡ w
code_walk_is (walks.Numbers direction last step) = refl
code_walk_is (walks.Members direction set owner) = refl

-- the verdict of qualifiers on a candidate, from the code's form
abbrev pub as_verdict : CodeVerdict → Verdict
as_verdict verdicts.Runs = Runs
as_verdict verdicts.Passes = Passes
as_verdict verdicts.Closes = Closes
