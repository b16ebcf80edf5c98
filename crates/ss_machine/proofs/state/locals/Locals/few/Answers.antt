use Rattle.std.proofs.Common.{◌≤◌, refl, length, nat_le, ◌∙◌}
use Rattle.ss_machine.specs.Locals.{values_by}
use Rattle.ss_machine.proofs.Locals.{few_are}
use Rattle.ss_machine.proofs.state.locals.Locals.few.Goals as goal

pub returns : goal.returns
returns c =
    let count = c.self.inside.count in
    let many = c.self.inside.many.items in
    let short : length (values_by (nat_le count 4) count c.self.inside.few many) ≤ 4 = rw c.self.view_is c.requires in
    few_are (nat_le count 4) count c.self.inside.few many refl c.self.invariant short ∙ c.self.view_is
