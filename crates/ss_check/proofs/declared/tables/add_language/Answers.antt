use Rattle.std.proofs.Common.{append_assoc}
use Rattle.ss_check.proofs.declared.tables.add_language.Goals as goal

pub returns : goal.returns
returns c =
    let all = rw (
      c.in_ok-add-5.ensures.ok,
      c.in_ok-add-4.ensures.ok,
      c.in_ok-add-3.ensures.ok,
      c.in_ok-add-2.ensures.ok,
      c.in_ok-add.ensures.ok,
    ) at
    c.add-6.ensures.ok in
    simp append_assoc at all
