use Rattle.std.proofs.Common.{rules, ◌≡◌, ◌<◌, true, false, pos, length, take, get_or, nat_le, w64}
use Rattle.std.proofs.Common.{FitsSigned, to_z, of_z, ◌∙◌}
use Rattle.std.proofs.lemmas.Int.{to_z-of_z}
use Rattle.std.proofs.lemmas.Bool.{le-leb, lt-leb}
use Rattle.ss_machine.proofs.Locals.{few_set, few_back}
use Rattle.ss_state.proofs.Sets.{set_back}
use Rattle.ss_machine.proofs.state.locals.Locals.set.Goals as goal

pub returns-then-self-le-MOST_WITHIN-clause-state :
    goal.returns-then-self-le-MOST_WITHIN-clause-state
returns-then-self-le-MOST_WITHIN-clause-state c =
    let fits : FitsSigned w64 c.args.value = search rules in
    let few : nat_le c.self.inside.count 4 ≡ true = le-leb _ _ c.if-self-le-MOST_WITHIN.true in
    let is : take c.self.inside.count c.self.inside.few ≡ c.args.self.now = rw few at c.self.view_is in
    let there : c.args.number < length (take c.self.inside.count c.self.inside.few) = rw is c.requires in
    rw (to_z-of_z w64 _ fits, few, ← is)
    (few_set c.self.inside.count c.self.inside.few c.args.number c.args.value there)

pub returns-then-self-le-MOST_WITHIN-clause-back :
    goal.returns-then-self-le-MOST_WITHIN-clause-back
returns-then-self-le-MOST_WITHIN-clause-back c =
    let fits : FitsSigned w64 (get_or c.self.inside.few c.args.number (pos 0)) = search rules in
    let few : nat_le c.self.inside.count 4 ≡ true = le-leb _ _ c.if-self-le-MOST_WITHIN.true in
    let is : take c.self.inside.count c.self.inside.few ≡ c.args.self.now = rw few at c.self.view_is in
    let there : c.args.number < length (take c.self.inside.count c.self.inside.few) = rw is c.requires in
    rw (to_z-of_z w64 _ fits, few)
    (few_back c.self.inside.count c.self.inside.few c.args.number (to_z w64 (of_z w64 c.args.value)) there ∙ is)

pub returns-else-self-le-MOST_WITHIN-clause-back :
    goal.returns-else-self-le-MOST_WITHIN-clause-back
returns-else-self-le-MOST_WITHIN-clause-back c =
    let fits : FitsSigned w64 c.index-old.result.now = search rules in
    let many : nat_le c.self.inside.count 4 ≡ false = lt-leb _ _ c.if-self-le-MOST_WITHIN.false in
    let is : c.self.inside.many.items ≡ c.args.self.now = rw many at c.self.view_is in
    rw (to_z-of_z w64 _ fits, many, c.index-old.ensures)
    (set_back c.self.inside.many.items c.args.number (to_z w64 (of_z w64 c.args.value)) c.index-old.result.now ∙ is)
