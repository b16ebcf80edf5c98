use Rattle.std.proofs.Common.{◌≡◌, ◌∙◌, ap, sym, false, List}
use Rattle.std.specs.Prelude.{is_some}
use Rattle.ss_names.specs.Meanings.{Declaration, declaration_at, declared_as}
use Rattle.std.proofs.Common.{map}
use Rattle.ss_names.proofs.RowPlaces.{names_more}
use Rattle.ss_names.proofs.declarations.Declarations.add.Goals as goal

pub invariant_of-self-2 : goal.invariant_of-self-2
invariant_of-self-2 c =
    let new : is_some (declared_as (map declaration_at c.self.inside.rows.items) c.args.row.name.now) ≡ false =
    ap (λ (ds : List Declaration). is_some (declared_as ds c.args.row.name.now)) c.self.view_is
    ∙ sym c.has.ensures ∙ c.if-has.false in
    rw (c.push_reserved.ensures.items, c.reserve.ensures.items)
    (names_more c.self.inside.rows.items c.args.row c.self.inside.names c.add.new.self c.self.invariant new
    c.in_ok-add.ensures.ok)
