use Rattle.std.proofs.Common.{◌≡◌, ◌++◌, ◌∷◌, [], ◌<◌, arith}
use Rattle.ss_reads.specs.Places.{attribute_read}
use Rattle.ss_reads.proofs.Notices.{more_attributes}
use Rattle.ss_reads.proofs.places.see_attributes.Goals as goal

pub loop-attribute-preserved : goal.loop-attribute-preserved
loop-attribute-preserved c =
    let a = c.loop-attribute.attribute in
    let below : a < c.args.given = omega arith in
    let more : c.see_attribute.new.reads.items
    ≡ c.loop-attribute.reads.items ++ attribute_read c.args.class c.args.notice a ∷ [] =
    c.in_ok-see_attribute.ensures in
    more_attributes c.args.class c.args.notice a c.args.given _ _ _ below more c.loop-attribute.invariant
