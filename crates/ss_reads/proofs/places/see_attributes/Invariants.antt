use Rattle.std.proofs.Common.{◌≡◌, ◌++◌, ◌-◌}
use Rattle.ss_reads.specs.Places.{attributes_reads}
use Rattle.ss_reads.proofs.places.see_attributes.Given as goal

-- the attributes that are left are missing
abbrev pub invariant-loop-attribute : goal.invariant-loop-attribute
invariant-loop-attribute l =
    l.reads.items ++ attributes_reads l.class l.notice l.attribute (l.given - l.attribute)
    ≡ l.initial.reads.items ++ attributes_reads l.class l.notice 0 l.given
