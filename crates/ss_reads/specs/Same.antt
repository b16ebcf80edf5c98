-- Whether two parts are the same.
use Rattle.std.specs.Prelude.{ℕ, ◌==◌, ◌&&◌, Bool, true, false, List, bytes_eq}
use Rattle.std.specs.List.{list_any}
use Rattle.std.specs.Ordering.{int_eq}
use Rattle.ss_words.specs.declared.terms.OwnerKept.{OwnerKept}
use Rattle.ss_words.specs.declared.terms.OwnerKept.TheVariants as owners
use Rattle.ss_words.specs.declared.terms.MemberKept.{MemberKept}
use Rattle.ss_words.specs.declared.terms.MemberKept.TheVariants as members
use Rattle.ss_program.specs.declared.variable.Variable.{Variable as AVariable}
use Rattle.ss_program.specs.declared.variable.Variable.TheVariants.{Global, Local, Clock}
use Rattle.ss_reads.specs.declared.part.Item.{Item}
use Rattle.ss_reads.specs.declared.part.Item.TheVariants as items
use Rattle.ss_reads.specs.declared.part.Part.{Part as APart}
use Rattle.ss_reads.specs.declared.part.Part.TheVariants.{Variable, Of}
use Rattle.ss_reads.specs.declared.read.Read.{Read}
use Rattle.ss_reads.specs.declared.read.Read.TheVariants.{Part, Unvalued}

-- two variables
abbrev pub is_same_variable : AVariable → AVariable → Bool
is_same_variable (Global i) (Global j) = i == j
is_same_variable (Local i) (Local j) = i == j
is_same_variable Clock Clock = true
is_same_variable _ _ = false

-- two attributes that sets keep of their owners
abbrev pub is_same_owner_kept : OwnerKept → OwnerKept → Bool
is_same_owner_kept owners.First owners.First = true
is_same_owner_kept owners.Last owners.Last = true
is_same_owner_kept owners.Count owners.Count = true
is_same_owner_kept _ _ = false

-- two attributes that sets keep of their members
abbrev pub is_same_member_kept : MemberKept → MemberKept → Bool
is_same_member_kept members.Predecessor members.Predecessor = true
is_same_member_kept members.Successor members.Successor = true
is_same_member_kept members.Membership members.Membership = true
is_same_member_kept _ _ = false

-- two items
abbrev pub is_same_item : Item → Item → Bool
is_same_item (items.Attribute c a) (items.Attribute d b) = c == d && a == b
is_same_item (items.OwnerKept kept s) (items.OwnerKept other t) = is_same_owner_kept kept other && s == t
is_same_item (items.MemberKept kept s) (items.MemberKept other t) = is_same_member_kept kept other && s == t
is_same_item (items.Members s) (items.Members t) = s == t
is_same_item _ _ = false

-- two parts
abbrev pub is_same_part : APart → APart → Bool
is_same_part (Variable x) (Variable y) = is_same_variable x y
is_same_part (Of item x) (Of other y) = is_same_item item other && int_eq x y
is_same_part _ _ = false

-- two things that a statement looks at: parts, or references of one text; a candidate and a notice are there once
abbrev pub is_same_read : Read → Read → Bool
is_same_read (Part p) (Part q) = is_same_part p q
is_same_read (Unvalued s) (Unvalued t) = bytes_eq s t
is_same_read _ _ = false

-- whether one of some is this one
abbrev pub is_among : List Read → Read → Bool
is_among reads read = list_any (λ other. is_same_read read other) reads
