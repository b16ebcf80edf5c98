-- The values that questions have in a state, and their texts.
use Rattle.std.specs.Prelude.{ℕ, ℤ, Bool, true, false, not, List, codes, bytes_eq, Option, Some, None}
use Rattle.std.specs.Ordering.{int_eq}
use Rattle.std.specs.Fmt.{signed_decimal}
use Rattle.ss_debug.specs.Entities.{members_text}

-- a value
pub data Value : Type 0 where
  -- that of an expression
  number : ℤ → Value
  -- whether a condition holds
  truth : Bool → Value
  -- the numbers of entities, as those of the members of a list
  members : List ℕ → Value

-- YES or NO
abbrev pub yes_or_no : Bool → List ℕ
yes_or_no true = codes "YES"
yes_or_no false = codes "NO"

-- the text of a value
abbrev pub text_of : Value → List ℕ
text_of (number x) = signed_decimal x
text_of (truth b) = yes_or_no b
text_of (members ks) = members_text ks

-- the text of a value, or that there is none
abbrev pub value_text : Option Value → List ℕ
value_text None = codes "NONE"
value_text (Some v) = text_of v

-- both hold, or neither does
abbrev pub are_alike : Bool → Bool → Bool
are_alike true b = b
are_alike false b = not b

-- two values are the same
abbrev pub is_same_value : Value → Value → Bool
is_same_value (number x) (number y) = int_eq x y
is_same_value (truth a) (truth b) = are_alike a b
is_same_value (members ks) (members ls) = bytes_eq ks ls
is_same_value _ _ = false

-- there is the same value, or none both times
abbrev pub is_same : Option Value → Option Value → Bool
is_same None None = true
is_same (Some v) (Some w) = is_same_value v w
is_same _ _ = false
