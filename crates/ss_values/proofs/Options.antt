-- Properties of the value in an option, if there is one.
use Rattle.std.proofs.Common.{◌≡◌, subst}
use Rattle.std.specs.Prelude.{Option, Some, None, IfSome, option_map, option_and_then}

-- of one and then another
pub then_holds : {A B : Type 0} (P : A → Type 0) (Q : B → Type 0) (f : A → Option B) (o : Option A)
    → IfSome o P → ((a : A) → P a → IfSome (f a) Q) → IfSome (option_and_then f o) Q
then_holds P Q f (Some a) holds next = next a holds
then_holds P Q f None holds next = tt

-- of the value of a function of it
pub map_holds : {A B : Type 0} (P : A → Type 0) (Q : B → Type 0) (f : A → B) (o : Option A)
    → IfSome o P → ((a : A) → P a → Q (f a)) → IfSome (option_map f o) Q
map_holds P Q f (Some a) holds next = next a holds
map_holds P Q f None holds next = tt

-- nothing is said of it
pub always : {A : Type 0} (o : Option A) → IfSome o (λ a. Unit {0})
always (Some a) = tt
always None = tt

-- of the value that the option is known to have
pub is_held : {A : Type 0} (P : A → Type 0) {a : A} (o : Option A) → IfSome o P → o ≡ Some a → P a
is_held P o holds is = subst (λ q. IfSome q P) is holds
