-- Changes of sets taken back.
use Rattle.std.proofs.Common.{◌≡◌, ℕ, refl, ◌∙◌, Option, Some, None}
use Rattle.std.specs.Option.{IsSome, ForNone, ForSome}
use Rattle.ss_program.specs.declared.kinds.Owner.{Owner}
use Rattle.ss_store.specs.declared.shape.SetShape.{SetShape}
use Rattle.ss_store.specs.Change.{FitsFiled, FitsRemoved}
use Rattle.ss_store.specs.Parts.{StoreParts, head_at, seat_at}
use Rattle.ss_store.specs.Value.{StoreValue}
use Rattle.ss_store.proofs.Calls.{Case}
use Rattle.ss_store.proofs.RemovalChanges.{Undoes, Behind, unfiles, refiles}

pub undoes : (g : StoreParts) (v : StoreValue) (set : ℕ) (rule : SetShape) → Case g v set rule → Undoes g v set rule
undoes g v set rule k = record { is = k.is; store = k.store; is_set = k.is_set; at = k.at }

-- an option that holds something
pub is_there : (o : Option ℕ) (t : ℕ) → o ≡ Some t → IsSome o
is_there o t e = rw e refl

-- the seat of the member that was filed
pub filed_seat : (g : StoreParts) (v : StoreValue) (set : ℕ) (rule : SetShape) (w : Owner) (n o x : ℕ) (q : Option ℕ)
    → Case g v set rule → FitsFiled v set w n o x → q ≡ seat_at g.rows rule x → IsSome q
filed_seat g v set rule w n o x q k f e = let u = unfiles g v set rule w n o x (undoes g v set rule k) f in
    is_there q u.t (e ∙ u.seat)

-- the head and the seat of the member that was removed
pub removed_head : (g : StoreParts) (v : StoreValue) (set : ℕ) (rule : SetShape) (w : Owner) (n o x : ℕ)
    (b q : Option ℕ)
    → Case g v set rule → FitsRemoved v set w n o x b → q ≡ head_at g.rows rule o → IsSome q
removed_head g v set rule w n o x b q k f e = let u = refiles g v set rule w n o x b (undoes g v set rule k) f in
    is_there q u.h (e ∙ u.head)

pub removed_seat : (g : StoreParts) (v : StoreValue) (set : ℕ) (rule : SetShape) (w : Owner) (n o x : ℕ)
    (b q : Option ℕ)
    → Case g v set rule → FitsRemoved v set w n o x b → q ≡ seat_at g.rows rule x → IsSome q
removed_seat g v set rule w n o x b q k f e = let u = refiles g v set rule w n o x b (undoes g v set rule k) f in
    is_there q u.t (e ∙ u.seat)

-- the seat that was looked up is that of the member before
pub behind : (g : StoreParts) (rule : SetShape) (b p : Option ℕ) → ForNone b (p ≡ None)
    → ForSome b (λ y. p ≡ seat_at g.rows rule y) → Behind g rule b p
behind g rule b p f h = record { none = f; some = h }
