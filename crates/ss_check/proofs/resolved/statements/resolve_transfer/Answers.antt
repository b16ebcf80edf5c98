use Rattle.std.proofs.Common.{◌≡◌, refl}
use Rattle.ss_routines.specs.View.{expr_view, listing_view}
use Rattle.ss_routines.specs.declared.tree.simple.Listing.{Listing}
use Rattle.ss_routines.specs.declared.tree.simple.Listing.TheVariants.{Unwritten, BehindGiven, InParentheses}
use Rattle.ss_check.specs.Resolved.{resolved_listing}
use Rattle.ss_check.proofs.resolved.statements.resolve_transfer.Goals as goal

-- how a list is written does not depend on the parts that are listed
listing_same : {X A : Type 0} (f : X → A) (l : Listing X) →
    resolved_listing (listing_view (λ (x : X). x) l) ≡ resolved_listing (listing_view f l)
listing_same f Unwritten = refl
listing_same f (BehindGiven xs) = refl
listing_same f (InParentheses xs) = refl

pub returns-in_ok-new-in-Call : goal.returns-in_ok-new-in-Call
returns-in_ok-new-in-Call c =
    rw (
      c.in-Call.is,
      c.in_ok-new-in-Call.ensures,
      c.routine.ensures,
      c.bytes.ensures,
      c.in_ok-resolve_listed-in-Call.ensures,
      c.in_ok-resolve_targets-in-Call.ensures,
      c.deref.ensures.value,
      c.written_listing.ensures,
      listing_same expr_view c.in-Call.values,
    )
    refl
