-- Messages that follow others.
use Rattle.std.proofs.Common.{◌≡◌, List, [], ◌∷◌, ◌++◌, refl}
use Rattle.ss_messages.specs.declared.request.Request.{Request}
use Rattle.ss_messages.specs.Messages.{Sent, PostView, posted_with, posted_all}

-- some messages, and others after them
pub posted_both : (r : Request) (p : PostView) (ms ns : List Sent) →
    posted_all r p (ms ++ ns) ≡ posted_all r (posted_all r p ms) ns
unfolding posted_all
posted_both r p [] ns = refl
posted_both r p (m ∷ ms) ns = posted_both r (posted_with r p m) ms ns

-- one message
pub posted_one : (r : Request) (p : PostView) (m : Sent) → posted_all r p (m ∷ []) ≡ posted_with r p m
unfolding posted_all
posted_one r p m = refl
