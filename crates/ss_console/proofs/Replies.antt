-- Whether a dialogue goes on after a reply.
use Rattle.std.proofs.Common.{◌≡◌, Bool, true, false, refl}
use Rattle.ss_console.specs.Going.{go_of}
use Rattle.ss_console.specs.Reply.{reply_ends}
use Rattle.ss_console.specs.declared.answerer.Go.{Go}
use Rattle.ss_console.specs.declared.reply.Reply.TheVariants.{Said}

pub ends_of_go : (go : Go) (ends : Bool) → go ≡ go_of ends → reply_ends (Said go) ≡ ends
ends_of_go go true e = rw e refl
ends_of_go go false e = rw e refl

-- a line that was refused does not end the dialogue
pub refused_goes_on : (ends : Bool) → (ends ≡ true → false ≡ true) → ends ≡ false
refused_goes_on true h = let e = h refl in absurd (cc)
refused_goes_on false h = refl
