use Rattle.std.proofs.Common.{refl}
use Rattle.ssdap.proofs.Openings.{no_model_is, no_data_is, launch_opens}
use Rattle.ssdap.proofs.adapter.open.Goals as goal

pub returns-in_default : goal.returns-in_default
returns-in_default g c =
    no_model_is _ _ _ _ _ _ _ _ (rw c.in_default.is at c.in_ok-model.ensures) c.in_ok-fail.ensures

pub returns-in_default-2 : goal.returns-in_default-2
returns-in_default-2 g c =
    no_data_is _ _ _ _ _ _ _ _ _ (rw c.in-Some.is at c.in_ok-model.ensures)
    (rw c.in_default-2.is at c.in_ok-text.ensures) c.in_ok-fail-2.ensures

pub returns : goal.returns
returns g c =
    launch_opens _ _ _ _ _ _ _ _ _ _ _ _ _ _ refl c.deref.ensures.value c.deref-2.ensures.value
    (rw c.in-Some.is at c.in_ok-model.ensures) (rw c.in-Some-2.is at c.in_ok-text.ensures)
    c.launch.ensures.run
