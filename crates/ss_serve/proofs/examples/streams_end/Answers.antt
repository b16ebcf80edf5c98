use Rattle.std.proofs.Common.{refl}
use Rattle.ss_messages.specs.Frames.{head, length_in}
use Rattle.ss_serve.proofs.examples.streams_end.Goals as goal

pub returns-clause-head_cut : goal.returns-clause-head_cut
unfolding head length_in
returns-clause-head_cut c = refl

pub returns-clause-no_length : goal.returns-clause-no_length
unfolding head length_in
returns-clause-no_length c = refl
