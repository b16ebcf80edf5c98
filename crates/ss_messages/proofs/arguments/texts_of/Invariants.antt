use Rattle.std.proofs.Common.{◌≡◌, take, map}
use Rattle.serde_json.specs.View.{view}
use Rattle.ss_messages.specs.Requests.{plain_text}
use Rattle.ss_messages.proofs.arguments.texts_of.Given as goal

abbrev pub invariant-loop-point : goal.invariant-loop-point
invariant-loop-point l =
    l.texts.items ≡ map (λ point. plain_text l.key (view point)) (take l.point-index l.points)
