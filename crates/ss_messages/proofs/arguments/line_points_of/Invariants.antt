use Rattle.std.proofs.Common.{◌≡◌, take, map}
use Rattle.serde_json.specs.View.{view}
use Rattle.ss_messages.specs.Requests.{line_point_of}
use Rattle.ss_messages.proofs.arguments.line_points_of.Given as goal

abbrev pub invariant-loop-point : goal.invariant-loop-point
invariant-loop-point l =
    l.found.items ≡ map (λ point. line_point_of (view point)) (take l.point-index l.points)
