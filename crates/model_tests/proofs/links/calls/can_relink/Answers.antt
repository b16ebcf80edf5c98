use Rattle.std.proofs.Common.{◌≡◌, Some}
use Rattle.ss_links.specs.Board.{head_of}
use Rattle.ss_links.proofs.BoardLaws.{CanRelink-behind}
use Rattle.model_tests.proofs.links.calls.can_relink.Goals as goal

pub returns-in-Some : goal.returns-in-Some
returns-in-Some g c =
    let found : head_of (g.S.SetBoard.board c.args.board.now).lists c.in-Some.before ≡ Some c.args.place.head = cc in
    CanRelink-behind _ _ _ _ c.is_free.ensures.is_seat c.is_free.ensures.is_free c.in-Some.is found
