use Rattle.std.proofs.Common.{refl}
use Rattle.ss_console.specs.Dialogue.{answered, refused}
use Rattle.ss_console.proofs.Replies.{ends_of_go, refused_goes_on}
use Rattle.ss_console.proofs.dialogue.reply.Goals as goal

pub returns-in-Ok : goal.returns-in-Ok
returns-in-Ok g c = record {
  turn = answered c.args.line.now;
  line_is = refl;
  allowed = tt;
  state = c.in-Ok.ensures.place;
  text = rw c.clear.ensures.items at c.in-Ok.ensures.said;
  ends = ends_of_go _ _ c.in-Ok.ensures.go;
}

pub returns-in-Err : goal.returns-in-Err
returns-in-Err g c = record {
  turn = refused c.args.line.now (g.A.Answerer.state c.answer.new.self);
  line_is = refl;
  allowed = (c.in-Err.ensures.memory, refused_goes_on _ c.in-Err.ensures.quit);
  state = refl;
  text = refl;
  ends = refl;
}
