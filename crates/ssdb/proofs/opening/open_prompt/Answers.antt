use Rattle.std.proofs.Common.{map}
use Rattle.std.proofs.lemmas.Result.{IfOk-weaker, IfErr-weaker}
use Rattle.ssdb.specs.Opening.{IsStart}
use Rattle.ssdb.proofs.Openings.{starts, held, stopped}
use Rattle.ssdb.proofs.opening.open_prompt.Goals as goal

pub returns-in-Ok-clause-ok : goal.returns-in-Ok-clause-ok
returns-in-Ok-clause-ok g c =
    let start : IsStart c.args.model.now c.args.data_text.now c.new-prompt.result =
    starts c.args.model.now c.args.data_text.now c.in-Ok.opened.debugger (map (λ l. l.now) c.in_ok-lines.lines.items)
    c.in-Ok.opened.symbols c.new-prompt.result c.new-prompt.ensures c.in-Ok.ensures.symbols c.in-Ok.ensures.input c.in-Ok.ensures.start
    c.in_ok-lines.ensures in
    IfOk-weaker c.greet_and_hold.result _ _
    (λ it h. held c.args.model.now c.args.data_text.now c.new-prompt.result _ it.end _ start h)
    c.greet_and_hold.ensures.ok

pub returns-in-Ok-clause-err : goal.returns-in-Ok-clause-err
returns-in-Ok-clause-err g c =
    let start : IsStart c.args.model.now c.args.data_text.now c.new-prompt.result =
    starts c.args.model.now c.args.data_text.now c.in-Ok.opened.debugger (map (λ l. l.now) c.in_ok-lines.lines.items)
    c.in-Ok.opened.symbols c.new-prompt.result c.new-prompt.ensures c.in-Ok.ensures.symbols c.in-Ok.ensures.input c.in-Ok.ensures.start
    c.in_ok-lines.ensures in
    IfErr-weaker c.greet_and_hold.result _ _
    (λ fault h. stopped c.args.model.now c.args.data_text.now c.new-prompt.result _ fault start h)
    c.greet_and_hold.ensures.err
