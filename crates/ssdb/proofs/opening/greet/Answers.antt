use Rattle.std.proofs.Common.{◌≡◌, ◌∙◌, sym, true}
use Rattle.ssdb.proofs.opening.greet.Goals as goal

pub returns-then-is_terminal-clause-ok : goal.returns-then-is_terminal-clause-ok
returns-then-is_terminal-clause-ok g c =
    let terminal : g.C.Console.terminal c.args.console.now ≡ true = sym c.is_terminal.ensures ∙ c.if-is_terminal.true in
    rw terminal c.put_greeting.ensures.ok
