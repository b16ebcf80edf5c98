use Rattle.std.proofs.Common.{◌≡◌, ◌<◌, false, length, sym, rules}
use Rattle.ss_store.specs.Store.{number_of}
use Rattle.ss_trace.specs.Told.{tells_set, set_place}
use Rattle.ss_trace.proofs.Telling.{sets_less}
use Rattle.ss_trace.proofs.told.tells_sets.Goals as goal

pub returns-then-not-tells_set : goal.returns-then-not-tells_set
returns-then-not-tells_set g c =
    let m = c.args.machine.now in
    let no :
    tells_set m.input.program m.state.store c.args.class (number_of c.args.x) c.args.numbers.now
    c.loop-set.set (set_place m.input.program c.args.class c.loop-set.set) ≡ false = search rules in
    let within : c.loop-set.set < length m.input.program.sets = search rules in
    let less =
    sets_less m.input.program m.state.store c.args.class (number_of c.args.x) c.args.numbers.now
    c.loop-set.set (length m.input.program.sets) within no in
    sym less
