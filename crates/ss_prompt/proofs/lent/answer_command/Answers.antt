use Rattle.std.proofs.Common.{◌≡◌}
use Rattle.ss_prompt.specs.PromptState.{state_at}
use Rattle.ss_prompt.specs.Prompting.{prompt_state_after}
use Rattle.ss_prompt.proofs.Desks.{IsDeskOf, IsBare, taken, given, bare_still, still_bare}
use Rattle.ss_prompt.proofs.Desks.{lent_is, lent_as, obeyed_so, refused_so}
use Rattle.ss_prompt.proofs.lent.answer_command.Goals as goal

pub returns-clause-place : goal.returns-clause-place
returns-clause-place g c =
    let m = c.args.model in
    let before : IsDeskOf m.text.now m.symbols.now c.args.displays.now.items c.swap_displays.new.self =
    taken _ _ _ _ _ _ c.new-desk.ensures c.swap_displays.ensures.taken c.in_ok-lines.ensures in
    let none : IsBare c.swap_displays.new.self =
    bare_still _ _ _ _ _ _ c.new-desk.ensures c.swap_displays.ensures.taken in
    let after : IsDeskOf m.text.now m.symbols.now c.swap_displays-2.new.displays.items c.obey-obeyed.new.self =
    given _ _ _ _ _ _ before c.obey-obeyed.ensures.model c.obey-obeyed.ensures.lines c.obey-obeyed.ensures.data_text
    c.obey-obeyed.ensures.symbols c.swap_displays-2.ensures.given in
    rw (lent_is c.args.debugger.now _ _ _ _ before none, lent_as c.obey-obeyed.new.debugger _ _ _ _ after)
    (obeyed_so c.obey-obeyed.result (state_at c.obey-obeyed.new.debugger c.obey-obeyed.new.self)
    (prompt_state_after (state_at c.args.debugger.now c.swap_displays.new.self) c.args.command)
    c.obey-obeyed.ensures.place)

pub returns-clause-memory : goal.returns-clause-memory
returns-clause-memory g c =
    let m = c.args.model in
    let before : IsDeskOf m.text.now m.symbols.now c.args.displays.now.items c.swap_displays.new.self =
    taken _ _ _ _ _ _ c.new-desk.ensures c.swap_displays.ensures.taken c.in_ok-lines.ensures in
    let none : IsBare c.swap_displays.new.self =
    bare_still _ _ _ _ _ _ c.new-desk.ensures c.swap_displays.ensures.taken in
    let after : IsDeskOf m.text.now m.symbols.now c.swap_displays-2.new.displays.items c.obey-obeyed.new.self =
    given _ _ _ _ _ _ before c.obey-obeyed.ensures.model c.obey-obeyed.ensures.lines c.obey-obeyed.ensures.data_text
    c.obey-obeyed.ensures.symbols c.swap_displays-2.ensures.given in
    rw (lent_is c.args.debugger.now _ _ _ _ before none)
    (refused_so _ c.obey-obeyed.result (state_at c.args.debugger.now c.swap_displays.new.self) c.args.command
    c.obey-obeyed.new.debugger m.text.now m.symbols.now c.swap_displays-2.new.displays.items c.obey-obeyed.new.self
    after
    (still_bare c.obey-obeyed.result c.swap_displays.new.self c.obey-obeyed.new.self none
    c.obey-obeyed.ensures.listed c.obey-obeyed.ensures.left) c.obey-obeyed.ensures.memory)
