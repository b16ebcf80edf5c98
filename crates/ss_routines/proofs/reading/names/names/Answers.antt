use Rattle.std.proofs.Common.{◌-◌}
use Rattle.std.proofs.lemmas.List.{map-id}
use Rattle.std.proofs.lemmas.Result.{err_from_is_err_and}
use Rattle.ss_words.specs.Marks.{a_name}
use Rattle.ss_words.proofs.Loop.{passes_on}
use Rattle.ss_routines.specs.SectionReading.{others_at}
use Rattle.ss_routines.proofs.NamesLoop.{fails_so, names_none, first_fails, others_fail, names_read}
use Rattle.ss_routines.proofs.reading.names.names.Goals as goal

pub returns-then-room-eq0-clause-exact : goal.returns-then-room-eq0-clause-exact
returns-then-room-eq0-clause-exact c =
    fails_so c.no_more_names.result c.args.cursor.now _
    (names_none c.args.room c.args.cursor.now c.no_more_names.result c.if-room-eq0.true c.no_more_names.ensures)

pub returns-in_err-first-clause-exact : goal.returns-in_err-first-clause-exact
returns-in_err-first-clause-exact c =
    let p = err_from_is_err_and c.from_residual.result c.from_residual.ensures.1 in
    rw (p.1, p.2) (passes_on c.in_err-first.field-0.0 c.name.new.self (a_name c.args.cursor.now) _
    (λ g h. first_fails c.args.room c.args.cursor.now c.if-room-eq0.false g c.name.new.self h)
    c.in_err-first.ensures.exact)

pub returns-in_err-others-clause-exact : goal.returns-in_err-others-clause-exact
returns-in_err-others-clause-exact c =
    let p = err_from_is_err_and c.from_residual-in_err-others.result c.from_residual-in_err-others.ensures.1 in
    rw (p.1, p.2) (passes_on c.in_err-others.field-0.0 c.other_names.new.cursor
    (others_at (c.args.room - 1) c.name.new.self) _
    (λ g h. others_fail c.args.room c.args.cursor.now c.if-room-eq0.false c.in_ok-first.first c.name.new.self
    c.in_ok-first.ensures.exact g c.other_names.new.cursor h) c.in_err-others.ensures.exact)

pub returns-clause-exact : goal.returns-clause-exact
returns-clause-exact c =
    rw (map-id c.in_ok-others.others.items) (names_read c.args.room c.args.cursor.now c.if-room-eq0.false
    c.in_ok-first.first c.name.new.self c.in_ok-first.ensures.exact c.in_ok-others.others.items c.other_names.new.cursor
    c.in_ok-others.ensures.exact)
