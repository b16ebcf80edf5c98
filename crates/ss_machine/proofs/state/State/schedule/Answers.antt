use Rattle.std.proofs.Common.{◌≡◌, rules, w64, FitsSigned, to_z, of_z}
use Rattle.std.specs.Prelude.{reverse}
use Rattle.std.proofs.lemmas.Int.{to_z-of_z}
use Rattle.ss_state.specs.Held.{Held}
use Rattle.ss_machine.proofs.Storings.{noticed, scheduling_both}
use Rattle.ss_machine.proofs.state.State.schedule.Goals as goal

pub returns : goal.returns
returns g c =
    let i = c.self.inside in
    let h : Held = record {
      state = record {
        variables = i.variables.items;
        frame = i.frame;
        below = reverse i.below.items;
        clock = i.clock;
        store = i.store.state;
        agenda = i.agenda.agenda;
        feed = i.feed;
        report = i.report;
        status = i.status;
        entry = i.entry;
      };
      beside =
          record { tables = i.store.tables; kept = i.store.kept; rules = i.agenda.rules; notices = i.agenda.notices };
    } in
    let time : FitsSigned w64 c.args.time = search rules in
    let clock : FitsSigned w64 c.self.inside.clock = search rules in
    let e : to_z w64 (of_z w64 c.args.time) ≡ c.args.time = to_z-of_z w64 _ time in
    let f : to_z w64 (of_z w64 c.self.inside.clock) ≡ c.self.inside.clock = to_z-of_z w64 _ clock in
    let r : c.match-schedule.result ≡ noticed c.schedule.result = search rules in
    rw (← c.self.view_is, r)
    (scheduling_both c.schedule.result c.args.class c.args.notice c.args.time c.args.keys.now h c.schedule.new.self
    (rw (e, f) at c.schedule.ensures))
