use Rattle.std.proofs.Common.{true, ◌≤◌, ◌≡◌, ap, ◌∙◌, w64, to_z, of_z, length, ℕ, ℤ, List, subst}
use Rattle.ss_words.specs.Ranges.{in_range}
use Rattle.ss_events.specs.declared.limits.TheConstants.{MOST_SCHEDULINGS}
use Rattle.ss_events.specs.State.{AgendaState}
use Rattle.std.proofs.lemmas.Int.{to_z-of_z}
use Rattle.ss_events.proofs.Stands.{kept}
use Rattle.ss_events.proofs.Schedule.{stepped-can, stepped-went, no-slot, fits-range}
use Rattle.ss_events.proofs.agenda.Agenda.schedule.Goals as goal

pub put_in-requires : goal.put_in-requires
put_in-requires g c =
    let k = kept _ _ _ _ c.self.view_is c.self.invariant.0 in
    let same = c.in_ok-keys.ensures.items_if_clones_equal (λ x y e. e) in
    let idle = no-slot c.slot.result _ c.is_some.result c.slot.ensures c.is_some.ensures c.if-is_some.false in
    let time : to_z w64 (of_z w64 c.args.time) ≡ c.args.time = to_z-of_z w64 c.args.time c.ranges.time in
    let range : in_range (to_z w64 (of_z w64 c.args.time)) ≡ true =
    ap in_range time ∙ fits-range c.args.time c.ranges.time in
    stepped-can _ c.args.self.now c.give_seat.new.self c.file-filing.new.self _ c.args.notice (record {
      time = to_z
          w64 (of_z w64 c.args.time);
      class = c.args.class;
      keys = c.in_ok-keys.keys;
      filing = c.file-filing.result;
    }) k (record {
      first = c.in_ok-seated.ensures.ok.1;
      second = c.file-filing.ensures.state;
      filing = c.file-filing.ensures.number;
      idle = idle;
      class = c.requires.class;
      time = range;
      keys = ap (λ (l : List ℤ). length l) same ∙ c.requires.keys;
    })

pub returns : goal.returns
returns g c =
    let k = kept _ _ _ _ c.self.view_is c.self.invariant.0 in
    let same = c.in_ok-keys.ensures.items_if_clones_equal (λ x y e. e) in
    let idle = no-slot c.slot.result _ c.is_some.result c.slot.ensures c.is_some.ensures c.if-is_some.false in
    let time : to_z w64 (of_z w64 c.args.time) ≡ c.args.time = to_z-of_z w64 c.args.time c.ranges.time in
    let range : in_range (to_z w64 (of_z w64 c.args.time)) ≡ true =
    ap in_range time ∙ fits-range c.args.time c.ranges.time in
    let free = ap (λ (s : AgendaState). s.agenda.next_filing) c.self.view_is in
    let small : c.args.self.now.agenda.next_filing ≤ MOST_SCHEDULINGS =
    subst (λ (n : ℕ). n ≤ MOST_SCHEDULINGS) free c.if-self-gt-MOST_SCHEDULINGS.false in
    let clock : to_z w64 (of_z w64 c.args.clock) ≡ c.args.clock = to_z-of_z w64 c.args.clock c.ranges.clock in
    let late = rw (time, clock) at c.if-time-clock.false in
    stepped-went _ c.args.self.now c.give_seat.new.self c.file-filing.new.self c.put_in.new.self _ c.args.notice
    c.args.time c.args.clock c.args.keys.now (record {
      time = to_z w64 (of_z w64 c.args.time);
      class = c.args.class;
      keys = c.in_ok-keys.keys;
      filing = c.file-filing.result;
    }) c.in_ok-seated.seated k
    (record {
      first = c.in_ok-seated.ensures.ok.1;
      second = c.file-filing.ensures.state;
      filing = c.file-filing.ensures.number;
      idle = idle;
      class = c.requires.class;
      time = range;
      keys = ap (λ (l : List ℤ). length l) same ∙ c.requires.keys;
    }) c.requires.number late small time same c.in_ok-seated.ensures.ok.0 c.put_in.ensures
