use Rattle.std.proofs.Common.{sym, ap, ◌∙◌, w64, rules, None, Some, SFits}
use Rattle.std.specs.Option.{option_map}
use Rattle.std.proofs.lemmas.Int.{to_z-of_z}
use Rattle.ss_events.specs.State.{AgendaState}
use Rattle.ss_events.specs.Slots.{slot_of}
use Rattle.ss_events.proofs.RowLaws.{pending_of_row}
use Rattle.ss_events.proofs.agenda.Agenda.slot.Goals as goal

pub returns-in_err-entry : goal.returns-in_err-entry
returns-in_err-entry g c = c.from_residual.ensures ∙
    sym (ap (option_map slot_of) (pending_of_row _ _ c.args.notice None c.args.self.now.agenda.pending c.requires (ap
    (λ (s : AgendaState). s.agenda.pending) c.self.view_is) c.deref.ensures.value c.in_err-entry.ensures))

pub returns : goal.returns
returns g c =
    let fits : SFits w64 c.in_ok-entry.entry.now.time = search rules in
    simp to_z-of_z (sym (ap (option_map slot_of) (pending_of_row _ _ c.args.notice (Some c.in_ok-entry.entry.now)
    c.args.self.now.agenda.pending c.requires (ap (λ (s : AgendaState). s.agenda.pending) c.self.view_is)
    c.deref.ensures.value c.in_ok-entry.ensures)))
