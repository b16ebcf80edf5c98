-- The event list, as an editor shows it.
use Rattle.std.specs.Prelude.{ℕ, List, [], ◌∷◌, ◌++◌, codes}
use Rattle.std.specs.Fmt.{signed_decimal}
use Rattle.ss_program.specs.Program.{ProgramTable}
use Rattle.ss_events.specs.declared.agenda.Slot.{Slot}
use Rattle.ss_events.specs.Rules.{rules_of}
use Rattle.ss_events.specs.Agenda.{Agenda, Pending, in_order}
use Rattle.ss_events.specs.Slots.{slot_of}
use Rattle.ss_messages.specs.Bodies.{variable_item}
use Rattle.ss_scopes.specs.References.{class_reference}
use Rattle.ss_scopes.specs.Entities.{entity_name}

-- a pending notice: its class and its number, and when it is due
abbrev pub notice_item : ProgramTable → ℕ → Slot → List ℕ
notice_item program notice slot =
    variable_item (entity_name program slot.class notice) (codes "AT " ++ signed_decimal slot.time)
    (class_reference slot.class notice)

-- some pending notices
abbrev pub notice_items : ProgramTable → List Pending → List ℕ
notice_items program [] = []
notice_items program (n ∷ ns) = notice_item program n.notice (slot_of n) ++ notice_items program ns

-- all of them, the next first
abbrev pub event_items : ProgramTable → Agenda → List ℕ
event_items program agenda = notice_items program (in_order (rules_of program) agenda)
