-- The time and class of a pending notice.
use Rattle.ss_events.specs.declared.agenda.Slot.{Slot}
use Rattle.ss_events.specs.Agenda.{Pending}

-- when a notice is due, and of which class it is
abbrev pub slot_of : Pending → Slot
slot_of notice = record { time = notice.time; class = notice.class }
