-- The views of the values that the calls take and give.
use Rattle.std.specs.Prelude.{ℕ}
use Rattle.ss_events.specs.declared.pending_notice.PendingNotice.{PendingNotice}
use Rattle.ss_events.specs.declared.rule.ClassRule.{ClassRule}
use Rattle.ss_events.specs.Agenda.{Pending}
use Rattle.ss_events.specs.Rules.{Rule}

-- a class's rule
abbrev pub rule_of : ClassRule → Rule
rule_of rule = record { for_events = rule.for_events; priority = rule.priority; ties = rule.ties.items }

-- the pending notice with this reference and this entry
abbrev pub notice_of : ℕ → PendingNotice → Pending
notice_of n notice =
    record { notice = n; time = notice.time; class = notice.class; keys = notice.keys.items; filing = notice.filing }
