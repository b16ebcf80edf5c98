-- The limit of filing numbers.
use Rattle.std.proofs.Common.{◌≡◌, ◌≤◌, ltb, true, false, refl, arith}
use Rattle.std.proofs.lemmas.Bool.Decides.{nat_tests}
use Rattle.ss_events.specs.declared.limits.TheConstants.{MOST_SCHEDULINGS}
use Rattle.ss_events.specs.Laws.{LastNumberIsGiven, NoneBehindTheLast, FilingNumbersEnd}
use Rattle.ss_events.specs.State.{IsWellNotice}
use Rattle.ss_events.proofs.OrderLaws.{Each-map}

pub last-given : LastNumberIsGiven
last-given a k time clock late idle last =
    let free : ltb MOST_SCHEDULINGS a.next_filing ≡ false = grind (arith, nat_tests, last) in
    rw (late, idle, free) refl

pub none-behind : NoneBehindTheLast
none-behind a k time clock late idle last =
    let past : ltb MOST_SCHEDULINGS a.next_filing ≡ true = grind (arith, nat_tests, last) in
    rw (late, idle, past) refl

pub numbers-end : FilingNumbersEnd
numbers-end rules a w = Each-map (IsWellNotice rules a.next_filing) (λ e. e.filing ≤ MOST_SCHEDULINGS) (λ e p. omega (
  arith,
  p.filing,
  w.limit,
)) a.pending w.notices
