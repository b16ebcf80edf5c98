use Rattle.ss_check.proofs.rules.breach.check_whole.Goals as goal

pub check_statements-checked-requires : goal.check_statements-checked-requires
check_statements-checked-requires c = record { whole = c.requires; start = c.in_ok-before.ensures }

pub returns-clause-sound : goal.returns-clause-sound
returns-clause-sound c = c.check_statements-checked.ensures.sound

pub returns-clause-err : goal.returns-clause-err
returns-clause-err c = c.check_statements-checked.ensures.err
