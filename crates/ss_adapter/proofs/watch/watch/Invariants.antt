use Rattle.std.proofs.Common.{◌≡◌, drop, fold}
use Rattle.ss_adapter.specs.Watch.{with_watched, watching_of}
use Rattle.ss_adapter.proofs.watch.watch.Given as goal

-- the watching so far, with the questions that are left, is the watching of all questions
abbrev pub invariant-loop-id : goal.invariant-loop-id
invariant-loop-id l =
    fold (with_watched l.program) (record { watched = l.watched.items; text = l.text.items }) (drop l.id-index l.ids)
    ≡ watching_of l.program l.ids
