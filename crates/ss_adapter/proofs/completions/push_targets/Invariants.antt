use Rattle.std.proofs.Common.{◌≡◌, ◌++◌, length, map}
use Rattle.ss_adapter.specs.Completions.{targets}
use Rattle.ss_adapter.proofs.completions.push_targets.Given as goal

abbrev pub invariant-loop-words : goal.invariant-loop-words
invariant-loop-words l =
    l.out.items ++ targets l.typed l.column (map (λ word. word.now) l.words)
    ≡ l.initial.out.items ++ targets l.typed l.column (map (λ word. word.now) l.initial.words)

abbrev pub decreases-loop-words : goal.decreases-loop-words
decreases-loop-words l = length l.words
