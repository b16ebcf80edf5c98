use Rattle.std.proofs.Common.{◌≡◌, ◌++◌, drop, take, fold, map}
use Rattle.ssrun.specs.Measures.{sought_of, with_sought, measures_of, refusals_said, is_some_unmeasured}
use Rattle.ssrun.proofs.measures.read_measures.Given as goal

-- the measures and lines so far, with those of the texts left, are the ones of all texts
abbrev pub invariant-loop-text : goal.invariant-loop-text
invariant-loop-text l = record {
  asked : fold (λ ms text. with_sought ms (sought_of l.program l.symbols text)) l.measures.items
      (map (λ text. text.now) (drop l.text-index l.texts))
      ≡ measures_of l.program l.symbols (map (λ text. text.now) l.texts);
  said : l.lines.items ++ refusals_said l.program l.symbols (map (λ text. text.now) (drop l.text-index l.texts))
      ≡ refusals_said l.program l.symbols (map (λ text. text.now) l.texts);
  whole : l.is_refused
      ≡ is_some_unmeasured l.program l.symbols (map (λ text. text.now) (take l.text-index l.texts));
}
