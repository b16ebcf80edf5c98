-- No vector has 2^63 elements.
use Rattle.std.proofs.Common.{◌<◌, ◌^◌, List, [], ◌∷◌, length, arith}
use Rattle.std.specs.Prelude.{map}
use Rattle.std.proofs.lemmas.List.{length-map}
use Rattle.std.proofs.lemmas.List.Elements.{All-nil, All-cons}
use Rattle.ss_routines.specs.declared.tree.section.Section.{Section as CodeSection}
use Rattle.ss_routines.specs.Places.{Section}
use Rattle.ss_routines.specs.View.{section_view, spot_view}
use Rattle.ss_check.specs.Readable.{AreFew}

few_places : (s : CodeSection) → length (section_view s).places < 2 ^ 63
few_places s = rw (length-map s.places.items spot_view) (omega (arith, s.places.ok, s.places.small))

-- sections of the code have places that memory has
pub few_sections : (ss : List CodeSection) → AreFew (map section_view ss)
few_sections [] = All-nil (λ (q : Section). length q.places < 2 ^ 63)
few_sections (s ∷ ss) =
    All-cons (λ (q : Section). length q.places < 2 ^ 63) (section_view s) (map section_view ss) (few_places s)
    (few_sections ss)
