-- Definitions that laws unfold together.
use Rattle.std.specs.Prelude.{⊤}
use Rattle.std.specs.Fmt.{digits}
use Rattle.ss_inspect.specs.Frames.{calls_text, locals_text, globals_text}
use Rattle.ss_inspect.specs.Living.{living_text}
use Rattle.ss_inspect.specs.Attribute.{by_variable_text}
use Rattle.ss_inspect.specs.Lists.{places_text}
use Rattle.ss_inspect.specs.Tables.{classes_text, sets_text, sections_text}

-- all answers
unfoldable pub answers_together : ⊤
unfolding digits calls_text locals_text globals_text living_text by_variable_text places_text classes_text
    sets_text sections_text
answers_together = tt
