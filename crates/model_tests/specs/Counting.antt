-- The meaning of a small answerer of lines, for the tests.
use Rattle.std.specs.Prelude.{ℕ, ◌≡◌, ◌+◌, ◌%◌, ◌^◌, ◌==◌, ◌||◌, Bool, List, [], ◌++◌, length, codes, decimal}
use Rattle.std.specs.Prelude.{bytes_eq}
use Rattle.std.specs.Prelude.{if◌then◌else◌}
use Rattle.ss_console.specs.Meaning.{Meaning}

-- QUIT ends the dialogue
abbrev pub is_quit : List ℕ → Bool
is_quit line = bytes_eq line (codes "QUIT")

-- QUIT and a line of no bytes have no answer
abbrev pub is_silent : List ℕ → Bool
is_silent line = is_quit line || length line == 0

-- its states are numbers of lines; a refusal of memory leaves it as it was
abbrev pub counter_meaning : Meaning
counter_meaning = record {
  State = ℕ;
  position = λ n. n;
  said = λ n line. if is_silent line then [] else decimal n ++ codes " " ++ line ++ codes "\n";
  next = λ n line. if is_silent line then n else (n + 1) % 2 ^ 64;
  ends = is_quit;
  refusal = λ n. codes "OUT OF MEMORY\n";
  MayBeLeft = λ n line after. after ≡ n;
}
