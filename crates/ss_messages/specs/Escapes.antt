-- Texts as JSON strings.
use Rattle.std.specs.Prelude.{ℕ, ◌+◌, ◌/◌, ◌%◌, ◌==◌, ◌||◌, List, [], ◌∷◌, ◌++◌}
use Rattle.std.specs.Prelude.{codes, flat_map, nat_lt, if◌then◌else◌}

-- a digit to base 16
abbrev pub hex_digit : ℕ → ℕ
hex_digit n = if nat_lt n 10 then 48 + n else 87 + n

-- a character below 256 by its number
abbrev pub escape : ℕ → List ℕ
escape b = codes "\\u00" ++ hex_digit (b / 16) ∷ hex_digit (b % 16) ∷ []

-- a byte in a string: a backslash precedes a `"` or a `\`; control characters have their numbers
abbrev pub escaped_byte : ℕ → List ℕ
escaped_byte b =
    if b == 34 || b == 92 then 92 ∷ b ∷ [] else
    if nat_lt b 32 then escape b else b ∷ []

-- the same byte in a string; bytes past ASCII are written by their numbers too
abbrev pub escaped_wide_byte : ℕ → List ℕ
escaped_wide_byte b = if nat_lt 126 b then escape b else escaped_byte b

-- a text in UTF-8 as a string
unfoldable pub quoted_text : List ℕ → List ℕ
quoted_text text = 34 ∷ flat_map escaped_byte text ++ 34 ∷ []

-- bytes as a string: those past ASCII are characters of their numbers
unfoldable pub quoted_bytes : List ℕ → List ℕ
quoted_bytes bytes = 34 ∷ flat_map escaped_wide_byte bytes ++ 34 ∷ []
