-- Lines of a text as they are quoted: after their number, and a caret below them.
use Rattle.std.specs.Prelude.{ℕ, ◌-◌, ◌==◌, List, [], ◌++◌, map, take, codes, decimal}
use Rattle.std.specs.Prelude.{Option, Some, None, if◌then◌else◌}
use Rattle.ss_words.specs.declared.characters.TheConstants.{BLANK, TAB}
use Rattle.ss_words.specs.TextBytes.{is_allowed}
use Rattle.ss_columns.specs.Columns.{line_of}
use Rattle.ss_columns.specs.declared.quotes.TheConstants.{UNSHOWN}

-- a blank; a tab for a tab
abbrev pub blank_of : ℕ → ℕ
blank_of b = if b == TAB then TAB else BLANK

-- a byte as it is shown: itself if it may be in a line, and else a question mark
abbrev pub shown_byte : ℕ → ℕ
shown_byte b = if is_allowed b then b else UNSHOWN

-- some bytes as they are shown
abbrev pub shown : List ℕ → List ℕ
shown bytes = map shown_byte bytes

-- a caret after blanks as wide as a mark and the bytes before it
abbrev pub caret_text : List ℕ → List ℕ → List ℕ
caret_text mark before = map blank_of mark ++ map blank_of before ++ codes "^\n"

-- the caret at a column, if there is one
abbrev pub caret_at : List ℕ → List ℕ → Option ℕ → List ℕ
caret_at mark line None = []
caret_at mark line (Some c) = caret_text mark (take (c - 1) line)

-- a line of a text after its number, and below it a caret at a column
abbrev pub source_text : List ℕ → ℕ → Option ℕ → List ℕ
source_text model line column =
    let mark = decimal line ++ codes "> " in
    let bytes = line_of model line in
    mark ++ shown bytes ++ codes "\n" ++ caret_at mark bytes column
