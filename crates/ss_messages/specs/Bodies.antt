-- The bodies of replies and events, as they are written.
use Rattle.std.specs.Prelude.{ℕ, ◌-◌, ◌==◌, List, [], ◌∷◌, ◌++◌, codes, decimal, drop, take, length, Option, Some, None}
use Rattle.std.specs.Prelude.{if◌then◌else◌}
use Rattle.ss_messages.specs.Escapes.{quoted_bytes, quoted_text}
use Rattle.ss_messages.specs.Counting.{shown}
use Rattle.ss_messages.specs.declared.counting.Counting.{Counting}

-- a text without the byte at its end, which is a line feed
abbrev pub without_last : List ℕ → List ℕ
without_last text = take (length text - 1) text

-- that it stopped at the break point of this number
unfoldable pub hit_at : ℕ → List ℕ
hit_at id = codes ",\"hitBreakpointIds\":[" ++ decimal id ++ codes "]"

-- the same text, if it stopped at a break point; else no text
unfoldable pub hit_text : Option ℕ → List ℕ
hit_text None = []
hit_text (Some id) = hit_at id

-- stopped: its reason, its description, and the number of the break point, if it was at one
unfoldable pub stopped_body : List ℕ → List ℕ → Option ℕ → List ℕ
stopped_body reason text hit =
    codes "{\"reason\":\"" ++ reason ++ codes "\",\"threadId\":1,\"allThreadsStopped\":true,\"description\":"
    ++ quoted_bytes text ++ hit_text hit ++ codes "}"

-- output to a stream of this name
unfoldable pub output_body : List ℕ → List ℕ → List ℕ
output_body category text =
    codes "{\"category\":\"" ++ category ++ codes "\",\"output\":" ++ quoted_bytes text ++ codes "}"

-- the value of an expression, as a text
unfoldable pub result_body : List ℕ → List ℕ
result_body text = codes "{\"result\":" ++ quoted_bytes text ++ codes ",\"variablesReference\":0}"

-- the content of a source
unfoldable pub content_body : List ℕ → List ℕ
content_body text = codes "{\"content\":" ++ quoted_bytes text ++ codes "}"

-- a fault, by its name and its sentence
unfoldable pub exception_body : List ℕ → List ℕ → List ℕ
exception_body name sentence =
    codes "{\"exceptionId\":" ++ quoted_bytes name ++ codes ",\"description\":" ++ quoted_bytes sentence
    ++ codes ",\"breakMode\":\"always\"}"

-- the bytes after the last slash of a text; if it has none, this name
unfoldable pub name_within : List ℕ → List ℕ → List ℕ
name_within name [] = name
name_within name (b ∷ rest) = if b == 47 then name_within rest rest else name_within name rest

-- the name of the file at a path: the bytes after its last slash
abbrev pub file_name : List ℕ → List ℕ
file_name path = name_within path path

-- the source at a path, which has the name of its file
unfoldable pub source_text : List ℕ → List ℕ
source_text path =
    codes "{\"name\":" ++ quoted_text (file_name path) ++ codes ",\"path\":" ++ quoted_text path ++ codes "}"

-- the model, by its path, and the report
unfoldable pub sources_body : List ℕ → List ℕ
sources_body path =
    codes "{\"sources\":[" ++ source_text path ++ codes ",{\"name\":\"report\",\"sourceReference\":1}]}"

-- some items, each after a comma, as the list that is the only member of an object
unfoldable pub list_body : List ℕ → List ℕ → List ℕ
list_body name items = codes "{\"" ++ name ++ codes "\":[" ++ drop 1 items ++ codes "]}"

-- a comma and a variable with its value, and the reference of its variables, or 0
unfoldable pub variable_item : List ℕ → List ℕ → ℕ → List ℕ
variable_item name value reference =
    codes ",{\"name\":" ++ quoted_bytes name ++ codes ",\"value\":" ++ quoted_bytes value
    ++ codes ",\"variablesReference\":" ++ decimal reference ++ codes "}"

-- a comma and a frame: its number, its section, and the start of its line of the model
unfoldable pub frame_item : ℕ → List ℕ → ℕ → List ℕ → Counting → List ℕ
frame_item n name line path counting =
    codes ",{\"id\":" ++ decimal n ++ codes ",\"name\":" ++ quoted_bytes name
    ++ codes ",\"line\":" ++ decimal (shown counting.lines_from_one line)
    ++ codes ",\"column\":" ++ decimal (shown counting.columns_from_one 1)
    ++ codes ",\"source\":" ++ source_text path ++ codes "}"

-- a comma and a break point of this number that is set on a line of the model
unfoldable pub set_item : ℕ → ℕ → Counting → List ℕ
set_item id line counting =
    codes ",{\"id\":" ++ decimal id
    ++ codes ",\"verified\":true,\"line\":" ++ decimal (shown counting.lines_from_one line) ++ codes "}"

-- a comma and a state as a target of goto: its number, its label, and its line for the editor
unfoldable pub state_item : ℕ → List ℕ → ℕ → List ℕ
state_item id label line =
    codes ",{\"id\":" ++ decimal id ++ codes ",\"label\":" ++ quoted_bytes label
    ++ codes ",\"line\":" ++ decimal line ++ codes "}"

-- a comma and a data break point of this number that is set
unfoldable pub watched_item : ℕ → List ℕ
watched_item id = codes ",{\"id\":" ++ decimal id ++ codes ",\"verified\":true}"

-- a comma and a break point that is not set, and why
unfoldable pub unset_item : List ℕ → List ℕ
unset_item reason = codes ",{\"verified\":false,\"message\":" ++ quoted_bytes reason ++ codes "}"
