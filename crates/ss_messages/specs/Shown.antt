-- The parts of a state that an editor shows, as they are written: frames, scopes, variables that
-- are many, and break points.
use Rattle.std.specs.Prelude.{ℕ, Bool, false, List, ◌++◌, codes, decimal, drop, if◌then◌else◌}
use Rattle.ss_messages.specs.Escapes.{quoted_bytes}
use Rattle.ss_messages.specs.Bodies.{source_text}
use Rattle.ss_messages.specs.Counting.{shown}
use Rattle.ss_messages.specs.declared.counting.Counting.{Counting}

-- a comma and a variable that refers to `count` others, which are requested a page at a time
unfoldable pub paged_item : List ℕ → List ℕ → ℕ → ℕ → List ℕ
paged_item name value reference count =
    codes ",{\"name\":" ++ quoted_bytes name ++ codes ",\"value\":" ++ quoted_bytes value
    ++ codes ",\"variablesReference\":" ++ decimal reference
    ++ codes ",\"indexedVariables\":" ++ decimal count ++ codes "}"

-- some frames, each after a comma, and the total number of frames
unfoldable pub frames_body : List ℕ → ℕ → List ℕ
frames_body items count =
    codes "{\"stackFrames\":[" ++ drop 1 items ++ codes "],\"totalFrames\":" ++ decimal count ++ codes "}"

-- a comma and a scope, and its reference
unfoldable pub scope_item : List ℕ → ℕ → List ℕ
scope_item name reference =
    codes ",{\"name\":" ++ quoted_bytes name ++ codes ",\"variablesReference\":" ++ decimal reference
    ++ codes ",\"expensive\":false}"

-- a comma and a word that may be written from a column on, in place of `count` characters
unfoldable pub target_item : List ℕ → ℕ → ℕ → List ℕ
target_item word start count =
    codes ",{\"label\":" ++ quoted_bytes word ++ codes ",\"start\":" ++ decimal start ++ codes ",\"length\":"
    ++ decimal count ++ codes "}"

-- a question that may be a data break point
unfoldable pub info_body : List ℕ → List ℕ
info_body text =
    codes "{\"dataId\":" ++ quoted_bytes text ++ codes ",\"description\":" ++ quoted_bytes text
    ++ codes ",\"accessTypes\":[\"write\"]}"

-- that there is none, and why
unfoldable pub no_info_body : List ℕ → List ℕ
no_info_body reason = codes "{\"dataId\":null,\"description\":" ++ quoted_bytes reason ++ codes "}"

-- a flag
abbrev pub bool_text : Bool → List ℕ
bool_text flag = if flag then codes "true" else codes "false"

-- the break point of this number, of which more may be said
unfoldable pub point_text : ℕ → Bool → List ℕ
point_text id is_verified =
    codes "{\"id\":" ++ decimal id ++ codes ",\"verified\":" ++ bool_text is_verified

-- breakpoint: one of this number is new on a line of the model; it is verified if a place is there
unfoldable pub new_point_body : ℕ → Bool → ℕ → List ℕ → Counting → List ℕ
new_point_body id is_verified line path counting =
    codes "{\"reason\":\"new\",\"breakpoint\":" ++ point_text id is_verified
    ++ codes ",\"line\":" ++ decimal (shown counting.lines_from_one line)
    ++ codes ",\"source\":" ++ source_text path ++ codes "}}"

-- breakpoint: the one of this number is set no more
unfoldable pub removed_point_body : ℕ → List ℕ
removed_point_body id = codes "{\"reason\":\"removed\",\"breakpoint\":" ++ point_text id false ++ codes "}}"
