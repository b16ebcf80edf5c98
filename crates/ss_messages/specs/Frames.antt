-- The messages of a stream.
use Rattle.std.specs.Prelude.{ℕ, ◌≡◌, ◌+◌, ◌*◌, ◌-◌, ◌&&◌, ◌==◌, Bool, List, [], ◌∷◌, ◌++◌}
use Rattle.std.specs.Prelude.{codes, length, take, drop, nat_lt, nat_le, if◌then◌else◌}
use Rattle.std.specs.Prelude.{Option, Some, None}
use Rattle.std.specs.Option.{option_or}
use Rattle.std.specs.Str.{bytes_eq}
use Rattle.std.specs.Io.KnownBytes.{Consumes, IsAtEnd}
use Rattle.ss_messages.specs.declared.frame.TheConstants.{LONGEST_MESSAGE, LONGEST_LINE}

-- the beginning of a stream's bytes: a message with a body, and the bytes after it; or no byte is
-- left; or they end within a message; or no message
pub data Reading : Type 0 where
  message : List ℕ → List ℕ → Reading
  ended : Reading
  cut : Reading
  malformed : Reading

-- the number of these digits after the digits of n, if it is no longer than a body may be
abbrev pub number_from : ℕ → List ℕ → Option ℕ
number_from n [] = Some n
number_from n (b ∷ bs) =
    if nat_le 48 b && nat_le b 57 && nat_le (10 * n + (b - 48)) LONGEST_MESSAGE then number_from (10 * n + (b - 48)) bs
    else None

-- the number that some digits say
abbrev pub number_in : List ℕ → Option ℕ
number_in digits = if length digits == 0 then None else number_from 0 digits

-- a line without the carriage return at its end
abbrev pub without_return : List ℕ → List ℕ
without_return line =
    if bytes_eq (drop (length line - 1) line) (13 ∷ []) then take (length line - 1) line else line

-- the length that a line of a head says
unfoldable pub length_in : List ℕ → Option ℕ
length_in line =
    if bytes_eq (take 16 (without_return line)) (codes "Content-Length: ")
    then number_in (drop 16 (without_return line)) else None

-- the length that the lines so far say, and one more: the first that says one counts
abbrev pub length_so_far : Option ℕ → List ℕ → Option ℕ
length_so_far said line = option_or said (length_in line)

-- the line that ends a head
abbrev pub is_blank : List ℕ → Bool
is_blank line = length (without_return line) == 0

-- the body after a head
abbrev pub body : Option ℕ → List ℕ → Reading
body None bytes = malformed
body (Some n) bytes = if nat_lt (length bytes) n then cut else message (take n bytes) (drop n bytes)

-- a head of which this length is said, and this much of a line read
unfoldable pub head : Option ℕ → List ℕ → List ℕ → Reading
head said line [] = cut
head said line (b ∷ bytes) =
    if b == 10 then (if is_blank line then body said bytes else head (length_so_far said line) [] bytes) else
    if nat_lt (length line) LONGEST_LINE then head said (line ++ b ∷ []) bytes else malformed

-- the beginning of a stream
abbrev pub first_message : List ℕ → Reading
first_message [] = ended
first_message (b ∷ bytes) = head None [] (b ∷ bytes)

-- a stream with known bytes began with a message of this body, or was at its end
abbrev pub IsRead : Option (List ℕ) → Option (List ℕ) → Option (List ℕ) → Type 0
IsRead None old new = (text : List ℕ) → old ≡ Some text → first_message text ≡ ended
IsRead (Some bytes) old new =
    (text : List ℕ) → old ≡ Some text →
    (rest : List ℕ) × (new ≡ Some rest) × (first_message text ≡ message bytes rest)

-- a stream with known bytes began with no message
abbrev pub IsMalformed : Option (List ℕ) → Type 0
IsMalformed old = (text : List ℕ) → old ≡ Some text → first_message text ≡ malformed

-- the first message of a text: its body and the bytes after it; or the text is empty
abbrev pub IsSplit : List ℕ → Option (List ℕ × List ℕ) → Type 0
IsSplit text None = text ≡ []
IsSplit text (Some (bytes, rest)) = first_message text ≡ message bytes rest

-- a byte was read, or the stream was at its end
abbrev pub IsByte : Option ℕ → Option (List ℕ) → Option (List ℕ) → Type 0
IsByte None old new = Consumes old new [] × IsAtEnd new
IsByte (Some b) old new = Consumes old new (b ∷ [])

-- if the bytes are known: a head of length n is read, and the bytes after it are left
abbrev pub HasLength : Option (List ℕ) → Option (List ℕ) → ℕ → ℕ → Type 0
HasLength old new first n =
    (text : List ℕ) → old ≡ Some text →
    (rest : List ℕ) × (new ≡ Some rest) × (head None [] (first ∷ text) ≡ body (Some n) rest)

-- no message begins with this byte and the bytes that are left
abbrev pub HasNoLength : Option (List ℕ) → ℕ → Type 0
HasNoLength old first = (text : List ℕ) → old ≡ Some text → head None [] (first ∷ text) ≡ malformed

-- a head continues after a byte, or ends with a length
abbrev pub GoesOn : Option ℕ → Option ℕ → List ℕ → ℕ → Option ℕ → List ℕ → Type 0
GoesOn None said line b new more = (rest : List ℕ) → head said line (b ∷ rest) ≡ head new more rest
GoesOn (Some n) said line b new more = (rest : List ℕ) → head said line (b ∷ rest) ≡ body (Some n) rest

-- no head goes on with this byte
abbrev pub IsNoHead : Option ℕ → List ℕ → ℕ → Type 0
IsNoHead said line b = (rest : List ℕ) → head said line (b ∷ rest) ≡ malformed
