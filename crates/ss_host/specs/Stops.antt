-- The reasons that stop a program before its work, and the exit status of each.
use Rattle.std.specs.Prelude.{◌≡◌, ℕ, List, [], Option, Some, None, codes}
use Rattle.std.specs.Borrow.{Bor}
use Rattle.ss_host.specs.declared.stop.Unread.{Unread}
use Rattle.ss_host.specs.declared.stop.Unread.TheVariants.{Missing, Forbidden, Folder, TooLong, Unknown}
use Rattle.ss_host.specs.declared.stop.Stop.{Stop}
use Rattle.ss_host.specs.declared.stop.Stop.TheVariants.{Usage, Memory, CannotRead, CannotWrite}

-- 1 for the words, 2 for a file or for the output, 5 for memory
abbrev pub stop_status : Stop → ℕ
stop_status Usage = 1
stop_status Memory = 5
stop_status (CannotRead path reason) = 2
stop_status CannotWrite = 2

-- the reasons that stop the reading of the words
abbrev pub IsOfWords : Stop → Type 0
IsOfWords Usage = Unit {0}
IsOfWords Memory = Unit {0}
IsOfWords (CannotRead path reason) = ⊥
IsOfWords CannotWrite = ⊥

-- the reasons that stop the reading of the file of a path: they name that path
abbrev pub IsOfFile : List ℕ → Stop → Type 0
IsOfFile path Usage = ⊥
IsOfFile path Memory = Unit {0}
IsOfFile path (CannotRead named reason) = named.now ≡ path
IsOfFile path CannotWrite = ⊥

-- a file that is not read: the very path is named
abbrev pub IsUnread : Bor (List ℕ) → Stop → Type 0
IsUnread path Usage = ⊥
IsUnread path Memory = ⊥
IsUnread path (CannotRead named reason) = named ≡ path
IsUnread path CannotWrite = ⊥

-- the reason in words, after those that say that the file cannot be read
abbrev pub unread_words : Unread → List ℕ
unread_words Missing = codes ": there is no such file"
unread_words Forbidden = codes ": it is not permitted"
unread_words Folder = codes ": it is a folder"
unread_words TooLong = codes ": it is over 64 MiB"
unread_words Unknown = []

-- the reasons that stop the reading of the file of an optional path: without a path, only memory
abbrev pub IsOfPath : Option (Bor (List ℕ)) → Stop → Type 0
IsOfPath (Some path) stop = IsOfFile path.now stop
IsOfPath None stop = stop ≡ Memory

-- the path that is named, or the text for none
abbrev pub path_or : Option (Bor (List ℕ)) → List ℕ → List ℕ
path_or (Some path) otherwise = path.now
path_or None otherwise = otherwise
