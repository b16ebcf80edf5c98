-- Values that did not fit their fields.
use Rattle.std.specs.Prelude.{ℕ, ◌-◌, ◌&&◌, Bool, not, List, length, nat_eq, nat_lt, get_or, count_by, codes}
use Rattle.std.specs.Prelude.{if◌then◌else◌}
use Rattle.std.specs.List.{range_with_len}

-- whether there is an asterisk (42) at this place of a text
abbrev pub is_asterisk_at : List ℕ → ℕ → Bool
is_asterisk_at text k = nat_eq (get_or text k 0) 42

-- whether a run of asterisks begins at this place
abbrev pub begins_run : List ℕ → ℕ → Bool
begins_run text k = is_asterisk_at text k && not (nat_lt 0 k && is_asterisk_at text (k - 1))

-- the number of values of a report that did not fit their fields: a picture has no asterisk of its
-- own, so each run of asterisks is one of these values
unfoldable pub unfit_values : List ℕ → ℕ
unfit_values report = count_by (begins_run report) (range_with_len 0 (length report))

-- the words after the number n of the values that did not fit
abbrev pub unfit_words : ℕ → List ℕ
unfit_words n =
    if nat_eq n 1 then codes " VALUE DID NOT FIT ITS FIELD" else codes " VALUES DID NOT FIT THEIR FIELDS"
