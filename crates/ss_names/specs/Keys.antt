-- Names as they are counted: a local variable of one section is another than that of a second one.
use Rattle.std.specs.Prelude.{ℕ, ◌&&◌, Bool, true, false, not, is_some, List, [], ◌∷◌, ◌++◌, decimal, Option, Some}
use Rattle.std.specs.Prelude.{if◌then◌else◌}
use Rattle.ss_words.specs.declared.mark.Mark.{Mark}
use Rattle.ss_words.specs.declared.mark.Mark.TheVariants.{Reserved}
use Rattle.ss_words.specs.declared.reserved.Reserved.TheVariants as r
use Rattle.ss_words.specs.Plain.{PlainAt, name, number, mark, picture}
use Rattle.ss_words.specs.PlainRules.{mark_in}
use Rattle.ss_names.specs.declared.here.Here.{Here}
use Rattle.ss_names.specs.declared.keys.Counted.{Counted}
use Rattle.ss_names.specs.declared.keys.Counted.TheVariants.{As, Besides}
use Rattle.ss_names.specs.declared.roles.Role.{Role}
use Rattle.ss_names.specs.declared.roles.Role.TheVariants.{Declared}
use Rattle.ss_names.specs.Collected.{here_behind}
use Rattle.ss_names.specs.Meanings.{Declaration, declared_as}
use Rattle.ss_names.specs.Roles.{role_at, same_role}

-- END
abbrev pub is_end : Option Mark → Bool
is_end (Some (Reserved r.End)) = true
is_end _ = false

-- the section after a word, given by the place of the END before it
abbrev pub section_behind : ℕ → PlainAt → ℕ
section_behind section word = if is_end (mark_in word.word) then word.index else section

-- the key of a name: the name itself if it is declared, else with its section before it
abbrev pub key : List Declaration → ℕ → List ℕ → List ℕ
key ds section n = if is_some (declared_as ds n) then n else decimal section ++ 32 ∷ n

-- a use of a name is counted: one in this way, or one in any other way, but that the name is declared
abbrev pub is_counted : Counted → Role → Bool
is_counted (As wanted) role = same_role role wanted
is_counted (Besides other) role = not (same_role role Declared) && not (same_role role other)

-- the key of each name among words whose use is counted, after others
unfoldable pub keys_with : List Declaration → Counted → ℕ → Here → List PlainAt → List (List ℕ)
keys_with ds counted section h [] = []
keys_with ds counted section h (w ∷ ws) =
    let rest = keys_with ds counted (section_behind section w) (here_behind h w ws) ws in
    elim w.word [
      | name n ↦ elim (is_counted counted (role_at h)) [ true ↦ key ds section n ∷ rest | false ↦ rest ]
      | number n ↦ rest
      | mark m ↦ rest
      | picture ls ↦ rest
    ]
