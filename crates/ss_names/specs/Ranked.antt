-- Keys of ranked sets that are set for an entity after its FILE.
use Rattle.std.specs.Prelude.{ℕ, ◌==◌, ◌&&◌, Bool, true, false, not, List, [], ◌∷◌, ◌++◌, length}
use Rattle.std.specs.Prelude.{bytes_eq, Option, Some, None, if◌then◌else◌}
use Rattle.ss_words.specs.declared.mark.Mark.{Mark}
use Rattle.ss_words.specs.declared.mark.Mark.TheVariants.{Reserved}
use Rattle.ss_words.specs.declared.reserved.Reserved.{Reserved as AReserved}
use Rattle.ss_words.specs.declared.reserved.Reserved.TheVariants as r
use Rattle.ss_words.specs.Plain.{PlainAt, name, number, mark, picture}
use Rattle.ss_words.specs.PlainRules.{mark_in}
use Rattle.ss_names.specs.declared.here.Here.{Here}
use Rattle.ss_names.specs.declared.ranked.Filed.{Filed}
use Rattle.ss_names.specs.declared.ranked.TheConstants.{RANKED}
use Rattle.ss_names.specs.Collected.{here_at}
use Rattle.ss_names.specs.Here.{behind}
use Rattle.ss_names.specs.Meanings.{Declaration, declared_as}
use Rattle.ss_names.specs.Positions.{is_target, opens}
use Rattle.ss_names.specs.Saying.{warning_line}

-- ---- the entity that was filed last

-- directly after FILE, FIRST or LAST
abbrev pub is_file_end : Option Mark → Bool
is_file_end (Some (Reserved r.File)) = true
is_file_end (Some (Reserved r.First)) = true
is_file_end (Some (Reserved r.Last)) = true
is_file_end _ = false

-- directly after IN
abbrev pub is_behind_in : Option Mark → Bool
is_behind_in (Some (Reserved r.In)) = true
is_behind_in _ = false

-- in a FILE
abbrev pub is_file : Option AReserved → Bool
is_file (Some r.File) = true
is_file _ = false

-- a name here is the entity that FILE files
abbrev pub is_member : Here → Bool
is_member here = is_file here.begun && is_file_end here.before

-- a name here is the set of a FILE
abbrev pub is_filed_set : Here → Bool
is_filed_set here = is_file here.begun && is_behind_in here.before

-- a REMOVE, and the end of a branch, a loop or a section, end the knowledge of a FILE
abbrev pub forgets : AReserved → Bool
forgets r.Remove = true
forgets r.Else = true
forgets r.Always = true
forgets r.Loop = true
forgets r.End = true
forgets _ = false

-- a reserved word or sign, if there is one, ends the knowledge of a FILE
abbrev pub forgets_at : Option Mark → Bool
forgets_at (Some (Reserved w)) = forgets w
forgets_at _ = false

-- a word ends the knowledge of a FILE
abbrev pub is_forgetting : PlainAt → Bool
is_forgetting word = forgets_at (mark_in word.word)

-- a word that is a name, or else this
abbrev pub name_or : PlainAt → List ℕ → List ℕ
name_or word ns = elim word.word [ name n ↦ n | number n ↦ ns | mark j ↦ ns | picture ls ↦ ns ]

-- what was filed last
pub record Filing : Type 0 where
  -- the name of the entity, empty if none was filed
  pub member : List ℕ
  -- the name of the set, empty if none is named yet
  pub set : List ℕ

-- what was filed last, of the code
abbrev pub filed_at : Filed → Filing
filed_at a = record { member = a.member.now; set = a.set.now }

-- nothing
abbrev pub none_filed : Filing
none_filed = record { member = []; set = [] }

-- after a name: the entity that is filed, or then the set
abbrev pub filed_name : Filing → Here → List ℕ → Filing
filed_name filed here n = if is_member here then record { member = n; set = [] } else
    if is_filed_set here then record { member = filed.member; set = n } else filed

-- after a word
abbrev pub filed_behind : Filing → Here → PlainAt → Filing
filed_behind filed here word = if is_forgetting word then none_filed else elim word.word [
  | name n ↦ filed_name filed here n
  | number n ↦ filed
  | mark j ↦ filed
  | picture ls ↦ filed
]

-- ---- the entity of an attribute

-- the name directly after the first word, empty if there is none
abbrev pub subscript : List PlainAt → List ℕ
subscript [] = []
subscript (v ∷ []) = []
subscript (v ∷ w ∷ ws) = name_or w []

-- the class in a declaration, if there is one
abbrev pub class_in : Option Declaration → List ℕ
class_in (Some d) = d.of
class_in None = []

-- its subscript if that begins with a name, or its class if it has none
abbrev pub entity : List Declaration → List ℕ → List PlainAt → List ℕ
entity names n ws = if opens ws then subscript ws else class_in (declared_as names n)

-- ---- keys that are set

-- a declaration of a key is for this set
abbrev pub is_for : List ℕ → Option Declaration → Bool
is_for set (Some d) = bytes_eq d.of set
is_for set None = false

-- a name ranks a set
abbrev pub ranks : List Declaration → List ℕ → List ℕ → Bool
ranks keys n set = is_for set (declared_as keys n)

-- a name here is a key that is set for the entity that was filed last
abbrev pub is_told : List Declaration → List Declaration → Filing → Here → List ℕ → List PlainAt → Bool
is_told names keys filed here n ws = is_target here && not (length filed.set == 0) && ranks keys n filed.set
    && bytes_eq (entity names n ws) filed.member

-- the warning about a name, if it is such a key
abbrev pub ranked_name : List Declaration → List Declaration → Filing → Here → List ℕ → ℕ → List PlainAt → List ℕ
ranked_name names keys filed here n line ws =
    elim (is_told names keys filed here n ws) [ true ↦ warning_line line n RANKED.now | false ↦ [] ]

-- the warning about a word, if it is such a key
abbrev pub ranked_word : List Declaration → List Declaration → Filing → Here → PlainAt → List PlainAt → List ℕ
ranked_word names keys filed here w ws = elim w.word [
  | name n ↦ ranked_name names keys filed here n w.line ws
  | number n ↦ []
  | mark j ↦ []
  | picture ls ↦ []
]

-- each key among words that is set for the entity that was filed last, with its line; the words are after others
unfoldable pub ranked_text : List Declaration → List Declaration → Filing → Here → List PlainAt → List ℕ
ranked_text names keys filed h [] = []
ranked_text names keys filed h (w ∷ ws) =
    let at = here_at h w in
    ranked_word names keys filed at w ws
    ++ ranked_text names keys (filed_behind filed at w) (behind at w.word w.line ws) ws
