-- The word that is one too many, by counting the words before it.
use Rattle.std.specs.Prelude.{◌≡◌, ℕ, suc, ◌+◌, ◌<◌, Bool, true, false, if◌then◌else◌, List, [], ◌∷◌}
use Rattle.std.specs.Prelude.{length, take, drop, Some}
use Rattle.ss_words.specs.declared.limits.TheConstants.{MOST_PARENTHESES, MOST_IFS, MOST_PHRASES}
use Rattle.ss_words.specs.declared.limits.TheConstants.{MOST_PARAMETERS, MOST_SECTIONS}
use Rattle.ss_words.specs.declared.mark.Mark.TheVariants as m
use Rattle.ss_words.specs.declared.word.Sign.TheVariants as s
use Rattle.ss_words.specs.declared.reserved.Reserved.TheVariants as r
use Rattle.ss_words.specs.Plain.{Plain, name, mark, first}
use Rattle.ss_words.specs.Lists.{Name}
use Rattle.ss_routines.specs.Counts.{count, opens, closes}
use Rattle.ss_routines.specs.OpenPhrases.{open_phrases}
use Rattle.ss_routines.specs.Tree.{is_head}
use Rattle.ss_routines.specs.Refused.{Begins, InRoom, PassesLimit}

-- IF
abbrev pub branches : Plain → Bool
branches (mark (m.Reserved r.If)) = true
branches _ = false

-- ALWAYS
abbrev pub rejoins : Plain → Bool
rejoins (mark (m.Reserved r.Always)) = true
rejoins _ = false

-- END
abbrev pub ends : Plain → Bool
ends (mark (m.Reserved r.End)) = true
ends _ = false

-- whether a section ends in these words
abbrev pub has_end : List Plain → Bool
has_end [] = false
has_end (w ∷ ws) = if ends w then true else has_end ws

-- the words of the section that has not ended: those after the last END
abbrev pub behind_end : List Plain → List Plain
behind_end [] = []
behind_end (w ∷ ws) = if has_end (w ∷ ws) then behind_end ws else w ∷ ws

-- a head's word after which a name is: ROUTINE, EVENT, GIVEN, YIELDING, comma, opening parenthesis
abbrev pub asks : Plain → Bool
asks (mark (m.Reserved r.Routine)) = true
asks (mark (m.Reserved r.Event)) = true
asks (mark (m.Reserved r.Given)) = true
asks (mark (m.Reserved r.Yielding)) = true
asks (mark (m.Sign s.Comma)) = true
asks (mark (m.Sign s.Open)) = true
asks _ = false

-- how many names are in the head that these words go on with, if a name is due or is not
abbrev pub names_in_head : Bool → List Plain → ℕ
names_in_head due [] = 0
names_in_head true (name n ∷ ws) = suc (names_in_head false ws)
names_in_head true (_ ∷ ws) = 0
names_in_head false (w ∷ ws) =
    if asks w then names_in_head true ws else (if closes w then names_in_head false ws else 0)

-- the parts that are limited and counted here
pub data Counted : Type 0 where
  Parentheses Ifs Phrases Parameters Sections : Counted

-- word k is one too many, if before it as many are open or ended as there may be: an opening
-- parenthesis, an IF or a FOR; the first word of a head, if sections have ended; or a name with
-- which its head has its own and one parameter more than there may be
abbrev pub IsOneTooMany : Counted → List Plain → ℕ → Type 0
IsOneTooMany Parentheses ws k =
    (first (drop k ws) ≡ Some (mark (m.Sign s.Open)))
    × (count opens (take k ws) ≡ count closes (take k ws) + MOST_PARENTHESES)
IsOneTooMany Ifs ws k =
    (first (drop k ws) ≡ Some (mark (m.Reserved r.If)))
    × (count branches (take k ws) ≡ count rejoins (take k ws) + MOST_IFS)
IsOneTooMany Phrases ws k =
    (first (drop k ws) ≡ Some (mark (m.Reserved r.For))) × (open_phrases (take k ws) ≡ MOST_PHRASES)
IsOneTooMany Parameters ws k =
    (n : Name) × (first (drop k ws) ≡ Some (name n))
    × (names_in_head false (behind_end (take (k + 1) ws)) ≡ 1 + (MOST_PARAMETERS + 1))
IsOneTooMany Sections ws k = (is_head (first (drop k ws)) ≡ true) × (count ends (take k ws) ≡ MOST_SECTIONS)

-- a word that passes a limit is one too many by counting
abbrev pub LimitIsCounted : Type 0
LimitIsCounted = (ws : List Plain) (k : ℕ) → PassesLimit ws k → (c : Counted) × IsOneTooMany c ws k

-- a word one too many by counting passes a limit, if no word before does and programs go on with it
abbrev pub CountPassesLimit : Type 0
CountPassesLimit =
    (ws : List Plain) (k : ℕ) (c : Counted) → k < length ws → InRoom (take k ws) → Begins (take (k + 1) ws)
    → IsOneTooMany c ws k → PassesLimit ws k
