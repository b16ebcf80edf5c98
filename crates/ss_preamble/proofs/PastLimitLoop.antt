-- Going over the words of a text and counting, up to the first that passes a limit.
use Rattle.std.proofs.Common.{◌≡◌, ℕ, ◌+◌, ◌-◌, ◌≤◌, Bool, true, false, List, [], ◌∷◌, ◌++◌, length, length-append}
use Rattle.std.proofs.Common.{take, drop, get_or, sym, ap, subst, ◌∙◌, append_assoc, arith}
use Rattle.std.proofs.lemmas.Slice.{first_rest}
use Rattle.std.proofs.lemmas.List.{append-nil, length-map, take_at}
use Rattle.ss_words.specs.declared.plain_word.PlainWord.{PlainWord}
use Rattle.ss_words.specs.Plain.{Plain, plain_in, plains_of}
use Rattle.ss_words.specs.declared.limits.TheConstants.{MOST_VARIABLES}
use Rattle.ss_preamble.specs.Roles.{Role, Standing, at_start, behind_word, role, roles_from, roles}
use Rattle.ss_preamble.specs.WordLimits.{AreWithin}
use Rattle.ss_preamble.specs.Tally.{Counts, tally_of, with_role, is_in_room}
use Rattle.ss_preamble.specs.Refused.{PassesLimit}
use Rattle.ss_preamble.proofs.Counting.{tally_with, within_more, not_within, none_within}

-- the words before the last ones of a text are counted and within the limits
abbrev pub CountedBefore : List Plain → Standing → Counts → List Plain → Type 0
CountedBefore ws a t rest =
    (seen : List Role) × (roles ws ≡ seen ++ roles_from a rest) × (length seen + length rest ≡ length ws)
    × (t ≡ tally_of seen) × AreWithin seen

pub begins : (ws : List Plain) (a : Standing) (t : Counts) → a ≡ at_start → t ≡ tally_of [] → CountedBefore ws a t ws
begins ws a t e h = ([], ap (λ (b : Standing). roles_from b ws) (sym e), omega arith, h, none_within)

pub turns : (ws : List Plain) (a : Standing) (t t' : Counts) (w : Plain) (rest : List Plain)
    → CountedBefore ws a t (w ∷ rest) → t' ≡ with_role t (role a w) → is_in_room t' (role a w) ≡ true
    → CountedBefore ws (behind_word a w rest) t' rest
turns ws a t t' w rest (seen, e, len, counts, within) h room =
    let now : t' ≡ tally_of (seen ++ role a w ∷ []) =
    h ∙ ap (λ (c : Counts). with_role c (role a w)) counts ∙ sym (tally_with seen (role a w)) in (
      seen ++ role a w ∷ [],
      e ∙ sym (append_assoc seen (role a w ∷ []) (roles_from (behind_word a w rest) rest)),
      omega (arith, len, length-append seen (role a w ∷ [])),
      now,
      within_more seen within (role a w) (subst (λ (c : Counts). is_in_room c (role a w) ≡ true) now room),
    )

pub stops : (ws : List Plain) (a : Standing) (t t' : Counts) (w : Plain) (rest : List Plain)
    → CountedBefore ws a t (w ∷ rest) → t' ≡ with_role t (role a w) → is_in_room t' (role a w) ≡ false
    → PassesLimit ws (length ws - length (w ∷ rest))
stops ws a t t' w rest (seen, e, len, counts, within) h room =
    let now : t' ≡ tally_of (seen ++ role a w ∷ []) =
    h ∙ ap (λ (c : Counts). with_role c (role a w)) counts ∙ sym (tally_with seen (role a w)) in
    let behind = roles_from (behind_word a w rest) rest in
    let k = length ws - length (w ∷ rest) in
    let one_more : roles ws ≡ (seen ++ role a w ∷ []) ++ behind = e ∙ sym (append_assoc seen (role a w ∷ []) behind) in
    let before : take k (roles ws) ≡ seen = ap (take k) e ∙ take_at seen (role a w ∷ behind) k (omega (arith, len)) in
    let with_it : take (k + 1) (roles ws) ≡ seen ++ role a w ∷ [] = ap (take (k + 1)) one_more
    ∙ take_at (seen ++ role a w ∷ []) behind (k + 1) (omega (arith, len, length-append seen (role a w ∷ []))) in
    record {
      is_word = omega (arith, len);
      before = subst AreWithin (sym before) within;
      no_room =
          λ x. not_within seen (role a w) (subst (λ (c : Counts). is_in_room c (role a w) ≡ false) now room)
          (subst AreWithin with_it x);
    }

pub ends : (ws : List Plain) (a : Standing) (t : Counts) → CountedBefore ws a t [] → AreWithin (roles ws)
ends ws a t (seen, e, len, counts, within) = subst AreWithin (sym (e ∙ append-nil seen)) within

pub few_variables : (ws : List Plain) (a : Standing) (t : Counts) (rest : List Plain) → CountedBefore ws a t rest
    → t.variables ≤ MOST_VARIABLES
few_variables ws a t rest (seen, e, len, counts, within) =
    subst (λ (c : Counts). c.variables ≤ MOST_VARIABLES) (sym counts) within.variables

-- ---- with the words of the code

-- a list that begins with a word is this and the words after it
pub split_first : (rest : List PlainWord) (word : PlainWord) → 1 ≤ length rest → word ≡ get_or rest 0 word
    → rest ≡ word ∷ take (length rest - 1) (drop 1 rest)
split_first rest word some is =
    first_rest rest word some ∙ ap (λ (w : PlainWord). w ∷ take (length rest - 1) (drop 1 rest)) (sym is)

pub turns_at : (words rest behind : List PlainWord) (word : PlainWord) (a a' : Standing) (t t' : Counts) (r : Role)
    → rest ≡ word ∷ behind → CountedBefore (plains_of words) a t (plains_of rest)
    → r ≡ role a (plain_in word) → t' ≡ with_role t r → (b : Bool) → b ≡ is_in_room t' r → b ≡ true
    → a' ≡ behind_word a (plain_in word) (plains_of behind)
    → CountedBefore (plains_of words) a' t' (plains_of behind)
turns_at words rest behind word a a' t t' r split counted is_role now b tested b_is next =
    let room : is_in_room t' r ≡ true = sym tested ∙ b_is in
    let there : CountedBefore (plains_of words) a t (plain_in word ∷ plains_of behind) =
    subst (λ (us : List PlainWord). CountedBefore (plains_of words) a t (plains_of us)) split counted in
    let fits : is_in_room t' (role a (plain_in word)) ≡ true =
    subst (λ (x : Role). is_in_room t' x ≡ true) is_role room in
    subst (λ (b : Standing). CountedBefore (plains_of words) b t' (plains_of behind)) (sym next)
    (turns (plains_of words) a t t' (plain_in word) (plains_of behind) there (now ∙ ap (with_role t) is_role)
    fits)

pub stops_at : (words rest behind : List PlainWord) (word : PlainWord) (a : Standing) (t t' : Counts) (r : Role) (k : ℕ)
    → rest ≡ word ∷ behind → CountedBefore (plains_of words) a t (plains_of rest)
    → r ≡ role a (plain_in word) → t' ≡ with_role t r → (b : Bool) → b ≡ is_in_room t' r → b ≡ false
    → k ≡ length words - length rest → PassesLimit (plains_of words) k
stops_at words rest behind word a t t' r k split counted is_role now b tested b_is at =
    let room : is_in_room t' r ≡ false = sym tested ∙ b_is in
    let there : CountedBefore (plains_of words) a t (plain_in word ∷ plains_of behind) =
    subst (λ (us : List PlainWord). CountedBefore (plains_of words) a t (plains_of us)) split counted in
    let fits : is_in_room t' (role a (plain_in word)) ≡ false =
    subst (λ (x : Role). is_in_room t' x ≡ false) is_role room in
    let place : length (plains_of words) - length (plain_in word ∷ plains_of behind) ≡ k =
    omega (
      arith,
      at,
      ap (λ (us : List PlainWord). length us) split,
      length-map words plain_in,
      length-map behind plain_in,
    ) in
    subst (λ (i : ℕ). PassesLimit (plains_of words) i) place
    (stops (plains_of words) a t t' (plain_in word) (plains_of behind) there (now ∙ ap (with_role t) is_role)
    fits)

pub ends_at : (words rest : List PlainWord) (a : Standing) (t : Counts) → rest ≡ []
    → CountedBefore (plains_of words) a t (plains_of rest) → AreWithin (roles (plains_of words))
ends_at words rest a t none counted =
    ends (plains_of words) a t
    (subst (λ (us : List PlainWord). CountedBefore (plains_of words) a t (plains_of us)) none counted)

-- the laws on which the search for a word that passes a limit rests
pub ruleset past_limits = (begins, turns_at, stops_at, ends_at, few_variables)
