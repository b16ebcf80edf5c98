-- A rule over a list, word by word: the facts that the loop that follows a rule keeps.
use Rattle.std.proofs.Common.{◌≡◌, ℕ, Bool, true, false, List, [], ◌∷◌, ◌++◌, map, length, Option, Some, None, cond}
use Rattle.std.proofs.Common.{refl, sym, ap, subst, ◌∙◌, append_assoc, append-nil, arith, ◌+◌, ◌≤◌, ◌<◌, take, drop}
use Rattle.std.proofs.Common.{slice_set}
use Rattle.std.proofs.lemmas.List.{map-append, take_more_set, drop-set-lt, drop_all, length-set}
use Rattle.std.specs.Prelude.{option_and_then, option_to_list, find}
use Rattle.ss_words.specs.declared.mark.Mark.{Mark}
use Rattle.ss_words.specs.declared.plain_word.PlainWord.{PlainWord}
use Rattle.ss_words.specs.Plain.{Plain, PlainAt, plains, plain_in, plain_at, plains_of}
use Rattle.ss_words.specs.PlainRules.{mark_in, beside, governing_word, is_governing, Surroundings, surroundings}
use Rattle.ss_words.specs.PlainRules.{PlainRule}
use Rattle.ss_words.specs.PlainRules.{ruled_word, follow_behind, follow}

-- after some words with this last word and this governing word, the rule makes of the rest the part
-- of the whole that is left
pub record IsFollowed (q : PlainRule) (total : List PlainAt) (last governs : Option Mark)
    (kept rest : List PlainAt) : Type 0 where
  pub before : List PlainAt
  pub last_is : last ≡ beside (plains before)
  pub governs_is : governs ≡ governing_word (plains before)
  pub whole : kept ++ follow_behind q before rest ≡ total

pub following_begins : (q : PlainRule) (ws : List PlainAt) → IsFollowed q (follow q ws) None None [] ws
following_begins q ws = record { before = []; last_is = refl; governs_is = refl; whole = refl }

governing_by : (b : Bool) (p : Plain) (ws : List Plain)
    → cond b (mark_in p) (governing_word ws)
    ≡ option_and_then mark_in (cond b (Some p) (find (λ w. is_governing (mark_in w)) ws))
governing_by true p ws = refl
governing_by false p ws = refl

governing_more : (p : Plain) (ws : List Plain)
    → cond (is_governing (mark_in p)) (mark_in p) (governing_word ws) ≡ governing_word (p ∷ ws)
governing_more p ws = governing_by (is_governing (mark_in p)) p ws

pub following_turns : (q : PlainRule) (total : List PlainAt) (last governs : Option Mark) (kept : List PlainAt)
    (w : PlainAt) (rest : List PlainAt)
    (m now_governs behind : Option Mark) (now_kept : List PlainAt)
    → IsFollowed q total last governs kept (w ∷ rest)
    → m ≡ mark_in w.word → now_governs ≡ cond (is_governing m) m governs → behind ≡ beside (plains rest)
    → now_kept ≡ kept ++ ruled_word q (record { before = last; governing = governs; behind = behind }) w
    → IsFollowed q total m now_governs now_kept rest
following_turns q total last governs kept w rest m now_governs behind now_kept h mark_is governs_are behind_is
    kept_are =
    let here : Option Mark → Option Mark → Option Mark → Surroundings =
    λ x y z. record { before = x; governing = y; behind = z } in
    let same : here last governs behind ≡ surroundings (plains h.before) (plains rest) =
    ap (λ (x : Option Mark). here x governs behind) h.last_is
    ∙ ap (λ (x : Option Mark). here (beside (plains h.before)) x behind) h.governs_is
    ∙ ap (λ (x : Option Mark). here (beside (plains h.before)) (governing_word (plains h.before)) x) behind_is in
    record {
      before = w ∷ h.before;
      last_is = mark_is;
      governs_is = governs_are ∙ ap (λ (x : Option Mark). cond (is_governing x) x governs) mark_is
          ∙ ap (λ (x : Option Mark). cond (is_governing (mark_in w.word)) (mark_in w.word) x) h.governs_is
          ∙ governing_more w.word (plains h.before);
      whole = ap (λ (ws : List PlainAt). ws ++ follow_behind q (w ∷ h.before) rest) kept_are
          ∙ append_assoc kept _ _
          ∙ ap (λ (a : Surroundings). kept ++ (ruled_word q a w ++ follow_behind q (w ∷ h.before) rest)) same
          ∙ h.whole;
    }

pub following_ends : (q : PlainRule) (total : List PlainAt) (last governs : Option Mark) (kept : List PlainAt)
    → IsFollowed q total last governs kept [] → kept ≡ total
following_ends q total last governs kept h = sym (append-nil kept) ∙ h.whole

-- `IsFollowed` in place: the kept words replace the first ones, and the rest is still at its place
pub record IsFollowedInPlace (q : PlainRule) (words : List PlainWord) (last governs : Option Mark)
    (now : List PlainWord) (kept index : ℕ) : Type 0 where
  pub followed : IsFollowed q (follow q (map plain_at words)) last governs (map plain_at (take kept now))
      (map plain_at (drop index now))
  pub inside : kept ≤ index
  pub long : length now ≡ length words

pub in_place_begins : (q : PlainRule) (words : List PlainWord) → IsFollowedInPlace q words None None words 0 0
in_place_begins q words = record {
  followed = following_begins q (map plain_at words);
  inside = omega arith;
  long = refl;
}

words_are : (ws : List PlainWord) → plains_of ws ≡ plains (map plain_at ws)
words_are [] = refl
words_are (w ∷ ws) = ap (λ (u : List Plain). plain_in w ∷ u) (words_are ws)

-- a word of which the rule makes `left`, so that `after` are the words and `count` of them are kept
module _ (q : PlainRule) (words now : List PlainWord) (last governs : Option Mark) (kept index : ℕ)
    (h : IsFollowedInPlace q words last governs now kept index) (w : PlainWord)
    (here : drop index now ≡ w ∷ drop (index + 1) now) (m now_governs behind : Option Mark)
    (mark_is : m ≡ mark_in (plain_in w)) (governs_are : now_governs ≡ cond (is_governing m) m governs)
    (behind_is : behind ≡ beside (plains_of (drop (index + 1) now))) (left : Option PlainWord)
    (left_is : map plain_at (option_to_list left)
    ≡ ruled_word q (record { before = last; governing = governs; behind = behind }) (plain_at w)) where
  in_place_turns : (after : List PlainWord) (count : ℕ) → take count after ≡ take kept now ++ option_to_list left
      → drop (index + 1) after ≡ drop (index + 1) now → count ≤ index + 1 → length after ≡ length now
      → IsFollowedInPlace q words m now_governs after count (index + 1)
  in_place_turns after count kept_are rest_is inside long = record {
    followed = rw rest_is (following_turns q _ last governs (map plain_at (take kept now)) (plain_at w)
        (map plain_at (drop (index + 1) now)) m now_governs behind _
        (subst (λ (us : List PlainWord). IsFollowed q (follow q (map plain_at words)) last governs
        (map plain_at (take kept now)) (map plain_at us)) here h.followed)
        mark_is governs_are (behind_is ∙ ap beside (words_are (drop (index + 1) now)))
        (ap (map plain_at) kept_are ∙ map-append plain_at _ _
        ∙ ap (λ (us : List PlainAt). map plain_at (take kept now) ++ us) left_is));
    inside = inside;
    long = long ∙ h.long;
  }

-- the rule drops the word
pub in_place_drops : (q : PlainRule) (words now : List PlainWord) (last governs : Option Mark) (kept index : ℕ)
    → IsFollowedInPlace q words last governs now kept index → (w : PlainWord)
    → drop index now ≡ w ∷ drop (index + 1) now → (m now_governs behind : Option Mark)
    → m ≡ mark_in (plain_in w) → now_governs ≡ cond (is_governing m) m governs
    → behind ≡ beside (plains_of (drop (index + 1) now)) → (left : Option PlainWord)
    → map plain_at (option_to_list left)
    ≡ ruled_word q (record { before = last; governing = governs; behind = behind }) (plain_at w) → left ≡ None
    → IsFollowedInPlace q words m now_governs now kept (index + 1)
in_place_drops q words now last governs kept index h w here m now_governs behind mark_is governs_are behind_is left
    left_is none =
    in_place_turns q words now last governs kept index h w here m now_governs behind mark_is governs_are behind_is left
    left_is now kept (rw none (sym (append-nil (take kept now)))) refl (omega (arith, h.inside)) refl

-- the rule keeps the word as `one`
pub in_place_keeps : (q : PlainRule) (words now : List PlainWord) (last governs : Option Mark) (kept index : ℕ)
    → IsFollowedInPlace q words last governs now kept index → (w : PlainWord)
    → drop index now ≡ w ∷ drop (index + 1) now → (m now_governs behind : Option Mark)
    → m ≡ mark_in (plain_in w) → now_governs ≡ cond (is_governing m) m governs
    → behind ≡ beside (plains_of (drop (index + 1) now)) → (left : Option PlainWord)
    → map plain_at (option_to_list left)
    ≡ ruled_word q (record { before = last; governing = governs; behind = behind }) (plain_at w)
    → (one : PlainWord) → left ≡ Some one → index < length now
    → IsFollowedInPlace q words m now_governs (slice_set now kept one) (kept + 1) (index + 1)
in_place_keeps q words now last governs kept index h w here m now_governs behind mark_is governs_are behind_is left
    left_is one some within =
    in_place_turns q words now last governs kept index h w here m now_governs behind mark_is governs_are behind_is left
    left_is (slice_set now kept one) (kept + 1)
    (rw some (take_more_set now kept one (omega (arith, h.inside, within))))
    (drop-set-lt (index + 1) now kept one (omega (arith, h.inside))) (omega (arith, h.inside)) (length-set now kept one)

pub in_place_ends : (q : PlainRule) (words now : List PlainWord) (last governs : Option Mark) (kept index : ℕ)
    → IsFollowedInPlace q words last governs now kept index → length words ≤ index
    → map plain_at (take kept now) ≡ follow q (map plain_at words)
in_place_ends q words now last governs kept index h ended =
    following_ends q _ last governs _
    (subst (λ (us : List PlainWord). IsFollowed q (follow q (map plain_at words)) last governs
    (map plain_at (take kept now)) (map plain_at us)) (drop_all index now (omega (arith, h.long, ended))) h.followed)
