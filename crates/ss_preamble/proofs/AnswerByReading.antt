-- The answers to words, computed by reading them and counting.
use Rattle.std.proofs.Common.{◌≡◌, ℕ, ◌+◌, ◌-◌, ◌≤◌, ◌<◌, Bool, true, false, leb, leb-true, List, [], ◌∷◌, ◌++◌}
use Rattle.std.proofs.Common.{length, take, Option, Some, None, Result, Ok, Err, refl, subst, arith}
use mathlib.Core.Logic.{inl}
use Rattle.std.specs.Prelude.{if◌then◌else◌}
use Rattle.ss_words.specs.declared.refusal.Refusal.{Refusal}
use Rattle.ss_words.specs.declared.refusal.Refusal.TheVariants.{Unexpected, PastLimit, Memory}
use Rattle.ss_words.specs.declared.fault.TextRule.{TextRule}
use Rattle.ss_words.specs.declared.fault.TextRule.TheVariants as rule
use Rattle.ss_words.specs.declared.fault.TextFault.{TextFault}
use Rattle.ss_words.specs.declared.fault.TextFault.TheVariants.{Refused}
use Rattle.ss_words.specs.declared.mark.Mark.TheVariants as m
use Rattle.ss_words.specs.declared.reserved.Reserved.TheVariants as r
use Rattle.ss_words.specs.Marks.{is}
use Rattle.ss_words.specs.Plain.{Plain, PlainAt, first, plains}
use Rattle.ss_words.specs.PlainRules.{plain_words_of}
use Rattle.ss_words.specs.Noting.{line}
use Rattle.ss_words.specs.Farthest.{IsFarthest}
use Rattle.ss_preamble.specs.Tree.{Preamble, Decls}
use Rattle.ss_preamble.specs.Spelling.{spell}
use Rattle.ss_preamble.specs.Roles.{Standing, at_start, behind_word, role, roles}
use Rattle.ss_preamble.specs.WordLimits.{AreWithin}
use Rattle.ss_preamble.specs.Tally.{Counts, tally_of, with_role, is_in_room}
use Rattle.ss_preamble.specs.ItemReading.{preamble_with}
use Rattle.ss_preamble.specs.Written.{written}
use Rattle.ss_preamble.specs.Refused.{HasPreamble, PassesLimit, Answers, no_decls, spell_text, word_behind, lines}
use Rattle.ss_preamble.specs.Laws.{IsDefinite, AlwaysAnswered}
use Rattle.ss_preamble.specs.Examples.{IsRead, words_of_lines, IsAnswered}
use Rattle.ss_preamble.proofs.Counting.{no_le}
use Rattle.ss_preamble.proofs.PastLimitLoop.{CountedBefore, begins, turns, stops, ends}
use Rattle.ss_preamble.proofs.Whole.{farthest, unlimited, spelled}
use Rattle.ss_preamble.proofs.AnswerAtStop.{read_past, read_items, stopped_past, stopped_word, stopped_end, at_last}
use Rattle.ss_preamble.proofs.NoMemoryRefusal.{IsSure, preamble_sure}

-- ---- the first word that passes a limit

-- the first of these words that passes a limit, with k words before them
abbrev past_from : Counts → Standing → ℕ → List Plain → Option ℕ
past_from t a k [] = None
past_from t a k (w ∷ ws) =
    let now = with_role t (role a w) in
    if is_in_room now (role a w) then past_from now (behind_word a w ws) (k + 1) ws else Some k

-- the first word that passes a limit
abbrev past_limit : List Plain → Option ℕ
past_limit ws = past_from (tally_of []) at_start 0 ws

-- the law of this answer about the words
abbrev IsPast : List Plain → Option ℕ → Type 0
IsPast ws None = AreWithin (roles ws)
IsPast ws (Some k) = PassesLimit ws k

past_is : (ws : List Plain) (t : Counts) (a : Standing) (k : ℕ) (rest : List Plain) → k + length rest ≡ length ws
    → CountedBefore ws a t rest → IsPast ws (past_from t a k rest)
past_is ws t a k [] len counted = ends ws a t counted
past_is ws t a k (w ∷ rest) len counted =
    let now = with_role t (role a w) in
    let further = λ (e : is_in_room now (role a w) ≡ true).
    past_is ws now (behind_word a w rest) (k + 1) rest (omega (arith, len)) (turns ws a t now w rest counted refl e) in
    decide (is_in_room now (role a w)) refl further
  where
    decide : (b : Bool) → is_in_room (with_role t (role a w)) (role a w) ≡ b
        → (is_in_room (with_role t (role a w)) (role a w) ≡ true
        → IsPast ws (past_from (with_role t (role a w)) (behind_word a w rest) (k + 1) rest))
        → IsPast ws (if b then past_from (with_role t (role a w)) (behind_word a w rest) (k + 1) rest else Some k)
    decide true e further = further e
    decide false e further =
        subst (λ (i : ℕ). PassesLimit ws i) (omega (arith, len))
        (stops ws a t (with_role t (role a w)) w rest counted refl e)

past_limit_is : (ws : List Plain) → IsPast ws (past_limit ws)
past_limit_is ws = past_is ws (tally_of []) at_start 0 ws (omega arith) (begins ws at_start (tally_of []) refl refl)

-- ---- the answer

-- the answer to a text
abbrev Answer : Type 0
Answer = Result (Decls × ℕ) TextFault

-- the refusal by a rule at the line of word k
abbrev refused_at : List PlainAt → TextRule → ℕ → Answer
refused_at ws q k = Err (Refused q (line (lines ws) k))

-- the answer if these items were read
abbrev read_answer : List PlainAt → Preamble → Option ℕ → Answer
read_answer ws is None = Ok (written (lines ws) is, word_behind ws (length (spell is)))
read_answer ws is (Some k) = refused_at ws rule.PastLimit k

-- the answer if word n is the farthest
abbrev stopped_answer : List PlainAt → ℕ → Option ℕ → Answer
stopped_answer ws n None =
    if leb (n + 1) (length ws) then refused_at ws rule.UnexpectedWord n else refused_at ws rule.UnexpectedEnd
    (length ws - 1)
stopped_answer ws n (Some k) =
    if leb (k + 2) (length ws) then refused_at ws rule.PastLimit k else refused_at ws rule.UnexpectedEnd (length ws - 1)

-- the answer by the result of the reading
abbrev told_answer : List PlainAt → Result Preamble Refusal → List Plain → Answer
told_answer ws (Ok is) rest = read_answer ws is (past_limit (spell is))
told_answer ws (Err e) rest =
    let n = length (plains ws) - length rest in stopped_answer ws n (past_limit (take n (plains ws)))

-- of any words
abbrev pub answer : List PlainAt → Answer
answer ws =
    if is (m.Reserved r.Preamble) (first (plains ws))
    then told_answer ws (preamble_with (plains ws)).0 (preamble_with (plains ws)).1 else Ok (no_decls, 0)

-- ---- it is the answer

-- the answer says something, and it is right
abbrev Holds : List PlainAt → Answer → Type 0
Holds ws a = IsDefinite a × Answers a ws

no_less : (k n : ℕ) → leb k n ≡ false → n < k
no_less k n e = let more : k ≤ n → ⊥ = no_le k n e in omega (arith, more)

module _ (ws : List PlainAt) (h : HasPreamble (plains ws)) where
  read_holds : (is : Preamble) (rest : List Plain) → plains ws ≡ spell is ++ rest → (o : Option ℕ) → IsPast (spell is) o
      → Holds ws (read_answer ws is o)
  read_holds is rest split None within = (tt, read_items ws is rest split within)
  read_holds is rest split (Some k) passes = (tt, read_past ws is rest split h k passes)

  module _ (n : ℕ) (far : IsFarthest spell_text (plains ws) n) where
    at_none : (b : Bool) → leb (n + 1) (length ws) ≡ b → AreWithin (roles (take n (plains ws)))
        → Holds ws (if b then refused_at ws rule.UnexpectedWord n else refused_at ws rule.UnexpectedEnd (length ws - 1))
    at_none true e room =
        (tt, stopped_word ws n far h room (let le = leb-true (n + 1) (length ws) e in omega (arith, le)))
    at_none false e room =
        (tt, stopped_end ws n far h None room (let lt = no_less (n + 1) (length ws) e in omega (arith, lt)))

    at_some : (k : ℕ) (b : Bool) → leb (k + 2) (length ws) ≡ b → PassesLimit (take n (plains ws)) k
        → Holds ws (if b then refused_at ws rule.PastLimit k else refused_at ws rule.UnexpectedEnd (length ws - 1))
    at_some k true e passes =
        (tt, stopped_past ws n far h k passes (let le = leb-true (k + 2) (length ws) e in omega (arith, le)))
    at_some k false e passes =
        let last : length ws ≤ k + 1 = (let lt = no_less (k + 2) (length ws) e in omega (arith, lt)) in
        (tt, stopped_end ws n far h (Some k) (passes, last) (at_last ws n far h k passes last))

    stopped_holds : (o : Option ℕ) → IsPast (take n (plains ws)) o → Holds ws (stopped_answer ws n o)
    stopped_holds None room = at_none (leb (n + 1) (length ws)) refl room
    stopped_holds (Some k) passes = at_some k (leb (k + 2) (length ws)) refl passes

  told_holds : (o : Result Preamble Refusal) (rest : List Plain) → preamble_with (plains ws) ≡ (o, rest) → IsSure o
      → Holds ws (told_answer ws o rest)
  told_holds (Ok is) rest e sure =
      read_holds is rest (spelled (plains ws) rest is e) (past_limit (spell is)) (past_limit_is (spell is))
  told_holds (Err Unexpected) rest e sure =
      let n = length (plains ws) - length rest in
      stopped_holds n (farthest (plains ws) rest e) (past_limit (take n (plains ws)))
      (past_limit_is (take n (plains ws)))
  told_holds (Err PastLimit) rest e sure = absurd (unlimited (plains ws) rest e)
  told_holds (Err Memory) rest e sure = absurd sure

pub holds : (ws : List PlainAt) → Holds ws (answer ws)
holds ws = begun (is (m.Reserved r.Preamble) (first (plains ws))) refl
  where
    not_both : (b : Bool) → b ≡ true → b ≡ false → ⊥
    not_both true h g = absurd cc
    not_both false h g = absurd cc

    begun : (b : Bool) → is (m.Reserved r.Preamble) (first (plains ws)) ≡ b
        → Holds ws (if b then told_answer ws (preamble_with (plains ws)).0 (preamble_with (plains ws)).1 else Ok
        (no_decls, 0))
    begun true e =
        told_holds ws e (preamble_with (plains ws)).0 (preamble_with (plains ws)).1 refl (preamble_sure.at (plains ws))
    begun false e = (tt, inl ((λ h. not_both _ h e), refl, refl))

pub always : AlwaysAnswered
always ws = (answer ws, (holds ws).0, (holds ws).1)

-- words are answered as was computed
pub decided : (ws : List PlainAt) (a : Answer) → answer ws ≡ a → Answers a ws
decided ws a e = subst (λ (x : Answer). Answers x ws) e (holds ws).1

-- they are read as a preamble
pub read : (ws : List PlainAt) (d : Decls) (number : ℕ) → answer ws ≡ Ok (d, number) → IsRead ws
read ws d number e = (d, number, decided ws (Ok (d, number)) e)

-- a text is answered as was computed
pub answered : (text : List (List ℕ)) (a : Answer) → answer (plain_words_of (words_of_lines 1 text)) ≡ a
    → IsAnswered text a
answered text a e = decided (plain_words_of (words_of_lines 1 text)) a e
