-- Each text has one explanation.
use Rattle.std.proofs.Common.{◌≡◌, ◌⊎◌, inl, inr, ℕ, zero, suc, ◌+◌, ◌-◌, nat_lt, Bool, true, false, ◌&&◌, not, List}
use Rattle.std.proofs.Common.{[], ◌∷◌, ◌++◌, length, map, take, Option, Some, None, Result, Ok, Err, refl, sym, ap, ◌∙◌}
use Rattle.std.proofs.Common.{subst, arith, ltb-true, ltb-false}
use Rattle.std.proofs.Math.Path.{fun_ext}
use Rattle.std.specs.Borrow.{Bor}
use Rattle.std.specs.Prelude.{All, bytes_eq, codes, slice_get, if◌then◌else◌}
use Rattle.ss_words.specs.declared.fault.TextRule.{TextRule}
use Rattle.ss_words.specs.declared.fault.TextRule.TheVariants as r
use Rattle.ss_words.specs.declared.fault.TextFault.{TextFault}
use Rattle.ss_words.specs.declared.fault.TextFault.TheVariants.{Refused, Memory}
use Rattle.ss_words.specs.Words.{Kind, WordAt}
use Rattle.ss_words.specs.TextWords.{Finding, word, breach, breaches_in, words_in, answer_of, found_in_text, words_of}
use Rattle.ss_words.specs.Plain.{PlainAt}
use Rattle.ss_words.specs.PlainRules.{plain_words_of}
use Rattle.ss_preamble.specs.Tree.{Decls}
use Rattle.ss_preamble.specs.Refused.{AreDecls}
use Rattle.ss_preamble.specs.Refused as preamble
use Rattle.ss_preamble.specs.Laws as preamble_laws
use Rattle.ss_preamble.proofs.AnswerByReading as preamble_answer
use Rattle.ss_preamble.proofs.Unique as preamble_unique
use Rattle.ss_routines.specs.Places.{Section}
use Rattle.ss_routines.specs.Refused.{Answers, words_from}
use Rattle.ss_routines.specs.Laws.{IsDefinite}
use Rattle.ss_routines.proofs.AlwaysAnswered.{always}
use Rattle.ss_routines.proofs.Unique.{one_answer}
use Rattle.ss_columns.specs.Numbers.{words_by_number}
use Rattle.ss_columns.specs.Reserved.{is_kind_among}
use Rattle.ss_sentences.specs.declared.candidate.Judgement.{Judgement}
use Rattle.ss_sentences.specs.declared.candidate.TheConstants.{CANDIDATES}
use Rattle.ss_sentences.specs.declared.candidate.Tried.{Tried}
use Rattle.ss_sentences.specs.declared.expected.TheConstants.{EXPECTED, FIRST_ROOM, FURTHER_ROOM}
use Rattle.ss_sentences.specs.declared.hints.TheConstants.{IFS, ALWAYS, DOS, LOOPS}
use Rattle.ss_sentences.specs.declared.hints.TheConstants.{RESERVED_HINT, UNIT_HINT, IF_HINT, DO_HINT}
use Rattle.ss_sentences.specs.declared.meant.TheConstants.{THENS, LOOP_ENDS, NOTS, PROCESS_WORDS}
use Rattle.ss_sentences.specs.declared.meant.TheConstants.{THEN_HINT, LOOP_END_HINT, NOT_HINT, PROCESS_HINT}
use Rattle.ss_sentences.specs.declared.refusal.TheConstants.{LONGEST_TEXT_JUDGED}
use Rattle.ss_sentences.specs.Candidates.{IsFitting, candidate_of, candidates, is_dropped, with_candidate}
use Rattle.ss_sentences.specs.Expected.{expected_text, fits, fitting_list, separator}
use Rattle.ss_sentences.specs.Grammar.{IsGoing, IsRefused, IsSpelled, is_end}
use Rattle.ss_sentences.specs.Hints.{block_hints, dropped_hint, front_hints, hint_text, is_name, is_reserved_word}
use Rattle.ss_sentences.specs.Hints.{open_hint, open_lines, word_hints}
use Rattle.ss_sentences.specs.Meant.{assigned_hints, given, meant_hints, signs_hint}
use Rattle.ss_sentences.specs.Pieces.{last_kind}
use Rattle.ss_sentences.specs.Refusals.{AreJudged, AreSaid, IsSaid, IsSaidOf, behind_text, ended_text, front_of, hints_at}
use Rattle.ss_sentences.specs.Refusals.{judged_text, sentence_text, told_before, unexpected_text}
use Rattle.ss_sentences.specs.Unread.{unread_text}
use Rattle.ss_sentences.proofs.Parts.{going}
use Rattle.ss_sentences.specs.Laws.{NothingElseIsSaid, SomethingIsSaid}

-- ---- plain words have one answer

never : {A X : Type 0} (f : TextFault) (a : A) → Err f ≡ Ok a → X
never f a e = absurd cc

abbrev fault_in : {A : Type 0} → Result A TextFault → TextFault
fault_in (Ok a) = Memory
fault_in (Err f) = f

abbrev decls_in : Decls → Result (Decls × ℕ) TextFault → Decls
decls_in other (Ok (d, n)) = d
decls_in other (Err f) = other

abbrev number_in : Result (Decls × ℕ) TextFault → ℕ
number_in (Ok (d, n)) = n
number_in (Err f) = 0

same_number : (ws : List PlainAt) (d e : Decls) (m n : ℕ) → AreDecls d m ws → AreDecls e n ws → m ≡ n
same_number ws d e m n h k = ap number_in (preamble_unique.one_answer ws (Ok (d, m)) (Ok (e, n)) tt tt h k)

not_both : (ws : List PlainAt) (rule : TextRule) (l : ℕ) (d : Decls) (n : ℕ) → preamble.IsRefused rule l ws →
    AreDecls d n ws → ⊥
not_both ws rule l d n h k =
    never (Refused rule l) (d, n) (preamble_unique.one_answer ws (Err (Refused rule l)) (Ok (d, n)) tt tt h k)

same_answer : (ws : List PlainAt) (d e : Decls) (m n : ℕ) (a b : Result (List Section) TextFault) →
    AreDecls d m ws → AreDecls e n ws → IsDefinite a → IsDefinite b → Answers a (words_from m ws) →
    Answers b (words_from n ws) → a ≡ b
same_answer ws d e m n a b p q da db h k =
    one_answer (words_from m ws) a b da db h
    (subst (λ (i : ℕ). Answers b (words_from i ws)) (sym (same_number ws d e m n p q)) k)

one_refusal : (ws : List PlainAt) (rule other : TextRule) (l m : ℕ) → IsRefused rule l ws → IsRefused other m ws →
    Refused rule l ≡ Refused other m
one_refusal ws rule other l m (inl h) (inl k) =
    ap fault_in (preamble_unique.one_answer ws (Err (Refused rule l)) (Err (Refused other m)) tt tt h k)
one_refusal ws rule other l m (inl h) (inr k) = absurd (not_both ws rule l k.0 k.1 h k.2)
one_refusal ws rule other l m (inr h) (inl k) = absurd (not_both ws other m h.0 h.1 k h.2)
one_refusal ws rule other l m (inr h) (inr k) =
    ap fault_in (same_answer ws h.0 k.0 h.1 k.1 (Err (Refused rule l)) (Err (Refused other m)) h.2 k.2 tt tt h.3 k.3)

not_refused : (ws : List PlainAt) (rule : TextRule) (l : ℕ) → IsSpelled ws → IsRefused rule l ws → ⊥
not_refused ws rule l s (inl h) = not_both ws rule l s.0 s.1 h s.3
not_refused ws rule l s (inr h) =
    never (Refused rule l) s.2
    (same_answer ws h.0 s.0 h.1 s.1 (Err (Refused rule l)) (Ok s.2) h.2 s.3 tt tt h.3 s.4)

-- words are a program, or are refused
abbrev IsAnswered : List PlainAt → Type 0
IsAnswered ws = IsSpelled ws ⊎ ((rule : TextRule) × (line : ℕ) × IsRefused rule line ws)

in_sections : (ws : List PlainAt) (d : Decls) (n : ℕ) → AreDecls d n ws → (a : Result (List Section) TextFault) →
    IsDefinite a → Answers a (words_from n ws) → IsAnswered ws
in_sections ws d n p (Ok ss) t h = inl (d, n, ss, p, h)
in_sections ws d n p (Err (Refused rule l)) t h = inr (rule, l, inr (d, n, p, h))
in_sections ws d n p (Err Memory) t h = absurd t

in_preamble : (ws : List PlainAt) (a : Result (Decls × ℕ) TextFault) → preamble_laws.IsDefinite a →
    preamble.Answers a ws → IsAnswered ws
in_preamble ws (Ok (d, n)) t h = let s = always (words_from n ws) in in_sections ws d n h s.0 s.1 s.2
in_preamble ws (Err (Refused rule l)) t h = inr (rule, l, inl h)
in_preamble ws (Err Memory) t h = absurd t

answered : (ws : List PlainAt) → IsAnswered ws
answered ws = let h = preamble_answer.always ws in in_preamble ws h.0 h.1 h.2

-- ---- a candidate fits or does not

abbrev ends_by : TextFault → Bool
ends_by (Refused rule l) = is_end rule
ends_by Memory = false

clash : {X : Type 0} → true ≡ false → X
clash e = absurd cc

one_going : (ws : List PlainAt) (a b : Bool) → IsGoing a ws → IsGoing b ws → a ≡ b
one_going ws true true h k = refl
one_going ws false false h k = refl
one_going ws true false (inl s) k = absurd (not_refused ws k.0 k.1 s k.2)
one_going ws true false (inr h) k = clash (sym h.3 ∙ ap ends_by (one_refusal ws h.0 k.0 h.1 k.1 h.2 k.2) ∙ k.3)
one_going ws false true h (inl s) = absurd (not_refused ws h.0 h.1 s h.2)
one_going ws false true h (inr k) = clash (sym k.3 ∙ ap ends_by (one_refusal ws k.0 h.0 k.1 h.1 k.2 h.2) ∙ h.3)

goes : (ws : List PlainAt) → IsAnswered ws → (b : Bool) × IsGoing b ws
goes ws (inl s) = (true, inl s)
goes ws (inr h) = (is_end h.0, going (is_end h.0) ws h.0 h.1 refl h.2)

-- a candidate that is dropped does not fit, and another one as a program goes on
abbrev FitsBy : Bool → List PlainAt → Bool → Type 0
FitsBy dropped ws fits = elim dropped [ true ↦ fits ≡ false | false ↦ IsGoing fits ws ]

one_by : (dropped : Bool) (ws : List PlainAt) (a b : Bool) → FitsBy dropped ws a → FitsBy dropped ws b → a ≡ b
one_by true ws a b h k = h ∙ sym k
one_by false ws a b h k = one_going ws a b h k

some_by : (dropped : Bool) (ws : List PlainAt) → (b : Bool) × FitsBy dropped ws b
some_by true ws = (false, refl)
some_by false ws = goes ws (answered ws)

one_fitting : (front : List WordAt) (told : List ℕ) (tried : Tried) (a b : Bool) → IsFitting front told tried a →
    IsFitting front told tried b → a ≡ b
one_fitting front told tried a b h k =
    one_by (is_dropped front tried) (plain_words_of (with_candidate front told tried)) a b h k

some_fitting : (front : List WordAt) (told : List ℕ) (tried : Tried) → (b : Bool) × IsFitting front told tried b
some_fitting front told tried =
    some_by (is_dropped front tried) (plain_words_of (with_candidate front told tried))

-- ---- judgements, as they are shown

abbrev shown : Judgement → List ℕ × Bool
shown j = (j.told.now, j.fits)

abbrev head_or : List ℕ × Tried → List (List ℕ × Tried) → List ℕ × Tried
head_or other [] = other
head_or other (x ∷ xs) = x

abbrev tail_of : List (List ℕ × Tried) → List (List ℕ × Tried)
tail_of [] = []
tail_of (x ∷ xs) = xs

-- a property of each element holds of the first and of the others
all_first : {X : Type 0} (P : X → Type 0) (x : X) (xs : List X) → All P (x ∷ xs) → P x
all_first P x xs h = h zero x (omega arith)

all_others : {X : Type 0} (P : X → Type 0) (x : X) (xs : List X) → All P (x ∷ xs) → All P xs
all_others P x xs h k d lt = h (suc k) d (omega (arith, lt))

all_none : {X : Type 0} (P : X → Type 0) → All P []
all_none P k d lt = absurd (omega (arith, lt))

all_with : {X : Type 0} (P : X → Type 0) (x : X) (xs : List X) → P x → All P xs → All P (x ∷ xs)
all_with P x xs p h zero d lt = p
all_with P x xs p h (suc k) d lt = h k d (omega (arith, lt))

-- a judgement is right after these words
abbrev IsJudged : List WordAt → Judgement → Type 0
IsJudged front j = IsFitting front j.told.now j.tried j.fits

none_is_one : {X : Type 0} (c : List ℕ × Tried) (cs : List (List ℕ × Tried)) → [] ≡ c ∷ cs → X
none_is_one c cs e = absurd cc

same_judged : (front : List WordAt) (js ks : List Judgement) →
    All (IsJudged front) js → All (IsJudged front) ks →
    map candidate_of js ≡ map candidate_of ks → map shown js ≡ map shown ks
same_judged front [] [] hj hk e = refl
same_judged front [] (k ∷ ks) hj hk e = none_is_one (candidate_of k) (map candidate_of ks) e
same_judged front (j ∷ js) [] hj hk e = none_is_one (candidate_of j) (map candidate_of js) (sym e)
same_judged front (j ∷ js) (k ∷ ks) hj hk e =
    let c : candidate_of j ≡ candidate_of k = ap (head_or (candidate_of j)) e in
    let told : j.told.now ≡ k.told.now = ap (λ (x : List ℕ × Tried). x.0) c in
    let tried : j.tried ≡ k.tried = ap (λ (x : List ℕ × Tried). x.1) c in
    let fit : j.fits ≡ k.fits =
    one_fitting front k.told.now k.tried j.fits k.fits
    (subst (λ (n : List ℕ). IsFitting front n k.tried j.fits) told
    (subst (λ (t : Tried). IsFitting front j.told.now t j.fits) tried (all_first (IsJudged front) j js hj)))
    (all_first (IsJudged front) k ks hk) in
    let first : shown j ≡ shown k =
    ap (λ (n : List ℕ). (n, j.fits)) told ∙ ap (λ (b : Bool). (k.told.now, b)) fit in
    ap (λ (x : List ℕ × Bool). x ∷ map shown js) first
    ∙ ap (λ (xs : List (List ℕ × Bool)). shown k ∷ xs) (same_judged front js ks
    (all_others (IsJudged front) j js hj) (all_others (IsJudged front) k ks hk) (ap tail_of e))

same_of_two : (model : List ℕ) (front : List WordAt) (js ks : List Judgement) → AreJudged model front js →
    AreJudged model front ks → map shown js ≡ map shown ks
unfolding AreJudged
same_of_two model front js ks (inl h) (inl k) = ap (map shown) (h.1 ∙ sym k.1)
same_of_two model front js ks (inl h) (inr k) = absurd (omega (arith, h.0, k.0))
same_of_two model front js ks (inr h) (inl k) = absurd (omega (arith, h.0, k.0))
same_of_two model front js ks (inr h) (inr k) = same_judged front js ks h.1 k.1 (h.2 ∙ sym k.2)

-- ---- the texts about judgements

abbrev fits_in : List (List ℕ × Bool) → List ℕ → Bool
fits_in [] told = false
fits_in (x ∷ xs) told = elim (x.1 && bytes_eq x.0 told) [ true ↦ true | false ↦ fits_in xs told ]

fits_as : (js : List Judgement) (told : List ℕ) → fits js told ≡ fits_in (map shown js) told
fits_as [] told = refl
fits_as (j ∷ js) told =
    ap (λ (b : Bool). elim (j.fits && bytes_eq j.told.now told) [ true ↦ true | false ↦ b ]) (fits_as js told)

same_fits : (js ks : List Judgement) → map shown js ≡ map shown ks → fits js ≡ fits ks
same_fits js ks e =
    fun_ext (λ told. fits_as js told ∙ ap (λ (xs : List (List ℕ × Bool)). fits_in xs told) e ∙ sym (fits_as ks told))

abbrev list_in : Bool → ℕ → List (List ℕ × Bool) → List ℕ
list_in is_first room [] = codes "\n"
list_in is_first room (x ∷ xs) = elim x.1 [
  | false ↦ list_in is_first room xs
  | true ↦ elim (nat_lt (room - length x.0) 2) [
    | true ↦ codes ",\n  " ++ x.0 ++ list_in false (FURTHER_ROOM - length x.0) xs
    | false ↦ separator is_first ++ x.0 ++ list_in false (room - length x.0 - 2) xs
  ]
]

-- a list that begins with a candidate, by whether it fits and has no room on its line
abbrev list_with : Bool → ℕ → List ℕ → Bool → Bool → (Bool → ℕ → List ℕ) → List ℕ
list_with is_first room told fits full rest = elim fits [
  | false ↦ rest is_first room
  | true ↦ elim full [
    | true ↦ codes ",\n  " ++ told ++ rest false (FURTHER_ROOM - length told)
    | false ↦ separator is_first ++ told ++ rest false (room - length told - 2)
  ]
]

list_by : (is_first : Bool) (room : ℕ) (told : List ℕ) (b c : Bool) (js : List Judgement) →
    ((f : Bool) (n : ℕ) → fitting_list f n js ≡ list_in f n (map shown js)) →
    list_with is_first room told b c (λ f n. fitting_list f n js)
    ≡ list_with is_first room told b c (λ f n. list_in f n (map shown js))
list_by is_first room told false c js h = h is_first room
list_by is_first room told true true js h =
    ap (λ (xs : List ℕ). codes ",\n  " ++ told ++ xs) (h false (FURTHER_ROOM - length told))
list_by is_first room told true false js h =
    ap (λ (xs : List ℕ). separator is_first ++ told ++ xs) (h false (room - length told - 2))

list_as : (js : List Judgement) (is_first : Bool) (room : ℕ) →
    fitting_list is_first room js ≡ list_in is_first room (map shown js)
list_as [] is_first room = refl
list_as (j ∷ js) is_first room =
    list_by is_first room j.told.now j.fits (nat_lt (room - length j.told.now) 2) js (list_as js)

same_list : (js ks : List Judgement) → map shown js ≡ map shown ks →
    fitting_list true FIRST_ROOM js ≡ fitting_list true FIRST_ROOM ks
same_list js ks e =
    list_as js true FIRST_ROOM ∙ ap (list_in true FIRST_ROOM) e ∙ sym (list_as ks true FIRST_ROOM)

abbrev some_list : List (List ℕ × Bool) → List ℕ
some_list [] = []
some_list (x ∷ xs) = EXPECTED.now ++ list_in true FIRST_ROOM (x ∷ xs)

judged_as : (js : List Judgement) → judged_text js ≡ some_list (map shown js)
unfolding expected_text
judged_as [] = refl
judged_as (j ∷ js) = ap (λ (xs : List ℕ). EXPECTED.now ++ xs) (list_as (j ∷ js) true FIRST_ROOM)

same_text : (js ks : List Judgement) → map shown js ≡ map shown ks → judged_text js ≡ judged_text ks
same_text js ks e = judged_as js ∙ ap some_list e ∙ sym (judged_as ks)

-- ---- hints, by which candidates fit

abbrev word_hints_by : Kind → List ℕ → (List ℕ → Bool) → List ℕ
word_hints_by kind told f =
    hint_text (is_reserved_word kind && f (codes "a name") && not (f (codes "LET"))) RESERVED_HINT.now told
    ++ hint_text (is_name kind && not (is_reserved_word kind) && f (codes "UNITS")) UNIT_HINT.now told

abbrev block_hints_by : List WordAt → (List ℕ → Bool) → List ℕ
block_hints_by ws f =
    open_hint (f (codes "ALWAYS")) IF_HINT.now
    (open_lines (map (λ row. row.now) IFS) (map (λ row. row.now) ALWAYS) [] ws)
    ++ open_hint (f (codes "LOOP")) DO_HINT.now
    (open_lines (map (λ row. row.now) DOS) (map (λ row. row.now) LOOPS) [] ws)

abbrev meant_hints_by : List WordAt → Kind → (List ℕ → Bool) → List ℕ
meant_hints_by ws kind f =
    given (is_kind_among (map (λ row. row.now) THENS) kind && f (codes "AND")) THEN_HINT.now
    ++ given (is_kind_among (map (λ row. row.now) LOOP_ENDS) kind && f (codes "LET")) LOOP_END_HINT.now
    ++ given (is_kind_among (map (λ row. row.now) NOTS) kind) NOT_HINT.now ++ signs_hint (last_kind None ws) kind
    ++ given (is_kind_among (map (λ row. row.now) PROCESS_WORDS) kind) PROCESS_HINT.now
    ++ (if f (codes "=") then assigned_hints ws else [])

same_meant : (js ks : List Judgement) (ws : List WordAt) (kind : Kind) → fits js ≡ fits ks →
    meant_hints js ws kind ≡ meant_hints ks ws kind
unfolding meant_hints
same_meant js ks ws kind e = ap (meant_hints_by ws kind) e

same_word : (js ks : List Judgement) (kind : Kind) (told : List ℕ) → fits js ≡ fits ks →
    word_hints js kind told ≡ word_hints ks kind told
same_word js ks kind told e = ap (word_hints_by kind told) e

same_blocks : (js ks : List Judgement) (ws : List WordAt) → fits js ≡ fits ks → block_hints js ws ≡ block_hints ks ws
same_blocks js ks ws e = ap (block_hints_by ws) e

same_front : (js ks : List Judgement) (ws : List WordAt) → fits js ≡ fits ks → front_hints js ws ≡ front_hints ks ws
unfolding front_hints
same_front js ks ws e = ap (λ (xs : List ℕ). dropped_hint ws ++ xs) (same_blocks js ks ws e)

same_at : (js ks : List Judgement) (before : List WordAt) (w : Option WordAt) (told : List ℕ) → fits js ≡ fits ks →
    hints_at js before w told ≡ hints_at ks before w told
same_at js ks before None told e = refl
same_at js ks before (Some w) told e =
    ap (λ (xs : List ℕ). xs ++ meant_hints js before w.kind) (same_word js ks w.kind told e)
    ∙ ap (λ (xs : List ℕ). word_hints ks w.kind told ++ xs) (same_meant js ks before w.kind e)

same_unexpected : (ws : List WordAt) (i : ℕ) (js ks : List Judgement) → map shown js ≡ map shown ks →
    unexpected_text ws i js ≡ unexpected_text ws i ks
same_unexpected ws i js ks e =
    let f = same_fits js ks e in
    ap (λ (xs : List ℕ). xs ++ hints_at js (take i ws) (slice_get ws i) (told_before ws (i + 1))
    ++ front_hints js (take i ws)) (same_text js ks e)
    ∙ ap (λ (xs : List ℕ). judged_text ks ++ xs ++ front_hints js (take i ws))
    (same_at js ks (take i ws) (slice_get ws i) (told_before ws (i + 1)) f)
    ∙ ap (λ (xs : List ℕ). judged_text ks ++ hints_at ks (take i ws) (slice_get ws i) (told_before ws (i + 1)) ++ xs)
    (same_front js ks (take i ws) f)

same_ended : (ws : List WordAt) (js ks : List Judgement) → map shown js ≡ map shown ks →
    ended_text ws js ≡ ended_text ws ks
same_ended ws js ks e =
    ap (λ (xs : List ℕ). xs ++ block_hints js ws) (same_text js ks e)
    ∙ ap (λ (xs : List ℕ). judged_text ks ++ xs) (same_blocks js ks ws (same_fits js ks e))

same_behind : (ws : List WordAt) (rule : TextRule) (i : ℕ) (js ks : List Judgement) → map shown js ≡ map shown ks →
    behind_text ws rule i js ≡ behind_text ws rule i ks
same_behind ws r.UnexpectedWord i js ks e = same_unexpected ws i js ks e
same_behind ws r.UnexpectedEnd i js ks e = same_ended ws js ks e
same_behind ws rule i js ks e = refl

-- ---- there is no other explanation

one_of_rule : (model : List ℕ) (ws : List WordAt) (rule : TextRule) (i : ℕ) (a b : List ℕ) →
    IsSaidOf model ws rule i a → IsSaidOf model ws rule i b → a ≡ b
unfolding IsSaidOf
one_of_rule model ws rule i a b h k =
    h.2
    ∙ ap (λ (xs : List ℕ). sentence_text model ws rule i ++ xs)
    (same_behind ws rule i h.0 k.0 (same_of_two model (front_of ws rule i) h.0 k.0 h.1 k.1))
    ∙ sym k.2

-- a text explains words that are refused so
abbrev IsSaidBy : List ℕ → List WordAt → TextFault → List ℕ → Type 0
IsSaidBy model ws (Refused rule i) said = IsSaidOf model ws rule i said
IsSaidBy model ws Memory said = ⊥

one_of_words : (model : List ℕ) (ws : List WordAt) (a b : List ℕ) → AreSaid model ws a → AreSaid model ws b → a ≡ b
unfolding AreSaid
one_of_words model ws a b (inl h) (inl k) = h.1 ∙ sym k.1
one_of_words model ws a b (inl h) (inr k) =
    absurd (not_refused (plain_words_of (words_by_number ws)) k.0 k.1 h.0 k.2)
one_of_words model ws a b (inr h) (inl k) =
    absurd (not_refused (plain_words_of (words_by_number ws)) h.0 h.1 k.0 h.2)
one_of_words model ws a b (inr h) (inr k) =
    one_of_rule model ws h.0 h.1 a b h.3
    (subst (λ (f : TextFault). IsSaidBy model ws f b)
    (one_refusal (plain_words_of (words_by_number ws)) k.0 h.0 k.1 h.1 k.2 h.2) k.3)

abbrev words_or_none : Result (List WordAt) TextFault → List WordAt
words_or_none (Ok ws) = ws
words_or_none (Err f) = []

abbrev unread_by : List ℕ → TextFault → List ℕ
unread_by model (Refused rule l) = unread_text model rule l
unread_by model Memory = []

pub nothing_else : NothingElseIsSaid
unfolding IsSaid
nothing_else model a b (inl h) (inl k) =
    h.3 ∙ ap (unread_by model) (ap fault_in (sym h.2 ∙ k.2)) ∙ sym k.3
nothing_else model a b (inl h) (inr k) = never (Refused h.0 h.1) k.0 (sym h.2 ∙ k.1)
nothing_else model a b (inr h) (inl k) = never (Refused k.0 k.1) h.0 (sym k.2 ∙ h.1)
nothing_else model a b (inr h) (inr k) =
    one_of_words model h.0 a b h.2
    (subst (λ (ws : List WordAt). AreSaid model ws b) (ap words_or_none (sym k.1 ∙ h.1)) k.2)

-- ---- there is an explanation

-- each candidate of a table is judged
judged_rows : {R : Type 0} (front : List WordAt) (rows : List (R × Tried)) (told : R → List ℕ) →
    (js : List Judgement) × All (IsJudged front) js
    × (map candidate_of js ≡ map (λ (row : R × Tried). (told row.0, row.1)) rows)
judged_rows front [] told = ([], all_none (IsJudged front), refl)
judged_rows front (row ∷ rows) told =
    let one = some_fitting front (told row.0) row.1 in
    let more = judged_rows front rows told in
    let text : Bor (List ℕ) = record { ref_ptr = (0, 0); now = told row.0 } in
    let j : Judgement = record { told = text; tried = row.1; fits = one.0 } in (
      j ∷ more.0,
      all_with (IsJudged front) j more.0 one.1 more.1,
      ap (λ (cs : List (List ℕ × Tried)). (told row.0, row.1) ∷ cs) more.2,
    )

judged_by : (model : List ℕ) (front : List WordAt) (long : Bool) → nat_lt LONGEST_TEXT_JUDGED (length model) ≡ long →
    (js : List Judgement) × AreJudged model front js
unfolding AreJudged candidates
judged_by model front true e = ([], inl (ltb-true LONGEST_TEXT_JUDGED (length model) e, refl))
judged_by model front false e =
    let h = judged_rows front CANDIDATES (λ t. t.now) in
    (h.0, inr (ltb-false LONGEST_TEXT_JUDGED (length model) e, h.1, h.2))

some_of_rule : (model : List ℕ) (ws : List WordAt) (rule : TextRule) (i : ℕ) →
    (said : List ℕ) × IsSaidOf model ws rule i said
unfolding IsSaidOf
some_of_rule model ws rule i =
    let h = judged_by model (front_of ws rule i) (nat_lt LONGEST_TEXT_JUDGED (length model)) refl in
    (sentence_text model ws rule i ++ behind_text ws rule i h.0, (h.0, h.1, refl))

some_of_words : (model : List ℕ) (ws : List WordAt) → IsAnswered (plain_words_of (words_by_number ws)) →
    (said : List ℕ) × AreSaid model ws said
unfolding AreSaid
some_of_words model ws (inl s) = ([], inl (s, refl))
some_of_words model ws (inr h) =
    let t = some_of_rule model ws h.0 h.1 in (t.0, inr (h.0, h.1, h.2, t.1))

-- words, or a refusal by a rule
abbrev IsRead : Result (List WordAt) TextFault → Type 0
IsRead (Ok ws) = Unit {0}
IsRead (Err (Refused rule n)) = Unit {0}
IsRead (Err Memory) = ⊥

read_as : (fs all : List Finding) → IsRead (elim (breaches_in fs) [ [] ↦ Ok (words_in all) | b ∷ bs ↦ Err b ])
read_as [] all = tt
read_as (word w ∷ fs) all = read_as fs all
read_as (breach rule n ∷ fs) all = tt

words_read : (model : List ℕ) → IsRead (words_of model)
unfolding words_of answer_of
words_read model = read_as (found_in_text model) (found_in_text model)

some_by_words : (model : List ℕ) (answer : Result (List WordAt) TextFault) → words_of model ≡ answer → IsRead answer →
    (said : List ℕ) × IsSaid model said
unfolding IsSaid
some_by_words model (Ok ws) e t =
    let h = some_of_words model ws (answered (plain_words_of (words_by_number ws))) in (h.0, inr (ws, e, h.1))
some_by_words model (Err (Refused rule l)) e t = (unread_text model rule l, inl (rule, l, e, refl))
some_by_words model (Err Memory) e t = absurd t

pub something : SomethingIsSaid
something model = some_by_words model (words_of model) refl (words_read model)
