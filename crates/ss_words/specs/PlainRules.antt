-- The plain words of a list of words: five rules, each over the whole list that the one before it gives.
use Rattle.std.specs.Prelude.{ℕ, Bool, true, false, List, [], ◌∷◌, ◌++◌, map, Option, Some, None, if◌then◌else◌, find}
use Rattle.std.specs.Prelude.{option_and_then, option_map, option_to_list}
use Rattle.std.specs.List.{enumerate_from}
use Rattle.ss_words.specs.declared.mark.Mark.{Mark}
use Rattle.ss_words.specs.declared.mark.Mark.TheVariants.{Reserved, Sign}
use Rattle.ss_words.specs.declared.reserved.Reserved.TheVariants as r
use Rattle.ss_words.specs.declared.word.Sign.TheVariants as s
use Rattle.ss_words.specs.Words as w
use Rattle.ss_words.specs.Words.{Kind, WordAt}
use Rattle.ss_words.specs.Plain.{Plain, PlainAt, plains, first, name, number, mark, picture}
use Rattle.ss_words.specs.Spellings.{mark_of}

-- ---- the words around a word

-- the reserved word or sign that a word is
abbrev pub mark_in : Plain → Option Mark
mark_in (mark m) = Some m
mark_in _ = None

-- the reserved word or sign that a list begins with
abbrev pub beside : List Plain → Option Mark
beside ws = option_and_then mark_in (first ws)

-- the words that govern the AND and AT after them
abbrev pub is_governing : Option Mark → Bool
is_governing (Some (Reserved r.Preamble)) = true
is_governing (Some (Reserved r.Main)) = true
is_governing (Some (Reserved r.Routine)) = true
is_governing (Some (Reserved r.Event)) = true
is_governing (Some (Reserved r.Define)) = true
is_governing (Some (Reserved r.Let)) = true
is_governing (Some (Reserved r.Add)) = true
is_governing (Some (Reserved r.Subtract)) = true
is_governing (Some (Reserved r.Create)) = true
is_governing (Some (Reserved r.Destroy)) = true
is_governing (Some (Reserved r.File)) = true
is_governing (Some (Reserved r.Remove)) = true
is_governing (Some (Reserved r.If)) = true
is_governing (Some (Reserved r.For)) = true
is_governing (Some (Reserved r.Find)) = true
is_governing (Some (Reserved r.Compute)) = true
is_governing (Some (Reserved r.Schedule)) = true
is_governing (Some (Reserved r.Cancel)) = true
is_governing (Some (Reserved r.Start)) = true
is_governing (Some (Reserved r.Stop)) = true
is_governing (Some (Reserved r.Call)) = true
is_governing (Some (Reserved r.Return)) = true
is_governing (Some (Reserved r.Read)) = true
is_governing (Some (Reserved r.Print)) = true
is_governing (Some (Reserved r.Skip)) = true
is_governing _ = false

-- the word that governs the words after these, the nearest of these first
abbrev pub governing_word : List Plain → Option Mark
governing_word ws = option_and_then mark_in (find (λ w. is_governing (mark_in w)) ws)

-- the words around a word, each if it is a reserved word or a sign: the word directly before it,
-- its governing word, and the word directly after it
pub record Surroundings : Type 0 where
  -- the word directly before it
  pub before : Option Mark
  -- the word that governs it
  pub governing : Option Mark
  -- the word directly after it
  pub behind : Option Mark

-- the surroundings of a word between these; the words before it go backwards
abbrev pub surroundings : List Plain → List Plain → Surroundings
surroundings before behind =
    record { before = beside before; governing = governing_word before; behind = beside behind }

-- the result of a rule on a reserved word or sign in its surroundings; none if the rule drops it
abbrev pub PlainRule : Type 0
PlainRule = Surroundings → Mark → Option Mark

-- ---- the rules

-- whether it is AS
abbrev pub is_as : Option Mark → Bool
is_as (Some (Reserved r.As)) = true
is_as _ = false

-- whether it is FOLLOWS
abbrev pub is_follows : Option Mark → Bool
is_follows (Some (Reserved r.Follows)) = true
is_follows _ = false

-- whether it is SCHEDULE
abbrev pub is_schedule : Option Mark → Bool
is_schedule (Some (Reserved r.Schedule)) = true
is_schedule _ = false

-- whether it is ROUTINE
abbrev pub is_routine : Option Mark → Bool
is_routine (Some (Reserved r.Routine)) = true
is_routine _ = false

-- whether it is IF or FOR
abbrev pub is_if_or_for : Option Mark → Bool
is_if_or_for (Some (Reserved r.If)) = true
is_if_or_for (Some (Reserved r.For)) = true
is_if_or_for _ = false

-- whether it is a comma
abbrev pub is_comma : Option Mark → Bool
is_comma (Some (Sign s.Comma)) = true
is_comma _ = false

-- whether it is a reserved word
abbrev pub is_reserved : Option Mark → Bool
is_reserved (Some (Reserved w)) = true
is_reserved _ = false

-- AS FOLLOWS is THUS, in the place of AS
abbrev pub as_follows : PlainRule
as_follows around (Reserved r.As) = Some (Reserved (if is_follows around.behind then r.Thus else r.As))
as_follows around (Reserved r.Follows) = if is_as around.before then None else Some (Reserved r.Follows)
as_follows around m = Some m

-- directly after SCHEDULE, A and AN are A, THE and THIS are THE; elsewhere these four are dropped,
-- and everywhere MAY, OUTPUT, and TO or FOR directly after ROUTINE
abbrev pub without_fillers : PlainRule
without_fillers around (Reserved r.A) = if is_schedule around.before then Some (Reserved r.A) else None
without_fillers around (Reserved r.An) = if is_schedule around.before then Some (Reserved r.A) else None
without_fillers around (Reserved r.The) = if is_schedule around.before then Some (Reserved r.The) else None
without_fillers around (Reserved r.This) = if is_schedule around.before then Some (Reserved r.The) else None
without_fillers around (Reserved r.May) = None
without_fillers around (Reserved r.Output) = None
without_fillers around (Reserved r.To) = if is_routine around.before then None else Some (Reserved r.To)
without_fillers around (Reserved r.For) = if is_routine around.before then None else Some (Reserved r.For)
without_fillers around m = Some m

-- AND is a comma unless IF or FOR governs it; AT is IN unless SCHEDULE governs it
abbrev pub by_governing_word : PlainRule
by_governing_word around (Reserved r.And) =
    Some (if is_if_or_for around.governing then Reserved r.And else Sign s.Comma)
by_governing_word around (Reserved r.At) = Some (Reserved (if is_schedule around.governing then r.At else r.In))
by_governing_word around m = Some m

-- the first one of adjacent commas stays
abbrev pub single_commas : PlainRule
single_commas around (Sign s.Comma) = if is_comma around.before then None else Some (Sign s.Comma)
single_commas around m = Some m

-- a comma directly before a reserved word is dropped
abbrev pub parting_commas : PlainRule
parting_commas around (Sign s.Comma) = if is_reserved around.behind then None else Some (Sign s.Comma)
parting_commas around m = Some m

-- ---- a rule over a whole list

-- a word under a rule, or nothing: other kinds stay, and a word that stays keeps its line and place
abbrev pub ruled_word : PlainRule → Surroundings → PlainAt → List PlainAt
ruled_word rule surroundings word = elim word.word [
  | mark m ↦ option_to_list (option_map (λ n. record word { word = mark n }) (rule surroundings m))
  | _ ↦ word ∷ []
]

-- a rule over the words of a list that follow these, which go backwards
abbrev pub follow_behind : PlainRule → List PlainAt → List PlainAt → List PlainAt
follow_behind rule before [] = []
follow_behind rule before (w ∷ behind) =
    ruled_word rule (surroundings (plains before) (plains behind)) w ++ follow_behind rule (w ∷ before) behind

-- a rule over a whole list
abbrev pub follow : PlainRule → List PlainAt → List PlainAt
follow rule ws = follow_behind rule [] ws

-- ---- the plain words

-- a name that is reserved is the mark that its spelling means
abbrev pub name_or_mark : List ℕ → Option Mark → Plain
name_or_mark n None = name n
name_or_mark n (Some m) = mark m

-- a word of the text as a plain word, before the rules
abbrev pub plain_kind : Kind → Plain
plain_kind (w.name n) = name_or_mark n (mark_of n)
plain_kind (w.number n) = number n
plain_kind (w.sign s) = mark (Sign s)
plain_kind (w.picture ls) = picture ls

-- the plain word with its line, and with its place in the list of words
abbrev pub plain_from : ℕ → WordAt → PlainAt
plain_from i word = record { line = word.line; index = i; word = plain_kind word.kind }

-- each word of the text as a plain word
abbrev pub unruled_words : List WordAt → List PlainAt
unruled_words ws = map (λ e. plain_from e.0 e.1) (enumerate_from 0 ws)

-- each word as a plain word, and then each rule over the list that the one before it gives
abbrev pub plain_words_of : List WordAt → List PlainAt
plain_words_of ws =
    let thus = follow as_follows (unruled_words ws) in
    let bare = follow without_fillers thus in
    follow parting_commas (follow single_commas (follow by_governing_word bare))
