-- Whether a name is assigned, by the words before it; and the word after a name.
use Rattle.std.specs.Prelude.{◌==◌, ◌&&◌, Bool, true, false, not, List, [], ◌∷◌, Option, Some, None}
use Rattle.ss_words.specs.declared.mark.Mark.{Mark}
use Rattle.ss_words.specs.declared.mark.Mark.TheVariants.{Reserved, Sign}
use Rattle.ss_words.specs.declared.reserved.Reserved.{Reserved as AReserved}
use Rattle.ss_words.specs.declared.reserved.Reserved.TheVariants as r
use Rattle.ss_words.specs.declared.word.Sign.TheVariants as s
use Rattle.ss_words.specs.Plain.{PlainAt}
use Rattle.ss_words.specs.PlainRules.{mark_in}
use Rattle.ss_names.specs.declared.here.Here.{Here}

-- the reserved word or sign that words begin with
abbrev pub first_mark : List PlainAt → Option Mark
first_mark [] = None
first_mark (w ∷ ws) = mark_in w.word

-- an opened parenthesis
abbrev pub is_open : Option Mark → Bool
is_open (Some (Sign s.Open)) = true
is_open _ = false

-- a parenthesis is opened
abbrev pub opens : List PlainAt → Bool
opens ws = is_open (first_mark ws)

-- ADD: the name after TO
abbrev pub is_add : Option AReserved → Bool
is_add (Some r.Add) = true
is_add _ = false

-- SUBTRACT: the name after FROM
abbrev pub is_subtract : Option AReserved → Bool
is_subtract (Some r.Subtract) = true
is_subtract _ = false

-- CREATE and SCHEDULE: the name after CALLED
abbrev pub makes : Option AReserved → Bool
makes (Some r.Create) = true
makes (Some r.Schedule) = true
makes _ = false

-- REMOVE: the name after FIRST or LAST
abbrev pub is_remove : Option AReserved → Bool
is_remove (Some r.Remove) = true
is_remove _ = false

-- CALL: the names after YIELDING
abbrev pub is_call : Option AReserved → Bool
is_call (Some r.Call) = true
is_call _ = false

-- YIELDING
abbrev pub is_yielding : Option AReserved → Bool
is_yielding (Some r.Yielding) = true
is_yielding _ = false

-- IN, and OF, which is IN
abbrev pub is_in : Option AReserved → Bool
is_in (Some r.In) = true
is_in _ = false

-- a statement, by the word that begins it, assigns the name directly after a reserved word
abbrev pub assigns : AReserved → Option AReserved → Bool
assigns r.Let begun = true
assigns r.Read begun = true
assigns r.Compute begun = true
assigns r.Yielding begun = is_call begun
assigns r.To begun = is_add begun
assigns r.From begun = is_subtract begun
assigns r.Called begun = makes begun
assigns r.First begun = is_remove begun
assigns r.Last begun = is_remove begun
assigns _ begun = false

-- it assigns each name of a list: READ, CALL after YIELDING, and COMPUTE before OF
abbrev pub assigns_list : Option AReserved → Option AReserved → Bool
assigns_list (Some r.Read) last = true
assigns_list (Some r.Call) last = is_yielding last
assigns_list (Some r.Compute) last = not (is_in last)
assigns_list _ last = false

-- it assigns the name directly after this word or sign
abbrev pub assigns_behind : Here → Option Mark → Bool
assigns_behind here (Some (Reserved w)) = assigns w here.begun
assigns_behind here (Some (Sign s.Comma)) = here.depth == 0 && assigns_list here.begun here.last
assigns_behind here _ = false

-- the statement that a name is in assigns it
abbrev pub is_target : Here → Bool
is_target here = assigns_behind here here.before
