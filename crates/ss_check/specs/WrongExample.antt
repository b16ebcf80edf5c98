-- What is wrong with small programs, and by which name.
use Rattle.std.specs.Prelude.{◌≡◌, List, [], ◌∷◌, ◌++◌, codes, Option, Some, None, option_map}
use Rattle.ss_preamble.specs.Tree.{BelongsTo, Item, Defines, Orders, Owns, PriorityOrder, Ranked, Sets, Variables}
use Rattle.ss_routines.specs.Expr.{applied, no_exprs}
use Rattle.ss_routines.specs.Tree.{Head, MainHead}
use Rattle.ss_routines.specs.Simple.{BehindGiven}
use Rattle.ss_routines.specs.Places.{Place}
use Rattle.ss_check.specs.declared.wrong.Reason.TheVariants as why
use Rattle.ss_check.specs.declared.wrong.Wrong.{Wrong}
use Rattle.ss_check.specs.Breach.{refusal}
use Rattle.ss_check.specs.Examples.{alone, applied_to_one, class_t, count_t, define, event_e, events_e, every}
use Rattle.ss_check.specs.Examples.{for_number, high, kept_m, let_be, let_x, name_a, name_d, name_w, name_x, name_y}
use Rattle.ss_check.specs.Examples.{number, one, permanent_t, plain, preamble, print, routine, section_at, set_s}
use Rattle.ss_check.specs.Examples.{system_set, temporary, temporary_t, time_v, two}
use Rattle.ss_check.specs.Statements.{about}

-- what is wrong with items and a MAIN of these places, if they break a rule
abbrev pub wrong_in_main : List Item → List Place → Option Wrong
wrong_in_main is ps = option_map (λ x. x.wrong) (refusal (preamble is) (section_at 20 MainHead ps ∷ []))

-- what is wrong with items, an empty MAIN, and an empty section
abbrev pub wrong_behind_main : List Item → Head → Option Wrong
wrong_behind_main is head =
    option_map (λ x. x.wrong) (refusal (preamble is) (section_at 20 MainHead [] ∷ section_at 30 head [] ∷ []))

-- C1: a kept attribute, the second of two names, a set in a second DEFINE, a parameter twice, a declared parameter
abbrev pub SecondNamesAreSaid : Type 0
SecondNamesAreSaid =
    (wrong_in_main (system_set ++ define kept_m ∷ []) [] ≡ Some (about why.DeclaredTwice (Some kept_m)))
    × (wrong_in_main (define name_y ∷ Defines (Variables (two name_x name_y)) ∷ []) []
    ≡ Some (about why.DeclaredTwice (Some name_y)))
    × (wrong_behind_main [] (routine (BehindGiven (two name_a name_a))) ≡ Some (about why.ParameterTwice (Some name_a)))
    × (wrong_behind_main (temporary_t ∷ []) (routine (BehindGiven (two name_a class_t)))
    ≡ Some (about why.DeclaredTwice (Some class_t)))

-- C3 X(Y(1)) of two variables; C9 an assignment to the clock, a loop over M.S; a loop over N.T breaks no rule
abbrev pub FirstWrongUsesAreSaid : Type 0
FirstWrongUsesAreSaid =
    (wrong_in_main [] (let_x (alone (applied name_x (applied_to_one name_y) no_exprs)) ∷ [])
    ≡ Some (about why.WrongUse (Some name_x)))
    × (wrong_in_main [] (let_be (plain time_v) number ∷ []) ≡ Some (about why.Fixed (Some time_v)))
    × (wrong_in_main (permanent_t ∷ []) (for_number count_t ∷ []) ≡ None)
    × (wrong_in_main system_set (for_number kept_m ∷ []) ≡ Some (about why.NoVariable (Some kept_m)))

-- C4 a set without an owner; C5 one without members; C6 a key that is no attribute; C8 an event without its section
abbrev pub WrongItemsAreSaid : Type 0
WrongItemsAreSaid =
    (wrong_in_main (temporary ∷ every class_t (BelongsTo (one set_s)) ∷ []) []
    ≡ Some (about why.Ownerless (Some set_s)))
    × (wrong_in_main (temporary ∷ every class_t (Owns (one set_s)) ∷ []) []
    ≡ Some (about why.Memberless (Some set_s)))
    × (wrong_in_main (system_set ++ Defines (Sets (one set_s) (Ranked (high name_w))) ∷ []) []
    ≡ Some (about why.WrongKey (Some name_w)))
    × (wrong_in_main (events_e ∷ []) [] ≡ Some (about why.NoSection (Some event_e)))

-- C10 and C11 are about no name; C12 is, if PRIORITY names no event
abbrev pub OtherRulesSayNoName : Type 0
OtherRulesSayNoName =
    (wrong_in_main [] (print [] (codes "*") ∷ []) ≡ Some (about why.WrongPicture None))
    × (wrong_in_main (Orders (PriorityOrder (one name_d)) ∷ []) [] ≡ Some (about why.NoEvent (Some name_d)))
    × (option_map (λ x. x.wrong) (refusal (preamble []) []) ≡ Some (about why.NoMain None))
