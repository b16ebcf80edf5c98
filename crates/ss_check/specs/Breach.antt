-- The first rule of the checker that a program breaks, in the order of its statements.
use Rattle.std.specs.Prelude.{ℕ, false, not, List, [], ◌∷◌, ◌++◌, map, Option, None, unwrap_or}
use Rattle.std.specs.List.{list_any}
use Rattle.ss_preamble.specs.Tree.{Decls}
use Rattle.ss_routines.specs.Tree.{Head}
use Rattle.ss_routines.specs.Places.{Spot, Section}
use Rattle.ss_check.specs.declared.fault.CheckRule.{CheckRule}
use Rattle.ss_check.specs.declared.fault.CheckRule.TheVariants.{WrongMain}
use Rattle.ss_check.specs.Declarations.{Declared}
use Rattle.ss_check.specs.Declarations.{HeadedItem, headed_items, is_main, declared_by, declared_by_program}
use Rattle.ss_check.specs.declared.wrong.Reason.TheVariants.{NoMain}
use Rattle.ss_check.specs.Statements.{Statement, Refusal, about, rule_where, first_breach, first_refusal}
use Rattle.ss_check.specs.ItemRules.{item_statement, head_statement, local_statement}
use Rattle.ss_check.specs.PlaceRules.{place_statements}

-- ---- the statements that can break a rule; d: the declarations of the whole program

-- items after others
abbrev pub item_statements : Declared → List HeadedItem → List HeadedItem → List Statement
item_statements declared before [] = []
item_statements declared before (x ∷ xs) =
    item_statement declared (declared_by before []) x ∷ item_statements declared (before ++ x ∷ []) xs

-- a section; b: the declarations of the items and the heads before it
abbrev pub section_statements : Declared → Declared → Section → List Statement
section_statements d b section =
    head_statement d b section
    ∷ (map (local_statement d) section.locals ++ place_statements d (is_main section.head) false section.places)

-- sections after items and other heads
abbrev pub sections_statements : Declared → List HeadedItem → List Head → List Section → List Statement
sections_statements declared xs before [] = []
sections_statements declared xs before (s ∷ ss) =
    section_statements declared (declared_by xs before) s ++ sections_statements declared xs (before ++ s.head ∷ []) ss

-- the line of the last place, or l if there is none
abbrev pub last_line : ℕ → List Spot → ℕ
last_line l [] = l
last_line l (p ∷ ps) = last_line p.line ps

-- the line of the last END of sections, or l if there are none
abbrev pub last_end : ℕ → List Section → ℕ
last_end l [] = l
last_end l (s ∷ ss) = last_end (last_line l s.places) ss

-- C11 at the last END, that of the preamble or line 1 if there are no sections: no MAIN
abbrev pub end_statement : Option ℕ → List Section → Statement
end_statement end sections = record {
  line = last_end (unwrap_or end 1) sections;
  breaks = rule_where WrongMain (not (list_any (λ s. is_main s.head) sections));
  wrong = λ rule. about NoMain None;
}

-- items under their headings, and sections
abbrev pub statements_with : Declared → List HeadedItem → Option ℕ → List Section → List Statement
statements_with declared xs end sections =
    item_statements declared [] xs ++ sections_statements declared xs [] sections ++ end_statement end sections ∷ []

-- all of a program, in the order of the text
abbrev pub statements : Decls → List Section → List Statement
statements decls sections =
    statements_with (declared_by_program decls.items sections) (headed_items decls.items) decls.end sections

-- the first breach of a program, if there is one
abbrev pub breach : Decls → List Section → Option (CheckRule × ℕ)
breach decls sections = first_breach (statements decls sections)

-- the first breach of a program with what is wrong, if there is one
abbrev pub refusal : Decls → List Section → Option Refusal
refusal decls sections = first_refusal (statements decls sections)
