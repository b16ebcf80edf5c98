-- The plain words of the examples' models, and the trees that they spell.
use Rattle.std.proofs.Common.{◌≡◌, ℕ, true, false, List, [], ◌∷◌, None, codes, refl}
use Rattle.ss_words.specs.declared.mark.Mark.TheVariants as m
use Rattle.ss_words.specs.declared.word.Sign.TheVariants as s
use Rattle.ss_words.specs.declared.reserved.Reserved.TheVariants as r
use Rattle.ss_words.specs.Plain.{PlainAt, name, number, mark, picture, plains}
use Rattle.ss_words.specs.Spellings.{spellings, mark_of}
use Rattle.ss_words.specs.PlainRules.{plain_words_of}
use Rattle.ss_routines.specs.Expr.{Expr, expr, no_sums, term, no_products, digits, named}
use Rattle.ss_routines.specs.Condition.{Reference}
use Rattle.ss_routines.specs.Simple.{Let as Lets, Add as Adds, Print as Prints, Stop as Stops, Simple, Assigns}
use Rattle.ss_routines.specs.Simple.{Transfers, Exchanges}
use Rattle.ss_routines.specs.Tree.{Block, no_statements, statement, alone, simple, MainHead, Tree, spell}
use Rattle.ss_program.specs.declared.kinds.SectionKind.TheVariants.{Main}
use Rattle.ss_program.specs.declared.target.Target.TheVariants.{Variable as ToVariable}
use Rattle.ss_program.specs.declared.variable.Variable.TheVariants.{Local}
use Rattle.ss_program.specs.declared.place.Assign.TheVariants.{Let, Add}
use Rattle.ss_program.specs.declared.place.Output.TheVariants.{Print}
use Rattle.ss_program.specs.declared.place.Control.TheVariants.{Stop, End}
use Rattle.ss_program.specs.declared.place.Place.{Place}
use Rattle.ss_program.specs.declared.place.Place.TheVariants.{Assign, Output, Control}
use Rattle.ss_program.specs.declared.place.Spot.{Spot}
use Rattle.ss_program.specs.declared.timing.Listing.TheVariants.{Given}
use Rattle.ss_program.specs.ProgramExpr as checked
use Rattle.ss_program.specs.Program.{ProgramTable}
use Rattle.ss_session.proofs.Transcripts.{at}
use Rattle.ss_session.proofs.ExampleWords.{stop_words, five_words, overflow_words, two_values_words, word_behind_words}
use Rattle.ss_session.proofs.ExampleWords.{half_statement_words}

abbrev constant : ℕ → Expr
constant n = expr None (term (digits n) no_products) no_sums

abbrev value : List ℕ → Expr
value n = expr None (term (named n) no_products) no_sums

abbrev x : Reference
x = record { name = codes "X"; subscript = None }

-- statements, one after the other
abbrev block_of : List Simple → Block
block_of [] = no_statements
block_of (a ∷ rest) = statement (alone (simple a)) (block_of rest)

-- MAIN of these statements
abbrev main : List Simple → Tree
main statements = record { head = MainHead; locals = []; block = block_of statements } ∷ []

abbrev the_constant : ℕ → checked.Expr
the_constant n = checked.expr None (checked.term (checked.digits n) checked.no_products) checked.no_sums

abbrev the_local : ℕ → checked.Expr
the_local i = checked.expr None (checked.term (checked.variable (Local i)) checked.no_products) checked.no_sums

abbrev spot : ℕ → Place → Spot
spot l p = record { line = l; place = p }

-- a program of MAIN only, on line 1
abbrev of_main : List (List ℕ) → List Spot → ProgramTable
of_main locals places = record {
  globals = [];
  classes = [];
  sets = [];
  priority = [];
  sections =
      record {
        name = codes "MAIN";
        kind = Main;
        line = 1;
        given = 0;
        yielded = 0;
        saving = false;
        locals = locals;
        places = places;
        listing = Given;
        defines = [];
      }
      ∷ [];
}

abbrev pub stop_plain : List PlainAt
stop_plain =
    at 1 0 (mark (m.Reserved r.Main)) ∷ at 2 1 (mark (m.Reserved r.Stop)) ∷ at 3 2 (mark (m.Reserved r.End)) ∷ []

pub stop_spelled : plain_words_of stop_words ≡ stop_plain
unfolding mark_of spellings
stop_spelled = refl

abbrev pub stop_tree : Tree
stop_tree = main (Transfers Stops ∷ [])

pub stop_spells : plains stop_plain ≡ spell stop_tree
stop_spells = refl

abbrev pub five_plain : List PlainAt
five_plain =
    at 1 0 (mark (m.Reserved r.Main)) ∷ at 2 1 (mark (m.Reserved r.Let)) ∷ at 2 2 (name (codes "X"))
    ∷ at 2 3 (mark (m.Sign s.Equal)) ∷ at 2 4 (number 5) ∷ at 3 5 (mark (m.Reserved r.Print)) ∷ at 3 6 (number 1)
    ∷ at 3 7 (mark (m.Reserved r.Lines)) ∷ at 3 8 (mark (m.Reserved r.With)) ∷ at 3 9 (name (codes "X"))
    ∷ at 3 10 (mark (m.Reserved r.Thus)) ∷ at 4 11 (picture (codes "X = ***" ∷ [])) ∷ at 5 12 (mark (m.Reserved r.Stop))
    ∷ at 6 13 (mark (m.Reserved r.End)) ∷ []

pub five_spelled : plain_words_of five_words ≡ five_plain
unfolding mark_of spellings
five_spelled = refl

abbrev pub five_tree : Tree
five_tree = main
    (Assigns (Lets true x (constant 5))
    ∷ Exchanges (Prints 1 (value (codes "X") ∷ []) (codes "X = ***" ∷ []))
    ∷ Transfers Stops
    ∷ [])

pub five_spells : plains five_plain ≡ spell five_tree
five_spells = refl

abbrev pub overflow_plain : List PlainAt
overflow_plain =
    at 1 0 (mark (m.Reserved r.Main)) ∷ at 2 1 (mark (m.Reserved r.Let)) ∷ at 2 2 (name (codes "X"))
    ∷ at 2 3 (mark (m.Sign s.Equal)) ∷ at 2 4 (number 9223372036854775807) ∷ at 3 5 (mark (m.Reserved r.Add))
    ∷ at 3 6 (number 1) ∷ at 3 7 (mark (m.Reserved r.To)) ∷ at 3 8 (name (codes "X")) ∷ at 4 9 (mark (m.Reserved r.End))
    ∷ []

pub overflow_spelled : plain_words_of overflow_words ≡ overflow_plain
unfolding mark_of spellings
overflow_spelled = refl

abbrev pub overflow_tree : Tree
overflow_tree = main
    (Assigns (Lets true x (constant 9223372036854775807)) ∷ Assigns (Adds (constant 1) x) ∷ [])

pub overflow_spells : plains overflow_plain ≡ spell overflow_tree
overflow_spells = refl

abbrev pub two_values_plain : List PlainAt
two_values_plain =
    at 1 0 (mark (m.Reserved r.Main)) ∷ at 2 1 (mark (m.Reserved r.Print)) ∷ at 2 2 (number 1)
    ∷ at 2 3 (mark (m.Reserved r.Lines)) ∷ at 2 4 (mark (m.Reserved r.With)) ∷ at 2 5 (name (codes "X"))
    ∷ at 2 6 (mark (m.Sign s.Comma)) ∷ at 2 7 (name (codes "Y")) ∷ at 2 8 (mark (m.Reserved r.Thus))
    ∷ at 3 9 (picture (codes "*.**" ∷ [])) ∷ at 4 10 (mark (m.Reserved r.End)) ∷ []

pub two_values_spelled : plain_words_of two_values_words ≡ two_values_plain
unfolding mark_of spellings
two_values_spelled = refl

abbrev pub two_values_tree : Tree
two_values_tree = main
    (Exchanges (Prints 1 (value (codes "X") ∷ value (codes "Y") ∷ []) (codes "*.**" ∷ [])) ∷ [])

pub two_values_spells : plains two_values_plain ≡ spell two_values_tree
two_values_spells = refl

abbrev pub word_behind_plain : List PlainAt
word_behind_plain =
    at 1 0 (mark (m.Reserved r.Main)) ∷ at 2 1 (mark (m.Reserved r.End)) ∷ at 3 2 (mark (m.Reserved r.Loop)) ∷ []

pub word_behind_spelled : plain_words_of word_behind_words ≡ word_behind_plain
unfolding mark_of spellings
word_behind_spelled = refl

abbrev pub half_statement_plain : List PlainAt
half_statement_plain =
    at 1 0 (mark (m.Reserved r.Main)) ∷ at 2 1 (mark (m.Reserved r.Let)) ∷ at 2 2 (name (codes "X"))
    ∷ at 2 3 (mark (m.Sign s.Equal)) ∷ []

pub half_statement_spelled : plain_words_of half_statement_words ≡ half_statement_plain
unfolding mark_of spellings
half_statement_spelled = refl

abbrev pub stop_program : ProgramTable
stop_program = of_main [] (spot 2 (Control Stop) ∷ spot 3 (Control End) ∷ [])

abbrev pub five_program : ProgramTable
five_program = of_main (codes "X" ∷ [])
    (spot 2 (Assign (Let true (ToVariable (Local 0)) (the_constant 5)))
    ∷ spot 3 (Output (Print 1 (the_local 0 ∷ []) (codes "X = ***" ∷ [])))
    ∷ spot 5 (Control Stop)
    ∷ spot 6 (Control End)
    ∷ [])

abbrev pub overflow_program : ProgramTable
overflow_program = of_main (codes "X" ∷ [])
    (spot 2 (Assign (Let true (ToVariable (Local 0)) (the_constant 9223372036854775807)))
    ∷ spot 3 (Assign (Add (the_constant 1) (ToVariable (Local 0))))
    ∷ spot 4 (Control End)
    ∷ [])
