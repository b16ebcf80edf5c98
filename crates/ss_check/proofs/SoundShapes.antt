-- Places of a section as a tree: which is inside which, regardless of the names at the places.
use Rattle.std.specs.Prelude.{◌≡◌, ℕ, Bool, true, false, List, [], ◌∷◌, ◌++◌}
use Rattle.ss_program.specs.declared.branch.Question.{Question}
use Rattle.ss_program.specs.declared.branch.Branch.TheVariants.{If, Else, Always}
use Rattle.ss_program.specs.declared.looping.Qualifier.{Qualifier}
use Rattle.ss_program.specs.declared.looping.Phrase.{Phrase}
use Rattle.ss_program.specs.declared.looping.Telling.{Telling}
use Rattle.ss_program.specs.declared.looping.Looping.TheVariants.{For, Loop, Find, Gather, Tell}
use Rattle.ss_program.specs.declared.place.Control.TheVariants.{End}
use Rattle.ss_program.specs.declared.place.Place.{Place}
use Rattle.ss_program.specs.declared.place.Place.TheVariants.{Control, Branch, Looping}
use Rattle.ss_program.specs.declared.place.Spot.{Spot}
use Rattle.ss_program.specs.ProgramExpr.{Expr}

-- a place that neither opens nor closes nor ends anything
abbrev pub is_simple : Place → Bool
is_simple (Control End) = false
is_simple (Branch b) = false
is_simple (Looping l) = false
is_simple _ = true

-- ---- single places

abbrev pub if_at : ℕ → Question → Spot
if_at l q = record { line = l; place = Branch (If q) }

abbrev pub else_at : ℕ → Spot
else_at l = record { line = l; place = Branch Else }

abbrev pub always_at : ℕ → Spot
always_at l = record { line = l; place = Branch Always }

-- a phrase, and its range
pub record Head : Type 0 where
  pub line : ℕ
  pub phrase : Phrase
  pub qualifiers : List Qualifier

abbrev pub for_at : Head → Bool → Spot
for_at f has_do = record {
  line = f.line;
  place = Looping (For (record { phrase = f.phrase; qualifiers = f.qualifiers; has_do = has_do }));
}

abbrev pub loop_at : ℕ → Spot
loop_at l = record { line = l; place = Looping Loop }

abbrev pub find_at : ℕ → Spot
find_at l = record { line = l; place = Looping Find }

abbrev pub gather_at : ℕ → Expr → Spot
gather_at l e = record { line = l; place = Looping (Gather e) }

abbrev pub tell_at : ℕ → List Telling → Spot
tell_at l ts = record { line = l; place = Looping (Tell ts) }

-- ---- trees, each part with the lines of its places

mutual
  pub data Block : Type 0 where
    no_statements : Block
    statement : Statement → Block → Block

  pub data Statement : Type 0 where
    alone : One → Statement
    loop : Head → Controlled → Statement

  pub data One : Type 0 where
    simple : (s : Spot) → is_simple s.place ≡ true → One
    branch : ℕ → Question → Block → Otherwise → ℕ → One

  pub data Otherwise : Type 0 where
    no_else : Otherwise
    else_with : ℕ → Block → Otherwise

  pub data Controlled : Type 0 where
    further : Head → Controlled → Controlled
    repeated : Block → ℕ → Controlled
    single : One → Controlled
    find : ℕ → Controlled
    compute : ℕ → Expr → ℕ → List Telling → Controlled

-- ---- their places

abbrev mutual
  pub flat_block : Block → List Spot
  flat_block no_statements = []
  flat_block (statement t b) = flat_statement t ++ flat_block b

  pub flat_statement : Statement → List Spot
  flat_statement (alone o) = flat_one o
  flat_statement (loop f c) = flat_loop f c

  pub flat_one : One → List Spot
  flat_one (simple s h) = s ∷ []
  flat_one (branch l q b e m) = if_at l q ∷ (flat_block b ++ flat_otherwise e ++ always_at m ∷ [])

  pub flat_otherwise : Otherwise → List Spot
  flat_otherwise no_else = []
  flat_otherwise (else_with l b) = else_at l ∷ flat_block b

  pub flat_loop : Head → Controlled → List Spot
  flat_loop f (further g c) = for_at f false ∷ flat_loop g c
  flat_loop f (repeated b l) = for_at f true ∷ (flat_block b ++ loop_at l ∷ [])
  flat_loop f (single o) = for_at f false ∷ flat_one o
  flat_loop f (find l) = for_at f false ∷ find_at l ∷ []
  flat_loop f (compute l e m ts) = for_at f false ∷ gather_at l e ∷ tell_at m ts ∷ []
