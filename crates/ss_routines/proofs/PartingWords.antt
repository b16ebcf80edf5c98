-- Words before which statements and phrases have ended.
use Rattle.std.proofs.Common.{◌≡◌, Bool, true, false, List, [], ◌∷◌, ◌++◌, Option, Some, None, refl}
use Rattle.ss_words.specs.declared.mark.Mark.TheVariants as m
use Rattle.ss_words.specs.declared.word.Sign.TheVariants as s
use Rattle.ss_words.specs.declared.reserved.Reserved.TheVariants as r
use Rattle.ss_words.specs.Plain.{Plain, name, mark, first}
use Rattle.ss_words.specs.Marks.{is}
use Rattle.ss_routines.specs.ExprReading.{sign_of}
use Rattle.ss_routines.specs.ConditionReading.{comparison_of}
use Rattle.ss_routines.specs.LoopReading.{qualifier_of}
use Rattle.ss_routines.specs.Simple.{Let, Add, Subtract, Create, CreateEvery, Destroy, File, FileAt, RemoveEnd, Remove}
use Rattle.ss_routines.specs.Simple.{Call, Return, Stop, Schedule, Cancel, StartSimulation, Read, Print, Skip, Simple}
use Rattle.ss_routines.specs.Simple.{Assigns, Makes, Files, Transfers, Times, Exchanges}
use Rattle.ss_routines.specs.SimpleSpelling.{spell_simple}
use Rattle.ss_routines.specs.Tree.{Statement, alone, loop, One, simple, branch, Otherwise, no_else, else_with}
use Rattle.ss_routines.specs.Tree.{Controlled, further, repeated, single, find, compute, spell_statement, spell_one}
use Rattle.ss_routines.specs.Tree.{spell_otherwise, spell_controlled}
use Rattle.ss_routines.proofs.SimpleLaw.{Calm, NoSimple, ends_at, calm_at}
use Rattle.ss_routines.proofs.LoopLaw.{Quiet}

-- whether a statement or a part of one begins or ends so
abbrev pub parts : Option Plain → Bool
parts (Some (name v)) = true
parts (Some (mark (m.Reserved r.Let))) = true
parts (Some (mark (m.Reserved r.Add))) = true
parts (Some (mark (m.Reserved r.Subtract))) = true
parts (Some (mark (m.Reserved r.Create))) = true
parts (Some (mark (m.Reserved r.Destroy))) = true
parts (Some (mark (m.Reserved r.File))) = true
parts (Some (mark (m.Reserved r.Remove))) = true
parts (Some (mark (m.Reserved r.If))) = true
parts (Some (mark (m.Reserved r.Schedule))) = true
parts (Some (mark (m.Reserved r.Cancel))) = true
parts (Some (mark (m.Reserved r.Start))) = true
parts (Some (mark (m.Reserved r.Stop))) = true
parts (Some (mark (m.Reserved r.Return))) = true
parts (Some (mark (m.Reserved r.Call))) = true
parts (Some (mark (m.Reserved r.Read))) = true
parts (Some (mark (m.Reserved r.Print))) = true
parts (Some (mark (m.Reserved r.Skip))) = true
parts (Some (mark (m.Reserved r.For))) = true
parts (Some (mark (m.Reserved r.Do))) = true
parts (Some (mark (m.Reserved r.Find))) = true
parts (Some (mark (m.Reserved r.Compute))) = true
parts (Some (mark (m.Reserved r.Else))) = true
parts (Some (mark (m.Reserved r.Always))) = true
parts (Some (mark (m.Reserved r.Loop))) = true
parts (Some (mark (m.Reserved r.End))) = true
parts _ = false

-- no part before it goes on there
pub record Settled (y : List Plain) : Type 0 where
  pub calm : Calm y
  pub quiet : Quiet y
  pub no_qualifier : qualifier_of (first y) ≡ None

settled_at : (w : Plain) (y : List Plain) → is (m.Sign s.Open) (Some w) ≡ false → is (m.Sign s.Star) (Some w) ≡ false
    → sign_of (Some w) ≡ None → is (m.Sign s.Comma) (Some w) ≡ false
    → is (m.Reserved r.Called) (Some w) ≡ false → is (m.Reserved r.Given) (Some w) ≡ false
    → is (m.Reserved r.Yielding) (Some w) ≡ false → comparison_of (Some w) ≡ None
    → is (m.Reserved r.Is) (Some w) ≡ false → is (m.Reserved r.And) (Some w) ≡ false
    → is (m.Reserved r.Or) (Some w) ≡ false → is (m.Reserved r.By) (Some w) ≡ false
    → is (m.Reserved r.In) (Some w) ≡ false → is (m.Reserved r.From) (Some w) ≡ false
    → is (m.Reserved r.After) (Some w) ≡ false → qualifier_of (Some w) ≡ None → Settled (w ∷ y)
settled_at w y e1 e2 e3 e4 e5 e6 e7 e8 e9 e10 e11 e12 e13 e14 e15 e16 =
    let ends = ends_at w y e1 e2 e3 in
    record {
      calm = calm_at w y ends e4 e5 e6 e7;
      quiet =
          record {
            condition = ((ends, e8, e9), e10, e11);
            no_by = e12;
            no_called = e5;
            no_in = e13;
            no_from = e14;
            no_after = e15;
          };
      no_qualifier = e16;
    }

settled_word : (w : Plain) (y : List Plain) → parts (Some w) ≡ true → Settled (w ∷ y)
settled_word (name v) y e =
    settled_at _ y refl refl refl refl refl refl refl refl refl refl refl refl refl refl refl refl
settled_word (mark (m.Reserved r.Let)) y e =
    settled_at _ y refl refl refl refl refl refl refl refl refl refl refl refl refl refl refl refl
settled_word (mark (m.Reserved r.Add)) y e =
    settled_at _ y refl refl refl refl refl refl refl refl refl refl refl refl refl refl refl refl
settled_word (mark (m.Reserved r.Subtract)) y e =
    settled_at _ y refl refl refl refl refl refl refl refl refl refl refl refl refl refl refl refl
settled_word (mark (m.Reserved r.Create)) y e =
    settled_at _ y refl refl refl refl refl refl refl refl refl refl refl refl refl refl refl refl
settled_word (mark (m.Reserved r.Destroy)) y e =
    settled_at _ y refl refl refl refl refl refl refl refl refl refl refl refl refl refl refl refl
settled_word (mark (m.Reserved r.File)) y e =
    settled_at _ y refl refl refl refl refl refl refl refl refl refl refl refl refl refl refl refl
settled_word (mark (m.Reserved r.Remove)) y e =
    settled_at _ y refl refl refl refl refl refl refl refl refl refl refl refl refl refl refl refl
settled_word (mark (m.Reserved r.If)) y e =
    settled_at _ y refl refl refl refl refl refl refl refl refl refl refl refl refl refl refl refl
settled_word (mark (m.Reserved r.Schedule)) y e =
    settled_at _ y refl refl refl refl refl refl refl refl refl refl refl refl refl refl refl refl
settled_word (mark (m.Reserved r.Cancel)) y e =
    settled_at _ y refl refl refl refl refl refl refl refl refl refl refl refl refl refl refl refl
settled_word (mark (m.Reserved r.Start)) y e =
    settled_at _ y refl refl refl refl refl refl refl refl refl refl refl refl refl refl refl refl
settled_word (mark (m.Reserved r.Stop)) y e =
    settled_at _ y refl refl refl refl refl refl refl refl refl refl refl refl refl refl refl refl
settled_word (mark (m.Reserved r.Return)) y e =
    settled_at _ y refl refl refl refl refl refl refl refl refl refl refl refl refl refl refl refl
settled_word (mark (m.Reserved r.Call)) y e =
    settled_at _ y refl refl refl refl refl refl refl refl refl refl refl refl refl refl refl refl
settled_word (mark (m.Reserved r.Read)) y e =
    settled_at _ y refl refl refl refl refl refl refl refl refl refl refl refl refl refl refl refl
settled_word (mark (m.Reserved r.Print)) y e =
    settled_at _ y refl refl refl refl refl refl refl refl refl refl refl refl refl refl refl refl
settled_word (mark (m.Reserved r.Skip)) y e =
    settled_at _ y refl refl refl refl refl refl refl refl refl refl refl refl refl refl refl refl
settled_word (mark (m.Reserved r.For)) y e =
    settled_at _ y refl refl refl refl refl refl refl refl refl refl refl refl refl refl refl refl
settled_word (mark (m.Reserved r.Do)) y e =
    settled_at _ y refl refl refl refl refl refl refl refl refl refl refl refl refl refl refl refl
settled_word (mark (m.Reserved r.Find)) y e =
    settled_at _ y refl refl refl refl refl refl refl refl refl refl refl refl refl refl refl refl
settled_word (mark (m.Reserved r.Compute)) y e =
    settled_at _ y refl refl refl refl refl refl refl refl refl refl refl refl refl refl refl refl
settled_word (mark (m.Reserved r.Else)) y e =
    settled_at _ y refl refl refl refl refl refl refl refl refl refl refl refl refl refl refl refl
settled_word (mark (m.Reserved r.Always)) y e =
    settled_at _ y refl refl refl refl refl refl refl refl refl refl refl refl refl refl refl refl
settled_word (mark (m.Reserved r.Loop)) y e =
    settled_at _ y refl refl refl refl refl refl refl refl refl refl refl refl refl refl refl refl
settled_word (mark (m.Reserved r.End)) y e =
    settled_at _ y refl refl refl refl refl refl refl refl refl refl refl refl refl refl refl refl
settled_word _ y e = absurd cc

-- it is neither SAVING nor DEFINE
pub parts_other : (w : Option Plain) → parts w ≡ true → (is (m.Reserved r.Saving) w ≡ false)
    × (is (m.Reserved r.Define) w ≡ false)
parts_other (Some (name v)) e = (refl, refl)
parts_other (Some (mark (m.Reserved r.Let))) e = (refl, refl)
parts_other (Some (mark (m.Reserved r.Add))) e = (refl, refl)
parts_other (Some (mark (m.Reserved r.Subtract))) e = (refl, refl)
parts_other (Some (mark (m.Reserved r.Create))) e = (refl, refl)
parts_other (Some (mark (m.Reserved r.Destroy))) e = (refl, refl)
parts_other (Some (mark (m.Reserved r.File))) e = (refl, refl)
parts_other (Some (mark (m.Reserved r.Remove))) e = (refl, refl)
parts_other (Some (mark (m.Reserved r.If))) e = (refl, refl)
parts_other (Some (mark (m.Reserved r.Schedule))) e = (refl, refl)
parts_other (Some (mark (m.Reserved r.Cancel))) e = (refl, refl)
parts_other (Some (mark (m.Reserved r.Start))) e = (refl, refl)
parts_other (Some (mark (m.Reserved r.Stop))) e = (refl, refl)
parts_other (Some (mark (m.Reserved r.Return))) e = (refl, refl)
parts_other (Some (mark (m.Reserved r.Call))) e = (refl, refl)
parts_other (Some (mark (m.Reserved r.Read))) e = (refl, refl)
parts_other (Some (mark (m.Reserved r.Print))) e = (refl, refl)
parts_other (Some (mark (m.Reserved r.Skip))) e = (refl, refl)
parts_other (Some (mark (m.Reserved r.For))) e = (refl, refl)
parts_other (Some (mark (m.Reserved r.Do))) e = (refl, refl)
parts_other (Some (mark (m.Reserved r.Find))) e = (refl, refl)
parts_other (Some (mark (m.Reserved r.Compute))) e = (refl, refl)
parts_other (Some (mark (m.Reserved r.Else))) e = (refl, refl)
parts_other (Some (mark (m.Reserved r.Always))) e = (refl, refl)
parts_other (Some (mark (m.Reserved r.Loop))) e = (refl, refl)
parts_other (Some (mark (m.Reserved r.End))) e = (refl, refl)
parts_other _ e = absurd cc

pub settled : (y : List Plain) → parts (first y) ≡ true → Settled y
settled [] e = absurd cc
settled (w ∷ y) e = settled_word w y e

-- ---- the first words of statements

pub simple_parts : (a : Simple) (y : List Plain) → parts (first (spell_simple a ++ y)) ≡ true
simple_parts (Assigns (Let true v e)) y = refl
simple_parts (Assigns (Let false v e)) y = refl
simple_parts (Assigns (Add e v)) y = refl
simple_parts (Assigns (Subtract e v)) y = refl
simple_parts (Makes (Create c v)) y = refl
simple_parts (Makes (CreateEvery c e)) y = refl
simple_parts (Makes (Destroy c v)) y = refl
simple_parts (Files (File e h v)) y = refl
simple_parts (Files (FileAt b e v)) y = refl
simple_parts (Files (RemoveEnd b u v)) y = refl
simple_parts (Files (Remove e v)) y = refl
simple_parts (Transfers (Call v es vs)) y = refl
simple_parts (Transfers Return) y = refl
simple_parts (Transfers Stop) y = refl
simple_parts (Times (Schedule a c d t)) y = refl
simple_parts (Times (Cancel c v)) y = refl
simple_parts (Times StartSimulation) y = refl
simple_parts (Exchanges (Read vs)) y = refl
simple_parts (Exchanges (Print i es p)) y = refl
simple_parts (Exchanges (Skip e)) y = refl

pub one_parts : (o : One) (y : List Plain) → parts (first (spell_one o ++ y)) ≡ true
one_parts (simple a) y = simple_parts a y
one_parts (branch q b e) y = refl

pub statement_parts : (t : Statement) (y : List Plain) → parts (first (spell_statement t ++ y)) ≡ true
statement_parts (alone o) y = one_parts o y
statement_parts (loop f c) y = refl

pub controlled_parts : (c : Controlled) (y : List Plain) → parts (first (spell_controlled c ++ y)) ≡ true
controlled_parts (further f c) y = refl
controlled_parts (repeated b) y = refl
controlled_parts (single o) y = one_parts o y
controlled_parts find y = refl
controlled_parts (compute ts e) y = refl

-- no part of a loop begins there
abbrev pub NoLoop : List Plain → Type 0
NoLoop y =
    (is (m.Reserved r.For) (first y) ≡ false) × ((is (m.Reserved r.Do) (first y) ≡ false)
    × ((is (m.Reserved r.Find) (first y) ≡ false) × (is (m.Reserved r.Compute) (first y) ≡ false)))

simple_no_loop : (a : Simple) (y : List Plain) → NoLoop (spell_simple a ++ y)
simple_no_loop (Assigns (Let true v e)) y = (refl, (refl, (refl, refl)))
simple_no_loop (Assigns (Let false v e)) y = (refl, (refl, (refl, refl)))
simple_no_loop (Assigns (Add e v)) y = (refl, (refl, (refl, refl)))
simple_no_loop (Assigns (Subtract e v)) y = (refl, (refl, (refl, refl)))
simple_no_loop (Makes (Create c v)) y = (refl, (refl, (refl, refl)))
simple_no_loop (Makes (CreateEvery c e)) y = (refl, (refl, (refl, refl)))
simple_no_loop (Makes (Destroy c v)) y = (refl, (refl, (refl, refl)))
simple_no_loop (Files (File e h v)) y = (refl, (refl, (refl, refl)))
simple_no_loop (Files (FileAt b e v)) y = (refl, (refl, (refl, refl)))
simple_no_loop (Files (RemoveEnd b u v)) y = (refl, (refl, (refl, refl)))
simple_no_loop (Files (Remove e v)) y = (refl, (refl, (refl, refl)))
simple_no_loop (Transfers (Call v es vs)) y = (refl, (refl, (refl, refl)))
simple_no_loop (Transfers Return) y = (refl, (refl, (refl, refl)))
simple_no_loop (Transfers Stop) y = (refl, (refl, (refl, refl)))
simple_no_loop (Times (Schedule a c d t)) y = (refl, (refl, (refl, refl)))
simple_no_loop (Times (Cancel c v)) y = (refl, (refl, (refl, refl)))
simple_no_loop (Times StartSimulation) y = (refl, (refl, (refl, refl)))
simple_no_loop (Exchanges (Read vs)) y = (refl, (refl, (refl, refl)))
simple_no_loop (Exchanges (Print i es p)) y = (refl, (refl, (refl, refl)))
simple_no_loop (Exchanges (Skip e)) y = (refl, (refl, (refl, refl)))

pub one_no_loop : (o : One) (y : List Plain) → NoLoop (spell_one o ++ y)
one_no_loop (simple a) y = simple_no_loop a y
one_no_loop (branch q b e) y = (refl, (refl, (refl, refl)))

-- ---- no statement begins there

-- no statement begins there
abbrev pub NoStatement : List Plain → Type 0
NoStatement y = (NoSimple y × (is (m.Reserved r.If) (first y) ≡ false)) × (is (m.Reserved r.For) (first y) ≡ false)

-- statements have ended there
abbrev pub EndsBlock : List Plain → Type 0
EndsBlock y = Calm y × NoStatement y

pub if_begins : (y : List Plain) → first y ≡ Some (mark (m.Reserved r.If)) → NoSimple y
if_begins [] e = absurd cc
if_begins (w ∷ y) e =
    let same : w ≡ mark (m.Reserved r.If) = cc in rw same (
      (refl, refl),
      (
        (refl, refl),
        (
          (refl, (refl, refl)),
          ((refl, (refl, refl)), ((refl, (refl, refl)), (refl, (refl, (refl, refl))))),
        ),
      ),
    )

pub for_begins : (y : List Plain) → first y ≡ Some (mark (m.Reserved r.For)) → NoSimple y
    × (is (m.Reserved r.If) (first y) ≡ false)
for_begins [] e = absurd cc
for_begins (w ∷ y) e =
    let same : w ≡ mark (m.Reserved r.For) = cc in rw same (
      (
        (refl, refl),
        (
          (refl, refl),
          (
            (refl, (refl, refl)),
            ((refl, (refl, refl)), ((refl, (refl, refl)), (refl, (refl, (refl, refl))))),
          ),
        ),
      ),
      refl,
    )

pub else_ends : (y : List Plain) → EndsBlock (mark (m.Reserved r.Else) ∷ y)
else_ends y =
    let h = settled (mark (m.Reserved r.Else) ∷ y) refl in (
      h.calm,
      (
        (
          (
            (refl, refl),
            (
              (refl, refl),
              (
                (refl, (refl, refl)),
                ((refl, (refl, refl)), ((refl, (refl, refl)), (refl, (refl, (refl, refl))))),
              ),
            ),
          ),
          refl,
        ),
        refl,
      ),
    )

pub always_ends : (y : List Plain) → EndsBlock (mark (m.Reserved r.Always) ∷ y)
always_ends y =
    let h = settled (mark (m.Reserved r.Always) ∷ y) refl in (
      h.calm,
      (
        (
          (
            (refl, refl),
            (
              (refl, refl),
              (
                (refl, (refl, refl)),
                ((refl, (refl, refl)), ((refl, (refl, refl)), (refl, (refl, (refl, refl))))),
              ),
            ),
          ),
          refl,
        ),
        refl,
      ),
    )

pub loop_ends : (y : List Plain) → EndsBlock (mark (m.Reserved r.Loop) ∷ y)
loop_ends y =
    let h = settled (mark (m.Reserved r.Loop) ∷ y) refl in (
      h.calm,
      (
        (
          (
            (refl, refl),
            (
              (refl, refl),
              (
                (refl, (refl, refl)),
                ((refl, (refl, refl)), ((refl, (refl, refl)), (refl, (refl, (refl, refl))))),
              ),
            ),
          ),
          refl,
        ),
        refl,
      ),
    )

pub end_ends : (y : List Plain) → EndsBlock (mark (m.Reserved r.End) ∷ y)
end_ends y =
    let h = settled (mark (m.Reserved r.End) ∷ y) refl in (
      h.calm,
      (
        (
          (
            (refl, refl),
            (
              (refl, refl),
              (
                (refl, (refl, refl)),
                ((refl, (refl, refl)), ((refl, (refl, refl)), (refl, (refl, (refl, refl))))),
              ),
            ),
          ),
          refl,
        ),
        refl,
      ),
    )

pub otherwise_ends : (e : Otherwise) (y : List Plain) → EndsBlock (spell_otherwise e ++ mark (m.Reserved r.Always) ∷ y)
otherwise_ends no_else y = always_ends y
otherwise_ends (else_with b) y = else_ends _
