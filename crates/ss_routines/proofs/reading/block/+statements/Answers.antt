use Rattle.std.proofs.Common.{ℕ, ◌-◌, List, Bool, refl, arith}
use Rattle.std.proofs.lemmas.Result.{err_from_is_err_and}
use Rattle.ss_words.specs.declared.mark.Mark.TheVariants as m
use Rattle.ss_words.specs.declared.reserved.Reserved.TheVariants as r
use Rattle.ss_words.specs.Plain.{word_lines}
use Rattle.ss_words.specs.Reading.{Reading}
use Rattle.ss_words.proofs.Loop.{passes_on}
use Rattle.ss_words.proofs.Writes.{noting_begins, noting_turns, noting_stops, noting_fails}
use Rattle.ss_routines.specs.Combined.{eat_allowed}
use Rattle.ss_routines.specs.LoopReading.{phrase_at}
use Rattle.ss_routines.specs.Places.{Spot}
use Rattle.ss_routines.specs.PlacesAtLines.{noting_statement, noting_block, noting_if, noting_loop, noting_statements}
use Rattle.ss_routines.specs.PlacesAtLines.{noting_branch, noting_controlled, noting_repeated}
use Rattle.ss_routines.specs.View.{phrase_view, spots}
use Rattle.ss_routines.proofs.NotingRooms.{if_fails, if_absent, if_done, if_undone, for_fails, for_absent, for_unread}
use Rattle.ss_routines.proofs.NotingRooms.{for_done, for_undone}
use Rattle.ss_routines.proofs.PartAnswers.{stops, stops_behind, gives_behind}
use Rattle.ss_routines.proofs.reading.block.+statements.Goals as goal

-- a statement, with the rooms for IFs and phrases
abbrev item : List ℕ → ℕ → ℕ → ℕ → List Spot → Reading (Bool × List Spot)
item lines n i f = noting_statement lines n (noting_if lines n i f) (noting_loop lines n (noting_if lines n i) f)

pub block-loop-init : goal.block-loop-init
unfolding noting_block
block-loop-init t c =
    record {
      shorter = omega arith;
      going = noting_begins
          (item (word_lines c.args.text.now) c.args.room.parentheses c.args.room.ifs c.args.room.phrases)
          (noting_statements (word_lines c.args.text.now) c.args.room.parentheses c.args.room.ifs
          c.args.room.phrases) _ _
          refl;
    }

pub block-returns-in_err-statement-clause-exact : goal.block-returns-in_err-statement-clause-exact
block-returns-in_err-statement-clause-exact t c =
    let p = err_from_is_err_and c.from_residual.result c.from_residual.ensures.1 in
    rw (p.1, p.2) (passes_on c.in_err-statement.field-0.0 c.statement.new.cursor
    (item (word_lines c.args.text.now) c.args.room.parentheses c.args.room.ifs c.args.room.phrases
    (spots c.loop.out.items) c.loop.cursor) _
    (λ e h. noting_fails (item (word_lines c.args.text.now) c.args.room.parentheses c.args.room.ifs c.args.room.phrases)
    _ (spots c.loop.out.items) c.loop.cursor c.statement.new.cursor e h c.loop.invariant.going)
    c.in_err-statement.ensures.exact)

pub block-loop-preserved : goal.block-loop-preserved
block-loop-preserved t c =
    record {
      shorter = omega (arith, c.in_ok-statement.ensures.shorter);
      going = noting_turns
          (item (word_lines c.args.text.now) c.args.room.parentheses c.args.room.ifs c.args.room.phrases) _
          (spots c.loop.out.items) (spots c.statement.new.out.items) c.loop.cursor c.statement.new.cursor
          (rw c.if-branch.true at c.in_ok-statement.ensures.exact)
          (c.in_ok-statement.ensures.taken (rw c.if-branch.true refl)) c.loop.invariant.going;
    }

pub block-returns-clause-exact : goal.block-returns-clause-exact
block-returns-clause-exact t c =
    noting_stops (item (word_lines c.args.text.now) c.args.room.parentheses c.args.room.ifs c.args.room.phrases) _
    (spots c.loop.out.items) (spots c.statement.new.out.items) c.loop.cursor c.statement.new.cursor
    (rw c.if-branch.false at c.in_ok-statement.ensures.exact) c.loop.invariant.going

pub branch-returns-in_err-allowed-clause-exact : goal.branch-returns-in_err-allowed-clause-exact
branch-returns-in_err-allowed-clause-exact t c =
    let p = err_from_is_err_and c.from_residual.result c.from_residual.ensures.1 in
    rw (p.1, p.2) (passes_on c.in_err-allowed.field-0.0 c.allowed.new.cursor
    (eat_allowed c.args.room.ifs (m.Reserved r.If) c.args.cursor.now) _
    (λ e h. if_fails (word_lines c.args.text.now) c.args.room.parentheses c.args.room.ifs c.args.room.phrases
    (spots c.args.out.now.items) c.args.cursor.now c.allowed.new.cursor e h) c.in_err-allowed.ensures.exact)

pub branch-returns-then-not-branch-clause-exact : goal.branch-returns-then-not-branch-clause-exact
branch-returns-then-not-branch-clause-exact t c =
    if_absent (word_lines c.args.text.now) c.args.room.parentheses c.args.room.ifs c.args.room.phrases
    (spots c.args.out.now.items) c.args.cursor.now c.allowed.new.cursor
    (rw c.if-not-branch.true at c.in_ok-allowed.ensures.exact)

pub branch-returns-in_err-behind_if-clause-exact : goal.branch-returns-in_err-behind_if-clause-exact
branch-returns-in_err-behind_if-clause-exact t c =
    let p = err_from_is_err_and c.from_residual-in_err-behind_if.result c.from_residual-in_err-behind_if.ensures.1 in
    rw (p.1, p.2) (passes_on c.in_err-behind_if.field-0.0 c.behind_if.new.cursor
    (noting_branch (word_lines c.args.text.now) c.args.room.parentheses
    (noting_statements (word_lines c.args.text.now) c.args.room.parentheses (c.args.room.ifs - 1)
    c.args.room.phrases) c.line-line.result (spots c.args.out.now.items) c.allowed.new.cursor) _
    (λ e h. if_undone c.args.text.now c.args.room.parentheses c.args.room.ifs c.args.room.phrases
    (spots c.args.out.now.items) c.args.cursor.now c.allowed.new.cursor
    (c.in_ok-allowed.ensures.free (rw c.if-not-branch.false refl))
    (rw c.if-not-branch.false at c.in_ok-allowed.ensures.exact) c.line-line.result c.line-line.ensures e
    c.behind_if.new.cursor h) c.in_err-behind_if.ensures.exact)

pub branch-returns-clause-exact : goal.branch-returns-clause-exact
branch-returns-clause-exact t c =
    if_done c.args.text.now c.args.room.parentheses c.args.room.ifs c.args.room.phrases (spots c.args.out.now.items)
    c.args.cursor.now c.allowed.new.cursor (c.in_ok-allowed.ensures.free (rw c.if-not-branch.false refl))
    (rw c.if-not-branch.false at c.in_ok-allowed.ensures.exact) c.line-line.result c.line-line.ensures
    (spots c.behind_if.new.out.items) c.behind_if.new.cursor c.in_ok-behind_if.ensures.exact

pub for_loop-returns-in_err-allowed-clause-exact : goal.for_loop-returns-in_err-allowed-clause-exact
for_loop-returns-in_err-allowed-clause-exact t c =
    let p = err_from_is_err_and c.from_residual.result c.from_residual.ensures.1 in
    rw (p.1, p.2) (passes_on c.in_err-allowed.field-0.0 c.allowed.new.cursor
    (eat_allowed c.args.room.phrases (m.Reserved r.For) c.args.cursor.now) _
    (λ e h. for_fails (word_lines c.args.text.now) c.args.room.parentheses
    (noting_if (word_lines c.args.text.now) c.args.room.parentheses c.args.room.ifs) c.args.room.phrases
    (spots c.args.out.now.items) c.args.cursor.now c.allowed.new.cursor e h) c.in_err-allowed.ensures.exact)

pub for_loop-returns-then-not-branch-clause-exact : goal.for_loop-returns-then-not-branch-clause-exact
for_loop-returns-then-not-branch-clause-exact t c =
    for_absent (word_lines c.args.text.now) c.args.room.parentheses
    (noting_if (word_lines c.args.text.now) c.args.room.parentheses c.args.room.ifs) c.args.room.phrases
    (spots c.args.out.now.items) c.args.cursor.now c.allowed.new.cursor
    (rw c.if-not-branch.true at c.in_ok-allowed.ensures.exact)

pub for_loop-returns-in_err-phrase-clause-exact : goal.for_loop-returns-in_err-phrase-clause-exact
for_loop-returns-in_err-phrase-clause-exact t c =
    let p = err_from_is_err_and c.from_residual-in_err-phrase.result c.from_residual-in_err-phrase.ensures.1 in
    rw (p.1, p.2) (passes_on c.in_err-phrase.field-0.0 c.phrase.new.cursor
    (phrase_at c.args.room.parentheses c.allowed.new.cursor) _
    (λ e h. for_unread c.args.text.now c.args.room.parentheses
    (noting_if (word_lines c.args.text.now) c.args.room.parentheses c.args.room.ifs) c.args.room.phrases
    (spots c.args.out.now.items) c.args.cursor.now c.allowed.new.cursor
    (c.in_ok-allowed.ensures.free (rw c.if-not-branch.false refl))
    (rw c.if-not-branch.false at c.in_ok-allowed.ensures.exact) e c.phrase.new.cursor h)
    c.in_err-phrase.ensures.exact)

pub for_loop-returns-in_err-controlled-clause-exact : goal.for_loop-returns-in_err-controlled-clause-exact
for_loop-returns-in_err-controlled-clause-exact t c =
    let p = err_from_is_err_and c.from_residual-in_err-controlled.result c.from_residual-in_err-controlled.ensures.1 in
    rw (p.1, p.2) (passes_on c.in_err-controlled.field-0.0 c.controlled.new.cursor
    (noting_controlled (word_lines c.args.text.now) c.args.room.parentheses
    (noting_if (word_lines c.args.text.now) c.args.room.parentheses c.args.room.ifs (c.args.room.phrases - 1))
    (noting_loop (word_lines c.args.text.now) c.args.room.parentheses
    (noting_if (word_lines c.args.text.now) c.args.room.parentheses c.args.room.ifs) (c.args.room.phrases - 1))
    c.line-line.result (phrase_view c.in_ok-phrase.phrase) (spots c.args.out.now.items) c.phrase.new.cursor) _
    (λ e h. for_undone c.args.text.now c.args.room.parentheses
    (noting_if (word_lines c.args.text.now) c.args.room.parentheses c.args.room.ifs) c.args.room.phrases
    (spots c.args.out.now.items) c.args.cursor.now c.allowed.new.cursor
    (c.in_ok-allowed.ensures.free (rw c.if-not-branch.false refl))
    (rw c.if-not-branch.false at c.in_ok-allowed.ensures.exact) c.line-line.result c.line-line.ensures
    (phrase_view c.in_ok-phrase.phrase) c.phrase.new.cursor c.in_ok-phrase.ensures.exact e c.controlled.new.cursor
    h) c.in_err-controlled.ensures.exact)

pub for_loop-returns-clause-exact : goal.for_loop-returns-clause-exact
for_loop-returns-clause-exact t c =
    for_done c.args.text.now c.args.room.parentheses (noting_if (word_lines c.args.text.now) c.args.room.parentheses
    c.args.room.ifs) c.args.room.phrases (spots c.args.out.now.items) c.args.cursor.now c.allowed.new.cursor
    (c.in_ok-allowed.ensures.free (rw c.if-not-branch.false refl))
    (rw c.if-not-branch.false at c.in_ok-allowed.ensures.exact) c.line-line.result c.line-line.ensures
    (phrase_view c.in_ok-phrase.phrase) c.phrase.new.cursor c.in_ok-phrase.ensures.exact
    (spots c.controlled.new.out.items) c.controlled.new.cursor c.in_ok-controlled.ensures.exact

pub behind_if-returns-in_err-question-clause-exact : goal.behind_if-returns-in_err-question-clause-exact
unfolding noting_branch
behind_if-returns-in_err-question-clause-exact t c =
    let p = err_from_is_err_and c.from_residual.result c.from_residual.ensures.1 in
    rw (p.1, p.2) (stops _ _ _ _ _ c.in_err-question.ensures.exact)

pub behind_if-returns-in_err-block-clause-exact : goal.behind_if-returns-in_err-block-clause-exact
unfolding noting_branch
behind_if-returns-in_err-block-clause-exact t c =
    let p = err_from_is_err_and c.from_residual-in_err-block.result c.from_residual-in_err-block.ensures.1 in
    rw (p.1, p.2) (stops_behind _ _ _ _ _ _ _ c.in_ok-question.ensures.exact
    (stops _ _ _ _ _ (rw c.in_ok-note.ensures.noted at c.in_err-block.ensures.exact)))

pub behind_if-returns-in_err-otherwise-clause-exact : goal.behind_if-returns-in_err-otherwise-clause-exact
unfolding noting_branch
behind_if-returns-in_err-otherwise-clause-exact t c =
    let p = err_from_is_err_and c.from_residual-in_err-otherwise.result c.from_residual-in_err-otherwise.ensures.1 in
    rw (p.1, p.2) (stops_behind _ _ _ _ _ _ _ c.in_ok-question.ensures.exact
    (stops_behind _ _ _ _ _ _ _ (rw c.in_ok-note.ensures.noted at c.in_ok-block.ensures.exact)
    (stops _ _ _ _ _ c.in_err-otherwise.ensures.exact)))

pub behind_if-returns-clause-exact : goal.behind_if-returns-clause-exact
unfolding noting_branch
behind_if-returns-clause-exact t c =
    gives_behind _ _ _ _ _ _ _ _ c.in_ok-question.ensures.exact
    (gives_behind _ _ _ _ _ _ _ _ (rw c.in_ok-note.ensures.noted at c.in_ok-block.ensures.exact)
    (gives_behind _ _ _ _ _ _ _ _ c.in_ok-otherwise.ensures.exact c.always.ensures.exact))

pub controlled-returns-then-repeats-clause-exact : goal.controlled-returns-then-repeats-clause-exact
unfolding noting_controlled
controlled-returns-then-repeats-clause-exact t c =
    gives_behind _ _ _ _ _ _ _ _ (rw c.if-repeats.true at c.eat-repeats.ensures.exact)
    (rw (c.in_ok-note.ensures.noted, c.in_ok-phrase.ensures.ok, c.if-repeats.true) at c.repeated.ensures.exact)

pub repeated-returns-in_err-block-clause-exact : goal.repeated-returns-in_err-block-clause-exact
unfolding noting_repeated
repeated-returns-in_err-block-clause-exact t c =
    let p = err_from_is_err_and c.from_residual.result c.from_residual.ensures.1 in
    rw (p.1, p.2) (stops _ _ _ _ _ c.in_err-block.ensures.exact)

pub repeated-returns-clause-exact : goal.repeated-returns-clause-exact
unfolding noting_repeated
repeated-returns-clause-exact t c = gives_behind _ _ _ _ _ _ _ _ c.in_ok-block.ensures.exact c.next.ensures.exact
