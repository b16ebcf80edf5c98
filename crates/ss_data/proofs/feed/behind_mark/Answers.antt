use Rattle.std.proofs.Common.{refl, ap, sym, ◌∙◌, rules}
use Rattle.std.specs.Option.{option_copied}
use Rattle.ss_data.proofs.EntryLemmas.{place-here, place-later, place-none}
use Rattle.ss_data.proofs.feed.behind_mark.Goals as goal

pub loop-piece-init : goal.loop-piece-init
loop-piece-init c = refl

pub returns-then-is_mark-clause-place : goal.returns-then-is_mark-clause-place
returns-then-is_mark-clause-place c =
    let next = sym c.get.ensures.piece ∙ ap option_copied c.in-Some.is in
    sym (place-here c.args.pieces.now c.loop-piece.place c.in-Some.piece.now next
    (sym c.is_mark.ensures ∙ c.if-is_mark.true))
    ∙ c.loop-piece.invariant

pub loop-piece-smaller : goal.loop-piece-smaller
loop-piece-smaller c = search rules

pub loop-piece-preserved : goal.loop-piece-preserved
loop-piece-preserved c =
    let next = sym c.get.ensures.piece ∙ ap option_copied c.in-Some.is in
    sym (place-later c.args.pieces.now c.loop-piece.place c.in-Some.piece.now next
    (sym c.is_mark.ensures ∙ c.if-is_mark.false))
    ∙ c.loop-piece.invariant

pub returns-clause-place : goal.returns-clause-place
returns-clause-place c =
    let end = sym c.get.ensures.piece ∙ ap option_copied c.in_default.is in
    sym (place-none c.args.pieces.now c.loop-piece.place end) ∙ c.loop-piece.invariant
