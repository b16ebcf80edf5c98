use Rattle.ss_store.specs.Making.{numbering_by}
use Rattle.ss_store.proofs.MakingAnswers.{at_of}
use Rattle.ss_store.proofs.TakingOffAnswers.{newest, any_row, shrinks, takes, taken_pair, taken_value}
use Rattle.ss_store.proofs.ListOrders.{none_known}
use Rattle.ss_store.proofs.store.Store.take_entity.Goals as goal

pub shrink-requires-clause-any : goal.shrink-requires-clause-any
shrink-requires-clause-any g c =
    let f = c.requires.fits in
    let k = at_of _ _ c.args.class c.index-shape.result.now c.self.view_is c.self.invariant.2 c.requires.class
    c.index-shape.ensures in
    any_row _ _ c.args.class c.index-shape.result.now f.1 f.2
    (newest _ _ c.args.class c.index-shape.result.now f.0 f.1 f.2 k f.3)

pub shrink-requires-clause-last : goal.shrink-requires-clause-last
shrink-requires-clause-last g c =
    let f = c.requires.fits in
    let k = at_of _ _ c.args.class c.index-shape.result.now c.self.view_is c.self.invariant.2 c.requires.class
    c.index-shape.ensures in
    shrinks _ _ c.args.class c.index-shape.result.now f.1 f.2 c.self.invariant.2
    (newest _ _ c.args.class c.index-shape.result.now f.0 f.1 f.2 k f.3)

pub invariant_of-self : goal.invariant_of-self
invariant_of-self g c =
    let f = c.requires.fits in
    let k = at_of _ _ c.args.class c.index-shape.result.now c.self.view_is c.self.invariant.2 c.requires.class
    c.index-shape.ensures in
    let n = newest _ _ c.args.class c.index-shape.result.now f.0 f.1 f.2 k f.3 in
    let p = taken_pair _ (numbering_by c.index-shape.result.now.permanent c.args.class) c.args.class c.index-shape.result.now
    f.1 f.2 _ _ _ c.self.invariant.2 n
    (takes _ _ c.args.class c.index-shape.result.now f.1 f.2 _ _ _ n c.shrink.ensures.rows c.shrink.ensures.numbers
    c.shrink.ensures.board c.shrink.ensures.sound) in (p.0, p.1, p.2, none_known _ _ c.forget.ensures)

pub returns : goal.returns
returns g c = λ j h t f.
    let k = at_of _ _ c.args.class c.index-shape.result.now c.self.view_is c.self.invariant.2 c.requires.class
    c.index-shape.ensures in
    let n = newest _ _ c.args.class c.index-shape.result.now j h t k f in
    taken_value _ _ (numbering_by c.index-shape.result.now.permanent c.args.class) c.args.class c.index-shape.result.now
    h t _ _ _ c.self.view_is c.self.invariant.2 n
    (takes _ _ c.args.class c.index-shape.result.now h t _ _ _ n c.shrink.ensures.rows c.shrink.ensures.numbers
    c.shrink.ensures.board c.shrink.ensures.sound)
