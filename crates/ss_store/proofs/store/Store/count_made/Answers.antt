use Rattle.ss_store.proofs.MakingAnswers.{at_of, count_given, count_all}
use Rattle.ss_store.proofs.store.Store.count_made.Goals as goal

pub returns-clause-given : goal.returns-clause-given
returns-clause-given g c = λ e. count_given _ _ c.args.class c.count.result c.index-shape.result.now
    (at_of _ _ c.args.class c.index-shape.result.now c.self.view_is c.self.invariant.2 c.requires c.index-shape.ensures)
    c.count.ensures e

pub returns-clause-made : goal.returns-clause-made
returns-clause-made g c = λ e. count_all _ _ c.args.class c.count.result c.index-shape.result.now
    (at_of _ _ c.args.class c.index-shape.result.now c.self.view_is c.self.invariant.2 c.requires c.index-shape.ensures)
    c.count.ensures e
