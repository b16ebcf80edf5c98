use Rattle.std.proofs.Common.{◌≡◌, List, [], get_or, ap, ◌∙◌, arith}
use Rattle.std.specs.Prelude.{slice_index_or}
use Rattle.ss_words.specs.Lists.{Name}
use Rattle.ss_check.specs.Symbols.{Symbols}
use Rattle.ss_check.proofs.symbols.SymbolTable.expression.Goals as goal

pub returns-in-Some : goal.returns-in-Some
returns-in-Some c =
    let kept = c.deref.ensures.value ∙ ap (λ (t : Symbols). t.locals) c.self.view_is in
    let here : c.in-Some.locals.now ≡ slice_index_or c.args.self.now.locals c.args.section [] =
    c.in-Some.ensures.lookup.4 (omega arith) [] ∙ ap (λ (ns : List (List Name)). get_or ns c.args.section []) kept in
    rw (c.scope.ensures.whole, c.scope.ensures.names, c.scope.ensures.locals, here)
    at c.judge_expression.ensures

pub returns-in-None : goal.returns-in-None
returns-in-None c =
    let kept = c.deref.ensures.value ∙ ap (λ (t : Symbols). t.locals) c.self.view_is in
    let here : [] ≡ slice_index_or c.args.self.now.locals c.args.section [] =
    c.in-None.ensures.lookup.4 (omega arith) [] ∙ ap (λ (ns : List (List Name)). get_or ns c.args.section []) kept in
    rw (
      c.scope-in-None.ensures.whole,
      c.scope-in-None.ensures.names,
      c.scope-in-None.ensures.locals ∙ c.new-nothing.ensures ∙ here,
    )
    at c.judge_expression-judged.ensures
