use Rattle.std.proofs.Common.{◌≡◌, ◌++◌, ◌∙◌, ap, ℕ, List}
use Rattle.ss_prompt.specs.PromptState.{greeting}
use Rattle.ssdb.proofs.opening.put_greeting.Goals as goal

pub returns-in-Ok-clause-ok : goal.returns-in-Ok-clause-ok
returns-in-Ok-clause-ok g c =
    let text : c.deref.result.now ≡ greeting c.args.prompt.now =
    c.deref.ensures.value ∙ c.in_ok-push_greeting.ensures
    ∙ ap (λ (t : List ℕ). t ++ greeting c.args.prompt.now) c.new-text.ensures.items in
    rw text at c.in-Ok.ensures.ok
