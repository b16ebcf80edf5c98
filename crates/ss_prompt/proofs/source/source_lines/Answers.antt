use Rattle.std.proofs.Common.{◌<◌, length, map, rules, ◌∙◌, ap}
use Rattle.std.proofs.lemmas.List.{map_push}
use Rattle.ss_prompt.proofs.SourceLines.{line_taken, all_taken}
use Rattle.ss_prompt.proofs.source.source_lines.Goals as goal

pub loop-rest-preserved : goal.loop-rest-preserved
loop-rest-preserved c =
    let some : 0 < length c.loop-rest.rest.now = search rules in
    line_taken (map (λ v. v.now) c.loop-rest.lines.items) _ _ c.loop-rest.rest.now _ _ c.without_return.result.now some
    c.split_line.ensures.before c.split_line.ensures.after (search rules) c.loop-rest.invariant
    (ap (map (λ v. v.now)) c.in_ok-push.ensures.items
    ∙ map_push (λ v. v.now) c.loop-rest.lines.items c.without_return.result)

pub returns : goal.returns
returns c = all_taken _ _ c.loop-rest.rest.now (search rules) c.loop-rest.invariant
