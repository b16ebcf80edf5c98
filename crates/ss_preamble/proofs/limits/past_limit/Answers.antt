use Rattle.std.proofs.Common.{arith, ap, length, take, drop, ◌-◌, ◌∙◌}
use Rattle.ss_words.specs.Plain.{Plain, plains_of}
use Rattle.ss_preamble.specs.Roles.{role, behind_word}
use Rattle.ss_preamble.specs.Tally.{standing_view, role_view, tally_view}
use Rattle.ss_preamble.proofs.PastLimitLoop.{split_first, turns_at, stops_at}
use Rattle.ss_preamble.proofs.limits.past_limit.Goals as goal

pub returns-then-not-branch-clause-some : goal.returns-then-not-branch-clause-some
returns-then-not-branch-clause-some c =
    stops_at c.args.words.now c.loop-rest.rest.now _ _ (standing_view c.loop-rest.standing)
    (tally_view c.loop-rest.tally) (tally_view c.takes.new.self) (role_view c.word_role.result) c.saturating_sub.result
    (split_first c.loop-rest.rest.now c.word-item.result c.in-len1-up.len_at_least c.word-item.is)
    c.loop-rest.invariant.counted
    (c.word_role.ensures ∙ ap (role (standing_view c.loop-rest.standing)) c.kind-kind.ensures)
    c.in_ok-takes.ensures.exact _ c.in_ok-takes.ensures.fits c.if-not-branch.true
    (omega (arith, c.saturating_sub.ensures))

pub loop-rest-preserved : goal.loop-rest-preserved
loop-rest-preserved c = record {
  counted =
      turns_at c.args.words.now c.loop-rest.rest.now _ _ (standing_view c.loop-rest.standing)
      (standing_view c.behind-standing.result) (tally_view c.loop-rest.tally) (tally_view c.takes.new.self)
      (role_view c.word_role.result)
      (split_first c.loop-rest.rest.now c.word-item.result c.in-len1-up.len_at_least c.word-item.is)
      c.loop-rest.invariant.counted
      (c.word_role.ensures ∙ ap (role (standing_view c.loop-rest.standing)) c.kind-kind.ensures)
      c.in_ok-takes.ensures.exact _ c.in_ok-takes.ensures.fits c.if-not-branch.false
      (c.behind-standing.ensures.exact
      ∙ ap
      (λ (w : Plain). behind_word (standing_view c.loop-rest.standing) w
      (plains_of (take (length c.loop-rest.rest.now - 1) (drop 1 c.loop-rest.rest.now))))
      c.kind-kind.ensures);
  keys =
      (let before = c.loop-rest.invariant.keys in let step = c.behind-standing.ensures.keys in
      let split = (split_first c.loop-rest.rest.now c.word-item.result c.in-len1-up.len_at_least c.word-item.is) in
      omega (arith, before, step, ap (λ us. length us) split));
}
