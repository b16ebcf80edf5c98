use Rattle.std.proofs.Common.{◌≡◌, ◌+◌, ◌<◌, ◌==◌, false, rules, arith, length, get_or, take, ◌∙◌, ap, sym}
use Rattle.std.proofs.lemmas.List.{take_all, take_rest}
use Rattle.std.proofs.lemmas.Bool.Decides.{nat_tests}
use Rattle.ss_console.specs.Lines.{kept_part}
use Rattle.ss_console.specs.declared.lines.TheConstants.{LINE_FEED}
use Rattle.ss_console.proofs.LineLaws.{has_feed, feed_at, no_feed, no_feed_more, kept_more}
use Rattle.ss_console.proofs.lines.take_line.Goals as goal

pub returns-then-text-at-eq-LINE_FEED-clause-taken : goal.returns-then-text-at-eq-LINE_FEED-clause-taken
returns-then-text-at-eq-LINE_FEED-clause-taken c =
    let feed : get_or c.args.text.now c.loop-at.at 0 ≡ LINE_FEED = search rules in
    rw (take_rest c.args.text.now (c.loop-at.at + 1)) (
      feed_at c.args.text.now c.loop-at.at c.loop-at-test.true feed c.loop-at.invariant.one,
      c.loop-at.invariant.kept_so_far,
    )

pub loop-at-preserved : goal.loop-at-preserved
loop-at-preserved c =
    let other : (get_or c.args.text.now c.loop-at.at 0 == LINE_FEED) ≡ false = search rules in
    record {
      one = no_feed_more c.args.text.now c.loop-at.at c.loop-at-test.true other c.loop-at.invariant.one;
      kept_so_far =
          c.keep.ensures.kept
          ∙ kept_more c.args.text.now c.loop-at.line.items c.loop-at.at c.loop-at-test.true
          c.loop-at.invariant.kept_so_far;
      room = search rules;
    }

pub returns-clause-taken : goal.returns-clause-taken
returns-clause-taken c =
    let some : 0 < length c.args.text.now = grind (arith, nat_tests, rules) in
    let all : take c.loop-at.at c.args.text.now ≡ c.args.text.now =
    take_all c.loop-at.at c.args.text.now c.loop-at-test.false in
    let one : has_feed c.args.text.now ≡ false = sym (ap has_feed all) ∙ c.loop-at.invariant.one in
    (no_feed c.args.text.now one some, c.loop-at.invariant.kept_so_far ∙ ap kept_part all)
