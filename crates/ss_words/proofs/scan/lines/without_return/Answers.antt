use Rattle.std.proofs.Common.{sym, arith, length, ◌-◌, false-eqb}
use Rattle.ss_words.proofs.TextBytesLemmas.{eqb-same}
use Rattle.ss_words.proofs.TextLineLemmas.{without_return-nil, without_return-return, without_return-other}
use Rattle.ss_words.proofs.scan.lines.without_return.Goals as goal

pub returns-then-is_empty : goal.returns-then-is_empty
returns-then-is_empty c = sym (without_return-nil _ (eqb-same _ 0 (sym c.if-is_empty.ensures)))

pub returns-then-line-last-eq-CARRIAGE_RETURN : goal.returns-then-line-last-eq-CARRIAGE_RETURN
returns-then-line-last-eq-CARRIAGE_RETURN c =
    sym (without_return-return _ _ (omega (arith, false-eqb _ 0 c.if-is_empty.ensures))
    c.if-line-last-eq-CARRIAGE_RETURN.true)

pub returns-else-line-last-eq-CARRIAGE_RETURN : goal.returns-else-line-last-eq-CARRIAGE_RETURN
returns-else-line-last-eq-CARRIAGE_RETURN c =
    sym (without_return-other c.args.line.now (length c.args.line.now - 1)
    (omega (arith, false-eqb _ 0 c.if-is_empty.ensures)) c.if-line-last-eq-CARRIAGE_RETURN.false)
