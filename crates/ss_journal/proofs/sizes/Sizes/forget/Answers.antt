use Rattle.std.proofs.Common.{◌≡◌, ◌+◌, ◌-◌, ◌∷◌, ◌++◌, [], length, ◌∙◌, arith}
use Rattle.ss_journal.proofs.Bytes.{one_fewer, last_fits}
use Rattle.ss_journal.proofs.sizes.Sizes.forget.Goals as goal

pub loop-preserved : goal.loop-preserved
loop-preserved c =
    let taken : c.loop.self.sizes ≡ c.pop_oldest.new.self.sizes ++ c.unwrap-changes.result ∷ [] =
    rw c.unwrap-changes.ensures at c.pop_oldest.ensures.sizes in
    let closed : c.pop_oldest.new.self.closes ≡ c.loop.self.closes + 1 =
    rw c.unwrap-changes.ensures at c.pop_oldest.ensures.closes in
    let k = length c.args.self.now.sizes - (c.loop.counter + 1) in
    let n = length c.args.self.now.sizes - c.loop.counter in
    record {
      sizes =
          one_fewer k n c.args.self.now.sizes c.loop.self.sizes c.pop_oldest.new.self.sizes c.unwrap-changes.result
          (omega (arith, c.loop-test.true, c.requires.steps)) c.loop.invariant.sizes (omega arith) taken;
      changes = omega (arith, c.loop.invariant.changes, last_fits _ _ _ taken);
      closes = omega (arith, c.loop.invariant.closes, closed);
      most = c.pop_oldest.ensures.most ∙ c.loop.invariant.most;
    }
