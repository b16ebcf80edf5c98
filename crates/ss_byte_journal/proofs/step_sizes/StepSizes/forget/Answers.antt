use Rattle.std.proofs.Common.{◌≡◌, ◌+◌, ◌-◌, ◌∷◌, ◌++◌, [], length, ◌∙◌, arith}
use Rattle.ss_journal.proofs.Bytes.{one_fewer, last_fits}
use Rattle.ss_byte_journal.proofs.step_sizes.StepSizes.forget.Goals as goal

pub loop-preserved : goal.loop-preserved
loop-preserved c =
    let taken : c.loop.self.sizes ≡ c.pop_oldest.new.self.sizes ++ c.unwrap-bytes.result ∷ [] =
    rw c.unwrap-bytes.ensures at c.pop_oldest.ensures.sizes in
    let k = length c.args.self.now.sizes - (c.loop.counter + 1) in
    let n = length c.args.self.now.sizes - c.loop.counter in
    record {
      sizes =
          one_fewer k n c.args.self.now.sizes c.loop.self.sizes c.pop_oldest.new.self.sizes c.unwrap-bytes.result
          (omega (arith, c.loop-test.true, c.requires.steps)) c.loop.invariant.sizes (omega arith) taken;
      bytes = omega (arith, c.loop.invariant.bytes, last_fits _ _ _ taken);
      closes = c.pop_oldest.ensures.closes ∙ c.loop.invariant.closes;
      most = c.pop_oldest.ensures.most ∙ c.loop.invariant.most;
    }
