use Rattle.std.proofs.Common.{◌<◌, length, arith}
use Rattle.ss_host.proofs.Limits.{whole_within}
use Rattle.ss_host.proofs.files.read_all.Goals as goal

pub returns-clause-whole : goal.returns-clause-whole
returns-clause-whole g c =
    let limit = c.take.ensures.limit in
    let short : length c.read_to_end.new.buf.items < c.take.result.limit = omega arith in
    let read = rw (c.take.ensures.inner, c.new-bytes.ensures.items) at c.in_ok-read_to_end.ensures.bytes in
    whole_within (g.R.Read.remaining c.args.reader) c.take.result.limit c.read_to_end.new.buf.items read short
