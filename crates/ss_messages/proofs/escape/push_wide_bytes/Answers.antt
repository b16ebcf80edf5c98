use Rattle.std.proofs.Common.{◌≡◌, ◌<◌, ◌++◌, length, get_or, rules}
use Rattle.ss_messages.specs.Escapes.{escaped_wide_byte}
use Rattle.ss_messages.proofs.Pieces.{pieces_more}
use Rattle.ss_messages.proofs.escape.push_wide_bytes.Goals as goal

pub loop-byte-preserved : goal.loop-byte-preserved
loop-byte-preserved c =
    let i = c.loop-byte.byte-index in
    let within : i < length c.args.text.now = search rules in
    let byte = get_or c.args.text.now i 0 in
    let more : c.push_wide_byte.new.out.items ≡ c.loop-byte.out.items ++ escaped_wide_byte byte =
    search rules in
    pieces_more escaped_wide_byte c.args.text.now c.args.out.now.items c.loop-byte.out.items _ i 0 within
    c.loop-byte.invariant more
