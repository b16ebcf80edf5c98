use Rattle.std.proofs.Common.{◌≡◌, ◌≤◌, ◌++◌, length, take, map, ap, ◌∙◌, rules}
use Rattle.std.proofs.lemmas.List.{take_all}
use Rattle.ss_console.specs.declared.entry.Entry.TheVariants.{Wrote}
use Rattle.ss_console.proofs.EntryLaws.{entry_events_written}
use Rattle.ss_serve.specs.Channels.{channel_events}
use Rattle.ss_serve.proofs.memory.MemoryChannelChannel.send.Goals as goal

pub returns-clause-ok : goal.returns-clause-ok
returns-clause-ok c =
    let whole : length c.args.bytes.now ≤ c.min-count.result = search rules in
    let all : take c.min-count.result c.args.bytes.now ≡ c.args.bytes.now = take_all _ _ whole in
    let part : c.note_written.new.entries.items
    ≡ c.args.self.now.entries.items ++ map Wrote (take c.min-count.result c.args.bytes.now) = search rules in
    let noted : c.note_written.new.entries.items ≡ c.args.self.now.entries.items ++ map Wrote c.args.bytes.now =
    rw all at part in
    ap channel_events noted ∙ entry_events_written (λ body. body) c.args.self.now.entries.items c.args.bytes.now
