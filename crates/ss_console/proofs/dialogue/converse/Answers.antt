use Rattle.std.proofs.Common.{◌≡◌, refl, rules, ap, inl, inr, true, false, Ok}
use Rattle.ss_console.proofs.Turns.{done_none, ends_in_prompt, ends_by_input, ends_in_answer, ends_by_line, has_read}
use Rattle.ss_console.proofs.Turns.{goes_on_with}
use Rattle.ss_console.specs.Reply.{reply_ends}
use Rattle.ss_console.proofs.dialogue.converse.Goals as goal

pub loop-init : goal.loop-init
loop-init g c = record { done = done_none _ _ _ _ _; terminal = refl; faults = refl; room = c.requires.room }

pub returns-in_err-put_prompt-clause-write : goal.returns-in_err-put_prompt-clause-write
returns-in_err-put_prompt-clause-write g c _ =
    inl
    (ends_in_prompt _ _ _ _ _ _ _ _ _ _ _ _ c.loop.invariant.done c.put_prompt.ensures.lines
    (rw (c.loop.invariant.terminal, c.position.ensures) refl) c.in_err-put_prompt.ensures.err.0)

pub returns-then-not-branch-clause-ok : goal.returns-then-not-branch-clause-ok
returns-then-not-branch-clause-ok g c =
    let ended : c.in_ok-read_line.field-0 ≡ false = search rules in
    let told = rw ended at c.in_ok-read_line.ensures.told in
    let lines = rw ended at c.in_ok-read_line.ensures.lines in
    inl
    (ends_by_input _ _ _ _ _ _ _ _ _ _ _ _ _ _ c.loop.invariant.done c.put_prompt.ensures.lines
    (rw (c.loop.invariant.terminal, c.position.ensures) refl) c.in_ok-put_prompt.ensures.ok.0 told lines
    (c.in_ok-read_line.ensures.end (ap Ok ended)))

pub returns-in_err-put_reply-clause-write : goal.returns-in_err-put_reply-clause-write
returns-in_err-put_reply-clause-write g c _ =
    let some : c.in_ok-read_line.field-0 ≡ true = search rules in
    let told = rw some at c.in_ok-read_line.ensures.told in
    let lines = rw some at c.in_ok-read_line.ensures.lines in
    let read =
    has_read _ _ _ _ _ _ _ _ _ _ _ _ _ _ _ c.loop.invariant.done c.put_prompt.ensures.lines
    (rw (c.loop.invariant.terminal, c.position.ensures) refl) c.in_ok-put_prompt.ensures.ok.0 told lines in
    let reply = rw c.deref.ensures.value at c.reply-reply.ensures in
    inr
    (rw c.put_reply.ensures.lines
    (ends_in_answer _ _ _ _ _ _ _ _ _ _ _ _ _ _ _ read reply
    (rw c.deref-in-loop.ensures.value refl) c.in_err-put_reply.ensures.err.0))

pub returns-then-ends-clause-ok : goal.returns-then-ends-clause-ok
returns-then-ends-clause-ok g c =
    let some : c.in_ok-read_line.field-0 ≡ true = search rules in
    let told = rw some at c.in_ok-read_line.ensures.told in
    let lines = rw some at c.in_ok-read_line.ensures.lines in
    let read =
    has_read _ _ _ _ _ _ _ _ _ _ _ _ _ _ _ c.loop.invariant.done c.put_prompt.ensures.lines
    (rw (c.loop.invariant.terminal, c.position.ensures) refl) c.in_ok-put_prompt.ensures.ok.0 told lines in
    let reply = rw c.deref.ensures.value at c.reply-reply.ensures in
    let last : reply_ends c.reply-reply.result ≡ true = search rules in
    inr
    (rw c.put_reply.ensures.lines
    (ends_by_line _ _ _ _ _ _ _ _ _ _ _ _ _ _ _ read reply
    (rw c.deref-in-loop.ensures.value refl) c.in_ok-put_reply.ensures.ok.0 last))

pub loop-preserved : goal.loop-preserved
loop-preserved g c =
    let some : c.in_ok-read_line.field-0 ≡ true = search rules in
    let told = rw some at c.in_ok-read_line.ensures.told in
    let lines = rw some at c.in_ok-read_line.ensures.lines in
    let read =
    has_read _ _ _ _ _ _ _ _ _ _ _ _ _ _ _ c.loop.invariant.done c.put_prompt.ensures.lines
    (rw (c.loop.invariant.terminal, c.position.ensures) refl) c.in_ok-put_prompt.ensures.ok.0 told lines in
    let reply = rw c.deref.ensures.value at c.reply-reply.ensures in
    let on : reply_ends c.reply-reply.result ≡ false = search rules in
    record {
      done =
          rw c.put_reply.ensures.lines
          (goes_on_with _ _ _ _ _ _ _ _ _ _ _ _ _ _ _ read reply
          (rw c.deref-in-loop.ensures.value refl) c.in_ok-put_reply.ensures.ok.0 on);
      terminal = search rules;
      faults = search rules;
      room = search rules;
    }
