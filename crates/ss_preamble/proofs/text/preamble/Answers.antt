use Rattle.std.proofs.Common.{ℕ, List, map, Result, Ok, Err, length, ap, arith}
use Rattle.std.specs.Prelude.{IfOk}
use Rattle.std.proofs.lemmas.List.{length-map}
use Rattle.ss_words.specs.Words.{word_at}
use Rattle.ss_words.specs.declared.fault.TextFault.{TextFault}
use Rattle.ss_words.specs.Plain.{PlainAt, plain_at}
use Rattle.ss_preamble.specs.declared.item.Decls.{Decls}
use Rattle.ss_preamble.specs.Tree.{items_of}
use Rattle.ss_preamble.specs.View.{decls_view}
use Rattle.ss_preamble.specs.Limits.{IsWithin}
use Rattle.ss_preamble.specs.Refused.{AreDecls}
use Rattle.ss_preamble.proofs.Indexes.{indexes_below}
use Rattle.ss_preamble.proofs.DeclsWithin.{decls_within}
use Rattle.ss_preamble.proofs.text.preamble.Goals as goal

pub read-requires : goal.read-requires
read-requires c =
    indexes_below c.args.words.now c.deref.result.now c.len.result (rw c.deref.ensures.value c.in_ok-plain.ensures)
    (omega (arith, c.len.ensures, ap length c.words.view_is, length-map c.words.inside.list.items word_at))

if_within : (r : Result (Decls × ℕ) TextFault) (ws : List PlainAt) →
    IfOk r (λ d. AreDecls (decls_view d.0) d.1 ws) → IfOk r (λ d. IsWithin (items_of (decls_view d.0)))
if_within (Ok d) ws h = decls_within (decls_view d.0) d.1 ws h
if_within (Err f) ws h = tt

pub returns-clause-limits : goal.returns-clause-limits
returns-clause-limits c = if_within c.read.result (map plain_at c.deref.result.now) c.read.ensures.declared
