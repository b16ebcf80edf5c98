use Rattle.std.proofs.Common.{◌≡◌, ◌∙◌, ℕ, ◌+◌, ◌-◌, List, [], ◌∷◌, ◌++◌, length, length-append, map, sym, ap, arith}
use Rattle.std.proofs.lemmas.List.{map_push}
use Rattle.std.proofs.lemmas.Result.{err_from_is_err_and}
use Rattle.ss_words.specs.Plain.{Plain, word_lines}
use Rattle.ss_words.specs.Reading.{Read}
use Rattle.ss_words.proofs.Loop.{passes_on}
use Rattle.ss_routines.specs.declared.tree.section.Section.{Section as CodeSection}
use Rattle.ss_routines.specs.Places.{Section}
use Rattle.ss_routines.specs.PlacesAtLines.{noting_section}
use Rattle.ss_routines.specs.View.{section_view}
use Rattle.ss_routines.proofs.SectionLoop.{Gathered, turned, failed, full, ended}
use Rattle.ss_routines.proofs.program.section_list.Goals as goal

-- a section that is pushed
pushed : (lines : List ℕ) (total : Read (List Section)) (xs ys : List CodeSection) (s : CodeSection) (r : List Plain)
    → ys ≡ xs ++ s ∷ []
    → Gathered lines 50 64 16 32 total (map section_view xs ++ section_view s ∷ []) (256 - (length xs + 1)) r
    → Gathered lines 50 64 16 32 total (map section_view ys) (256 - length ys) r
pushed lines total xs ys s r e h = rw (e, map_push section_view xs s, length-append xs (s ∷ [])) h

pub returns-then-len-eq-MOST_SECTIONS-clause-exact : goal.returns-then-len-eq-MOST_SECTIONS-clause-exact
returns-then-len-eq-MOST_SECTIONS-clause-exact c =
    full (word_lines c.args.text.now) 50 64 16 32 _ (map section_view c.loop-list.list.items)
    (256 - length c.loop-list.list.items)
    c.loop-list.cursor (omega (arith, c.len.ensures, c.if-len-eq-MOST_SECTIONS.true))
    (sym c.begins.ensures ∙ c.loop-list-test.true)
    c.loop-list.invariant.gathered

pub returns-in_err-section-clause-exact : goal.returns-in_err-section-clause-exact
returns-in_err-section-clause-exact c =
    let p = err_from_is_err_and c.from_residual.result c.from_residual.ensures.1 in
    let k = 256 - (length c.loop-list.list.items + 1) in
    rw (p.1, p.2) (passes_on c.in_err-section.field-0.0 c.section.new.cursor
    (noting_section (word_lines c.args.text.now) 50 64 16 32 c.loop-list.cursor) _
    (λ g h. failed (word_lines c.args.text.now) 50 64 16 32 _ (map section_view c.loop-list.list.items)
    (256 - length c.loop-list.list.items) k g c.loop-list.cursor c.section.new.cursor
    (omega (arith, c.len.ensures, c.if-len-eq-MOST_SECTIONS.false, c.loop-list.invariant.few))
    (sym c.begins.ensures ∙ c.loop-list-test.true) h c.loop-list.invariant.gathered) c.in_err-section.ensures.exact)

pub loop-list-preserved : goal.loop-list-preserved
loop-list-preserved c =
    let one = length-append c.loop-list.list.items (c.in_ok-section.field-0 ∷ []) in
    let longer = ap length c.in_ok-push.ensures.items in
    record {
      shorter = omega (arith, c.in_ok-section.ensures.shorter, c.loop-list.invariant.shorter);
      few = omega (arith, c.len.ensures, c.if-len-eq-MOST_SECTIONS.false, c.loop-list.invariant.few, longer, one);
      gathered =
          pushed (word_lines c.args.text.now) _ c.loop-list.list.items c.push.new.self.items c.in_ok-section.field-0
          c.section.new.cursor c.in_ok-push.ensures.items
          (turned (word_lines c.args.text.now) 50 64 16 32 _ (map section_view c.loop-list.list.items)
          (256 - length c.loop-list.list.items) (256 - (length c.loop-list.list.items + 1))
          (section_view c.in_ok-section.field-0) c.loop-list.cursor c.section.new.cursor
          (omega (arith, c.len.ensures, c.if-len-eq-MOST_SECTIONS.false, c.loop-list.invariant.few))
          (sym c.begins.ensures ∙ c.loop-list-test.true) c.in_ok-section.ensures.exact c.loop-list.invariant.gathered);
    }

pub returns-clause-exact : goal.returns-clause-exact
returns-clause-exact c =
    ended (word_lines c.args.text.now) 50 64 16 32 _ (map section_view c.loop-list.list.items)
    (256 - length c.loop-list.list.items) c.loop-list.cursor (sym c.begins.ensures ∙ c.loop-list-test.false)
    c.loop-list.invariant.gathered
