-- A program that was read and has no breach is sound.
use Rattle.std.proofs.Common.{◌≡◌, ◌+◌, ℕ, suc, List, [], ◌∷◌, length, refl, ap, subst, arith, None}
use Rattle.std.specs.Prelude.{map}
use Rattle.std.proofs.lemmas.List.{length-map}
use Rattle.ss_preamble.specs.Tree.{Decls}
use Rattle.ss_preamble.specs.Limits as preamble
use Rattle.ss_routines.specs.Places.{Section}
use Rattle.ss_routines.specs.Tree.{Tree, spell_section}
use Rattle.ss_routines.specs.Written.{written_from}
use Rattle.ss_program.specs.ProgramSound.{IsSound}
use Rattle.ss_check.specs.Breach.{breach}
use Rattle.ss_check.specs.Declarations.{headed_items, heads, declared_by_program}
use Rattle.ss_check.specs.Readable.{AreFew, AreOfTree}
use Rattle.ss_check.specs.Resolved.{rankings, class_table, set_table, resolved_section, program_resolved}
use Rattle.ss_check.specs.ResolvedNames.{names}
use Rattle.ss_check.proofs.SoundLists.{In}
use Rattle.ss_check.proofs.SoundLimits.{few_classes, few_sets, few_globals}
use Rattle.ss_check.proofs.SoundSections.{one_main, sound_sections, linked_sections}
use Rattle.ss_check.proofs.SoundTables.{sound_names, sound_tables}
use Rattle.ss_check.proofs.SoundTrees.{of_tree}
use Rattle.ss_check.proofs.SoundStatements.{kept}

as_many : (lines : List ℕ) (k : ℕ) (ts : Tree) → length (written_from lines k ts) ≡ length ts
as_many lines k [] = refl
as_many lines k (t ∷ ts) = ap suc (as_many lines (k + length (spell_section t)) ts)

pub sound_resolved : (decls : Decls) (qs : List Section) → preamble.IsWithin (map (λ i. i.item) decls.items) →
    AreOfTree qs → AreFew qs →
    breach decls qs ≡ None → IsSound (program_resolved decls qs)
sound_resolved decls qs w t f b =
    let k = kept decls qs b in
    let is = decls.items in
    let D = declared_by_program is qs in
    let V = names D (heads qs) in
    let within = t.2 in
    let e = t.3 in
    let tree = λ (q : Section) (i : In q qs). of_tree t.1 0 t.0 q within.phrases within.parameters
    (subst (λ (ss : List Section). In q ss) e i) in
    record {
      main = one_main D V (headed_items is) qs k.sections k.main;
      sections = sound_sections is qs k.items w k.sections qs (λ q i. i) tree f;
      few =
          let a = length-map qs (resolved_section D V) in
          let c = ap (λ (ss : List Section). length ss) e in
          let m = as_many t.1 0 t.0 in
          let l = within.sections in omega (arith, a, c, m, l);
      linked = linked_sections is qs k.items w k.sections qs (λ q i. i) tree;
      names = sound_names is qs k.items w k.sections;
      tables = sound_tables is qs k.items w k.sections;
      few_names =
          let a = length-map V.classes (class_table D V (rankings is)) in
          let c = length-map V.sets (set_table D V (rankings is)) in
          let l = few_globals is (heads qs) k.items w in
          let m = few_classes is (heads qs) k.items w in
          let n = few_sets is (heads qs) k.items w in omega (arith, a, c, l, m, n);
    }
