-- A program whose parts are those of a tree is the tree's program.
use Rattle.std.proofs.Common.{◌≡◌, ℕ, List, refl}
use Rattle.std.specs.Prelude.{map}
use Rattle.ss_words.specs.Lists.{Name}
use Rattle.ss_preamble.specs.Tree.{Decls}
use Rattle.ss_routines.specs.Places.{Section}
use Rattle.ss_program.specs.Program.{ClassTable, ProgramTable, SectionTable, SetTable}
use Rattle.ss_check.specs.Declarations.{Declared}
use Rattle.ss_check.specs.Declarations.{heads, declared_by_program}
use Rattle.ss_check.specs.Resolved.{Rankings, class_table, rankings, program_resolved, resolved_section, set_table}
use Rattle.ss_check.specs.ResolvedNames.{Names, names, number}

-- d: the declarations of the tree; v: its tables; r: its rankings
pub program_is : (p : Decls) (qs : List Section) (d : Declared) (v : Names) (r : Rankings) (globals : List Name)
    (classes : List ClassTable) (sets : List SetTable) (priority : List ℕ) (sections : List SectionTable) →
    d ≡ declared_by_program p.items qs → v ≡ names d (heads qs) → r ≡ rankings p.items → globals ≡ v.globals →
    classes ≡ map (class_table d v r) v.classes → sets ≡ map (set_table d v r) v.sets →
    priority ≡ map (λ c. number c v.classes) d.priority → sections ≡ map (resolved_section d v) qs →
    ◌≡◌ {A = ProgramTable} (record {
      globals = globals;
      classes = classes;
      sets = sets;
      priority = priority;
      sections = sections;
    }) (program_resolved p qs)
program_is p qs d v r globals classes sets priority sections whole tabled ranked g c s o q =
    rw (g, c, s, o, q, ranked, tabled, whole) refl
