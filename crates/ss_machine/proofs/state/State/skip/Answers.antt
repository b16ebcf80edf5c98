use Rattle.std.proofs.Common.{◌≡◌, ◌+◌, ◌<◌, ℕ, ◌++◌, Bool, true, false, nat_le, List, length, replicate}
use Rattle.std.proofs.Common.{Result, Ok, Err, refl, sym, ap, ◌∙◌, arith}
use Rattle.std.specs.Prelude.{if◌then◌else◌}
use Rattle.std.proofs.lemmas.Bool.Decides.{nat_tests}
use Rattle.std.proofs.lemmas.List.{length-replicate}
use Rattle.ss_words.specs.declared.fault.RunFault.TheVariants.{ReportFull}
use Rattle.ss_words.specs.declared.fault.StepFault.{StepFault}
use Rattle.ss_words.specs.declared.fault.StepFault.TheVariants.{Fault}
use Rattle.ss_report.specs.declared.limits.TheConstants.{LONGEST_REPORT}
use Rattle.ss_state.specs.Held.{Held}
use Rattle.ss_state.specs.Statements.Printing.{longer_report}
use Rattle.ss_machine.proofs.state.State.skip.Goals as goal

-- the line feeds that are appended
abbrev feeds : ℕ → List ℕ
feeds n = replicate n 10

-- those that were appended had room
appended : (old new : List ℕ) (n : ℕ) (r : Result (Unit {0}) StepFault) (x : Unit {0}) → r ≡ Ok x →
    (LONGEST_REPORT < length old + n → r ≡ Err (Fault ReportFull)) → new ≡ old ++ feeds n →
    longer_report old (feeds n) ≡ Ok new
appended old new n r x ok full e = by (nat_le (length old + length (feeds n)) LONGEST_REPORT) refl
  where
    by : (b : Bool) → nat_le (length old + length (feeds n)) LONGEST_REPORT ≡ b →
        (if b then Ok (old ++ feeds n) else Err ReportFull) ≡ Ok new
    by true h = ap Ok (sym e)
    by false h =
        let many : LONGEST_REPORT < length old + n = grind (arith, nat_tests, h, length-replicate {A = ℕ} n 10) in
        let none : r ≡ Err (Fault ReportFull) = full many in
        absurd (cc)

pub returns-clause-report : goal.returns-clause-report
returns-clause-report g c =
    let old = ap (λ (h : Held). h.state.report) c.self.view_is in
    ap (λ (l : List ℕ). longer_report l (feeds c.args.lines)) (sym old)
    ∙ appended c.self.inside.report c.skip.new.self c.args.lines c.skip.result _ c.in_ok-skip.was c.skip.ensures.full.1
    c.in_ok-skip.ensures.ok
