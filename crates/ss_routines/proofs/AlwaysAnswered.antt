-- Words have an answer.
use Rattle.std.proofs.Common.{◌≡◌, ◌-◌, List, [], ◌∷◌, length, Result, Ok, Err, refl, subst, arith}
use Rattle.ss_words.specs.declared.refusal.Refusal.{Refusal}
use Rattle.ss_words.specs.declared.refusal.Refusal.TheVariants.{Unexpected, PastLimit, Memory}
use Rattle.ss_words.specs.declared.fault.TextRule.TheVariants as rule
use Rattle.ss_words.specs.declared.fault.TextFault.{TextFault}
use Rattle.ss_words.specs.declared.fault.TextFault.TheVariants.{Refused}
use Rattle.ss_words.specs.Plain.{Plain, PlainAt, plains}
use Rattle.ss_words.specs.Noting.{line}
use Rattle.ss_words.specs.Reading.{Read, whole}
use Rattle.ss_routines.specs.Tree.{Tree}
use Rattle.ss_routines.specs.Places.{Section}
use Rattle.ss_routines.specs.Written.{written}
use Rattle.ss_routines.specs.Refused.{Answers, lines}
use Rattle.ss_routines.specs.Laws.{IsDefinite, AlwaysAnswered}
use Rattle.ss_routines.proofs.HeadAgain.{IsSpared}
use Rattle.ss_routines.proofs.Whole.{reading, whole_spared, read_sections, unexpected_word, unexpected_end, past_limit}
use Rattle.ss_routines.proofs.Whole.{past_end}

module _ (ws : List PlainAt) where
  pick : (o : Result Tree Refusal) (r : List Plain) → whole reading (plains ws) ≡ (o, r)
      → (a : Result (List Section) TextFault) × IsDefinite a × Answers a ws
  pick (Ok t) r e = let (w, is) = read_sections (plains ws) r t e in (Ok (written (lines ws) t), tt, (t, w, is, refl))
  pick (Err Unexpected) [] e = (
    Err (Refused rule.UnexpectedEnd (line (lines ws) (length ws - 1))),
    tt,
    (unexpected_end (plains ws) [] e refl, refl),
  )
  pick (Err Unexpected) (w ∷ r) e = (
    Err (Refused rule.UnexpectedWord (line (lines ws) (length (plains ws) - length (w ∷ r)))),
    tt,
    (length (plains ws) - length (w ∷ r), unexpected_word (plains ws) (w ∷ r) e (omega arith), refl),
  )
  pick (Err Memory) r e =
      let none : ⊥ = subst (λ (x : Read Tree). IsSpared x.0 x.1) e (whole_spared.at (plains ws)) in absurd none
  pick (Err PastLimit) [] e = (
    Err (Refused rule.UnexpectedEnd (line (lines ws) (length ws - 1))),
    tt,
    (past_end (plains ws) [] e (omega arith), refl),
  )
  pick (Err PastLimit) (w ∷ []) e = (
    Err (Refused rule.UnexpectedEnd (line (lines ws) (length ws - 1))),
    tt,
    (past_end (plains ws) (w ∷ []) e (omega arith), refl),
  )
  pick (Err PastLimit) (w ∷ v ∷ r) e = (
    Err (Refused rule.PastLimit (line (lines ws) (length (plains ws) - length (w ∷ v ∷ r)))),
    tt,
    (length (plains ws) - length (w ∷ v ∷ r), past_limit (plains ws) (w ∷ v ∷ r) e (omega arith), refl),
  )

pub always : AlwaysAnswered
always ws = pick ws (whole reading (plains ws)).0 (whole reading (plains ws)).1 refl
