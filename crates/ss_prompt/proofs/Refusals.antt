-- A state line of its parts.
use Rattle.std.proofs.Common.{◌≡◌, ℕ, List, [], ◌∷◌, ◌++◌, ap, ◌∙◌, sym, append_assoc, append-nil, codes, decimal}
use Rattle.std.specs.Fmt.{signed_decimal}
use Rattle.ss_state.specs.Run.{Input, run}
use Rattle.ss_debug.specs.Answer.{status_text, section_at, moment_text, place_text, state_line}
use Rattle.ss_debug.specs.Move.{line_at}
use Rattle.ss_prompt.specs.Refusal.{refusal_at, refusal_with}
use Rattle.ss_console.specs.Puts.{joined_texts}

-- lists after a list, one after the other
abbrev folded : List ℕ → List (List ℕ) → List ℕ
folded first [] = first
folded first (next ∷ more) = folded (first ++ next) more

joined_behind : (first : List ℕ) (more : List (List ℕ)) → first ++ joined_texts more ≡ folded first more
unfolding joined_texts
joined_behind first [] = append-nil first
joined_behind first (next ∷ more) =
    sym (append_assoc first next (joined_texts more)) ∙ joined_behind (first ++ next) more

folded_behind : (front first : List ℕ) (more : List (List ℕ)) →
    front ++ folded first more ≡ folded (front ++ first) more
folded_behind front first more =
    ap (λ v. front ++ v) (sym (joined_behind first more))
    ∙ sym (append_assoc front first (joined_texts more)) ∙ joined_behind (front ++ first) more

-- in state p, if the word of its status and the number after it are these
pub told_with : (t : Input) (p : ℕ) (word number : List ℕ) → status_text (run t p).status ≡ word ++ number →
    refusal_at t p ≡ joined_texts (refusal_with t p word number)
unfolding joined_texts refusal_at state_line moment_text place_text
told_with t p word number e =
    let clock = signed_decimal (run t p).clock in
    let section = section_at t p in
    let line = decimal (line_at t p) in
    let front = codes "STATE " ++ decimal p ++ codes " CLOCK " ++ clock ++ codes " " in
    let place = codes " IN " ++ section ++ codes " LINE " ++ line in
    let behind = codes " CLOCK " ∷ clock ∷ codes " " ∷ word ∷ number ∷ codes " IN " ∷ section ∷ codes " LINE " ∷ line
    ∷ codes "\n" ∷ [] in
    ap (λ v. codes "OUT OF MEMORY\n" ++ v)
    (ap (λ status. (front ++ status) ++ place ++ codes "\n") e
    ∙ ap (λ v. v ++ place ++ codes "\n") (sym (append_assoc front word number))
    ∙ ap (λ v. v ++ codes "\n")
    (folded_behind (front ++ word ++ number) (codes " IN ") (section ∷ codes " LINE " ∷ line ∷ []))
    ∙ sym (joined_behind (codes "STATE ") (decimal p ∷ behind)))
