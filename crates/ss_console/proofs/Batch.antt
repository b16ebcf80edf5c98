-- The text that a dialogue writes is the text that the batch writes.
use Rattle.std.proofs.Common.{◌≡◌, ℕ, Bool, true, false, ◌&&◌, List, [], ◌∷◌, ◌++◌, map, refl, ◌∙◌, sym, ap}
use Rattle.std.proofs.Common.{append_assoc, append-nil, Option, Some, None}
use Rattle.std.proofs.lemmas.List.{map-append}
use Rattle.std.specs.List.{list_all}
use Rattle.ss_console.specs.Event.{Event, read, wrote, write_events, Adds}
use Rattle.ss_console.specs.Lines.{Gives, IsAtEnd}
use Rattle.ss_console.specs.Meaning.{Meaning}
use Rattle.ss_console.specs.Dialogue.{Turn, answered, refused, line_of, events, state_after_all, has_last}
use Rattle.ss_console.specs.Laws.{answers, bytes_of, is_answered, BatchByInput, BatchByLine}
use Rattle.ss_console.proofs.Turns.{or_parts, events-push}

bytes_of-write_events : (bytes : List ℕ) (es : List Event) → bytes_of (write_events bytes ++ es) ≡ bytes ++ bytes_of es
unfolding bytes_of
bytes_of-write_events [] es = refl
bytes_of-write_events (b ∷ bytes) es = ap (λ v. b ∷ v) (bytes_of-write_events bytes es)

bytes_of-append : (xs ys : List Event) → bytes_of (xs ++ ys) ≡ bytes_of xs ++ bytes_of ys
unfolding bytes_of
bytes_of-append [] ys = refl
bytes_of-append (read line ∷ xs) ys = bytes_of-append xs ys
bytes_of-append (wrote b ∷ xs) ys = ap (λ v. b ∷ v) (bytes_of-append xs ys)

and_parts : (a b : Bool) → (a && b) ≡ true → (a ≡ true) × (b ≡ true)
and_parts true true e = (refl, refl)
and_parts true false e = absurd (cc)
and_parts false true e = absurd (cc)
and_parts false false e = absurd (cc)

-- the answers to the lines of some turns, and to the lines after them
answers-turns : (m : Meaning) (s : m.State) (turns : List (Turn m.State)) (rest : List (List ℕ)) →
    list_all is_answered turns ≡ true → has_last m turns ≡ false →
    answers m s (map line_of turns ++ rest)
    ≡ bytes_of (events m false s turns) ++ answers m (state_after_all m s turns) rest
unfolding answers bytes_of events state_after_all
answers-turns m s [] rest all on = refl
answers-turns m s (refused line after ∷ turns) rest all on =
    let p = and_parts false (list_all is_answered turns) all in
    absurd (cc)
answers-turns m s (answered line ∷ turns) rest all on =
    let p = and_parts true (list_all is_answered turns) all in
    let q = or_parts (m.ends line) (has_last m turns) on in
    rw (q.0, answers-turns m (m.next s line) turns rest p.1 q.1, bytes_of-write_events (m.said s line) _)
    (sym (append_assoc (m.said s line) _ _))

gives_all : (before after : Option (List (List ℕ))) (lines given : List (List ℕ)) → before ≡ Some lines →
    Gives before after given → IsAtEnd after → lines ≡ given
gives_all None after lines given b g e = absurd (cc)
gives_all (Some xs) None lines given b g e = absurd g
gives_all (Some xs) (Some ys) lines given b g e =
    let same : lines ≡ xs = cc in
    same ∙ g ∙ rw e (append-nil given)

gives_more : (before after : Option (List (List ℕ))) (lines given : List (List ℕ)) → before ≡ Some lines →
    Gives before after given → (more : List (List ℕ)) × (lines ≡ given ++ more)
gives_more None after lines given b g = absurd (cc)
gives_more (Some xs) None lines given b g = absurd g
gives_more (Some xs) (Some ys) lines given b g =
    let same : lines ≡ xs = cc in
    (ys, same ∙ g)

adds_all : (old new : Option (List Event)) (first last gained : List Event) → old ≡ Some first → new ≡ Some last →
    Adds old new gained → last ≡ first ++ gained
adds_all None new first last gained o n a = absurd (cc)
adds_all (Some xs) None first last gained o n a = absurd a
adds_all (Some xs) (Some ys) first last gained o n a =
    let x : xs ≡ first = cc in
    let y : last ≡ ys = cc in
    y ∙ a ∙ ap (λ v. v ++ gained) x

pub batch_by_input : (m : Meaning) → BatchByInput m
unfolding answers
batch_by_input m from to before after old new e all lines first last b o n =
    let whole = gives_all before after lines (map line_of e.turns) b e.led.lines e.input in
    let told = adds_all old new first last _ o n e.told in
    let said = answers-turns m from e.turns [] all e.goes_on in
    let same : answers m from lines ≡ bytes_of (events m false from e.turns) =
    ap (λ v. answers m from v) (whole ∙ sym (append-nil (map line_of e.turns))) ∙ said ∙ append-nil _ in
    ap bytes_of told ∙ bytes_of-append first _
    ∙ ap (λ v. bytes_of first ++ v) (ap bytes_of (append-nil (events m false from e.turns)) ∙ sym same)

pub batch_by_line : (m : Meaning) → BatchByLine m
unfolding answers bytes_of
batch_by_line m from to before after old new e all lines first last b o n =
    let more = gives_more before after lines (map line_of (e.turns ++ answered e.line ∷ [])) b e.led.lines in
    let told = adds_all old new first last _ o n e.told in
    let split : lines ≡ map line_of e.turns ++ e.line ∷ more.0 =
    more.1
    ∙ ap (λ v. v ++ more.0) (map-append line_of e.turns (answered e.line ∷ []))
    ∙ append_assoc (map line_of e.turns) (e.line ∷ []) more.0 in
    let said = answers-turns m from e.turns (e.line ∷ more.0) all e.goes_on in
    let reached = state_after_all m from e.turns in
    let one : answers m reached (e.line ∷ more.0) ≡ m.said reached e.line =
    rw e.ends (append-nil (m.said reached e.line)) in
    let same : answers m from lines ≡ bytes_of (events m false from e.turns) ++ m.said reached e.line =
    ap (λ v. answers m from v) split ∙ said ∙ ap (λ v. bytes_of (events m false from e.turns) ++ v) one in
    let turn : bytes_of (read e.line ∷ write_events (m.said reached e.line)) ≡ m.said reached e.line =
    ap (λ v. bytes_of v) (sym (append-nil (write_events (m.said reached e.line))))
    ∙ bytes_of-write_events (m.said reached e.line) []
    ∙ append-nil _ in
    let gained : bytes_of (events m false from (e.turns ++ answered e.line ∷ []))
    ≡ bytes_of (events m false from e.turns) ++ m.said reached e.line =
    ap bytes_of (events-push m false from e.turns (answered e.line)) ∙ bytes_of-append (events m false from e.turns) _
    ∙ ap (λ v. bytes_of (events m false from e.turns) ++ v) turn in
    ap bytes_of told ∙ bytes_of-append first _ ∙ ap (λ v. bytes_of first ++ v) (gained ∙ sym same)
