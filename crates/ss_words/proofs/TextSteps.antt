-- A step of the scan of a line.
use Rattle.std.proofs.Common.{◌≡◌, ℕ, ◌+◌, ◌<◌, ◌≤◌, true, false, List, [], ◌∷◌, ◌++◌, map, take, drop, length, Some}
use Rattle.std.proofs.Common.{None, refl, sym, ap, ◌∙◌, arith, append_assoc}
use Rattle.std.specs.Prelude.{slice_index}
use Rattle.std.specs.List.{take_while}
use Rattle.std.proofs.lemmas.List.{map-append}
use Rattle.ss_words.specs.declared.word.Sign.{Sign}
use Rattle.ss_words.specs.declared.fault.TextRule.TheVariants.{StrayByte}
use Rattle.ss_words.specs.declared.fault.TextFault.{TextFault}
use Rattle.ss_words.specs.declared.fault.TextFault.TheVariants.{Refused}
use Rattle.ss_words.specs.Words.{Kind, WordAt, sign}
use Rattle.ss_words.specs.TextBytes.{in_run, is_blank, sign_from, sign_len}
use Rattle.ss_words.specs.TextLines.{text_lines}
use Rattle.ss_words.specs.TextWords.{Finding, word, nearest_first, on_line, run_found, found_from_place, found_in_line}
use Rattle.ss_words.specs.TextWords.{found_from_line, found_in_text}
use Rattle.ss_words.specs.TextScan.{begins_comment, nearest, SameFindings, first_breach, IsFirstIn, left_in_line}
use Rattle.ss_words.specs.TextScan.{found_below}
use Rattle.ss_words.proofs.TextFinds.{nearest-push, nearest-after, goes_on, is_first-same, is_first-front}
use Rattle.ss_words.proofs.TextPlaces.{found-run, found-blank, found-sign, found-stray, sign_len-fits, behind_run}
use Rattle.ss_words.proofs.TextPlaces.{take-run}

-- a word that is found and joins the words
pub goes-word : (left : List Kind → List Finding) (old : List WordAt) (w : WordAt) (new : List WordAt)
    (todo : List Finding) → todo ≡ word w ∷ left (w.kind ∷ nearest old) → new ≡ old ++ w ∷ []
    → SameFindings old todo new (left (nearest new))
goes-word left old w new todo e is =
    ap (λ (fs : List Finding). map word old ++ fs) e
    ∙ sym (append_assoc (map word old) (word w ∷ []) (left (w.kind ∷ nearest old)))
    ∙ ap (λ (fs : List Finding). fs ++ left (w.kind ∷ nearest old))
    (sym (ap (map word) is ∙ map-append word old (w ∷ [])))
    ∙ ap (λ (ks : List Kind). map word new ++ left ks) (sym (ap nearest is ∙ nearest-push old w))

-- a part that is found, and the findings that are left after it
pub goes-part : (left : List Kind → List Finding) (old : List WordAt) (part : List Finding) (new : List WordAt)
    (todo : List Finding) → todo ≡ part ++ left (nearest_first part (nearest old)) → SameFindings old part new []
    → SameFindings old todo new (left (nearest new))
goes-part left old part new todo e goes =
    ap (λ (fs : List Finding). map word old ++ fs) e
    ∙ goes_on old part new [] (left (nearest_first part (nearest old))) goes
    ∙ ap (λ (ks : List Kind). map word new ++ left ks) (sym (nearest-after old part new goes))

-- the first breach of a part is that of the whole
pub is_first-part : (f : TextFault) (part rest todo : List Finding) → todo ≡ part ++ rest → IsFirstIn f part
    → IsFirstIn f todo
is_first-part f part rest todo e first = is_first-same f todo (part ++ rest) e (is_first-front f part rest first)

-- a line of number n with this text below it
module _ (n : ℕ) (below : List ℕ) where
  pub goes-sign : (old new : List WordAt) (rest : List ℕ) (g : Sign) (len : ℕ) → 0 < length rest
      → begins_comment rest ≡ false → in_run (slice_index rest 0) ≡ false
      → sign_from (slice_index rest 0) (slice_index rest 1) ≡ Some g
      → new ≡ old ++ on_line n (sign g) ∷ [] → len ≡ sign_len g
      → SameFindings old (left_in_line n below old rest) new (left_in_line n below new (drop len rest))
  goes-sign old new [] g len some no_comment no_run e is size = absurd (omega arith)
  goes-sign old new (b ∷ bs) g len some no_comment no_run e is size =
      goes-word (λ (ks : List Kind). found_in_line n (length (text_lines below)) ks (drop len (b ∷ bs))) old
      (on_line n (sign g)) new (left_in_line n below old (b ∷ bs))
      (found-sign n (length (text_lines below)) (nearest old) b bs g no_comment no_run e
      ∙ ap (λ (k : ℕ). word (on_line n (sign g))
      ∷ found_in_line n (length (text_lines below)) (sign g ∷ nearest old) (drop k (b ∷ bs))) (sym size)) is

  pub first-stray : (old : List WordAt) (rest : List ℕ) → 0 < length rest → begins_comment rest ≡ false
      → in_run (slice_index rest 0) ≡ false → is_blank (slice_index rest 0) ≡ false
      → sign_from (slice_index rest 0) (slice_index rest 1) ≡ None
      → first_breach (left_in_line n below old rest) ≡ Some (Refused StrayByte n)
  first-stray old [] some no_comment no_run no_blank e = absurd (omega arith)
  first-stray old (b ∷ bs) some no_comment no_run no_blank e =
      found-stray n (length (text_lines below)) (nearest old) b bs no_comment no_run no_blank e

  pub goes-blank : (words : List WordAt) (rest : List ℕ) → 0 < length rest → is_blank (slice_index rest 0) ≡ true
      → SameFindings words (left_in_line n below words rest) words (left_in_line n below words (drop 1 rest))
  goes-blank words [] some blank = absurd (omega arith)
  goes-blank words (b ∷ bs) some blank =
      ap (λ (fs : List Finding). map word words ++ fs)
      (found-blank n (length (text_lines below)) (nearest words) b bs blank)

  -- a run gives its own findings and then those of the line after it
  run_parts : (words : List WordAt) (rest : List ℕ) (len : ℕ) → 0 < length rest → in_run (slice_index rest 0) ≡ true
      → len ≡ length (take_while in_run rest)
      → left_in_line n below words rest
      ≡ run_found n (length (text_lines below)) (nearest words) (drop len rest) (take len rest)
      ++ found_in_line n (length (text_lines below))
      (nearest_first (run_found n (length (text_lines below)) (nearest words) (drop len rest) (take len rest))
      (nearest words)) (drop len rest)
  run_parts words [] len some run size = absurd (omega arith)
  run_parts words (b ∷ bs) len some run size =
      let k = length (text_lines below) in
      let ks = nearest words in
      found-run n k ks b bs run
      ∙ ap (λ (r : List ℕ). run_found n k ks (behind_run (b ∷ bs)) r
      ++ found_in_line n k (nearest_first (run_found n k ks (behind_run (b ∷ bs)) r) ks) (behind_run (b ∷ bs)))
      (sym (take-run (b ∷ bs)))
      ∙ ap (λ (m : ℕ). run_found n k ks (drop m (b ∷ bs)) (take m (b ∷ bs))
      ++ found_in_line n k (nearest_first (run_found n k ks (drop m (b ∷ bs)) (take m (b ∷ bs))) ks)
      (drop m (b ∷ bs))) (sym size)

  pub goes-run : (old new : List WordAt) (rest : List ℕ) (len : ℕ) (run behind : List ℕ) → 0 < length rest
      → in_run (slice_index rest 0) ≡ true → len ≡ length (take_while in_run rest) → run ≡ take len rest
      → behind ≡ drop len rest
      → SameFindings old (run_found n (length (text_lines below)) (nearest old) behind run) new []
      → SameFindings old (left_in_line n below old rest) new (left_in_line n below new (drop len rest))
  goes-run old new rest len run behind some starts size run_is behind_is goes =
      let k = length (text_lines below) in
      let part = run_found n k (nearest old) (drop len rest) (take len rest) in
      goes-part (λ (ks : List Kind). found_in_line n k ks (drop len rest)) old part new (left_in_line n below old rest)
      (run_parts old rest len some starts size)
      (ap (λ (r : List ℕ). map word old ++ run_found n k (nearest old) (drop len rest) r) (sym run_is)
      ∙ ap (λ (r : List ℕ). map word old ++ run_found n k (nearest old) r run) (sym behind_is) ∙ goes)

  pub first-run : (f : TextFault) (old : List WordAt) (rest : List ℕ) (len : ℕ) (run behind : List ℕ) → 0 < length rest
      → in_run (slice_index rest 0) ≡ true → len ≡ length (take_while in_run rest) → run ≡ take len rest
      → behind ≡ drop len rest
      → IsFirstIn f (run_found n (length (text_lines below)) (nearest old) behind run)
      → IsFirstIn f (left_in_line n below old rest)
  first-run f old rest len run behind some starts size run_is behind_is first =
      let k = length (text_lines below) in
      let part = run_found n k (nearest old) (drop len rest) (take len rest) in
      is_first-part f part (found_in_line n k (nearest_first part (nearest old)) (drop len rest))
      (left_in_line n below old rest) (run_parts old rest len some starts size)
      (is_first-same f part (run_found n k (nearest old) behind run)
      (ap (λ (r : List ℕ). run_found n k (nearest old) (drop len rest) r) (sym run_is)
      ∙ ap (λ (r : List ℕ). run_found n k (nearest old) r run) (sym behind_is)) first)

pub sign_fits : (rest : List ℕ) (g : Sign) (len : ℕ) → 0 < length rest
    → sign_from (slice_index rest 0) (slice_index rest 1) ≡ Some g → len ≡ sign_len g → (0 < len) × (len ≤ length rest)
sign_fits [] g len some e size = absurd (omega arith)
sign_fits (b ∷ bs) g len some e size = let fits = sign_len-fits b bs g e in (omega arith, omega arith)

-- at a line's end nothing is left in it
pub left_in_line-none : (n : ℕ) (below : List ℕ) (words : List WordAt) (rest : List ℕ) → length rest ≡ 0
    → left_in_line n below words rest ≡ []
unfolding found_from_place
left_in_line-none n below words [] none = refl
left_in_line-none n below words (b ∷ bs) none = absurd (omega arith)

-- the findings in a line, and below it
next_line : (t t' : ℕ) (old : List WordAt) (rest line below : List ℕ) → text_lines rest ≡ line ∷ text_lines below
    → t' ≡ t + 1
    → found_from_line (nearest old) (t + 1) 0 (text_lines rest)
    ≡ left_in_line t' below old line
    ++ found_below (nearest_first (left_in_line t' below old line) (nearest old)) (t' + 1) (text_lines below)
unfolding found_from_line
next_line t t' old rest line below is next =
    ap (λ (ls : List (List ℕ)). found_from_line (nearest old) (t + 1) 0 ls) is
    ∙ ap (λ (m : ℕ). found_from_line (nearest old) m 0 (line ∷ text_lines below)) (sym next)

-- a line is read
pub goes-line : (all : List Finding) (old mid : List WordAt) (t t' : ℕ) (rest line below : List ℕ)
    → SameFindings [] all old (found_from_line (nearest old) (t + 1) 0 (text_lines rest))
    → text_lines rest ≡ line ∷ text_lines below → t' ≡ t + 1
    → SameFindings old (left_in_line t' below old line) mid []
    → SameFindings [] all mid (found_below (nearest mid) (t' + 1) (text_lines below))
goes-line all old mid t t' rest line below so_far is next goes =
    so_far ∙ goes-part (λ (ks : List Kind). found_below ks (t' + 1) (text_lines below)) old
    (left_in_line t' below old line) mid (found_from_line (nearest old) (t + 1) 0 (text_lines rest))
    (next_line t t' old rest line below is next) goes

-- the first breach of a line is that of the text from the line on
pub first-line : (f : TextFault) (old : List WordAt) (t t' : ℕ) (rest line below : List ℕ)
    → text_lines rest ≡ line ∷ text_lines below → t' ≡ t + 1
    → IsFirstIn f (left_in_line t' below old line)
    → IsFirstIn f (found_from_line (nearest old) (t + 1) 0 (text_lines rest))
first-line f old t t' rest line below is next first =
    is_first-part f (left_in_line t' below old line)
    (found_below (nearest_first (left_in_line t' below old line) (nearest old)) (t' + 1) (text_lines below))
    (found_from_line (nearest old) (t + 1) 0 (text_lines rest)) (next_line t t' old rest line below is next) first

-- before the first line
pub goes-start : (text rest : List ℕ) (t : ℕ) (words : List WordAt) → words ≡ [] → rest ≡ text → t ≡ 0
    → SameFindings [] (found_in_text text) words (found_from_line (nearest words) (t + 1) 0 (text_lines rest))
unfolding found_in_text nearest
goes-start text rest t words none same zero =
    sym (ap (λ (ws : List WordAt). map word ws ++ found_from_line (nearest ws) (t + 1) 0 (text_lines rest)) none
    ∙ ap (λ (r : List ℕ). found_from_line [] (t + 1) 0 (text_lines r)) same
    ∙ ap (λ (m : ℕ). found_from_line [] (m + 1) 0 (text_lines text)) zero)
