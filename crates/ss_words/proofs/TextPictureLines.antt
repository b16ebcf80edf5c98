-- The lines of a picture.
use Rattle.std.proofs.Common.{◌≡◌, ℕ, zero, suc, ◌+◌, ◌<◌, ◌≤◌, Bool, true, false, ◌&&◌, not, cond, nat_lt, nat_le}
use Rattle.std.proofs.Common.{List, [], ◌∷◌, ◌++◌, take, length, Option, Some, None, refl, sym, ap, ◌∙◌, arith}
use Rattle.std.proofs.Common.{append_assoc, append-nil}
use Rattle.std.specs.Prelude.{slice_index}
use Rattle.std.specs.List.{list_all, flat_map}
use Rattle.std.proofs.lemmas.Bool.Decides.{nat_tests}
use Rattle.ss_words.specs.declared.fault.TextRule.TheVariants.{StrayByte, LongPictureLine}
use Rattle.ss_words.specs.declared.fault.TextFault.{TextFault}
use Rattle.ss_words.specs.declared.fault.TextFault.TheVariants.{Refused}
use Rattle.ss_words.specs.Words.{Kind, WordAt, name, number, sign, picture}
use Rattle.ss_words.specs.TextBytes.{is_allowed}
use Rattle.ss_words.specs.TextRuns.{calls_picture, picture_lines, line_count, behind_print}
use Rattle.ss_words.specs.TextWords.{Finding, word, breach_if, on_line, picture_byte, found_in_picture, picture_size}
use Rattle.ss_words.specs.TextWords.{picture_found, nearest_first, found_from_line}
use Rattle.ss_words.specs.TextScan.{first_breach, IsFirstIn, nearest, SameFindings, found_below}
use Rattle.ss_words.proofs.TextBytesLemmas.{nat_lt-above, nat_lt-below}
use Rattle.ss_words.proofs.TextFinds.{is_first-front, is_first-same, is_first-word}
use Rattle.ss_words.proofs.TextSteps.{goes-word}

allowed_all : (n : ℕ) (bs : List ℕ) → list_all is_allowed bs ≡ true → flat_map (picture_byte n) bs ≡ []
allowed_all n [] all = refl
allowed_all n (b ∷ bs) all =
    elim (is_allowed b) as (λ t. (t && list_all is_allowed bs) ≡ true
    → breach_if StrayByte n (not t) ++ flat_map (picture_byte n) bs ≡ []) [
      | true ↦ λ rest. allowed_all n bs rest
      | false ↦ λ never. absurd cc
    ] all

stray_first : (n : ℕ) (bs : List ℕ) → list_all is_allowed bs ≡ false
    → first_breach (flat_map (picture_byte n) bs) ≡ Some (Refused StrayByte n)
stray_first n [] some = absurd cc
stray_first n (b ∷ bs) some =
    elim (is_allowed b) as (λ t. (t && list_all is_allowed bs) ≡ false
    → first_breach (breach_if StrayByte n (not t) ++ flat_map (picture_byte n) bs) ≡ Some (Refused StrayByte n)) [
      | true ↦ λ rest. stray_first n bs rest
      | false ↦ λ here. refl
    ] some

pub picture-empty : (n : ℕ) (line : List ℕ) → length line ≡ 0 → found_in_picture n line ≡ []
unfolding found_in_picture
picture-empty n [] none = refl
picture-empty n (b ∷ bs) none = absurd (omega arith)

pub picture-stray_first : (n : ℕ) (line : List ℕ) → 0 < length line → is_allowed (slice_index line 0) ≡ false
    → first_breach (found_in_picture n line) ≡ Some (Refused StrayByte n)
unfolding found_in_picture
picture-stray_first n [] some stray = absurd (omega arith)
picture-stray_first n (b ∷ bs) some stray =
    ap (λ (t : Bool). first_breach
    (breach_if StrayByte n (not t) ++ breach_if LongPictureLine n (nat_lt 132 (length (b ∷ bs)))
    ++ flat_map (picture_byte n) bs)) stray

pub picture-long : (n : ℕ) (line : List ℕ) → is_allowed (slice_index line 0) ≡ true → 132 < length line
    → first_breach (found_in_picture n line) ≡ Some (Refused LongPictureLine n)
unfolding found_in_picture
picture-long n [] allowed long = absurd (omega arith)
picture-long n (b ∷ bs) allowed long =
    ap (λ (t : Bool). first_breach
    (breach_if StrayByte n (not t) ++ breach_if LongPictureLine n (nat_lt 132 (length (b ∷ bs)))
    ++ flat_map (picture_byte n) bs)) allowed
    ∙ ap (λ (t : Bool). first_breach (breach_if LongPictureLine n t ++ flat_map (picture_byte n) bs))
    (nat_lt-above 132 (length (b ∷ bs)) long)

kept : (n b : ℕ) (bs : List ℕ) → is_allowed b ≡ true → length (b ∷ bs) ≤ 132
    → found_in_picture n (b ∷ bs) ≡ flat_map (picture_byte n) bs
unfolding found_in_picture
kept n b bs allowed short =
    ap (λ (t : Bool). breach_if StrayByte n (not t) ++ breach_if LongPictureLine n (nat_lt 132 (length (b ∷ bs)))
    ++ flat_map (picture_byte n) bs) allowed
    ∙ ap (λ (t : Bool). breach_if LongPictureLine n t ++ flat_map (picture_byte n) bs)
    (nat_lt-below 132 (length (b ∷ bs)) short)

pub picture-stray : (n : ℕ) (line : List ℕ) → is_allowed (slice_index line 0) ≡ true → length line ≤ 132
    → list_all is_allowed line ≡ false → first_breach (found_in_picture n line) ≡ Some (Refused StrayByte n)
picture-stray n [] allowed short some = absurd cc
picture-stray n (b ∷ bs) allowed short some =
    ap first_breach (kept n b bs allowed short)
    ∙ stray_first n bs (ap (λ (t : Bool). t && list_all is_allowed bs) (sym allowed) ∙ some)

pub picture-allowed : (n : ℕ) (line : List ℕ) → is_allowed (slice_index line 0) ≡ true → length line ≤ 132
    → list_all is_allowed line ≡ true → found_in_picture n line ≡ []
unfolding found_in_picture
picture-allowed n [] allowed short all = refl
picture-allowed n (b ∷ bs) allowed short all =
    kept n b bs allowed short ∙ allowed_all n bs (ap (λ (t : Bool). t && list_all is_allowed bs) (sym allowed) ∙ all)

pub found_from_line-none : (before : List Kind) (n k : ℕ) → found_from_line before n k [] ≡ []
unfolding found_from_line
found_from_line-none before n zero = refl
found_from_line-none before n (suc k) = refl

found_from_line-picture : (before : List Kind) (n k : ℕ) (l : List ℕ) (ls : List (List ℕ))
    → found_from_line before n (suc k) (l ∷ ls) ≡ found_in_picture n l ++ found_from_line before (n + 1) k ls
unfolding found_from_line
found_from_line-picture before n k l ls = refl

take_none : (k : ℕ) → take {A = List ℕ} k [] ≡ []
take_none zero = refl
take_none (suc k) = refl

-- how far a picture of `count` lines has come: `left` of them are still to be taken, after line
-- number `taken` of the text
pub record Drawn (first count : ℕ) (all : List (List ℕ)) (taken left : ℕ) (lines drawn : List (List ℕ)) : Type 0 where
  pub picture : take count all ≡ drawn ++ take left lines
  pub found : (before : List Kind)
      → found_from_line before first count all ≡ found_from_line before (taken + 1) left lines

module _ {first count : ℕ} {all : List (List ℕ)} {taken left : ℕ} {lines drawn : List (List ℕ)}
    (so_far : Drawn first count all taken left lines drawn) where
  next_found : (rest : ℕ) (l : List ℕ) (ls : List (List ℕ)) → left ≡ suc rest → lines ≡ l ∷ ls → (before : List Kind)
      → found_from_line before first count all
      ≡ found_in_picture (taken + 1) l ++ found_from_line before ((taken + 1) + 1) rest ls
  next_found rest l ls size is before =
      so_far.found before
      ∙ ap (λ (k : ℕ). found_from_line before (taken + 1) k lines) size
      ∙ ap (λ (ms : List (List ℕ)). found_from_line before (taken + 1) (suc rest) ms) is
      ∙ found_from_line-picture before (taken + 1) rest l ls

  -- one more line
  pub drawn-more : (rest taken' : ℕ) (l : List ℕ) (ls drawn' : List (List ℕ)) → left ≡ suc rest → lines ≡ l ∷ ls
      → taken' ≡ taken + 1 → found_in_picture taken' l ≡ [] → drawn' ≡ drawn ++ l ∷ []
      → Drawn first count all taken' rest ls drawn'
  drawn-more rest taken' l ls drawn' size is next none more = record {
    picture = so_far.picture
        ∙ ap (λ (k : ℕ). drawn ++ take k lines) size
        ∙ ap (λ (ms : List (List ℕ)). drawn ++ take (suc rest) ms) is
        ∙ sym (append_assoc drawn (l ∷ []) (take rest ls))
        ∙ ap (λ (ds : List (List ℕ)). ds ++ take rest ls) (sym more);
    found = λ before. next_found rest l ls size is before
        ∙ ap (λ (m : ℕ). found_in_picture m l ++ found_from_line before (m + 1) rest ls) (sym next)
        ∙ ap (λ (fs : List Finding). fs ++ found_from_line before (taken' + 1) rest ls) none;
  }

  -- a line that breaks a rule
  pub drawn-refused : (f : TextFault) (rest taken' : ℕ) (l : List ℕ) (ls : List (List ℕ)) → left ≡ suc rest
      → lines ≡ l ∷ ls → taken' ≡ taken + 1 → IsFirstIn f (found_in_picture taken' l) → (before : List Kind)
      → IsFirstIn f (found_from_line before first count all)
  drawn-refused f rest taken' l ls size is next first_here before =
      is_first-same f (found_from_line before first count all)
      (found_in_picture taken' l ++ found_from_line before (taken' + 1) rest ls)
      (next_found rest l ls size is before
      ∙ ap (λ (m : ℕ). found_in_picture m l ++ found_from_line before (m + 1) rest ls) (sym next))
      (is_first-front f (found_in_picture taken' l) (found_from_line before (taken' + 1) rest ls) first_here)

  -- as many lines as were wanted
  pub drawn-all : left ≡ 0 → (take count all ≡ drawn)
      × ((before : List Kind) → found_from_line before first count all ≡ found_from_line before (taken + 1) 0 lines)
  drawn-all none = (
    so_far.picture ∙ ap (λ (k : ℕ). drawn ++ take k lines) none ∙ append-nil drawn,
    λ before. so_far.found before ∙ ap (λ (k : ℕ). found_from_line before (taken + 1) k lines) none,
  )

  -- the text's end
  pub drawn-end : lines ≡ [] → (take count all ≡ drawn)
      × ((before : List Kind) → found_from_line before first count all ≡ found_from_line before (taken + 1) 0 lines)
  drawn-end none = (
    so_far.picture ∙ ap (λ (ms : List (List ℕ)). drawn ++ take left ms) none
        ∙ ap (λ (ms : List (List ℕ)). drawn ++ ms) (take_none left) ∙ append-nil drawn,
    λ before. so_far.found before ∙ ap (λ (ms : List (List ℕ)). found_from_line before (taken + 1) left ms) none
        ∙ found_from_line-none before (taken + 1) left
        ∙ sym (ap (λ (ms : List (List ℕ)). found_from_line before (taken + 1) 0 ms) none
        ∙ found_from_line-none before (taken + 1) 0),
  )

pub nat_le-true : (a b : ℕ) → nat_le a b ≡ true → a ≤ b
nat_le-true a b h = grind (arith, nat_tests)

-- a count of lines is at least one
pub line_count-some : (o : Option Kind) (n : ℕ) → line_count o ≡ Some n → 1 ≤ n
unfolding line_count
line_count-some None n e = absurd cc
line_count-some (Some (name s)) n e = absurd cc
line_count-some (Some (sign g)) n e = absurd cc
line_count-some (Some (picture ls)) n e = absurd cc
line_count-some (Some (number m)) n e =
    elim (nat_le 1 m) as (λ t. nat_le 1 m ≡ t → cond (t && nat_le m 100) (Some m) None ≡ Some n → 1 ≤ n) [
      | true ↦ λ least. (elim (nat_le m 100) as (λ t. cond t (Some m) None ≡ Some n → 1 ≤ n) [
        | true ↦ λ same. let e : m ≡ n = cc in let h = nat_le-true 1 m least in omega arith
        | false ↦ λ none. absurd cc
      ])
      | false ↦ λ less none. absurd cc
    ] refl e

no_picture : (words : List Kind) (n : ℕ) (ls : List (List ℕ)) → picture_size words ≡ 0
    → found_below words n ls ≡ found_from_line words n 0 ls
no_picture words n ls none =
    ap (λ (k : ℕ). picture_found k n ls ++ found_from_line (nearest_first (picture_found k n ls) words) n k ls) none

-- words that call no picture
pub below-plain : (words : List Kind) (n : ℕ) (ls : List (List ℕ)) → calls_picture words ≡ false
    → found_below words n ls ≡ found_from_line words n 0 ls
unfolding picture_size
below-plain words n ls calls =
    no_picture words n ls (ap (λ (t : Bool). elim t
    [ true ↦ (elim (picture_lines words) [ None ↦ 0 | Some k ↦ k ]) | false ↦ 0 ]) calls)

-- words that call a picture without a count
pub below-uncounted : (words : List Kind) (n : ℕ) (ls : List (List ℕ)) → calls_picture words ≡ true
    → picture_lines words ≡ None → found_below words n ls ≡ found_from_line words n 0 ls
unfolding picture_size
below-uncounted words n ls calls count =
    no_picture words n ls (ap (λ (t : Bool). elim t
    [ true ↦ (elim (picture_lines words) [ None ↦ 0 | Some k ↦ k ]) | false ↦ 0 ]) calls
    ∙ ap (λ (o : Option ℕ). elim o [ None ↦ 0 | Some k ↦ k ]) count)

drawn_below : (words : List Kind) (n k : ℕ) (ls : List (List ℕ)) → 1 ≤ k → picture_size words ≡ k
    → found_below words n ls ≡ word (on_line n (picture (take k ls)))
    ∷ found_from_line (picture (take k ls) ∷ words) n k ls
drawn_below words n zero ls some size = absurd (omega arith)
drawn_below words n (suc k) ls some size =
    ap (λ (m : ℕ). picture_found m n ls ++ found_from_line (nearest_first (picture_found m n ls) words) n m ls) size

-- words that call a picture of k lines
pub below-picture : (words : List Kind) (n k : ℕ) (ls : List (List ℕ)) → calls_picture words ≡ true
    → picture_lines words ≡ Some k
    → found_below words n ls ≡ word (on_line n (picture (take k ls)))
    ∷ found_from_line (picture (take k ls) ∷ words) n k ls
unfolding picture_size
below-picture words n k ls calls count =
    drawn_below words n k ls (line_count-some (behind_print None words) k count)
    (ap (λ (t : Bool). elim t [ true ↦ (elim (picture_lines words) [ None ↦ 0 | Some k ↦ k ]) | false ↦ 0 ]) calls
    ∙ ap (λ (o : Option ℕ). elim o [ None ↦ 0 | Some k ↦ k ]) count)

-- a picture that is drawn and joins the words
pub goes-picture : (old new : List WordAt) (n k taken : ℕ) (ls left drawn : List (List ℕ))
    → calls_picture (nearest old) ≡ true → picture_lines (nearest old) ≡ Some k → drawn ≡ take k ls
    → ((before : List Kind) → found_from_line before n k ls ≡ found_from_line before (taken + 1) 0 left)
    → new ≡ old ++ on_line n (picture drawn) ∷ []
    → SameFindings old (found_below (nearest old) n ls) new (found_from_line (nearest new) (taken + 1) 0 left)
goes-picture old new n k taken ls left drawn calls count is found joins =
    goes-word (λ (ks : List Kind). found_from_line ks (taken + 1) 0 left) old (on_line n (picture drawn)) new
    (found_below (nearest old) n ls)
    (below-picture (nearest old) n k ls calls count
    ∙ ap (λ (fs : List Finding). word (on_line n (picture (take k ls))) ∷ fs)
    (found (picture (take k ls) ∷ nearest old))
    ∙ ap (λ (ps : List (List ℕ)). word (on_line n (picture ps))
    ∷ found_from_line (picture ps ∷ nearest old) (taken + 1) 0 left) (sym is)) joins

-- a picture with a line that breaks a rule
pub first-picture : (f : TextFault) (words : List Kind) (n k : ℕ) (ls : List (List ℕ)) → calls_picture words ≡ true
    → picture_lines words ≡ Some k → ((before : List Kind) → IsFirstIn f (found_from_line before n k ls))
    → IsFirstIn f (found_below words n ls)
first-picture f words n k ls calls count first =
    is_first-same f (found_below words n ls)
    (word (on_line n (picture (take k ls))) ∷ found_from_line (picture (take k ls) ∷ words) n k ls)
    (below-picture words n k ls calls count)
    (is_first-word f (on_line n (picture (take k ls))) (found_from_line (picture (take k ls) ∷ words) n k ls)
    (first (picture (take k ls) ∷ words)))
