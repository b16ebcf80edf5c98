-- A message that is written is read back.
use Rattle.std.proofs.Common.{◌≡◌, ℕ, ◌+◌, ◌-◌, ◌*◌, ◌/◌, ◌%◌, ◌^◌, ◌<◌, ◌≤◌, ◌==◌, ◌&&◌, Bool, true, false, cond, nat_le, nat_lt}
use Rattle.std.proofs.Common.{List, [], ◌∷◌, ◌++◌, length, refl, ◌∙◌, sym, ap, append_assoc, append-nil, arith, length-append}
use Rattle.std.proofs.Common.{Option, Some, None, decimal, codes}
use Rattle.std.proofs.Math.Seq.{take-append_seam, drop-append_seam}
use Rattle.std.proofs.lemmas.Fmt.{decimal_by_steps, length-decimal-le}
use Rattle.std.proofs.lemmas.Bool.Decides.{nat_tests}
use Rattle.ss_messages.specs.Frames.{number_from, without_return, length_in, is_blank, body, head}
use Rattle.ss_messages.specs.Frames.{message}
use Rattle.ss_messages.specs.Messages.{message_text}
use Rattle.ss_messages.specs.declared.frame.TheConstants.{LONGEST_MESSAGE}
use Rattle.ss_messages.specs.Laws.{MessagesAreReadBack}

-- ---- the bytes of a line

abbrev IsOneLine : List ℕ → Type 0
IsOneLine [] = Unit {0}
IsOneLine (b ∷ bs) = ((b == 10) ≡ false) × IsOneLine bs

one_more : (bs : List ℕ) (b : ℕ) → IsOneLine bs → (b == 10) ≡ false → IsOneLine (bs ++ b ∷ [])
one_more [] b o e = (e, tt)
one_more (c ∷ bs) b o e = (o.0, one_more bs b o.1 e)

both_lines : (bs cs : List ℕ) → IsOneLine bs → IsOneLine cs → IsOneLine (bs ++ cs)
both_lines [] cs o p = p
both_lines (b ∷ bs) cs o p = (o.0, both_lines bs cs o.1 p)

-- they are read
line_read : (said : Option ℕ) (bytes line rest : List ℕ) → IsOneLine bytes →
    length line + length bytes ≤ 4096 → head said line (bytes ++ rest) ≡ head said (line ++ bytes) rest
unfolding head
line_read said [] line rest o s = ap (λ (l : List ℕ). head said l rest) (sym (append-nil line))
line_read said (b ∷ bytes) line rest o s =
    let short : nat_lt (length line) 4096 ≡ true = grind (arith, nat_tests) in
    let more : length (line ++ b ∷ []) + length bytes ≤ 4096 = omega (arith, length-append line (b ∷ []), s) in
    rw (o.0, short) (line_read said bytes (line ++ b ∷ []) rest o.1 more
    ∙ ap (λ (l : List ℕ). head said l rest) (append_assoc line (b ∷ []) bytes))

-- ---- the number

step : (t : Bool) (x y z : Option ℕ) (v : ℕ) → (x ≡ Some v → y ≡ z) → cond t x None ≡ Some v → cond t y None ≡ z
step true x y z v f h = f h
step false x y z v f h = absurd (cc)

number_more : (n v : ℕ) (ds : List ℕ) (c : ℕ) → number_from n ds ≡ Some v →
    number_from n (ds ++ c ∷ []) ≡ number_from v (c ∷ [])
number_more n v [] c h = let e : n ≡ v = cc in rw e refl
number_more n v (d ∷ ds) c h =
    step (nat_le 48 d && nat_le d 57 && nat_le (10 * n + (d - 48)) LONGEST_MESSAGE)
    (number_from (10 * n + (d - 48)) ds)
    (number_from (10 * n + (d - 48)) (ds ++ c ∷ [])) (number_from v (c ∷ [])) v
    (number_more (10 * n + (d - 48)) v ds c) h

digit_said : (n d m : ℕ) → d < 10 → 10 * n + d ≡ m → m ≤ LONGEST_MESSAGE → number_from n ((48 + d) ∷ []) ≡ Some m
digit_said n d m l e most =
    let low : nat_le 48 (48 + d) ≡ true = grind (arith, nat_tests) in
    let high : nat_le (48 + d) 57 ≡ true = grind (arith, nat_tests) in
    let same : 10 * n + ((48 + d) - 48) ≡ m = omega (arith, e) in
    let fits : nat_le m LONGEST_MESSAGE ≡ true = grind (arith, nat_tests) in
    rw (low, high, same, fits) refl

record Said (n : ℕ) (ds : List ℕ) : Type 0 where
  some : 0 < length ds
  one : IsOneLine ds
  number : n ≤ LONGEST_MESSAGE → number_from 0 ds ≡ Some n

no_feed : (d : ℕ) → d < 10 → (48 + d == 10) ≡ false
no_feed d l = grind (arith, nat_tests)

decimal_said : (n : ℕ) → n < 2 ^ 64 → Said n (decimal n)
decimal_said = decimal_by_steps Said
    (λ n l. record {
      some = omega arith;
      one = (no_feed n l, tt);
      number = λ most. digit_said 0 n n l (omega arith) most;
    })
    (λ n ds l h. record {
      some = omega (arith, length-append ds ((48 + n % 10) ∷ []));
      one = one_more ds (48 + n % 10) h.one (no_feed (n % 10) (omega arith));
      number = λ most. number_more 0 (n / 10) ds (48 + n % 10) (h.number (omega arith))
          ∙ digit_said (n / 10) (n % 10) n (omega arith) (omega arith) most;
    })

-- ---- the line that says it

return_dropped : (xs : List ℕ) → without_return (xs ++ 13 ∷ []) ≡ xs
return_dropped xs =
    let at : length (xs ++ 13 ∷ []) - 1 ≡ length xs = omega (arith, length-append xs (13 ∷ [])) in
    rw (at, drop-append_seam xs (13 ∷ []), take-append_seam xs (13 ∷ [])) refl

length_said : (n : ℕ) → n ≤ LONGEST_MESSAGE → length_in (codes "Content-Length: " ++ decimal n ++ 13 ∷ []) ≡ Some n
unfolding length_in
length_said n most =
    let said = decimal_said n (omega (arith, most)) in
    let whole : without_return (codes "Content-Length: " ++ decimal n ++ 13 ∷ [])
    ≡ codes "Content-Length: " ++ decimal n =
    return_dropped (codes "Content-Length: " ++ decimal n) in
    let some : (length (decimal n) == 0) ≡ false = grind (arith, nat_tests, said.some) in
    rw (whole, some) (said.number most)

is_no_end : (n : ℕ) → is_blank (codes "Content-Length: " ++ decimal n ++ 13 ∷ []) ≡ false
is_no_end n =
    let some : 0 < length (codes "Content-Length: " ++ decimal n) = omega arith in
    let test : (length (codes "Content-Length: " ++ decimal n) == 0) ≡ false = grind (arith, nat_tests) in
    rw (return_dropped (codes "Content-Length: " ++ decimal n)) test

-- ---- the message

body_read : (bytes rest : List ℕ) → body (Some (length bytes)) (bytes ++ rest) ≡ message bytes rest
body_read bytes rest =
    let enough : nat_lt (length (bytes ++ rest)) (length bytes) ≡ false =
    let all : length (bytes ++ rest) ≡ length bytes + length rest = length-append bytes rest in
    grind (arith, nat_tests) in
    rw (enough, take-append_seam bytes rest, drop-append_seam bytes rest) refl

head_ended : (n : ℕ) (line behind : List ℕ) → is_blank line ≡ false → length_in line ≡ Some n →
    head None line (10 ∷ 13 ∷ 10 ∷ behind) ≡ body (Some n) behind
unfolding head
head_ended n line behind e f = rw (e, f) refl

pub read_back : MessagesAreReadBack
unfolding message_text
read_back bytes rest most =
    let n : ℕ = length bytes in
    let line : List ℕ = codes "Content-Length: " ++ decimal n ++ 13 ∷ [] in
    let said = decimal_said n (omega (arith, most)) in
    let parts : message_text bytes ++ rest ≡ line ++ 10 ∷ 13 ∷ 10 ∷ (bytes ++ rest) =
    ap (λ (t : List ℕ). codes "Content-Length: " ++ t)
    (append_assoc (decimal n ++ codes "\r\n\r\n") bytes rest
    ∙ append_assoc (decimal n) (codes "\r\n\r\n") (bytes ++ rest)
    ∙ sym (append_assoc (decimal n) (13 ∷ []) (10 ∷ 13 ∷ 10 ∷ (bytes ++ rest)))) in
    let one : IsOneLine line = both_lines (codes "Content-Length: ") (decimal n ++ 13 ∷ [])
    (refl, (refl, (refl, (refl, (refl, (refl, (refl, (refl, (refl, (refl, (refl, (refl, (refl, (refl, (refl, (refl, tt))))))))))))))))
    (one_more (decimal n) 13 said.one refl) in
    let digits : length (decimal n) ≤ 20 =
    length-decimal-le 20 n (omega arith) (omega (arith, most)) (omega (arith, most)) in
    let short : 0 + length line ≤ 4096 = omega (arith, length-append (decimal n) (13 ∷ []), digits) in
    rw parts (
    line_read None line [] (10 ∷ 13 ∷ 10 ∷ (bytes ++ rest)) one short
    ∙ head_ended n line (bytes ++ rest) (is_no_end n) (length_said n most)
    ∙ body_read bytes rest
    )
