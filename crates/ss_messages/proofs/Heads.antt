-- A head is read byte by byte.
use Rattle.std.proofs.Common.{◌≡◌, ◌<◌, ◌≤◌, ℕ, List, [], ◌∷◌, length, drop, Option, Some, None, refl, ◌∙◌, ap, arith}
use Rattle.std.proofs.lemmas.List.{drop_all}
use Rattle.std.specs.Io.KnownBytes.{Consumes}
use Rattle.ss_messages.specs.Frames.{head, first_message, cut, GoesOn, HasLength}

-- if the bytes are known: the bytes that are left continue the head as it began
abbrev pub IsWithin : Option (List ℕ) → Option (List ℕ) → ℕ → Option ℕ → List ℕ → ℕ → Type 0
IsWithin old new first said line byte =
    (text : List ℕ) → old ≡ Some text →
    (rest : List ℕ) × (new ≡ Some rest) × (head None [] (first ∷ text) ≡ head said line (byte ∷ rest))

-- the byte that was read is the first of those that were left
byte_told : (mid new : Option (List ℕ)) (rest : List ℕ) (b : ℕ) → mid ≡ Some rest → Consumes mid new (b ∷ []) →
    (left : List ℕ) × (new ≡ Some left) × (rest ≡ b ∷ left)
byte_told None new rest b e c = absurd (cc)
byte_told (Some xs) None rest b e c = absurd c
byte_told (Some xs) (Some ys) rest b e c = (ys, refl, cc)

-- one byte more
pub within_more : (old mid new : Option (List ℕ)) (first : ℕ) (said : Option ℕ) (line : List ℕ) (byte : ℕ)
    (next : Option ℕ) (more : List ℕ) (b : ℕ) → IsWithin old mid first said line byte →
    GoesOn None said line byte next more → Consumes mid new (b ∷ []) → IsWithin old new first next more b
within_more old mid new first said line byte next more b w g c =
    λ text e. let at = w text e in
    let told = byte_told mid new at.0 b at.1 c in
    (told.0, told.1, at.2 ∙ g at.0 ∙ ap (head next more) told.2)

-- the head ends
pub head_ends : (old new : Option (List ℕ)) (first : ℕ) (said : Option ℕ) (line : List ℕ) (byte n : ℕ)
    (next : Option ℕ) (more : List ℕ) → IsWithin old new first said line byte →
    GoesOn (Some n) said line byte next more → HasLength old new first n
head_ends old new first said line byte n next more w g =
    λ text e. let at = w text e in
    (at.0, at.1, at.2 ∙ g at.0)

-- a text that ends within a head
pub cut_within : (text : List ℕ) (at : ℕ) (said : Option ℕ) (line : List ℕ) → length text ≤ at → 0 < length text →
    head None [] text ≡ head said line (drop at text) → first_message text ≡ cut
unfolding head
cut_within [] at said line past some e = absurd (omega (arith, some))
cut_within (b ∷ bytes) at said line past some e = rw (drop_all at (b ∷ bytes) past) at e
