-- The declarations of a text are within the limits.
use Rattle.std.proofs.Common.{◌≡◌, ℕ, ◌+◌, length, inl, inr, List, [], ◌∷◌, map, refl, ap, arith}
use Rattle.ss_words.specs.Plain.{PlainAt}
use Rattle.ss_preamble.specs.Tree.{Item, Decls, items_of}
use Rattle.ss_preamble.specs.Limits.{IsWithin}
use Rattle.ss_preamble.specs.Spelling.{spell_item}
use Rattle.ss_preamble.specs.Written.{written_items}
use Rattle.ss_preamble.specs.Refused.{AreDecls}

nothing_within : IsWithin []
nothing_within = record {
  classes = omega arith;
  attributes = λ c. omega arith;
  variables = omega arith;
  sets = omega arith;
  keys = λ k d g. absurd (omega (arith, g));
}

items_back : (ls : List ℕ) (k : ℕ) (is : List Item) → map (λ i. i.item) (written_items ls k is) ≡ is
items_back ls k [] = refl
items_back ls k (i ∷ is) = ap (λ (js : List Item). i ∷ js) (items_back ls (k + length (spell_item i)) is)

pub decls_within : (d : Decls) (n : ℕ) (ws : List PlainAt) → AreDecls d n ws → IsWithin (items_of d)
decls_within d n ws (inl h) = rw h.1 nothing_within
decls_within d n ws (inr p) = rw (p.declared, items_back _ 1 p.items) p.within
