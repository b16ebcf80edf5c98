-- The sentence of each code: the rows of the tables of src/wording.rt.
use Rattle.std.specs.Prelude.{ℕ, List, [], ◌∷◌, map, bytes_eq, ◌==◌, if◌then◌else◌}
use Rattle.ss_sentences.specs.declared.wording.TheConstants.{RULE_SENTENCES, FAULT_SENTENCES}

-- the sentence in the row of this code in a table, empty if there is no such row
abbrev pub beside : List ℕ → List (List ℕ × List ℕ) → List ℕ
beside code [] = []
beside code (row ∷ rows) = if bytes_eq row.0 code then row.1 else beside code rows

-- the sentence in the row of this number in a table, empty if there is no such row
abbrev pub beside_number : ℕ → List (ℕ × List ℕ) → List ℕ
beside_number n [] = []
beside_number n (row ∷ rows) = if row.0 == n then row.1 else beside_number n rows

-- the sentence of a rule, by its code
unfoldable pub rule_sentence : List ℕ → List ℕ
rule_sentence code = beside code (map (λ row. (row.0.now, row.1.now)) RULE_SENTENCES)

-- the sentence of a fault, by its number
unfoldable pub fault_sentence : ℕ → List ℕ
fault_sentence n = beside_number n (map (λ row. (row.0, row.1.now)) FAULT_SENTENCES)
