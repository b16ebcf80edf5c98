-- Noting places while reading sections is reading the tree and writing it out.
use Rattle.std.proofs.Common.{ℕ, zero, suc, ◌+◌, ◌<◌, Bool, true, false, List, [], ◌∷◌, ◌++◌, length, Some}
use Rattle.std.proofs.Common.{None, refl}
use Rattle.std.specs.List.{flat_map}
use Rattle.ss_words.specs.declared.mark.Mark.TheVariants as m
use Rattle.ss_words.specs.declared.reserved.Reserved.TheVariants as r
use Rattle.ss_words.specs.declared.refusal.Refusal.TheVariants.{PastLimit}
use Rattle.ss_words.specs.Lists.{Name, Several}
use Rattle.ss_words.specs.Reading.{Reading, bind, pure, refuse, whole, end_of_words}
use Rattle.ss_words.specs.Marks.{expect, eat}
use Rattle.ss_words.specs.Noting.{repeat, line}
use Rattle.ss_words.proofs.Laws.{Good, Any, fits_option}
use Rattle.ss_words.proofs.Local.{same}
use Rattle.ss_words.proofs.Marks.{spell_mark, spell_eaten, expect_good, eat_good}
use Rattle.ss_words.proofs.Goal.{spell_ended, ended_good}
use Rattle.ss_words.proofs.Writes.{Writes, pure_writes, refuse_writes, here_writes, look_writes, all_writes}
use Rattle.ss_words.proofs.Writes.{bind_writes, same_writes, noted, many_writes}
use Rattle.ss_routines.specs.Combined.{if_mark, star}
use Rattle.ss_routines.specs.Places.{LocalNames, Section}
use Rattle.ss_routines.specs.Tree.{spell_head, spell_define, spell_block, spell_section, spell}
use Rattle.ss_routines.specs.BlockReading.{block_at}
use Rattle.ss_routines.specs.SectionReading.{head_at, a_define, locals, section_at, sections_upto}
use Rattle.ss_routines.specs.Tree.{is_head}
use Rattle.ss_routines.specs.Written.{flat_block, written_locals, written_section, written_from, written}
use Rattle.ss_routines.specs.PlacesAtLines.{noting_local, noting_statements, noting_section, noting_sections}
use Rattle.ss_routines.proofs.BlockLaw.{FitsBlock}
use Rattle.ss_routines.proofs.BlockLevels.{block_law}
use Rattle.ss_routines.proofs.AnnouncedParts.{good_of}
use Rattle.ss_routines.proofs.HeadLaw.{AtMostHead, head_keep}
use Rattle.ss_routines.proofs.LevelWrites.{statements_write}
use Rattle.ss_routines.proofs.SectionLaw.{FitsLocals, locals_law, FitsSection, FitsTree, define_item_good, define_good}
use Rattle.ss_routines.proofs.SectionLaw.{of_parts, read_on, section_keeps, sections_keep}

module _ (lines : List ℕ) where
  abbrev words : ℕ
  words = length lines

  local_of : ℕ → Several Name → List LocalNames
  local_of k ns = record { line = line lines k; names = ns } ∷ []

  local_writes : (k : ℕ) (acc : List LocalNames) → Writes words (noted (local_of k) acc) k
      (if_mark (m.Reserved r.Define) a_define) (noting_local lines acc)
  unfolding if_mark noting_local local_of
  local_writes k acc =
      here_writes words _ k lines _ _ refl (same_writes words Any (spell_eaten (m.Reserved r.Define))
      (noted (local_of k) acc) k _ _ (elim [
        | true ↦ same_writes words Any _ (noted (local_of k) acc) (k + 1) _ _
            (λ ns. pure_writes words (noted (local_of k) acc) _ (Some ns) (true, acc ++ local_of k ns) refl) a_define
            define_good
        | false ↦ pure_writes words (noted (local_of k) acc) _ None (false, acc) refl
      ]) (eat (m.Reserved r.Define)) (eat_good (m.Reserved r.Define)))

  locals_write : (k : ℕ) → Writes words (written_locals lines k) k locals (repeat (noting_local lines) [])
  unfolding locals star local_of
  locals_write k =
      many_writes words (fits_option Any) spell_define (if_mark (m.Reserved r.Define) a_define) [] (λ a xs. a ∷ xs)
      (noting_local lines) local_of (written_locals lines) define_item_good (λ k. refl) (λ k ns nss. refl) local_writes
      k []

  module _ (n i f k : ℕ) (some_open : 0 < n) where
    head_good : Good Any spell_head [] (head_at (suc k))
    head_good = good_of (AtMostHead (suc k)) spell_head [] (head_at (suc k)) (head_keep k)

    locals_good : Good (FitsLocals same n) (flat_map spell_define) [] locals
    locals_good = let l = locals_law same n in l.good

    block_good : Good (FitsBlock n i f) spell_block [] (block_at n i f)
    block_good = let l = block_law n n same refl i i f f refl refl in l.good

    section_writes : (j : ℕ) → Writes words (written_section lines j) j (section_at n i f (suc k))
        (noting_section lines n i f (suc k))
    unfolding section_at noting_section
    section_writes j =
        here_writes words (written_section lines j) j lines _ _ refl
        (same_writes words Any spell_head (written_section lines j) j _ _ (λ h.
        let a = j + length (spell_head h) in
        bind_writes words (FitsLocals same n) (flat_map spell_define) (written_locals lines a) (written_section lines j)
        a _ _ (λ ls.
        let b = a + length (flat_map spell_define ls) in
        bind_writes words (FitsBlock n i f) spell_block (λ s. [] ++ flat_block lines b s) (written_section lines j) b _
        _ (λ s.
        let e = b + length (spell_block s) in
        here_writes words (written_section lines j) e lines _ _ refl
        (same_writes words Any (spell_mark (m.Reserved r.End)) (written_section lines j) e _ _
        (λ u. pure_writes words (written_section lines j) _ (of_parts h ls s) _ refl) (expect (m.Reserved r.End))
        (expect_good (m.Reserved r.End))))
        (block_at n i f) (noting_statements lines n i f []) block_good (statements_write lines n i f b [])) locals
        (repeat (noting_local lines) []) locals_good (locals_write a)) (head_at (suc k)) head_good)

    section_good : Good Any spell_section [] (section_at n i f (suc k))
    section_good =
        good_of (FitsSection n i f k) spell_section [] (section_at n i f (suc k)) (section_keeps n i f k some_open)

    sections_good : (s : ℕ) → Good Any spell [] (sections_upto n i f (suc k) s)
    sections_good s =
        good_of (FitsTree n i f k s) spell [] (sections_upto n i f (suc k) s) (sections_keep n i f k some_open s)

    abbrev noting_on : ℕ → Bool → Reading (List Section)
    noting_on s b =
        elim b [
          | true ↦ bind (noting_section lines n i f (suc k))
              (λ t. bind (noting_sections lines n i f (suc k) s) (λ ts. pure (t ∷ ts)))
          | false ↦ pure []
        ]

    sections_write : (s j : ℕ) → Writes words (written_from lines j) j (sections_upto n i f (suc k) s)
        (noting_sections lines n i f (suc k) s)
    unfolding sections_upto noting_sections
    sections_write zero j =
        look_writes words _ j _ _ (λ w. all_writes words _ j w _ _
        (elim (is_head w) as (λ b. Writes words (written_from lines j) j
        (elim b [ true ↦ refuse PastLimit | false ↦ pure [] ]) (elim b [ true ↦ refuse PastLimit | false ↦ pure [] ])) [
          | true ↦ refuse_writes words _ j PastLimit
          | false ↦ pure_writes words _ j [] [] refl
        ]))
    sections_write (suc s) j =
        look_writes words _ j _ _ (λ w. all_writes words _ j w _ _
        (elim (is_head w) as (λ b. Writes words (written_from lines j) j (read_on n i f k s b) (noting_on s b)) [
          | true ↦ bind_writes words Any spell_section (written_section lines j) _ j _ _
              (λ t. bind_writes words Any spell (written_from lines (j + length (spell_section t))) _ _ _ _
              (λ ts. pure_writes words _ _ (t ∷ ts) _ refl) (sections_upto n i f (suc k) s) _ (sections_good s)
              (sections_write s (j + length (spell_section t)))) (section_at n i f (suc k)) _ section_good
              (section_writes j)
          | false ↦ pure_writes words _ j [] [] refl
        ]))

    pub whole_writes : (s : ℕ) → Writes words (written lines) 0 (whole (sections_upto n i f (suc k) s))
        (whole (noting_sections lines n i f (suc k) s))
    unfolding whole
    whole_writes s =
        bind_writes words Any spell (written_from lines 0) (written lines) 0 _ _
        (λ t. same_writes words Any spell_ended (written lines) _ _ _
        (λ u. pure_writes words (written lines) _ t (written lines t) refl) end_of_words ended_good)
        (sections_upto n i f (suc k) s) _ (sections_good s) (sections_write s 0)
