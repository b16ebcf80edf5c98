-- The transcript of a model, from its words, its plain words, its tree and its run.
use Rattle.std.proofs.Common.{◌≡◌, ℕ, inl, inr, Bool, true, List, [], ◌∷◌, Some, None, Ok, Err, refl, rules}
use Rattle.std.specs.List.{filter}
use Rattle.ss_words.specs.declared.fault.TextRule.{TextRule}
use Rattle.ss_words.specs.declared.fault.TextFault.TheVariants.{Refused}
use Rattle.ss_words.specs.Words.{WordAt}
use Rattle.ss_words.specs.TextWords.{words_of}
use Rattle.ss_words.specs.Faults.{text_rule_code}
use Rattle.ss_words.specs.Plain.{Plain, PlainAt, plains}
use Rattle.ss_words.specs.PlainRules.{plain_words_of}
use Rattle.ss_routines.specs.Tree.{Tree, spell}
use Rattle.ss_routines.specs.Written.{written}
use Rattle.ss_routines.specs.Refused.{IsWithin, IsRefused, AreSections, words_from, lines}
use Rattle.ss_preamble.specs.Refused.{HasPreamble, no_decls, AreDecls}
use Rattle.ss_check.specs.declared.fault.CheckRule.{CheckRule}
use Rattle.ss_check.specs.CheckRules.{check_rule_code}
use Rattle.ss_check.specs.Breach.{breach}
use Rattle.ss_check.specs.Resolved.{program_resolved}
use Rattle.ss_program.specs.Program.{ProgramTable}
use Rattle.std.specs.Prelude.{codes}
use Rattle.ss_state.specs.Run.{input_with}
use Rattle.ss_debug.specs.CommandLines.{command_lines}
use Rattle.ss_debug.specs.Turn.{obeyed_lines}
use Rattle.ss_session.specs.Model.{refused_text, refused_check, accepted, Spells}
use Rattle.ss_session.proofs.Refusals.{to_one}
use Rattle.ss_session.specs.Transcript.{refusal_line, program_transcript}
use Rattle.ss_session.specs.Examples.{HasTranscript, AlwaysHasTranscript}

-- a word with its line and its number
abbrev pub at : ℕ → ℕ → Plain → PlainAt
at l i w = record { line = l; index = i; word = w }

filter_all : {A : Type 0} (p : A → Bool) → ((x : A) → p x ≡ true) → (xs : List A) → filter p xs ≡ xs
filter_all p every [] = refl
filter_all p every (x ∷ xs) = rw (every x, filter_all p every xs) refl

-- the plain words from the first on are all of them
all_words : (ws : List PlainAt) → words_from 0 ws ≡ ws
all_words ws = filter_all _ (λ w. search rules) ws

-- if there is no preamble, nothing is declared
nothing : (ps : List PlainAt) → (HasPreamble (plains ps) → ⊥) → AreDecls no_decls 0 ps
nothing ps none = inl (none, refl, refl)

module _ (model : List ℕ) (ws : List WordAt) (ps : List PlainAt) (read : words_of model ≡ Ok ws)
    (plain : plain_words_of ws ≡ ps) (none : HasPreamble (plains ps) → ⊥) where
  pub spells : (t : Tree) → IsWithin t → plains ps ≡ spell t → Spells model no_decls (written (lines ps) t)
  spells t within e =
      let said : AreSections (written (lines ps) t) ps = (t, within, e, refl) in
      (ws, read, rw plain (0, nothing ps none, rw (all_words ps) said))

  pub tells_run : (t : Tree) (p : ProgramTable) → IsWithin t → plains ps ≡ spell t →
      breach no_decls (written (lines ps) t) ≡ None → p ≡ program_resolved no_decls (written (lines ps) t) →
      (commands text : List ℕ) →
      program_transcript (input_with p (codes "")) (obeyed_lines (command_lines commands)) ≡ text →
      HasTranscript model commands text
  tells_run t p within e sound is commands text same =
      (accepted p, (no_decls, written (lines ps) t, spells t within e, sound, is), same)

  pub tells_breach : (t : Tree) (rule : CheckRule) (n : ℕ) (text : List ℕ) → IsWithin t → plains ps ≡ spell t →
      breach no_decls (written (lines ps) t) ≡ Some (rule, n) →
      refusal_line (check_rule_code rule) n ≡ text → AlwaysHasTranscript model text
  tells_breach t rule n text within e broken same data_text commands =
      (refused_check rule n, (no_decls, written (lines ps) t, spells t within e, broken), same)

  pub tells_refused : (rule : TextRule) (n : ℕ) (text : List ℕ) → IsRefused rule n ps →
      refusal_line (text_rule_code rule) n ≡ text → AlwaysHasTranscript model text
  tells_refused rule n text refused same data_text commands = (
    refused_text rule n,
    inr (ws, read, to_one ws rule n (rw plain (inr (no_decls, 0, nothing ps none, rw (all_words ps) refused)))),
    same,
  )

pub tells_no_words : (model : List ℕ) (rule : TextRule) (n : ℕ) (text : List ℕ) →
    words_of model ≡ Err (Refused rule n) → refusal_line (text_rule_code rule) n ≡ text → AlwaysHasTranscript model text
tells_no_words model rule n text e same data_text commands = (refused_text rule n, inl e, same)
