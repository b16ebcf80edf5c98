use Rattle.std.proofs.Common.{◌≡◌, ℕ, Bool, leb, List, [], ◌∷◌, map, filter, IfOk, IfErr, refl, ap, ◌∙◌, subst}
use Rattle.std.proofs.Common.{rules, true, false}
use Rattle.std.specs.Prelude.{if◌then◌else◌}
use Rattle.std.proofs.lemmas.Fn.{filter_same}
use Rattle.ss_words.specs.declared.plain_word.PlainWord.{PlainWord}
use Rattle.ss_words.specs.Plain.{PlainAt, plain_at}
use Rattle.ss_words.specs.PlainRules.{plain_words_of}
use Rattle.ss_routines.specs.Refused.{words_from, AreSections, IsFault}
use Rattle.ss_routines.proofs.program.sections.Goals as goal

abbrev test : ℕ → PlainWord → Bool
test k w = leb k w.index

kept : (k : ℕ) (ws : List PlainWord) → map plain_at (filter (test k) ws) ≡ words_from k (map plain_at ws)
kept k [] = refl
kept k (w ∷ ws) =
    elim (test k w) as (λ b. map plain_at (if b then w ∷ filter (test k) ws else filter (test k) ws)
    ≡ (if b then plain_at w ∷ words_from k (map plain_at ws) else words_from k (map plain_at ws))) [
      | true ↦ ap (λ (us : List PlainAt). plain_at w ∷ us) (kept k ws)
      | false ↦ kept k ws
    ]

pub returns-clause-refused : goal.returns-clause-refused
returns-clause-refused c =
    let text : map plain_at c.deref.result.now ≡ words_from c.args.from (plain_words_of c.args.words.now) =
    ap (map plain_at) (c.deref.ensures.value ∙ filter_same _ (test c.args.from) _ (λ x b f k. search rules) _ _
    c.retain.ensures.filtered)
    ∙ kept c.args.from c.in_ok-plain.plain.items ∙ ap (words_from c.args.from) c.in_ok-plain.ensures in
    subst (λ (ws : List PlainAt). IfErr c.read.result (λ f. IsFault f ws)) text c.read.ensures.refused

pub returns-clause-sections : goal.returns-clause-sections
returns-clause-sections c =
    let text : map plain_at c.deref.result.now ≡ words_from c.args.from (plain_words_of c.args.words.now) =
    ap (map plain_at) (c.deref.ensures.value ∙ filter_same _ (test c.args.from) _ (λ x b f k. search rules) _ _
    c.retain.ensures.filtered)
    ∙ kept c.args.from c.in_ok-plain.plain.items ∙ ap (words_from c.args.from) c.in_ok-plain.ensures in
    subst (λ (ws : List PlainAt). IfOk c.read.result (λ s. AreSections s ws)) text c.read.ensures.sections
