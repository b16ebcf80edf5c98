use Rattle.std.proofs.Common.{◌≡◌, inl, inr, ℕ, List, [], ◌∷◌, Option, Some, None, Result, Ok, Err, refl, sym, ap}
use Rattle.std.proofs.Common.{subst, ◌∙◌}
use Rattle.ss_words.specs.declared.fault.TextFault.{TextFault}
use Rattle.ss_words.specs.declared.fault.TextFault.TheVariants.{Refused, Memory}
use Rattle.ss_words.specs.declared.fault.TextRule.{TextRule}
use Rattle.ss_words.specs.Words.{WordAt}
use Rattle.ss_words.specs.TextWords.{Finding, word, breach as broken, breaches_in, words_in, answer_of, found_in_text}
use Rattle.ss_words.specs.TextWords.{words_of}
use Rattle.ss_words.specs.Plain.{PlainAt}
use Rattle.ss_words.specs.PlainRules.{plain_words_of}
use Rattle.ss_preamble.specs.Tree.{Decls}
use Rattle.ss_preamble.specs.Refused.{AreDecls}
use Rattle.ss_preamble.specs.Refused as preamble
use Rattle.ss_preamble.specs.Laws as preamble_laws
use Rattle.ss_preamble.proofs.AnswerByReading as preamble_answer
use Rattle.ss_preamble.proofs.Unique as preamble_unique
use Rattle.ss_routines.specs.Places.{Section}
use Rattle.ss_routines.specs.Refused.{Answers, words_from}
use Rattle.ss_routines.specs.Laws.{IsDefinite}
use Rattle.ss_routines.proofs.AlwaysAnswered.{always}
use Rattle.ss_routines.proofs.Unique.{one_answer}
use Rattle.ss_check.specs.declared.fault.CheckRule.{CheckRule}
use Rattle.ss_check.specs.Breach.{breach}
use Rattle.ss_check.specs.Resolved.{program_resolved}
use Rattle.ss_session.specs.Model.{Outcome, refused_text, refused_check, accepted, AreProgram, Spells, IsOutcome}
use Rattle.ss_session.specs.Refused.{IsRefused}
use Rattle.ss_session.specs.Laws.{ModelHasOutcome, OutcomeIsUnique, IsRefusedInPart}
use Rattle.ss_session.proofs.Refusals.{one_refusal, to_one, to_parts}

-- ---- a model has an outcome

-- words, or a refusal by a rule
abbrev IsSaid : Result (List WordAt) TextFault → Type 0
IsSaid (Ok ws) = Unit {0}
IsSaid (Err (Refused rule n)) = Unit {0}
IsSaid (Err Memory) = ⊥

said : (fs all : List Finding) → IsSaid (elim (breaches_in fs) [ [] ↦ Ok (words_in all) | b ∷ bs ↦ Err b ])
said [] all = tt
said (word w ∷ fs) all = said fs all
said (broken rule n ∷ fs) all = tt

words_said : (model : List ℕ) → IsSaid (words_of model)
unfolding words_of answer_of
words_said model = said (found_in_text model) (found_in_text model)

from_breach : (model : List ℕ) (d : Decls) (ss : List Section) → Spells model d ss →
    (b : Option (CheckRule × ℕ)) → breach d ss ≡ b → (o : Outcome) × IsOutcome model o
from_breach model d ss s None e = (accepted (program_resolved d ss), (d, ss, s, e, refl))
from_breach model d ss s (Some (rule, n)) e = (refused_check rule n, (d, ss, s, e))

from_sections : (model : List ℕ) (ws : List WordAt) → words_of model ≡ Ok ws → (d : Decls) (n : ℕ) →
    AreDecls d n (plain_words_of ws) → (a : Result (List Section) TextFault) → IsDefinite a →
    Answers a (words_from n (plain_words_of ws)) → (o : Outcome) × IsOutcome model o
from_sections model ws e d n p (Ok ss) t h = from_breach model d ss (ws, e, (n, p, h)) (breach d ss) refl
from_sections model ws e d n p (Err (Refused rule l)) t h =
    (refused_text rule l, inr (ws, e, to_one ws rule l (inr (d, n, p, h))))
from_sections model ws e d n p (Err Memory) t h = absurd t

from_preamble : (model : List ℕ) (ws : List WordAt) → words_of model ≡ Ok ws →
    (a : Result (Decls × ℕ) TextFault) → preamble_laws.IsDefinite a → preamble.Answers a (plain_words_of ws) →
    (o : Outcome) × IsOutcome model o
from_preamble model ws e (Ok (d, n)) t h =
    let s = always (words_from n (plain_words_of ws)) in from_sections model ws e d n h s.0 s.1 s.2
from_preamble model ws e (Err (Refused rule l)) t h = (refused_text rule l, inr (ws, e, to_one ws rule l (inl h)))
from_preamble model ws e (Err Memory) t h = absurd t

from_words : (model : List ℕ) (a : Result (List WordAt) TextFault) → words_of model ≡ a → IsSaid a →
    (o : Outcome) × IsOutcome model o
from_words model (Ok ws) e s =
    let h = preamble_answer.always (plain_words_of ws) in from_preamble model ws e h.0 h.1 h.2
from_words model (Err (Refused rule n)) e s = (refused_text rule n, inl e)
from_words model (Err Memory) e s = absurd s

pub some_outcome : ModelHasOutcome
some_outcome model = from_words model (words_of model) refl (words_said model)

-- ---- plain words have no second answer

abbrev decls_in : Decls → Result (Decls × ℕ) TextFault → Decls
decls_in other (Ok (d, n)) = d
decls_in other (Err f) = other

abbrev number_in : Result (Decls × ℕ) TextFault → ℕ
number_in (Ok (d, n)) = n
number_in (Err f) = 0

same_decls : (ws : List PlainAt) (d e : Decls) (m n : ℕ) → AreDecls d m ws → AreDecls e n ws → (d ≡ e) × (m ≡ n)
same_decls ws d e m n h k =
    let a = preamble_unique.one_answer ws (Ok (d, m)) (Ok (e, n)) tt tt h k in
    (ap (decls_in d) a, ap number_in a)

not_both : (ws : List PlainAt) (r : TextRule) (l : ℕ) (d : Decls) (n : ℕ) → preamble.IsRefused r l ws →
    AreDecls d n ws → ⊥
not_both ws r l d n h k =
    let a = preamble_unique.one_answer ws (Err (Refused r l)) (Ok (d, n)) tt tt h k in absurd cc

same_answer : (ws : List PlainAt) (d e : Decls) (m n : ℕ) (a b : Result (List Section) TextFault) →
    AreDecls d m ws → AreDecls e n ws → IsDefinite a → IsDefinite b → Answers a (words_from m ws) →
    Answers b (words_from n ws) → a ≡ b
same_answer ws d e m n a b p q da db h k =
    let s = same_decls ws d e m n p q in
    one_answer (words_from m ws) a b da db h (subst (λ (i : ℕ). Answers b (words_from i ws)) (sym s.1) k)

same_refusal : (ws : List PlainAt) (r s : TextRule) (l m : ℕ) → IsRefused r l ws → IsRefused s m ws →
    refused_text r l ≡ refused_text s m
same_refusal ws r s l m h k = let a = one_refusal ws r s l m h k in cc

no_program : (ws : List PlainAt) (r : TextRule) (l : ℕ) (d : Decls) (ss : List Section) → IsRefusedInPart r l ws →
    AreProgram d ss ws → ⊥
no_program ws r l d ss (inl h) k = not_both ws r l d k.0 h k.1
no_program ws r l d ss (inr h) k =
    let a = same_answer ws h.0 d h.1 k.0 (Err (Refused r l)) (Ok ss) h.2 k.1 tt tt h.3 k.2 in absurd cc

-- declarations and sections, as one
abbrev both : Decls → List Section → Decls × List Section
both d ss = (d, ss)

same_program : (ws : List PlainAt) (d e : Decls) (ss us : List Section) → AreProgram d ss ws → AreProgram e us ws →
    both d ss ≡ both e us
same_program ws d e ss us h k =
    let p = same_decls ws d e h.0 k.0 h.1 k.1 in
    let a = same_answer ws d e h.0 k.0 (Ok ss) (Ok us) h.1 k.1 tt tt h.2 k.2 in
    let q = p.0 in cc

-- ---- a model has no second outcome

same_words : (model : List ℕ) (ws vs : List WordAt) → words_of model ≡ Ok ws → words_of model ≡ Ok vs →
    plain_words_of vs ≡ plain_words_of ws
same_words model ws vs e f = let w : vs ≡ ws = cc in ap plain_words_of w

text_text : (model : List ℕ) (r s : TextRule) (m n : ℕ) → IsOutcome model (refused_text r m) →
    IsOutcome model (refused_text s n) → refused_text r m ≡ refused_text s n
text_text model r s m n (inl e) (inl f) = cc
text_text model r s m n (inl e) (inr g) = let f = g.1 in absurd cc
text_text model r s m n (inr h) (inl f) = let e = h.1 in absurd cc
text_text model r s m n (inr h) (inr g) =
    same_refusal (plain_words_of h.0) r s m n h.2 (subst (IsRefused s n) (same_words model h.0 g.0 h.1 g.1) g.2)

text_program : (model : List ℕ) (r : TextRule) (m : ℕ) (d : Decls) (ss : List Section) →
    IsOutcome model (refused_text r m) → Spells model d ss → ⊥
text_program model r m d ss (inl e) s = let f = s.1 in absurd cc
text_program model r m d ss (inr h) s =
    no_program (plain_words_of h.0) r m d ss (to_parts h.0 r m h.2)
    (subst (AreProgram d ss) (same_words model h.0 s.0 h.1 s.1) s.2)

same_spelled : (model : List ℕ) (d e : Decls) (ss us : List Section) → Spells model d ss → Spells model e us →
    both d ss ≡ both e us
same_spelled model d e ss us h k =
    same_program (plain_words_of h.0) d e ss us h.2 (subst (AreProgram e us) (same_words model h.0 k.0 h.1 k.1) k.2)

abbrev breach_in : Decls × List Section → Option (CheckRule × ℕ)
breach_in (d, ss) = breach d ss

abbrev of_breach : CheckRule → ℕ → Option (CheckRule × ℕ) → Outcome
of_breach r m None = refused_check r m
of_breach r m (Some q) = refused_check q.0 q.1

check_check : (r s : CheckRule) (m n : ℕ) (d e : Decls) (ss us : List Section) → both d ss ≡ both e us →
    breach d ss ≡ Some (r, m) → breach e us ≡ Some (s, n) → refused_check r m ≡ refused_check s n
check_check r s m n d e ss us p f g = ap (of_breach r m) (sym f ∙ ap breach_in p ∙ g)

abbrev IsSome : Option (CheckRule × ℕ) → Type 0
IsSome None = ⊥
IsSome (Some q) = Unit {0}

check_accepted : (r : CheckRule) (m : ℕ) (d e : Decls) (ss us : List Section) → both d ss ≡ both e us →
    breach d ss ≡ Some (r, m) → breach e us ≡ None → ⊥
check_accepted r m d e ss us p f g = subst IsSome (sym f ∙ ap breach_in p ∙ g) tt

abbrev program_in : Decls × List Section → Outcome
program_in (d, ss) = accepted (program_resolved d ss)

pub one_outcome : OutcomeIsUnique
one_outcome model (refused_text r m) (refused_text s n) a b = text_text model r s m n a b
one_outcome model (refused_text r m) (refused_check s n) a b = absurd (text_program model r m b.0 b.1 a b.2)
one_outcome model (refused_text r m) (accepted p) a b = absurd (text_program model r m b.0 b.1 a b.2)
one_outcome model (refused_check r m) (refused_text s n) a b = absurd (text_program model s n a.0 a.1 b a.2)
one_outcome model (refused_check r m) (refused_check s n) a b =
    check_check r s m n a.0 b.0 a.1 b.1 (same_spelled model a.0 b.0 a.1 b.1 a.2 b.2) a.3 b.3
one_outcome model (refused_check r m) (accepted p) a b =
    absurd (check_accepted r m a.0 b.0 a.1 b.1 (same_spelled model a.0 b.0 a.1 b.1 a.2 b.2) a.3 b.3)
one_outcome model (accepted p) (refused_text s n) a b = absurd (text_program model s n a.0 a.1 b a.2)
one_outcome model (accepted p) (refused_check s n) a b =
    absurd (check_accepted s n b.0 a.0 b.1 a.1 (same_spelled model b.0 a.0 b.1 a.1 b.2 a.2) b.3 a.3)
one_outcome model (accepted p) (accepted q) a b =
    let e = same_spelled model a.0 b.0 a.1 b.1 a.2 b.2 in
    ap accepted a.4 ∙ ap program_in e ∙ ap accepted (sym b.4)
