-- `into_box` hands the value, and the right to free its block, to a box.
use Rattle.ss_links.proofs.Steps.{◌≡◌, List, [], ◌∷◌, ◌++◌, refl, sym, ap, subst, proved_at, id⊢, ftrue, fsep, flft}
use Rattle.ss_links.proofs.Steps.{Val, vptr, fact, tables, WpFn, ‵, raw, ◌⊛◌, some, later, prop, at_ret, ◌$◌, ◌∵◌, ! }
use Rattle.ss_links.proofs.Steps.{qed, done, move, drop, use1, split, split3, join, fsplit, fjoin, feq_i, pick, await}
use Rattle.ss_links.proofs.Steps.{rewrite, regoal, suffices, enter, of_opd, stop, fld, no_more, and_then, first, blocks}
use Rattle.ss_links.proofs.Steps.{exec, returns, alloc_all, pass_all, free_all, look_at, get, get_in, sets, env, whole}
use Rattle.ss_links.proofs.Steps.{sub, no, block_ptr, plain, nothing, heard, only, triple_of, Stays, walk_of, says}
use Rattle.ss_links.proofs.Steps.{stay_dropped, ends_at, framed, Goes-blank, after}
use lib.Dec.{T}
use mir.Syntax.{a_type, dcons, dnil}
use contract.BorrowLft.{◌⊑◌}
use mir.MapTy.{inst_fn}
use mir.Val.{has_ty, WT}
use types.Kit.{Item}
use types.ByLocal.{lands_last}
use denote.Param.{bounded}
use denote.Triple.Call.{calls_at_last}
use Rattle.std.proofs.alloc.Calls.{Al}
use Rattle.std_alloc.proofs.BoxSteps.Form.{Bx, D, R, P, B, box_ty, word, box_typed}
use Rattle.std_alloc.proofs.BoxSteps.Steps.{box_out, box_in}
use Rattle.std_alloc.specs.contracts.boxed.Box.from_raw as callee
use Rattle.std_alloc.proofs.boxed.Box.from_raw.Met.{met}
use Rattle.ss_links.specs.contracts.parts.Parts as parts
use Rattle.ss_links.specs.contracts.parts.Parts.into_box as f
use Rattle.ss_links.specs.contracts.parts.Parts.into_box.Key.{name as key}
use Rattle.ss_links.proofs.parts.Parts.into_box.Statement.{statement}
use Rattle.ss_links.proofs.parts.Parts.into_box.Code as code

pub into_box_spec : {M : Type 1} → statement M
into_box_spec 𝓤 𝓛 𝓜 𝓡 wired X Z LX LZ g d dd allocator met_drop =
    let al : Al = record { row = Z; laws = LZ; g = g; d = d; drops = dd } in
    let E : Bx = record { row = X; laws = LX; al = al } in
    let 𝓣 = tables 𝓤 𝓛.H 𝓜 𝓡 𝓡.env in
    let ended = f.ended X Z g d dd in let c = f.clauses X Z g d dd 𝓛 𝓜.mem 𝓡.returns in
    let args = bounded (a_type ∷ a_type ∷ []) (X, (Z, tt)) (dcons d (dcons dd dnil)) in
    let fn = inst_fn args code.function in
    let From = parts.the_row (R E) (P E) g in
    let stayed : Stays ended.signature.params ended.kept = (stay_dropped (plain (λ _. From)) no, tt) in
    let W = walk_of 𝓛 ended stayed c in
    let spent = Goes-blank 𝓛 2 (plain (λ _. From)) no (λ κs x left. tt) in
    proved_at 𝓛 ended stayed c 𝓜 𝓡 (spent, tt) (key args) fn (code.unfolded 𝓤 𝓛.H 𝓜 𝓡 wired (X, (Z, tt)) d dd) (λ y are.
    let κs = y.0.0 in let qs = y.0.1 in let old = y.0.3.0 in let a = old.alloc in let x = old.value in
    let bx : D E = record { ptr = old.ptr; alloc = a; value = x } in
    let G = triple_of 𝓛 (callee.signature X Z g d dd) (callee.spec X Z g d dd 𝓛 𝓜.mem 𝓡.returns) in
    let tokens : Item 𝓤 = ‵ (flft κs.0 qs.0) ⊛ ‵ (flft κs.1.0 qs.1.0) ⊛ ‵ ftrue in
    let in_x : Item 𝓤 = raw (fact 𝓤 (κs.0 ⊑ X.lives)) in let in_a : Item 𝓤 = raw (fact 𝓤 (κs.1.0 ⊑ Z.lives)) in
    let Given : Val → Item 𝓤 = λ u. later (some (λ (r : D E).
    (tokens ⊛ ‵ ((B E).own_val r (u ∷ []))) ⊛ some (λ (_ : Unit {0} × (Unit {0} × Unit {0})).
    ‵ (fsep ftrue (fsep ftrue ftrue)) ⊛ (raw (fact 𝓤 (r.value ≡ x)) ⊛ raw (fact 𝓤 (r.alloc ≡ a)))))) in
    let Kept : Item 𝓤 = ‵ (fsep ((B E).own_val bx y.0.4.0) ftrue) in
    qed 𝓛 ((tokens ⊛ Kept) ∷ (in_x ⊛ in_a ⊛ ‵ ftrue) ∷ []) ∵
    split ! $ move ! (1 ∷ []) $ fsplit ! $
    box_out E ! bx y.0.4.0 (λ b o hv e ws fits. fjoin ! $
    let w = word E hv b o in let typed = box_typed E hv b o fits in
    let z : G.Ghost = ((κs, qs, tt, (a, (block_ptr b o, tt)), (hv ∷ [], (vptr b o ∷ [], tt))), x) in
    let Runs = λ (us : List Val). prop (WpFn 𝓤 𝓛.H 𝓣.C 𝓣.Λ fn us (W.post y)) in
    regoal ! Runs (λ i. ws i ++ []) refl $
    -- [the value and the right; the allocator; nothing; the tokens; how long the two types live]
    enter ! _ _ _ _ _ $ alloc_all ! (λ l. pass_all ! refl (typed, tt) $
    sets ! (of_opd ! (get_in ! (fld ! refl (stop !)) (sub ! 0 refl (whole !)))) refl (tt, tt) $
    sets ! (of_opd ! (get_in ! (fld ! refl (stop !)) (sub ! 1 refl (whole !)))) refl fits $
    first ! $ blocks ! $ sets ! (of_opd ! (get ! refl)) refl fits $
    move ! (4 ∷ []) $ split3 ! $ move ! (2 ∷ []) $ drop ! $
    move ! (1 ∷ 2 ∷ []) $ join ! $ move ! (1 ∷ 0 ∷ []) $ join ! $
    -- [the callee's requirements; the allocator; nothing; the tokens]
    move ! (2 ∷ []) $ feq_i ! (List Val) (vptr b o ∷ []) (vptr b o ∷ []) refl $ fjoin ! $
    move ! (2 ∷ 0 ∷ []) $ fjoin ! $ move ! (2 ∷ 0 ∷ []) $ join ! $ join ! $ use1 𝓛 (raw (G.pre z)) (id⊢ 𝓤 _) $
    let called = code.calls-std_alloc::boxed::Box::from_raw 𝓡.env wired in
    calls_at_last ! (framed 𝓤 𝓛.H 𝓜 𝓣) G (met 𝓤 𝓛 𝓜 𝓡 called X Z LX LZ g d dd allocator met_drop) z
    (and_then ! (get ! refl) (and_then ! (get ! refl) (no_more !))) (λ u.
    use1 𝓛 (Given u) (id⊢ 𝓤 _) $ await ! tt $ pick ! (λ r. split ! $
    move ! (1 ∷ []) $ pick ! (λ _. split3 ! $ drop ! $ heard ! (r.value ≡ x) (λ same. drop ! $
    -- [the tokens with the box]
    split ! $ move ! (1 ∷ []) $
    box_out E ! r (u ∷ []) (λ b' o' hw e' eu fits'. box_in E ! r b' o' r.value e' refl $
    rewrite ! 0 (λ (us : List Val). ‵ ((B E).own_val r us)) (sym eu) refl $
    let Typed = λ (v : Val). T (has_ty (box_ty E) v) × WT v in
    let typed' : Typed u = subst Typed (sym (ap only eu)) (box_typed E hw b' o' fits') in
    lands_last ! refl typed' $ exec ! 𝓣.C 𝓣.Λ (env fn.locals l) (after 3 fn.body) (at_ret _ (W.post y)) $
    sets ! (of_opd ! (get ! refl)) refl typed' $ returns ! (look_at ! 0 refl) $ free_all ! refl $
    suffices ! _ (ends_at 𝓛 ended stayed c y u r ((tt, (tt, tt)), tt) (tt, tt)) $ says ! same $
    nothing ! $ nothing ! $ fjoin ! $ join ! $ move ! (1 ∷ 0 ∷ []) $ join ! $ done !))))))))
