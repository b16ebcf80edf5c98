-- `of` takes a box apart: the parts own its value, and the right to free its block.
use Rattle.ss_links.proofs.Steps.{◌≡◌, List, [], ◌∷◌, ◌++◌, refl, ap, ◌∙◌, proved_at, never, fst∗, id⊢, ftrue, fsep}
use Rattle.ss_links.proofs.Steps.{flft, Val, fact, tables, WpFn, sem, ‵, raw, ◌⊛◌, some, later, prop, ◌$◌, ◌∵◌, !, qed}
use Rattle.ss_links.proofs.Steps.{done, move, drop, use1, split, split3, join, fsplit, fjoin, feq_l, pick, await}
use Rattle.ss_links.proofs.Steps.{rewrite, regoal, suffices, enter, of_opd, stop, fld, no_more, and_then, returns}
use Rattle.ss_links.proofs.Steps.{alloc_all, pass_all, free_all, look_at, get, get_in, sets, lands_as, whole, sub, agg}
use Rattle.ss_links.proofs.Steps.{no, Ptr, RawPtr, block_ptr, null_ptr, ptr_val, in_a_block, plain, nothing, heard}
use Rattle.ss_links.proofs.Steps.{only, calls_at, triple_of, owns, Stays, walk_of, says, stay_dropped, ends_at, framed}
use Rattle.ss_links.proofs.Steps.{Goes-blank}
use mir.Syntax.{a_type, dcons, dnil}
use mir.MapTy.{inst_fn}
use mir.Raw.{raw as bare}
use mir.Val.{vstruct, of_list}
use types.Kit.{Item, fpick}
use denote.Param.{bounded}
use denote.Struct.Tuple.{Tuple}
use Rattle.std.proofs.alloc.Calls.{Al, token, handle_tells}
use Rattle.std_alloc.specs.Box.Ownership.{box_owns}
use Rattle.std_alloc.proofs.BoxSteps.Form.{Bx, D, τ, R, P, B, word, box_typed}
use Rattle.std_alloc.proofs.BoxSteps.Steps.{box_out, box_in}
use Rattle.std_alloc.specs.contracts.boxed.Box.into_raw_with_allocator as callee
use Rattle.std_alloc.proofs.boxed.Box.into_raw_with_allocator.Met.{met}
use Rattle.ss_links.specs.contracts.parts.Parts as parts
use Rattle.ss_links.specs.contracts.parts.Parts.of as f
use Rattle.ss_links.specs.contracts.parts.Parts.of.Key.{name as key}
use Rattle.ss_links.proofs.parts.Parts.of.Statement.{statement}
use Rattle.ss_links.proofs.parts.Parts.of.Code as code

pub of_spec : {M : Type 1} → statement M
of_spec 𝓤 𝓛 𝓜 𝓡 wired X Z LX LZ g d dd dx allocator met_drop glue =
    let al : Al = record { row = Z; laws = LZ; g = g; d = d; drops = dd } in
    let E : Bx = record { row = X; laws = LX; al = al } in
    let 𝓣 = tables 𝓤 𝓛.H 𝓜 𝓡 𝓡.env in
    let ended = f.ended X Z g d dd dx in let c = f.clauses X Z g d dd dx 𝓛 𝓜.mem 𝓡.returns in
    let args = bounded (a_type ∷ a_type ∷ []) (X, (Z, tt)) (dcons d (dcons dd (dcons dx dnil))) in
    let fn = inst_fn args code.function in
    let stayed : Stays ended.signature.params ended.kept = (stay_dropped (plain (λ _. B E)) no, tt) in
    let W = walk_of 𝓛 ended stayed c in
    let spent = Goes-blank 𝓛 2 (plain (λ _. B E)) no (λ κs x left. tt) in
    let unfolded = code.unfolded 𝓤 𝓛.H 𝓜 𝓡 wired (X, (Z, tt)) d dd dx in
    proved_at 𝓛 ended stayed c 𝓜 𝓡 (spent, tt) (key args) fn unfolded (λ y are.
    let κs = y.0.0 in let qs = y.0.1 in let bx = y.0.3.0 in let a = bx.alloc in let x = bx.value in
    let G = triple_of 𝓛 (callee.signature X Z g d dd dx) (callee.spec X Z g d dd dx 𝓛 𝓜.mem 𝓡.returns) in
    let tokens : Item 𝓤 = ‵ (flft κs.0 qs.0) ⊛ ‵ (flft κs.1.0 qs.1.0) ⊛ ‵ ftrue in
    let Owned = λ (p : Ptr). box_owns (token al a) (R E) p x in
    let Nothing : Type 0 = (Unit {0} × (Unit {0} × Unit {0})) × Unit {0} in
    let Given : Val → Item 𝓤 = λ u. later (some (λ (r : Ptr × Z.Denot).
    (tokens ⊛ ‵ ((Tuple (RawPtr ∷ P E ∷ [])).own_val r (u ∷ []))) ⊛ some (λ (_ : Nothing).
    ‵ (fsep (fsep ftrue (fsep ftrue ftrue)) ftrue) ⊛ (raw (fact 𝓤 (r.1 ≡ a)) ⊛ ‵ (Owned r.0))))) in
    qed 𝓛 ((tokens ⊛ ‵ (owns (B E ∷ []) y.0.3 y.0.4)) ∷ raw ((c κs y.0.3).requires y.1) ∷ []) ∵
    split ! $ move ! (1 ∷ []) $ fsplit ! $
    box_out E ! bx y.0.4.0 (λ b o hv e ws fits. box_in E ! bx b o x e refl $
    let w = word E hv b o in let typed = box_typed E hv b o fits in
    let z : G.Ghost = ((κs, qs, tt, (bx, tt), (w ∷ [], tt)), tt) in
    fjoin ! $ move ! (1 ∷ 0 ∷ []) $ join ! $ join ! $ use1 𝓛 (raw (G.pre z)) (id⊢ 𝓤 _) $
    let Runs = λ (us : List Val). prop (WpFn 𝓤 𝓛.H 𝓣.C 𝓣.Λ fn us (W.post y)) in
    regoal ! Runs (λ i. ws i ++ []) refl $
    -- [the callee's requirements]
    enter ! _ _ _ _ _ $ alloc_all ! (λ l. pass_all ! refl (typed, tt) $
    sets ! (of_opd ! (get ! refl)) refl typed $
    let called = code.calls-std_alloc::boxed::Box::into_raw_with_allocator 𝓡.env wired in
    calls_at ! (framed 𝓤 𝓛.H 𝓜 𝓣) G (met 𝓤 𝓛 𝓜 𝓡 called X Z LX LZ g d dd dx allocator met_drop glue) z
    (and_then ! (get ! refl) (no_more !)) (λ u.
    use1 𝓛 (Given u) (id⊢ 𝓤 _) $ await ! tt $ pick ! (λ r. split ! $
    move ! (1 ∷ []) $ pick ! (λ _. split3 ! $ drop ! $ heard ! (r.1 ≡ a) (λ ea.
    in_a_block ! r.0 Owned (fst∗ 𝓤 (never 𝓤) (sem 𝓛 (token al a (bare (τ E)) null_ptr))) (λ b' o' e'.
    -- [the value and the right; the tokens with the pair]
    move ! (1 ∷ []) $ split ! $ move ! (1 ∷ []) $ fpick ! (λ vss.
    fsplit ! $ feq_l ! (λ eu. fsplit ! $ feq_l ! (λ ep. fsplit ! $
    rewrite ! 0 (λ (s : Z.Denot). ‵ (Z.own_val s vss.1.0)) ea refl $
    handle_tells al ! a vss.1.0 (λ hw eh fits'.
    let made : D E = record { ptr = block_ptr b' o'; alloc = a; value = x } in
    let new : (parts.the_row (R E) (P E) g).Denot = record { ptr = block_ptr b' o'; alloc = a; value = x } in
    let w' = word E hw b' o' in let typed' = box_typed E hw b' o' fits' in
    let first = ep ∙ ap (λ (p : Ptr). ptr_val p ∷ []) e' in
    let is = eu ∙ (λ j. vstruct (of_list (first j ++ (eh j ++ []))) ∷ []) in
    lands_as ! (ap only is) refl typed' $
    sets ! (of_opd ! (get_in ! (fld ! refl (stop !)) (sub ! 0 refl (whole !)))) refl (tt, tt) $
    sets ! (of_opd ! (get_in ! (fld ! refl (stop !)) (sub ! 1 refl (whole !)))) refl fits' $
    sets ! (of_opd ! (get ! refl)) refl fits' $
    sets ! (agg ! (and_then ! (get ! refl) (and_then ! (get ! refl) (no_more !)))) refl typed' $
    returns ! (look_at ! 0 refl) $ free_all ! refl $
    -- [the allocator; nothing; the tokens; the value and the right]
    move ! (3 ∷ []) $ fsplit ! $ box_in E ! made b' o' x refl refl $
    use1 𝓛 (‵ ((parts.the_row (R E) (P E) g).own_val new (w' ∷ []))) (id⊢ 𝓤 _) $ move ! (1 ∷ []) $ drop ! $
    suffices ! _ (ends_at 𝓛 ended stayed c y w' new ((tt, (tt, tt)), tt) (tt, tt)) $ says ! refl $
    nothing ! $ nothing ! $ fjoin ! $ join ! $ move ! (1 ∷ 0 ∷ []) $ join ! $ done !))))))))))))
