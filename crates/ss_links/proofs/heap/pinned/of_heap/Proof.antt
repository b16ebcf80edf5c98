-- `of_heap` takes a heap without nodes apart.
use Rattle.ss_links.proofs.Steps.{List, [], ◌∷◌, ◌++◌, refl, ap, ◌∙◌, proved_at, ftrue, Val, tables, WpFn, ‵, raw, ◌⊛◌}
use Rattle.ss_links.proofs.Steps.{prop, ◌$◌, ◌∵◌, !, qed, done, move, keep, split, fsplit, fjoin, feq_l, suffices}
use Rattle.ss_links.proofs.Steps.{group, regoal, enter, of_opd, stop, fld, returns, alloc_all, pass_all, free_all}
use Rattle.ss_links.proofs.Steps.{look_at, get, get_in, sets, yes, plain, whole, sub, nothing, owns, Stays, walk_of}
use Rattle.ss_links.proofs.Steps.{stay_dropped, ends_at, Goes-dropped}
use types.Kit.{fpick}
use mir.Val.{vstruct, of_list}
use Rattle.std.proofs.alloc.Calls.{handle_tells}
use Rattle.std_alloc.proofs.ResultValues.{and_tt}
use Rattle.ss_links.specs.contracts.heap.NodeHeap.{the_row as H}
use Rattle.ss_links.proofs.AsBox.{E}
use Rattle.ss_links.specs.contracts.heap.pinned.of_heap as f
use Rattle.ss_links.proofs.heap.pinned.of_heap.Statement.{statement}
use Rattle.ss_links.proofs.heap.pinned.of_heap.Code as code

abbrev stayed : Stays f.ended.signature.params f.ended.kept
stayed = (stay_dropped (plain (λ _. H)) yes, tt)

pub of_heap_spec : {M : Type 1} → statement M
of_heap_spec 𝓤 𝓛 𝓜 𝓡 wired =
    let c = f.clauses 𝓛 𝓜.mem 𝓡.returns in let W = walk_of 𝓛 f.ended stayed c in let 𝓣 = tables 𝓤 𝓛.H 𝓜 𝓡 𝓡.env in
    proved_at 𝓛 f.ended stayed c 𝓜 𝓡 (Goes-dropped 𝓛 0 (plain (λ _. H)) yes (λ κs x w. refl), tt)
    f.Key.name code.function (code.unfolded 𝓤 𝓛.H 𝓜 𝓡 wired) (λ y are.
    let a = y.0.3.0.heap in
    qed 𝓛 ((‵ ftrue ⊛ ‵ (owns (H ∷ []) y.0.3 y.0.4)) ∷ raw ((c y.0.0 y.0.3).requires y.1) ∷ []) ∵ split ! $
    move ! (1 ∷ []) $ fsplit ! $ fsplit ! $
    fpick ! (λ vss. fsplit ! $ feq_l ! (λ ev. fsplit ! $ handle_tells E.al ! a vss.0 (λ hv ea fits. keep ! (0 ∷ []) $
    regoal ! (λ (us : List Val). prop (WpFn 𝓤 𝓛.H 𝓣.C 𝓣.Λ code.function us (W.post y)))
    (λ i. (ev ∙ ap (λ (ws : List Val). vstruct (of_list (ws ++ [])) ∷ []) ea) i ++ []) refl $
    enter ! _ _ _ _ _ $ alloc_all ! (λ l. pass_all ! refl ((and_tt _ fits.0, (fits.1, tt)), tt) $
    sets ! (of_opd ! (get_in ! (fld ! refl (stop !)) (sub ! 0 refl (whole !)))) refl fits $
    sets ! (of_opd ! (get ! refl)) refl fits $
    returns ! (look_at ! 0 refl) $ free_all ! refl $ keep ! (0 ∷ []) $
    suffices ! _ (ends_at 𝓛 f.ended stayed c y hv a (tt, tt) (tt, tt)) $
    nothing ! $ nothing ! $ fjoin ! $ nothing ! $ group ! 3 $ nothing ! $ move ! (1 ∷ 0 ∷ []) $ done !)))))
