use Rattle.std.proofs.Common.{◌≡◌, ◌<◌, ◌++◌, List, [], ◌∷◌, ℤ, pos, take, length, get_or, rules, sym, ap, ◌∙◌}
use Rattle.std.proofs.Common.{append_assoc}
use Rattle.std.proofs.lemmas.List.{take_more}
use Rattle.ss_machine.proofs.state.frames.append_all.Goals as goal

pub loop-value-preserved : goal.loop-value-preserved
loop-value-preserved c =
    let i = c.loop-value.value-index in
    let x = get_or c.args.part.now i (pos 0) in
    let l : i < length c.args.part.now = search rules in
    let more : c.push.new.self.items ≡ c.loop-value.values.items ++ x ∷ [] = search rules in
    let old = c.args.values.now.items in
    let one_more = take_more c.args.part.now i (pos 0) l in
    more
    ∙ (ap (λ (xs : List ℤ). xs ++ x ∷ []) c.loop-value.invariant
    ∙ (append_assoc old (take i c.args.part.now) (x ∷ []) ∙ ap (λ (xs : List ℤ). old ++ xs) (sym one_more)))
