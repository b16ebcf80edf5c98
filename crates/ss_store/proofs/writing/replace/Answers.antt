use Rattle.std.proofs.lemmas.Int.{to_z-of_z}
use Rattle.std.proofs.Common.{rules, w64, FitsSigned, ap, ◌∙◌, None, arith, slice_set, List, ℤ}
use Rattle.ss_store.specs.Writing.{with_values}
use Rattle.ss_store.specs.Making.{numbering_by}
use Rattle.ss_store.proofs.Room.{made_still, index_still, put_over, same_values, set_past}
use Rattle.ss_store.proofs.writing.replace.Goals.{then-attribute-len, else-attribute-len}
use Rattle.ss_store.proofs.writing.replace.Goals as goal

pub put_values-requires-clause-there : goal.put_values-requires-clause-there
put_values-requires-clause-there c = λ e. made_still (with_values c.args.at.index None) c.args.entities.now _
    (numbering_by c.args.at.permanent c.args.at.class) c.args.at.class c.take_values.ensures.rows (c.requires.there e)

pub put_values-requires-clause-index : goal.put_values-requires-clause-index
put_values-requires-clause-index c = index_still c.args.entities.now _ c.args.at.permanent c.args.at.class
    c.args.at.index None c.requires.living.0 c.requires.there c.take_values.ensures.rows c.requires.living.1

pub returns-clause-rows : goal.returns-clause-rows
returns-clause-rows c = λ v e.
    let same = same_values _ c.take_values.result c.unwrap-values.result _ v c.take_values.ensures.value
    c.unwrap-values.ensures e in
    put_over c.args.entities.now c.take_values.new.self _ (numbering_by c.args.at.permanent c.args.at.class)
    c.args.at.index c.if-attribute-len.values.items (slice_set v c.args.attribute c.args.value)
    c.take_values.ensures.rows c.put_values.ensures
    (elim c.if-attribute-len.branch [
      | then-attribute-len w ↦ ap (λ z. z.items) w.values-is
          ∙ ap (λ (x : ℤ). slice_set c.unwrap-values.result.items c.args.attribute x)
          (let fits : FitsSigned w64 c.args.value = search rules in to_z-of_z w64 _ fits)
          ∙ ap (λ (z : List ℤ). slice_set z c.args.attribute c.args.value) same
      | else-attribute-len w ↦ ap (λ z. z.items) w.values-is
          ∙ set_past c.unwrap-values.result.items c.args.attribute c.args.value
          (omega (arith, w.if-attribute-len.false, c.len.ensures, c.unwrap-values.result.ok))
          ∙ ap (λ (z : List ℤ). slice_set z c.args.attribute c.args.value) same
    ])
