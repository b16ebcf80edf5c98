use Rattle.std.proofs.Common.{◌≡◌, List, [], ◌∷◌, Ok, refl, ap, ◌∙◌, arith}
use Rattle.std.proofs.lemmas.List.{map-id}
use Rattle.std.proofs.lemmas.Result.{err_from_is_err_and}
use Rattle.ss_words.specs.Plain.{Plain}
use Rattle.ss_words.specs.Reading.{Read, prepend}
use Rattle.ss_words.specs.Lists.{Name, next_name, other_names}
use Rattle.ss_words.proofs.Loop.{loop_begins, loop_turns, stops, fails, passes_on, prepend_list}
use Rattle.ss_words.proofs.cursor.Cursor.other_names.Goals as goal

pub loop-names-init : goal.loop-names-init
unfolding other_names
loop-names-init c =
    record {
      shorter = omega arith;
      going = loop_begins next_name [] (λ n ns. n ∷ ns) other_names c.args.self.now (λ n. n)
          c.new-names.result.items refl c.new-names.ensures.items;
    }

pub returns-in_err-name-clause-exact : goal.returns-in_err-name-clause-exact
returns-in_err-name-clause-exact c =
    let p = err_from_is_err_and c.from_residual.result c.from_residual.ensures.1 in
    rw (p.1, p.2) (passes_on c.in_err-name.field-0.0 c.next_name.new.self (next_name c.loop-names.self) _
    (λ e h. fails next_name [] (λ n ns. n ∷ ns) (other_names c.args.self.now) _ c.loop-names.self
    c.next_name.new.self e h c.loop-names.invariant.going) c.in_err-name.ensures.exact)

pub loop-names-preserved : goal.loop-names-preserved
loop-names-preserved c =
    record {
      shorter = omega (arith, c.in_ok-name.ensures.shorter);
      going = loop_turns next_name [] (λ n ns. n ∷ ns) (other_names c.args.self.now) (λ n. n)
          c.loop-names.names.items c.in-Some.name c.push.new.self.items c.loop-names.self c.next_name.new.self
          c.in_ok-push.ensures.items (rw c.in-Some.is at c.in_ok-name.ensures.exact)
          (rw c.in-Some.is at c.in_ok-name.ensures.taken) c.loop-names.invariant.going;
    }

ended : (total : Read (List Name)) (xs : List Name) (r : List Plain) → total ≡ (Ok (prepend (λ n ns. n ∷ ns) xs []), r)
    → total ≡ (Ok xs, r)
ended total xs r e = e ∙ ap (λ (ys : List Name). let x : Read (List Name) = (Ok ys, r) in x) (prepend_list xs)

pub returns-clause-exact : goal.returns-clause-exact
returns-clause-exact c =
    ended _ _ _ (stops next_name [] (λ n ns. n ∷ ns) (other_names c.args.self.now)
    c.loop-names.names.items c.loop-names.self c.next_name.new.self
    (rw c.in_default.is at c.in_ok-name.ensures.exact)
    (rw (map-id c.loop-names.names.items) at c.loop-names.invariant.going))
