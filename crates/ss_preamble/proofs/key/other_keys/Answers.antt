use Rattle.std.proofs.Common.{◌≡◌, List, [], ◌∷◌, map, Ok, refl, ap, ◌∙◌, arith}
use Rattle.std.proofs.lemmas.Result.{err_from_is_err_and}
use Rattle.ss_words.specs.Plain.{Plain}
use Rattle.ss_words.specs.Reading.{Read, prepend}
use Rattle.ss_words.proofs.Loop.{loop_begins, loop_turns, stops, fails, passes_on, prepend_list}
use Rattle.ss_preamble.specs.Tree.{Key}
use Rattle.ss_preamble.specs.ItemReading.{next_key, other_keys}
use Rattle.ss_preamble.specs.View.{key_view}
use Rattle.ss_preamble.proofs.key.other_keys.Goals as goal

pub loop-keys-init : goal.loop-keys-init
unfolding other_keys
loop-keys-init c = record {
  shorter = omega arith;
  going =
      loop_begins next_key [] (λ x xs. x ∷ xs) other_keys c.args.cursor.now key_view c.new-keys.result.items refl
      c.new-keys.ensures.items;
}

pub returns-in_err-key-clause-exact : goal.returns-in_err-key-clause-exact
returns-in_err-key-clause-exact c =
    let p = err_from_is_err_and c.from_residual.result c.from_residual.ensures.1 in
    rw (p.1, p.2) (passes_on c.in_err-key.field-0.0 c.next_key.new.cursor (next_key c.loop-keys.cursor) _
    (λ e h. fails next_key [] (λ x xs. x ∷ xs) (other_keys c.args.cursor.now) _ c.loop-keys.cursor
    c.next_key.new.cursor e h c.loop-keys.invariant.going) c.in_err-key.ensures.exact)

pub loop-keys-preserved : goal.loop-keys-preserved
loop-keys-preserved c = record {
  shorter = omega (arith, c.in_ok-key.ensures.shorter);
  going =
      loop_turns next_key [] (λ x xs. x ∷ xs) (other_keys c.args.cursor.now) key_view c.loop-keys.keys.items
      c.in-Some.key c.push.new.self.items c.loop-keys.cursor c.next_key.new.cursor c.in_ok-push.ensures.items
      (rw c.in-Some.is at c.in_ok-key.ensures.exact) (rw c.in-Some.is at c.in_ok-key.ensures.taken)
      c.loop-keys.invariant.going;
}

ended : (total : Read (List Key)) (xs : List Key) (r : List Plain) → total ≡ (Ok (prepend (λ x ys. x ∷ ys) xs []), r)
    → total ≡ (Ok xs, r)
ended total xs r e = e ∙ ap (λ (ys : List Key). let x : Read (List Key) = (Ok ys, r) in x) (prepend_list xs)

pub returns-clause-exact : goal.returns-clause-exact
returns-clause-exact c =
    ended _ _ _ (stops next_key [] (λ x xs. x ∷ xs) (other_keys c.args.cursor.now) (map key_view c.loop-keys.keys.items)
    c.loop-keys.cursor c.next_key.new.cursor (rw c.in_default.is at c.in_ok-key.ensures.exact)
    c.loop-keys.invariant.going)
