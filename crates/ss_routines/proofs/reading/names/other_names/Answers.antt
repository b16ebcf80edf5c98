use Rattle.std.proofs.Common.{◌≡◌, ◌+◌, ◌-◌, ℕ, List, [], ◌∷◌, ◌++◌, length, length-append, ap, arith}
use Rattle.std.proofs.lemmas.Result.{err_from_is_err_and}
use Rattle.ss_words.specs.Lists.{Name}
use Rattle.ss_words.specs.Marks.{a_name}
use Rattle.ss_words.specs.Plain.{Plain}
use Rattle.ss_words.specs.Reading.{Read}
use Rattle.ss_words.proofs.Loop.{passes_on}
use Rattle.ss_routines.specs.SectionReading.{others_at}
use Rattle.ss_routines.proofs.NamesLoop.{Gathered, fails_so, turned, failed, full, ended}
use Rattle.ss_routines.proofs.reading.names.other_names.Goals as goal

-- a name that is pushed
pushed : (total : Read (List Name)) (room : ℕ) (xs ys : List Name) (n : Name) (r : List Plain) → ys ≡ xs ++ n ∷ []
    → Gathered total (xs ++ n ∷ []) (room - (length xs + 1)) r → Gathered total ys (room - length ys) r
pushed total room xs ys n r e h = rw (e, length-append xs (n ∷ [])) h

pub returns-then-len-room-clause-exact : goal.returns-then-len-room-clause-exact
returns-then-len-room-clause-exact c =
    fails_so c.no_more_names.result c.eat.new.self _ (full _ c.loop-names.names.items
    (c.args.room - length c.loop-names.names.items) c.no_more_names.result c.loop-names.cursor c.eat.new.self
    (omega (arith, c.len.ensures, c.if-len-room.true)) (rw c.loop-names-test.true at c.eat.ensures.exact)
    c.no_more_names.ensures c.loop-names.invariant.gathered)

pub returns-in_err-name-clause-exact : goal.returns-in_err-name-clause-exact
returns-in_err-name-clause-exact c =
    let p = err_from_is_err_and c.from_residual.result c.from_residual.ensures.1 in
    rw (p.1, p.2) (passes_on c.in_err-name.field-0.0 c.name.new.self (a_name c.eat.new.self) _
    (λ g h. failed _ c.loop-names.names.items (c.args.room - length c.loop-names.names.items) g
    c.loop-names.cursor c.eat.new.self c.name.new.self
    (omega (arith, c.len.ensures, c.if-len-room.false, c.loop-names.invariant.few))
    (rw c.loop-names-test.true at c.eat.ensures.exact) h c.loop-names.invariant.gathered)
    c.in_err-name.ensures.exact)

pub loop-names-preserved : goal.loop-names-preserved
loop-names-preserved c = record {
  shorter = omega (arith, c.eat.ensures.shorter, c.in_ok-name.ensures.shorter, c.loop-names.invariant.shorter);
  few =
      omega (
        arith,
        c.len.ensures,
        c.if-len-room.false,
        c.loop-names.invariant.few,
        ap length
            c.in_ok-push.ensures.items,
        length-append c.loop-names.names.items (c.in_ok-name.field-0 ∷ []),
      );
  gathered =
      pushed (others_at c.args.room c.args.cursor.now) c.args.room c.loop-names.names.items
      c.push.new.self.items c.in_ok-name.field-0 c.name.new.self c.in_ok-push.ensures.items
      (turned _ c.loop-names.names.items (c.args.room - length c.loop-names.names.items)
      (c.args.room - (length c.loop-names.names.items + 1)) c.in_ok-name.field-0 c.loop-names.cursor
      c.eat.new.self c.name.new.self
      (omega (arith, c.len.ensures, c.if-len-room.false, c.loop-names.invariant.few))
      (rw c.loop-names-test.true at c.eat.ensures.exact) c.in_ok-name.ensures.exact
      c.loop-names.invariant.gathered);
}

pub returns-clause-exact : goal.returns-clause-exact
returns-clause-exact c =
    ended _ c.loop-names.names.items (c.args.room - length c.loop-names.names.items)
    c.loop-names.cursor c.eat.new.self (rw c.loop-names-test.false at c.eat.ensures.exact)
    c.loop-names.invariant.gathered
