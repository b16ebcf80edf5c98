-- Event starts, seen from the states next to them.
use Rattle.std.proofs.Common.{◌≡◌, ℕ, ◌+◌, ◌-◌, ◌<◌, Bool, true, ◌&&◌, nat_lt, length, refl, ap, arith, rules}
use Rattle.ss_state.specs.State.{State}
use Rattle.ss_state.specs.Run.{Input, run}
use Rattle.ss_timeline.specs.Moment.{Moment, position, state_of, with_kept, HasGoneBack}
use Rattle.ss_debug.specs.Position.{frames_before}
use Rattle.ss_debug.specs.Move.{runs_event, starts_event, is_behind_start, stops_back}

lt_more : (a b m n : ℕ) → m ≡ 1 + a → n ≡ 1 + b → nat_lt m n ≡ nat_lt a b
lt_more a b m n e f = rw (e, f) (search rules)

lt_some : (q : ℕ) → 0 < q → nat_lt 0 q ≡ true
lt_some q h = search rules

-- a step back from state s, number p, to state v, number q, took an event start back
taken_from : (t : Input) (s v : State) (p q m n : ℕ) → s ≡ run t p → v ≡ run t q → p ≡ q + 1 →
    m ≡ 1 + length s.below → n ≡ 1 + length v.below → (runs_event t s && nat_lt n m) ≡ starts_event t q
taken_from t s v p q m n e f h i j = rw (lt_more (length v.below) (length s.below) n m j i, e, f, h) refl

-- a step back took an event start back
pub taken_back : (old new : Moment) (m n : ℕ) → HasGoneBack old new → m ≡ 1 + length (state_of old).below →
    n ≡ 1 + length (state_of new).below →
    (runs_event old.input (state_of old) && nat_lt n m) ≡ starts_event old.input (position new)
taken_back old new m n gone before now =
    let input : new.input ≡ old.input = ap (λ (m : Moment). m.input) gone.moved in
    let low : new.low ≡ old.low = ap (λ (m : Moment). m.low) gone.moved in
    let kept : new.kept ≡ old.kept - 1 = ap (λ (m : Moment). m.kept) gone.moved in
    let back : position old ≡ position new + 1 = let some = gone.some in omega (arith, some, low, kept) in
    taken_from old.input (state_of old) (state_of new) (position old) (position new) m n refl
    (ap (λ (t : Input). run t (position new)) input) back before now

-- a step from state s, number p, to state v, number q, was an event start
started : (t : Input) (s v : State) (p q m n : ℕ) → s ≡ run t p → v ≡ run t q → q ≡ p + 1 →
    m ≡ 1 + length s.below → n ≡ 1 + length v.below → (runs_event t v && nat_lt m n) ≡ is_behind_start t q
started t s v p q m n e f h i j =
    let before : q - 1 ≡ p = omega (arith, h) in
    let some : nat_lt 0 q ≡ true = lt_some q (omega (arith, h)) in
    rw (some, before) (taken_from t v s q p n m f e h j i)

-- before a step that moved there were the frames of the state that it left
pub before_step : (old new : Moment) (n : ℕ) → new ≡ with_kept old (old.kept + 1) →
    n ≡ 1 + length (state_of old).below → n ≡ frames_before new
before_step old new n moved now =
    let input : new.input ≡ old.input = ap (λ (m : Moment). m.input) moved in
    let low : new.low ≡ old.low = ap (λ (m : Moment). m.low) moved in
    let kept : new.kept ≡ old.kept + 1 = ap (λ (m : Moment). m.kept) moved in
    let back : position new - 1 ≡ position old = omega (arith, low, kept) in
    rw (back, input, now) refl

-- the step to a moment was an event start, by how many frames there were before it
pub started_by : (here : Moment) (m n : ℕ) → 0 < position here → m ≡ frames_before here →
    n ≡ 1 + length (state_of here).below →
    (runs_event here.input (state_of here) && nat_lt m n) ≡ is_behind_start here.input (position here)
started_by here m n some before now =
    let on : position here ≡ (position here - 1) + 1 = omega (arith, some) in
    started here.input (run here.input (position here - 1)) (state_of here) (position here - 1) (position here) m n refl
    refl on before now

lt_from : (p q k : ℕ) → p ≡ q + k → nat_lt q p ≡ nat_lt 0 k
lt_from p q k e = rw e (search rules)

-- the result of a movement back that is at q, k positions back
pub told_back : (t : Input) (p q k : ℕ) (b : Bool) → p ≡ q + k → b ≡ stops_back (starts_event t) p k →
    b ≡ (nat_lt q p && starts_event t q)
told_back t p q k b e f =
    let here : p - k ≡ q = omega (arith, e) in rw (f, lt_from p q k e, here) refl
