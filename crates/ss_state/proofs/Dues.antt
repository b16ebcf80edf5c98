-- pending notices exist and are not before the clock
use Rattle.std.proofs.Common.{◌≡◌, ◌≢◌, ℕ, ℤ, List, [], ◌∷◌, Bool, true, false, Option, Some, None}
use Rattle.std.proofs.Common.{refl, sym, arith, ◌∙◌, subst, rules}
use Rattle.std.specs.Prelude.{int_lt, nat_lt, ◌==◌, ◌<◌, is_some, if◌then◌else◌, cond}
use Rattle.std.specs.Ordering.{is_lt, ordering_then, int_cmp}
use Rattle.std.specs.declared.cmp.Ordering.{Ordering}
use Rattle.std.specs.declared.cmp.Ordering.TheVariants.{Less, Equal, Greater}
use Rattle.std.proofs.lemmas.Bool.{eq-eqb, eqb-true}
use Rattle.std.proofs.lemmas.Int.{ints}
use Rattle.std.specs.Option.{option_map}
use Rattle.ss_program.specs.Program.{ProgramTable}
use Rattle.ss_events.specs.Rules.{Rule}
use Rattle.ss_events.specs.Agenda.{Pending, pending_at, by_time, least_of, least, without_notice}
use Rattle.ss_events.specs.Agenda.{with_notice}
use Rattle.ss_events.specs.State.{Each}
use Rattle.ss_events.specs.Slots.{slot_of}
use Rattle.ss_events.specs.declared.agenda.Slot.{Slot}
use Rattle.ss_events.specs.WellAgenda.{IsRising}
use Rattle.ss_store.specs.Store.{Store}
use Rattle.ss_state.specs.Well.{IsDue, AreDue}
use Rattle.ss_state.proofs.Staying.{Stays, StaysBut}

-- ---- stores

pub due_stays : (p : ProgramTable) (clock : ℤ) (st new : Store) (es : List Pending) → Stays st new →
    AreDue p clock st es → AreDue p clock new es
due_stays p clock st new [] s d = tt
due_stays p clock st new (e ∷ es) s d = (
  record { event = d.0.event; exists = s e.class e.notice d.0.exists; time = d.0.time; due = d.0.due; keys = d.0.keys },
  due_stays p clock st new es s d.1,
)

-- it is another notice
other_notice : (n k : ℕ) → (n == k) ≡ false → n ≢ k
other_notice n k h e = clash (n == k) (eq-eqb n k e) h
  where
    clash : (b : Bool) → b ≡ true → b ≡ false → ⊥
    clash b f g = cc

-- notices that don't have number k
abbrev pub AreOthers : ℕ → List Pending → Type 0
AreOthers k es = Each (λ e. (e.notice == k) ≡ false) es

pub others_of : (k : ℕ) (es : List Pending) → is_some (pending_at es k) ≡ false → AreOthers k es
others_of k [] h = tt
others_of k (e ∷ es) h = chosen (e.notice == k) refl h (others_of k es)
  where
    chosen : (b : Bool) → (e.notice == k) ≡ b → is_some (if b then Some e else pending_at es k) ≡ false →
        (is_some (pending_at es k) ≡ false → AreOthers k es) → AreOthers k (e ∷ es)
    chosen true f g r = absurd (clash g)
      where
        clash : true ≡ false → ⊥
        clash x = cc
    chosen false f g r = (f, r g)

pub due_but : (p : ProgramTable) (clock : ℤ) (k : ℕ) (st new : Store) (es : List Pending) → AreOthers k es →
    StaysBut k st new → AreDue p clock st es →
    AreDue p clock new es
due_but p clock k st new [] o s d = tt
due_but p clock k st new (e ∷ es) o s d = (
  record {
    event = d.0.event;
    exists = s e.class e.notice (other_notice e.notice k o.0) d.0.exists;
    time = d.0.time;
    due = d.0.due;
    keys = d.0.keys;
  },
  due_but p clock k st new es o.1 s d.1,
)

-- ---- one notice more, or less

pub due_more : (p : ProgramTable) (clock : ℤ) (st : Store) (n : Pending) (es : List Pending) → IsDue p clock st n →
    AreDue p clock st es →
    AreDue p clock st (with_notice n es)
due_more p clock st n [] h d = (h, tt)
due_more p clock st n (e ∷ es) h d = chosen (nat_lt n.notice e.notice) (due_more p clock st n es h d.1)
  where
    chosen : (b : Bool) → AreDue p clock st (with_notice n es) →
        AreDue p clock st (if b then n ∷ e ∷ es else e ∷ with_notice n es)
    chosen true r = (h, d)
    chosen false r = (d.0, r)

pub due_less : (p : ProgramTable) (clock : ℤ) (st : Store) (k : ℕ) (es : List Pending) → AreDue p clock st es →
    AreDue p clock st (without_notice k es)
due_less p clock st k [] d = tt
due_less p clock st k (e ∷ es) d = chosen (e.notice == k) (due_less p clock st k es d.1)
  where
    chosen : (b : Bool) → AreDue p clock st (without_notice k es) →
        AreDue p clock st (if b then without_notice k es else e ∷ without_notice k es)
    chosen true r = r
    chosen false r = (d.0, r)

pub others_left : (k : ℕ) (es : List Pending) → AreOthers k (without_notice k es)
others_left k [] = tt
others_left k (e ∷ es) = chosen (e.notice == k) refl (others_left k es)
  where
    chosen : (b : Bool) → (e.notice == k) ≡ b → AreOthers k (without_notice k es) →
        AreOthers k (if b then without_notice k es else e ∷ without_notice k es)
    chosen true f r = r
    chosen false f r = (f, r)

-- ---- the least

-- no notice is before a time
abbrev pub AreNotBefore : ℤ → List Pending → Type 0
AreNotBefore time es = Each (λ e. int_lt e.time time ≡ false) es

pub due_later : (p : ProgramTable) (clock time : ℤ) (st : Store) (es : List Pending) → AreNotBefore time es →
    AreDue p clock st es → AreDue p time st es
due_later p clock time st [] b d = tt
due_later p clock time st (e ∷ es) b d = (
  record { event = d.0.event; exists = d.0.exists; time = d.0.time; due = b.0; keys = d.0.keys },
  due_later p clock time st es b.1 d.1,
)

time_first : (x y : ℤ) (o : Ordering) → is_lt (ordering_then (int_cmp x y) o) ≡ true → int_lt y x ≡ false
time_first x y o h = chosen (int_lt x y) (int_lt y x) refl refl h
  where
    chosen : (b c : Bool) → int_lt x y ≡ b → int_lt y x ≡ c →
        is_lt (ordering_then (cond b Less (cond c Greater Equal)) o) ≡ true → c ≡ false
    chosen true c f g k = sym g ∙ grind (arith, ints)
    chosen false true f g k = cc
    chosen false false f g k = refl

time_not_first : (x y : ℤ) (o : Ordering) → is_lt (ordering_then (int_cmp x y) o) ≡ false → int_lt x y ≡ false
time_not_first x y o h = chosen (int_lt x y) (cond (int_lt y x) Greater Equal) h
  where
    chosen : (b : Bool) (r : Ordering) → is_lt (ordering_then (cond b Less r) o) ≡ false → b ≡ false
    chosen true r k = cc
    chosen false r k = refl

-- not before a time that is not before another is not before that one either
not_before : (x y z : ℤ) → int_lt y x ≡ false → int_lt z y ≡ false → int_lt z x ≡ false
not_before x y z h k = grind (arith, ints)

same_time : (x : ℤ) → int_lt x x ≡ false
same_time x = grind (arith, ints)

-- no notice is before the least one
least_from : (rules : List Rule) (n : Pending) (ms : List Pending) →
    (int_lt n.time (least_of rules n ms).time ≡ false) × AreNotBefore (least_of rules n ms).time ms
least_from rules n [] = (same_time n.time, tt)
least_from rules n (m ∷ ms) = chosen (is_lt (by_time rules m n)) refl (λ k. least_from rules k ms)
  where
    chosen : (b : Bool) → is_lt (by_time rules m n) ≡ b →
        ((k : Pending) → (int_lt k.time (least_of rules k ms).time ≡ false)
        × AreNotBefore (least_of rules k ms).time ms) →
        (int_lt n.time (least_of rules (if b then m else n) ms).time ≡ false)
        × AreNotBefore (least_of rules (if b then m else n) ms).time (m ∷ ms)
    chosen true f r =
        (not_before (least_of rules m ms).time m.time n.time (r m).0 (time_first m.time n.time _ f), ((r m).0, (r m).1))
    chosen false f r = (
      (r n).0,
      (
        not_before (least_of rules n ms).time n.time m.time (r n).0 (time_not_first m.time n.time _ f),
        (r n).1,
      ),
    )

pub least_not_before : (rules : List Rule) (es : List Pending) (n : Pending) → least rules es ≡ Some n →
    AreNotBefore n.time es
least_not_before rules [] n h = cc
least_not_before rules (e ∷ es) n h =
    let f : least_of rules e es ≡ n = cc in
    subst (λ (l : Pending). AreNotBefore l.time (e ∷ es)) f (least_from rules e es)

pub left_not_before : (time : ℤ) (k : ℕ) (es : List Pending) → AreNotBefore time es →
    AreNotBefore time (without_notice k es)
left_not_before time k [] b = tt
left_not_before time k (e ∷ es) b = chosen (e.notice == k) (left_not_before time k es b.1)
  where
    chosen : (c : Bool) → AreNotBefore time (without_notice k es) →
        AreNotBefore time (if c then without_notice k es else e ∷ without_notice k es)
    chosen true r = r
    chosen false r = (b.0, r)

-- a property of each notice is a property of the least
pub least_of_each : (P : Pending → Type 0) (rules : List Rule) (n : Pending) (ms : List Pending) → P n → Each P ms →
    P (least_of rules n ms)
least_of_each P rules n [] h e = h
least_of_each P rules n (m ∷ ms) h e = chosen (is_lt (by_time rules m n)) (λ k g. least_of_each P rules k ms g e.1)
  where
    chosen : (b : Bool) → ((k : Pending) → P k → P (least_of rules k ms)) → P (least_of rules (if b then m else n) ms)
    chosen true r = r m e.0
    chosen false r = r n h

each_due : (p : ProgramTable) (clock : ℤ) (st : Store) (es : List Pending) → AreDue p clock st es →
    Each (IsDue p clock st) es
each_due p clock st [] d = tt
each_due p clock st (e ∷ es) d = (d.0, each_due p clock st es d.1)

pub least_due : (p : ProgramTable) (clock : ℤ) (st : Store) (rules : List Rule) (es : List Pending) (n : Pending) →
    least rules es ≡ Some n →
    AreDue p clock st es → IsDue p clock st n
least_due p clock st rules [] n h d = cc
least_due p clock st rules (e ∷ es) n h d =
    let f : least_of rules e es ≡ n = cc in
    subst (λ (l : Pending). IsDue p clock st l) f (least_of_each (IsDue p clock st) rules e es d.0
    (each_due p clock st es d.1))

-- a property of each of them is a property of the least
pub least_each : (P : Pending → Type 0) (rules : List Rule) (es : List Pending) (n : Pending) →
    least rules es ≡ Some n → Each P es → P n
least_each P rules [] n h e = cc
least_each P rules (x ∷ es) n h e =
    let f : least_of rules x es ≡ n = cc in subst P f (least_of_each P rules x es e.0 e.1)

-- ---- the least is pending

-- it is among the notices
abbrev Stands : List Pending → Pending → Type 0
Stands es n = pending_at es n.notice ≡ Some n

first_stands : (e : Pending) (es : List Pending) → Stands (e ∷ es) e
first_stands e es = chosen (e.notice == e.notice) (eq-eqb e.notice e.notice refl)
  where
    chosen : (b : Bool) → b ≡ true → (if b then Some e else pending_at es e.notice) ≡ Some e
    chosen true h = refl
    chosen false h = cc

rising_apart : (n : ℕ) (es : List Pending) (k : ℕ) (x : Pending) → IsRising n es → pending_at es k ≡ Some x → n < k
rising_apart n [] k x r h = cc
rising_apart n (e ∷ es) k x r h = chosen (e.notice == k) refl h (rising_apart e.notice es k x r.1)
  where
    chosen : (b : Bool) → (e.notice == k) ≡ b → (if b then Some e else pending_at es k) ≡ Some x →
        (pending_at es k ≡ Some x → e.notice < k) → n < k
    chosen true f g i = omega (arith, r.0, eqb-true e.notice k f)
    chosen false f g i = omega (arith, r.0, i g)

later_stands : (e x : Pending) (es : List Pending) → IsRising e.notice es → Stands es x → Stands (e ∷ es) x
later_stands e x es r h = chosen (e.notice == x.notice) refl
  where
    chosen : (b : Bool) → (e.notice == x.notice) ≡ b → (if b then Some e else pending_at es x.notice) ≡ Some x
    chosen true f = absurd (omega (arith, rising_apart e.notice es x.notice x r h, eqb-true e.notice x.notice f))
    chosen false f = h

each_stands_by : (n : ℕ) (all es : List Pending) → ((x : Pending) → Stands es x → Stands all x) → IsRising n es →
    Each (Stands all) es
each_stands_by n all [] f r = tt
each_stands_by n all (e ∷ es) f r =
    (f e (first_stands e es), each_stands_by e.notice all es (λ x h. f x (later_stands e x es r.1 h)) r.1)

-- the least of notices in order of their references is pending
pub least_stands : (rules : List Rule) (es : List Pending) (n : Pending) → IsRising 0 es → least rules es ≡ Some n →
    pending_at es n.notice ≡ Some n
least_stands rules [] n r h = cc
least_stands rules (e ∷ es) n r h =
    let f : least_of rules e es ≡ n = cc in
    let all = each_stands_by 0 (e ∷ es) (e ∷ es) (λ x g. g) r in
    subst (λ (l : Pending). Stands (e ∷ es) l) f (least_of_each (Stands (e ∷ es)) rules e es all.0 all.1)

pub least_named : (rules : List Rule) (es : List Pending) (n : Pending) → IsRising 0 es → least rules es ≡ Some n →
    0 < n.notice
least_named rules es n r h = rising_apart 0 es n.notice n r (least_stands rules es n r h)

-- the number of the least, as it is read
pub least_number : (rules : List Rule) (es : List Pending) (k : ℕ) → IsRising 0 es →
    Some k ≡ option_map (λ e. e.notice) (least rules es) → 0 < k
least_number rules [] k r h = cc
least_number rules (e ∷ es) k r h =
    let n = least_of rules e es in
    let f : k ≡ n.notice = cc in
    rw f (least_named rules (e ∷ es) n r refl)

-- the least, as it is read, is pending
pub least_slot : (rules : List Rule) (es : List Pending) (k : ℕ) → IsRising 0 es →
    Some k ≡ option_map (λ e. e.notice) (least rules es) →
    (n : Pending) × (least rules es ≡ Some n) × (k ≡ n.notice) × (pending_at es k ≡ Some n)
least_slot rules [] k r h = cc
least_slot rules (e ∷ es) k r h =
    let n = least_of rules e es in
    let f : k ≡ n.notice = cc in
    (n, refl, f, rw f (least_stands rules (e ∷ es) n r refl))

-- the slot of the least is there
pub least_has_slot : (rules : List Rule) (es : List Pending) (k : ℕ) → IsRising 0 es →
    Some k ≡ option_map (λ e. e.notice) (least rules es) →
    None ≡ option_map slot_of (pending_at es k) → ⊥
least_has_slot rules es k r h g =
    let n = least_slot rules es k r h in
    let f : pending_at es k ≡ Some n.0 = n.3 in
    clash n.0 (rw f at g)
  where
    clash : (n : Pending) → None ≡ Some (slot_of n) → ⊥
    clash n e = cc

told : (o : Option Pending) (n : Pending) (k : ℕ) (x : Slot) → o ≡ Some n → k ≡ n.notice → x ≡ slot_of n →
    ◌≡◌ {A = Option (ℕ × Slot)} (Some (k, x)) (option_map (λ e. (e.notice, slot_of e)) o)
told o n k x e f g = rw (e, f, g) refl

-- the least, as the agenda gives it
pub least_told : (rules : List Rule) (es : List Pending) (k : ℕ) (x : Slot) → IsRising 0 es →
    Some k ≡ option_map (λ e. e.notice) (least rules es) →
    Some x ≡ option_map slot_of (pending_at es k) →
    ◌≡◌ {A = Option (ℕ × Slot)} (Some (k, x)) (option_map (λ e. (e.notice, slot_of e)) (least rules es))
least_told rules es k x r h g =
    let n = least_slot rules es k r h in
    let f : pending_at es k ≡ Some n.0 = n.3 in
    let q : Some x ≡ Some (slot_of n.0) = rw f at g in
    let y : x ≡ slot_of n.0 = cc in
    told (least rules es) n.0 k x n.1 n.2 y
