-- the facts known when notices are scheduled and events start
use Rattle.std.proofs.Common.{◌≡◌, ◌<◌, ℕ, ℤ, suc, pos, List, [], ◌∷◌, length, Bool, true, false}
use Rattle.std.proofs.Common.{Option, Some, None, Result, Ok, arith, refl, sym, ap, subst, ◌∙◌}
use Rattle.std.specs.Prelude.{map, is_some, ◌==◌, if◌then◌else◌}
use Rattle.std.specs.Option.{option_map}
use Rattle.std.specs.List.{range_with_len}
use Rattle.std.proofs.lemmas.Bool.{eq-eqb}
use Rattle.std.proofs.lemmas.List.{length-map}
use Rattle.std.proofs.lemmas.List.FromFn.{length-map-range_with_len, get_or-map-range_with_len}
use Rattle.std.proofs.lemmas.Option.{unwrap_or-slice_get}
use Rattle.ss_words.specs.declared.fault.RunFault.{RunFault}
use Rattle.ss_program.specs.declared.kinds.ClassKind.{ClassKind}
use Rattle.ss_program.specs.declared.kinds.ClassKind.TheVariants.{Permanent, Temporary, Event}
use Rattle.ss_program.specs.declared.timing.Notice.{Notice}
use Rattle.ss_program.specs.declared.timing.Listing.{Listing}
use Rattle.ss_program.specs.declared.timing.Listing.TheVariants.{InParentheses, Given}
use Rattle.ss_program.specs.ProgramExpr.{Expr}
use Rattle.ss_program.specs.declared.keys.Key.{Key}
use Rattle.ss_program.specs.Program.{ProgramTable, class_of, event_of, section_of, is_event}
use Rattle.ss_program.specs.ProgramSound.{IsEventClass}
use Rattle.ss_store.specs.declared.shape.ClassShape.{ClassShape}
use Rattle.ss_store.specs.Tables.{tables_of, class_shape}
use Rattle.ss_store.specs.Tables as shapes
use Rattle.ss_store.specs.Store.{Store, attribute_of}
use Rattle.ss_events.specs.Rules.{Rule, rules_of, rule_at, is_event_class}
use Rattle.ss_events.specs.Agenda.{Pending, pending_at, least_of, least}
use Rattle.ss_events.specs.State.{Each}
use Rattle.ss_events.specs.Slots.{slot_of}
use Rattle.ss_events.specs.declared.agenda.Slot.{Slot}
use Rattle.ss_events.proofs.RuleLaws.{rule_at-program}
use Rattle.ss_values.specs.Values.{Readings, values_of, number_value}
use Rattle.ss_state.specs.State.{State, FrameState, new_frame}
use Rattle.ss_state.specs.Statements.{state_with_store, state_after_assignment, state_with_frame}
use Rattle.ss_state.specs.Statements.Timing.{notice_named, arguments_asked, attributes_now, event_section}
use Rattle.ss_state.specs.Statements.Timing.{store_at_start, state_at_time, state_after_start, external_class}
use Rattle.ss_program.specs.declared.variable.Variable.TheVariants.{Global}
use Rattle.ss_state.specs.Well.{IsInBounds}
use Rattle.ss_state.proofs.Ranges.{Got, after_got, anything}
use Rattle.ss_state.proofs.ValueCounts.{values_counted}
use Rattle.ss_state.proofs.Sounds.{event_within}
use Rattle.ss_state.proofs.Staying.{named_positive}
use Rattle.ss_state.proofs.Dues.{least_of_each, least_due}
use Rattle.ss_data.specs.Items.{Item}
use Rattle.ss_state.proofs.Wells.Simulating.{named_well}

-- ---- tables and rules of a class

pub class_shaped : (p : ProgramTable) (c : ℕ) → c < length p.classes → c < length (tables_of p).classes
class_shaped p c h = omega (arith, length-map-range_with_len (class_shape p) 0 (length p.classes), h)

not_permanent : (k : ClassKind) → is_event k ≡ true → shapes.is_permanent k ≡ false
not_permanent (Permanent n) h = cc
not_permanent Temporary h = refl
not_permanent (Event e) h = refl

shape_is : (p : ProgramTable) (c : ℕ) → c < length p.classes → shapes.class_of (tables_of p) c ≡ class_shape p c
shape_is p c h =
    let none : ClassShape = record { attributes = 0; owned = 0; joined = 0; permanent = false } in
    unwrap_or-slice_get (tables_of p).classes c none
    ∙ get_or-map-range_with_len (class_shape p) 0 (length p.classes) c c none h (omega arith)

-- an event class is not permanent
pub event_shaped : (p : ProgramTable) (c n : ℕ) → IsEventClass p c n →
    (shapes.class_of (tables_of p) c).permanent ≡ false
event_shaped p c n h =
    ap (λ (s : ClassShape). s.permanent) (shape_is p c h.class) ∙ not_permanent (class_of p c).kind h.event

-- and its rule says so
pub event_ruled : (p : ProgramTable) (c n : ℕ) → IsEventClass p c n → is_event_class (rules_of p) c ≡ true
event_ruled p c n h = ap (λ (r : Rule). r.for_events) (rule_at-program p c h.class) ∙ h.event

counted_attributes : (st : Store) (c k : ℕ) (numbers : List ℕ) →
    Got (λ (xs : List ℤ). length xs ≡ length numbers) (attributes_now st c k numbers)
counted_attributes st c k [] = refl
counted_attributes st c k (a ∷ rest) =
    after_got (λ (_ : ℤ). Unit {0}) (λ (xs : List ℤ). length xs ≡ length (a ∷ rest)) (attribute_of st c a k) _
    (anything _) (λ x _.
    after_got (λ (xs : List ℤ). length xs ≡ length rest) (λ (xs : List ℤ). length xs ≡ length (a ∷ rest))
    (attributes_now st c k rest) _
    (counted_attributes st c k rest) (λ xs h. ap suc h))

-- as many values as attributes
pub attributes_count : (st : Store) (c k : ℕ) (numbers : List ℕ) (xs : List ℤ) → attributes_now st c k numbers ≡ Ok xs →
    length xs ≡ length numbers
attributes_count st c k numbers xs e =
    subst (λ (r : Result (List ℤ) RunFault). Got (λ (ys : List ℤ). length ys ≡ length numbers) r) e
    (counted_attributes st c k numbers)

-- as many keys as break the ties of the class
pub keys_count : (p : ProgramTable) (st : Store) (c k n : ℕ) (xs : List ℤ) → IsEventClass p c n →
    attributes_now st c k (map (λ key. key.attribute) (event_of p c).ties) ≡ Ok xs →
    length xs ≡ length (rule_at (rules_of p) c).ties
keys_count p st c k n xs h e =
    attributes_count st c k (map (λ key. key.attribute) (event_of p c).ties) xs e
    ∙ length-map (event_of p c).ties (λ (key : Key). key.attribute)
    ∙ ap (λ (r : Rule). length r.ties) (sym (rule_at-program p c h.class))

-- ---- arguments

counted_arguments : (v : Readings) (n : Notice) (es : List Expr) (l : Listing) →
    Got (λ (a : ℤ × List ℤ). length a.1 ≡ length es) (arguments_asked v n es l)
counted_arguments v n es InParentheses =
    after_got (λ (xs : List ℤ). length xs ≡ length es) (λ (a : ℤ × List ℤ). length a.1 ≡ length es) (values_of v es) _
    (values_counted v es) (λ xs h.
    after_got (λ (_ : ℤ). Unit {0}) (λ (a : ℤ × List ℤ). length a.1 ≡ length es) (notice_named v n) _ (anything _)
    (λ x _. h))
counted_arguments v n es Given =
    after_got (λ (_ : ℤ). Unit {0}) (λ (a : ℤ × List ℤ). length a.1 ≡ length es) (notice_named v n) _ (anything _)
    (λ x _.
    after_got (λ (xs : List ℤ). length xs ≡ length es) (λ (a : ℤ × List ℤ). length a.1 ≡ length es) (values_of v es) _
    (values_counted v es) (λ xs h. h))

pub arguments_count : (v : Readings) (n : Notice) (es : List Expr) (l : Listing) (x : ℤ) (xs : List ℤ) →
    arguments_asked v n es l ≡ Ok (x, xs) →
    length xs ≡ length es
arguments_count v n es l x xs e =
    subst (λ (r : Result (ℤ × List ℤ) RunFault). Got (λ (a : ℤ × List ℤ). length a.1 ≡ length es) r) e
    (counted_arguments v n es l)

-- ---- the start of an event

pub start_done : (p : ProgramTable) (s : State) (k c : ℕ) (time : ℤ) (xs : List ℤ) (st : Store) →
    attributes_now s.store c k (range_with_len 0 (section_of p (event_section p c)).given) ≡ Ok xs →
    store_at_start p s.store c k ≡ Ok st →
    number_value k ≡ Ok (pos k) →
    state_after_start p s k c time
    ≡ Ok (state_with_frame p (state_after_assignment (state_at_time s k time st) (Global (class_of p c).variable)
    (pos k)) (event_section p c) xs)
start_done p s k c time xs st e f g = rw (e, f, g) refl

pub start_left : (p : ProgramTable) (s m u w new : State) (f : FrameState) (k c i v : ℕ) (time x : ℤ) (xs : List ℤ)
    (st : Store) →
    m ≡ state_at_time s k time s.store → u ≡ state_with_store m st → w ≡ state_after_assignment u (Global v) x →
    new ≡ record w { frame = f; below = w.frame ∷ w.below } → f ≡ new_frame p i xs → x ≡ pos k →
    v ≡ (class_of p c).variable → i ≡ event_section p c →
    new ≡ state_with_frame p (state_after_assignment (state_at_time s k time st) (Global (class_of p c).variable)
    (pos k)) (event_section p c) xs
start_left p s m u w new f k c i v time x xs st a b d e g h j l = rw (e, d, b, a, g, h, j, l) refl

-- ---- the notice that is the least

-- the least notice is the one that is read
pub least_is : (o : Option Pending) (k : ℕ) (x : Slot) →
    ◌≡◌ {A = Option (ℕ × Slot)} (Some (k, x)) (option_map (λ e. (e.notice, slot_of e)) o) →
    (n : Pending) × (o ≡ Some n) × (k ≡ n.notice) × (x ≡ slot_of n)
least_is None k x h = cc
least_is (Some n) k x h =
    let e : ◌≡◌ {A = ℕ × Slot} (k, x) (n.notice, slot_of n) = cc in
    (n, refl, ap (λ (y : ℕ × Slot). y.0) e, ap (λ (y : ℕ × Slot). y.1) e)

first_among : (e : Pending) (es : List Pending) → is_some (pending_at (e ∷ es) e.notice) ≡ true
first_among e es = chosen (e.notice == e.notice) (eq-eqb e.notice e.notice refl)
  where
    chosen : (b : Bool) → b ≡ true → is_some (if b then Some e else pending_at es e.notice) ≡ true
    chosen true h = refl
    chosen false h = cc

later_among : (e : Pending) (es : List Pending) (k : ℕ) → is_some (pending_at es k) ≡ true →
    is_some (pending_at (e ∷ es) k) ≡ true
later_among e es k h = chosen (e.notice == k)
  where
    chosen : (b : Bool) → is_some (if b then Some e else pending_at es k) ≡ true
    chosen true = refl
    chosen false = h

each_among : (all es : List Pending) → ((k : ℕ) → is_some (pending_at es k) ≡ true → is_some (pending_at all k) ≡ true)
    →
    Each (λ x. is_some (pending_at all x.notice) ≡ true) es
each_among all [] f = tt
each_among all (e ∷ es) f = (f e.notice (first_among e es), each_among all es (λ k h. f k (later_among e es k h)))

pub least_pending : (rules : List Rule) (es : List Pending) (n : Pending) → least rules es ≡ Some n →
    is_some (pending_at es n.notice) ≡ true
least_pending rules [] n h = cc
least_pending rules (e ∷ es) n h =
    let f : least_of rules e es ≡ n = cc in
    let all = each_among (e ∷ es) (e ∷ es) (λ k g. g) in
    subst (λ (l : Pending). is_some (pending_at (e ∷ es) l.notice) ≡ true) f
    (least_of_each (λ x. is_some (pending_at (e ∷ es) x.notice) ≡ true) rules e es all.0 all.1)

-- the least of a state in bounds is of an event class
pub least_event : (p : ProgramTable) (s : State) (n : Pending) → IsInBounds p s →
    least (rules_of p) s.agenda.pending ≡ Some n → IsEventClass p n.class 0
least_event p s n w h =
    let d = least_due p s.clock s.store (rules_of p) s.agenda.pending n h w.due in
    record { class = event_within p n.class d.event; event = d.event; attributes = omega arith }

pub least_positive : (p : ProgramTable) (s : State) (n : Pending) → IsInBounds p s →
    least (rules_of p) s.agenda.pending ≡ Some n → 0 < n.notice
least_positive p s n w h =
    named_positive s.store n.class n.notice (least_due p s.clock s.store (rules_of p) s.agenda.pending n h w.due).exists

-- ---- arrivals

-- the class that the data name is an event class
pub arrival_event : (p : ProgramTable) (o : Option Item) (c : ℕ) → external_class p o ≡ Some c → IsEventClass p c 0
arrival_event p o c h =
    let e = named_well p o c h in
    record { class = event_within p c e; event = e; attributes = omega arith }
