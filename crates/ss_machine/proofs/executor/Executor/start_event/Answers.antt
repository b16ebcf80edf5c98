use Rattle.std.proofs.Common.{refl, ◌≡◌, ◌<◌, ◌^◌, pos, length, arith, sym, ap, rules, Ok, ◌∙◌, w64, FitsSigned, to_z}
use Rattle.std.proofs.Common.{of_z}
use Rattle.std.specs.List.{range_with_len}
use Rattle.std.proofs.lemmas.Int.{to_z-of_z}
use Rattle.std.proofs.lemmas.List.FromFn.{length-range_with_len}
use Rattle.ss_program.specs.Program.{class_of, section_of}
use Rattle.ss_program.specs.declared.variable.Variable.TheVariants.{Global}
use Rattle.ss_store.specs.Tables.{tables_of}
use Rattle.ss_state.specs.State.{State, new_frame}
use Rattle.ss_state.proofs.Sounds.{section_found}
use Rattle.ss_state.specs.Statements.{state_with_frame, state_after_assignment}
use Rattle.ss_state.specs.Statements.Timing.{attributes_now, event_section, store_at_start, state_at_time}
use Rattle.ss_machine.proofs.Storings.{counted_small}
use Rattle.ss_state.proofs.Starts.{class_shaped, event_shaped, attributes_count, start_done, start_left}
use Rattle.ss_machine.proofs.executor.Executor.start_event.Goals as goal

pub end_unless_saved-requires-clause-class : goal.end_unless_saved-requires-clause-class
end_unless_saved-requires-clause-class g c =
    rw (c.advance.ensures.tables, c.requires.tables) (class_shaped c.args.program.now c.args.slot.class
    c.requires.event.class)

pub end_unless_saved-requires-clause-kind : goal.end_unless_saved-requires-clause-kind
end_unless_saved-requires-clause-kind g c =
    rw (c.advance.ensures.tables, c.requires.tables) (event_shaped c.args.program.now c.args.slot.class 0
    c.requires.event)

pub assign-requires-clause-target : goal.assign-requires-clause-target
assign-requires-clause-target g c =
    let m : length c.advance.new.self.held.state.variables ≡ length c.args.self.now.held.state.variables =
    ap (λ (s : State). length s.variables) c.advance.ensures.state in
    let u : length c.end_unless_saved.new.self.held.state.variables ≡ length c.advance.new.self.held.state.variables =
    ap (λ (s : State). length s.variables) c.end_unless_saved.ensures.rest in
    omega (arith, c.class_variable-variable.ensures.there, m, u, c.requires.variables)

pub open_frame-requires-clause-few : goal.open_frame-requires-clause-few
open_frame-requires-clause-few g c =
    let p = c.args.program.now in
    let xs = c.first_attributes.new.values.items in
    let given = c.section.inside.given in
    let t : section_of p c.event_section-number.result ≡ c.section-section.result.now =
    section_found p c.event_section-number.result c.section-section.result.now c.section-section.ensures in
    let e : given ≡ (section_of p c.event_section-number.result).given = search rules in
    let n : length xs ≡ length (range_with_len 0 given) =
    attributes_count c.args.self.now.held.state.store c.args.slot.class c.args.notice (range_with_len 0 given) xs
    c.in_ok-first_attributes.ensures.ok in
    let kept : c.assign.new.self.values.items ≡ xs = search rules in
    let m : length c.assign.new.self.values.items ≡ length xs = ap length kept in
    omega (arith, n, m, length-range_with_len 0 given, e, c.event_section-number.ensures.few)

pub returns-clause-outcome : goal.returns-clause-outcome
returns-clause-outcome g c =
    let p = c.args.program.now in
    let s = c.args.self.now.held.state in
    let k = c.args.notice in
    let class = c.args.slot.class in
    let m = c.advance.new.self.held in
    let u = c.end_unless_saved.new.self.held.state in
    let w = c.assign.new.self.held.state in
    let xs = c.first_attributes.new.values.items in
    let i = c.event_section-number.result in
    let t : section_of p i ≡ c.section-section.result.now =
    section_found p i c.section-section.result.now c.section-section.ensures in
    let given : c.section.inside.given ≡ (section_of p (event_section p class)).given = search rules in
    let saving : c.section.inside.saving ≡ (section_of p (event_section p class)).saving = search rules in
    let small : k < 2 ^ 32 = search rules in
    let long : FitsSigned w64 c.args.slot.time = search rules in
    let y : to_z w64 (of_z w64 c.args.slot.time) ≡ c.args.slot.time = to_z-of_z w64 _ long in
    let whole : FitsSigned w64 c.from.result = search rules in
    let z : to_z w64 (of_z w64 c.from.result) ≡ c.from.result = to_z-of_z w64 _ whole in
    let at : m.state ≡ state_at_time s k c.args.slot.time s.store = rw y at c.advance.ensures.state in
    let a : attributes_now s.store class k (range_with_len 0 (section_of p (event_section p class)).given) ≡ Ok xs =
    rw given at c.in_ok-first_attributes.ensures.ok in
    let tables : m.beside.tables ≡ tables_of p = c.advance.ensures.tables ∙ c.requires.tables in
    let store : m.state.store ≡ s.store = ap (λ (x : State). x.store) at in
    let b : store_at_start p s.store class k ≡ Ok u.store =
    rw (saving, tables, store) at c.in_ok-end_unless_saved.ensures.outcome in
    let kept : c.assign.new.self.values.items ≡ xs = search rules in
    let opened = rw kept at c.in_ok-open_frame.ensures.state in
    let left : c.open_frame.new.self.held.state
    ≡ state_with_frame p (state_after_assignment (state_at_time s k c.args.slot.time u.store)
    (Global (class_of p class).variable) (pos k)) (event_section p class) xs =
    start_left p s m.state u w c.open_frame.new.self.held.state (new_frame p i xs) k class i
    c.class_variable-variable.result c.args.slot.time c.from.result xs
    u.store at c.end_unless_saved.ensures.rest (rw z at c.assign.ensures.state) opened
    refl
    c.from.ensures c.class_variable-variable.ensures.number c.event_section-number.ensures.number in
    start_done p s k class c.args.slot.time xs u.store a b (counted_small k small) ∙ ap Ok (sym left)
