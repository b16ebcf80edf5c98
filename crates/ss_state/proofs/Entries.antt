-- the entry of an external event stays well-formed
use Rattle.std.proofs.Common.{◌≡◌, ℕ, List, [], ◌∷◌, Bool, true, false, Some, None}
use Rattle.std.proofs.Common.{refl, sym, ap, subst, ◌∙◌}
use Rattle.std.specs.Prelude.{is_some, nat_lt, ◌==◌, if◌then◌else◌}
use Rattle.std.proofs.lemmas.Bool.{eq-eqb, eqb-true}
use Rattle.ss_program.specs.declared.kinds.SectionKind.{SectionKind}
use Rattle.ss_program.specs.declared.kinds.SectionKind.TheVariants.{Routine}
use Rattle.ss_program.specs.Program.{ProgramTable, event_of, section_of, is_event_kind}
use Rattle.ss_events.specs.Agenda.{Pending, pending_at, without_notice, with_notice}
use Rattle.ss_events.specs.State.{Each}
use Rattle.ss_state.specs.declared.entry.Entry.{Entry}
use Rattle.ss_state.specs.declared.entry.Entry.TheVariants.{Absent, Waiting, Running}
use Rattle.ss_state.specs.State.{FrameState, waits_for, entry_at_start}
use Rattle.ss_state.specs.Well.{AreOfClass, IsSecond, IsWellEntry}
use Rattle.ss_state.proofs.Dues.{AreOthers}

clash : {b : Bool} → b ≡ true → b ≡ false → ⊥
clash {b} e f = cc

-- ---- pending notices

-- a pending notice stays pending with one notice more
pub pending_more : (k : ℕ) (n : Pending) (es : List Pending) → is_some (pending_at es k) ≡ true →
    is_some (pending_at (with_notice n es) k) ≡ true
pending_more k n [] h = absurd (none h)
  where
    none : false ≡ true → ⊥
    none e = cc
pending_more k n (e ∷ es) h = chosen (nat_lt n.notice e.notice) (pending_more k n es)
  where
    first : (b : Bool) → is_some (if b then Some n else pending_at (e ∷ es) k) ≡ true
    first true = refl
    first false = h

    later : (b : Bool) → is_some (if b then Some e else pending_at es k) ≡ true →
        (is_some (pending_at es k) ≡ true → is_some (pending_at (with_notice n es) k) ≡ true) →
        is_some (if b then Some e else pending_at (with_notice n es) k) ≡ true
    later true g r = refl
    later false g r = r g

    chosen : (b : Bool) → (is_some (pending_at es k) ≡ true → is_some (pending_at (with_notice n es) k) ≡ true) →
        is_some (pending_at (if b then n ∷ e ∷ es else e ∷ with_notice n es) k) ≡ true
    chosen true r = first (n.notice == k)
    chosen false r = later (e.notice == k) h r

-- and the new one is pending
pub pending_new : (n : Pending) (es : List Pending) → is_some (pending_at (with_notice n es) n.notice) ≡ true
pending_new n [] = same (n.notice == n.notice) (eq-eqb n.notice n.notice refl)
  where
    same : (b : Bool) → b ≡ true → is_some (if b then Some n else None) ≡ true
    same true h = refl
    same false h = absurd (clash h refl)
pending_new n (e ∷ es) = chosen (nat_lt n.notice e.notice) (pending_new n es)
  where
    first : (b : Bool) → b ≡ true → is_some (if b then Some n else pending_at (e ∷ es) n.notice) ≡ true
    first true h = refl
    first false h = absurd (clash h refl)

    later : (b : Bool) → is_some (pending_at (with_notice n es) n.notice) ≡ true →
        is_some (if b then Some e else pending_at (with_notice n es) n.notice) ≡ true
    later true r = refl
    later false r = r

    chosen : (b : Bool) → is_some (pending_at (with_notice n es) n.notice) ≡ true →
        is_some (pending_at (if b then n ∷ e ∷ es else e ∷ with_notice n es) n.notice) ≡ true
    chosen true r = first (n.notice == n.notice) (eq-eqb n.notice n.notice refl)
    chosen false r = later (e.notice == n.notice) r

-- a pending notice stays pending with another notice less
pub pending_less : (k j : ℕ) (es : List Pending) → (k == j) ≡ false → is_some (pending_at es k) ≡ true →
    is_some (pending_at (without_notice j es) k) ≡ true
pending_less k j [] n h = h
pending_less k j (e ∷ es) n h = chosen (e.notice == j) (e.notice == k) refl refl h (pending_less k j es n)
  where
    left : (b : Bool) → is_some (if b then Some e else pending_at es k) ≡ true →
        (is_some (pending_at es k) ≡ true → is_some (pending_at (without_notice j es) k) ≡ true) →
        is_some (if b then Some e else pending_at (without_notice j es) k) ≡ true
    left true g r = refl
    left false g r = r g

    chosen : (b c : Bool) → (e.notice == j) ≡ b → (e.notice == k) ≡ c →
        is_some (if c then Some e else pending_at es k) ≡ true →
        (is_some (pending_at es k) ≡ true → is_some (pending_at (without_notice j es) k) ≡ true) →
        is_some (pending_at (if b then without_notice j es else e ∷ without_notice j es) k) ≡ true
    chosen true true f g x r = absurd (clash (eq-eqb k j (sym (eqb-true e.notice k g) ∙ eqb-true e.notice j f)) n)
    chosen true false f g x r = r x
    chosen false c f g x r =
        left (e.notice == k) (subst (λ (b : Bool). is_some (if b then Some e else pending_at es k) ≡ true) (sym g) x) r

pub class_more : (k c : ℕ) (n : Pending) (es : List Pending) → (n.notice ≡ k → n.class ≡ c) → AreOfClass k c es →
    AreOfClass k c (with_notice n es)
class_more k c n [] h a = (h, tt)
class_more k c n (e ∷ es) h a = chosen (nat_lt n.notice e.notice) (class_more k c n es h a.1)
  where
    chosen : (b : Bool) → AreOfClass k c (with_notice n es) →
        AreOfClass k c (if b then n ∷ e ∷ es else e ∷ with_notice n es)
    chosen true r = (h, a)
    chosen false r = (a.0, r)

pub class_less : (k c j : ℕ) (es : List Pending) → AreOfClass k c es → AreOfClass k c (without_notice j es)
class_less k c j [] a = tt
class_less k c j (e ∷ es) a = chosen (e.notice == j) (class_less k c j es a.1)
  where
    chosen : (b : Bool) → AreOfClass k c (without_notice j es) →
        AreOfClass k c (if b then without_notice j es else e ∷ without_notice j es)
    chosen true r = r
    chosen false r = (a.0, r)

-- no notice that is not pending is of another class
pub class_none : (k c : ℕ) (es : List Pending) → AreOthers k es → AreOfClass k c es
class_none k c [] o = tt
class_none k c (e ∷ es) o = ((λ h. absurd (clash (eq-eqb e.notice k h) o.0)), class_none k c es o.1)

pub class_each : (k c : ℕ) (es : List Pending) → AreOfClass k c es → Each (λ e. e.notice ≡ k → e.class ≡ c) es
class_each k c [] a = tt
class_each k c (e ∷ es) a = (a.0, class_each k c es a.1)

-- ---- the entry

pub entry_more : (p : ProgramTable) (n : Pending) (es : List Pending) (i : ℕ) (fs : List FrameState) (e : Entry) →
    is_some (pending_at es n.notice) ≡ false → IsWellEntry p es i fs e → IsWellEntry p (with_notice n es) i fs e
entry_more p n es i fs Absent f w = tt
entry_more p n es i fs (Waiting c k) f w = (
  w.0,
  pending_more k n es w.1,
  class_more k c n es (λ h. absurd
      (clash w.1 (subst (λ (j : ℕ). is_some (pending_at es j) ≡ false) h f))) w.2,
)
entry_more p n es i fs (Running c k) f w = w

pub entry_less : (p : ProgramTable) (j : ℕ) (es : List Pending) (i : ℕ) (fs : List FrameState) (e : Entry) →
    waits_for j e ≡ false →
    IsWellEntry p es i fs e → IsWellEntry p (without_notice j es) i fs e
entry_less p j es i fs Absent f w = tt
entry_less p j es i fs (Waiting c k) f w = (w.0, pending_less k j es f w.1, class_less k c j es w.2)
entry_less p j es i fs (Running c k) f w = w

-- a frame of a section that does not run the entry is opened on the last one
pub entry_pushed : (p : ProgramTable) (es : List Pending) (n : ℕ) (f : FrameState) (fs : List FrameState) (e : Entry) →
    IsWellEntry p es f.section fs e → IsWellEntry p es n (f ∷ fs) e
entry_pushed p es n f fs Absent w = tt
entry_pushed p es n f fs (Waiting c k) w = w
entry_pushed p es n f [] (Running c k) w = absurd w.1
entry_pushed p es n f (g ∷ fs) (Running c k) w = w

-- the frame of a routine is dropped
pub entry_popped : (p : ProgramTable) (es : List Pending) (i : ℕ) (f : FrameState) (fs : List FrameState) (e : Entry) →
    (section_of p i).kind ≡ Routine → ((c : ℕ) → (event_of p c).external ≡ true → is_event_kind
    (section_of p (event_of p c).section).kind ≡ true) →
    IsWellEntry p es i (f ∷ fs) e → IsWellEntry p es f.section fs e
entry_popped p es i f fs Absent r k w = tt
entry_popped p es i f fs (Waiting c j) r k w = w
entry_popped p es i f [] (Running c j) r k w =
    absurd (routine (section_of p (event_of p c).section).kind
    (subst (λ (n : ℕ). (section_of p n).kind ≡ Routine) w.1 r) (k c w.0))
  where
    routine : (x : SectionKind) → x ≡ Routine → is_event_kind x ≡ true → ⊥
    routine x e g = absurd (no (rw e at g))
      where
        no : false ≡ true → ⊥
        no h = cc
entry_popped p es i f (g ∷ fs) (Running c j) r k w = w

-- an entry that does not run says nothing of frames
abbrev pub IsIdle : Entry → Type 0
IsIdle Absent = Unit {0}
IsIdle (Waiting c k) = Unit {0}
IsIdle (Running c k) = ⊥

pub entry_idle : (p : ProgramTable) (es : List Pending) (i j : ℕ) (fs gs : List FrameState) (e : Entry) → IsIdle e →
    IsWellEntry p es i fs e → IsWellEntry p es j gs e
entry_idle p es i j fs gs Absent h w = tt
entry_idle p es i j fs gs (Waiting c k) h w = w
entry_idle p es i j fs gs (Running c k) h w = absurd h

-- the event of notice n starts in the second frame
pub entry_started : (p : ProgramTable) (n : Pending) (es : List Pending) (i : ℕ) (f : FrameState) (fs : List FrameState)
    (e : Entry) →
    ((k c : ℕ) → AreOfClass k c es → n.notice ≡ k → n.class ≡ c) → fs ≡ [] → IsWellEntry p es i fs e →
    IsWellEntry p (without_notice n.notice es) (event_of p n.class).section (f ∷ fs) (entry_at_start n.notice e)
entry_started p n es i f fs Absent h a w = tt
entry_started p n es i f fs (Running c k) h a w =
    absurd (subst (λ (gs : List FrameState). IsSecond (event_of p c).section i gs) a w.1)
entry_started p n es i f fs (Waiting c k) h a w = chosen (k == n.notice) refl
  where
    chosen : (b : Bool) → (k == n.notice) ≡ b →
        IsWellEntry p (without_notice n.notice es) (event_of p n.class).section (f ∷ fs)
        (if b then Running c k else Waiting c k)
    chosen true x =
        let s : n.class ≡ c = h k c w.2 (sym (eqb-true k n.notice x)) in (
          w.0,
          subst (λ (gs : List FrameState). IsSecond (event_of p c).section (event_of p n.class).section (f ∷ gs))
              (sym a) (ap (λ (m : ℕ). (event_of p m).section) s),
        )
    chosen false x = entry_less p n.notice es (event_of p n.class).section (f ∷ fs) (Waiting c k) x w
