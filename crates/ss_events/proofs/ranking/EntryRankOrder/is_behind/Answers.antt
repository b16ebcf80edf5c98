use Rattle.std.proofs.Common.{◌≡◌, ℤ, sym, ap, ◌∙◌, subst, map, Some, w64, SFits, to_z, of_z, pos, get_or, rules}
use Rattle.std.proofs.lemmas.Int.{to_z-of_z}
use Rattle.std.specs.Prelude.{int_lt}
use Rattle.ss_events.specs.Agenda.{Pending, is_before}
use Rattle.ss_events.specs.Views.{rule_of, notice_of}
use Rattle.ss_events.specs.Indexes.{IsOfClass, is_before_some}
use Rattle.ss_events.proofs.Stands.{is-some-map}
use Rattle.ss_events.proofs.RowLaws.{entry-some, entry-is}
use Rattle.ss_events.proofs.BeforeLaws.{int-apart}
use Rattle.ss_events.proofs.Due.{time-of}
use Rattle.ss_events.proofs.ranking.EntryRankOrder.is_behind.Goals as goal

-- the times decide, if they are different
pub returns-then-self-time : goal.returns-then-self-time
returns-then-self-time c =
    let rules_of = map rule_of c.args.self.now.rules.now in
    let own : ℤ = c.args.self.now.entry.now.time in
    let time : ℤ = get_or c.args.self.now.times.now c.args.seat (pos 0) in
    let a : SFits w64 own = search rules in
    let b : SFits w64 time = search rules in
    let x : to_z w64 (of_z w64 own) ≡ own = to_z-of_z w64 _ a in
    let y : to_z w64 (of_z w64 time) ≡ time = to_z-of_z w64 _ b in
    let due : time ≡ c.requires.0.other.time = time-of _ _ _ _ _ c.requires.1 c.requires.0.made c.requires.0.above
    c.requires.0.there in
    let decided : int_lt own c.requires.0.other.time ≡ is_before rules_of (notice_of 0 c.args.self.now.entry.now)
    c.requires.0.other = int-apart own c.requires.0.other.time _ (λ e. c.if-self-time.true (ap (of_z w64) (e ∙ sym due)))
    in
    ap (λ (z : ℤ). int_lt z (to_z w64 (of_z w64 time))) x
    ∙ (ap (λ (z : ℤ). int_lt own z) y
    ∙ (ap (λ (z : ℤ). int_lt own z) due
    ∙ (decided
    ∙ sym (ap (is_before_some rules_of (notice_of 0 c.args.self.now.entry.now)) c.requires.0.there))))

pub unwrap-other-requires : goal.unwrap-other-requires
unwrap-other-requires c = is-some-map _ c.entry_of.result (entry-some _ _ _ _ c.requires.0.above c.requires.0.there
    c.entry_of.ensures)

pub is_before-requires-clause-b : goal.is_before-requires-clause-b
is_before-requires-clause-b c =
    let is = entry-is _ _ c.unwrap-other.result.now _ c.requires.0.above c.requires.0.there (rw c.unwrap-other.ensures at
    c.entry_of.ensures) in
    subst (λ (f : Pending). IsOfClass (map rule_of c.args.self.now.rules.now) f) is c.requires.0.fits

pub returns : goal.returns
returns c =
    let is = entry-is _ _ c.unwrap-other.result.now _ c.requires.0.above c.requires.0.there (rw c.unwrap-other.ensures at
    c.entry_of.ensures) in
    c.is_before.ensures ∙ sym (ap (is_before_some (map rule_of c.args.self.now.rules.now) (notice_of 0
    c.args.self.now.entry.now)) (c.requires.0.there ∙ ap (λ (f : Pending). Some f) is))
