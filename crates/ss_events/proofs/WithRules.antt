-- The agenda without notices, and its board by class.
use Rattle.std.proofs.Common.{◌≡◌, ℕ, ◌+◌, ◌<◌, ◌≤◌, ◌++◌, List, [], ◌∷◌, length, map, refl, sym, ap, ◌∙◌, arith, suc}
use Rattle.std.proofs.Common.{zero, Option, Some, None, get_or, length-append}
use Rattle.std.proofs.Common.{true, slice_index}
use Rattle.std.specs.List.{range_with_len}
use Rattle.std.proofs.lemmas.List.FromFn.{map-range_with_len_more, length-map-range_with_len}
use Rattle.ss_links.specs.Board.{Board, times, with_head, list_at}
use Rattle.ss_links.specs.Seats.{has}
use Rattle.ss_words.specs.declared.limits.TheConstants.{MOST_CLASSES}
use Rattle.ss_events.specs.Agenda.{Pending, of_class}
use Rattle.ss_events.specs.Rules.{Rule, event_classes}
use Rattle.ss_events.specs.State.{AreRanked}
use Rattle.ss_events.specs.State.{AgendaState, seats_of, order, no_notices}
use Rattle.ss_events.specs.Places.{notice_on}
use Rattle.ss_events.specs.Indexes.{IsIndex, AreIndexes}
use Rattle.ss_events.specs.Rows.{IsAgenda, notices_from}
use Rattle.ss_events.specs.declared.pending_notice.Row.{Row}
use Rattle.ss_events.proofs.OrderLaws.{Each-of_class}
use Rattle.ss_events.proofs.EventLaws.{list_at-head}
use Rattle.ss_events.proofs.StateLaws.{AreSeated, seat_in-notice}
use Rattle.ss_events.proofs.BoardOf.{class_seats, Each-order}
use Rattle.ss_events.proofs.Stands.{told}

-- n heads with empty lists
abbrev pub empty_heads : ℕ → Board
empty_heads n = record { lists = map (λ c. []) (range_with_len 0 n); seats = 0 }

abbrev board_of_lists : List (List ℕ) → Board
board_of_lists ls = record { lists = ls; seats = 0 }

pub heads-more : (n : ℕ) → with_head (empty_heads n) ≡ empty_heads (n + 1)
heads-more n = ap board_of_lists (sym (map-range_with_len_more (λ c. []) 0 n n (omega arith)))

-- no indexes of no heads
pub indexes-none : (ls : List (Option (List ℕ))) (b : Board) → ls ≡ [] → b ≡ empty_heads 0 → AreIndexes ls b.lists
indexes-none ls b e h = rw (e, h) (record { count = refl; kept = λ i m f. absurd (cc) })

-- the indexes of heads, with one head more
pub indexes-more : (ls ms : List (Option (List ℕ))) (b c : Board) → ms ≡ ls ++ None ∷ [] → AreIndexes ls b.lists →
    c ≡ with_head b → AreIndexes ms c.lists
indexes-more ls ms b c e h k = rw (e, k) (record {
  count = omega (arith, h.count, length-append ls (None ∷ []), length-append b.lists ([] ∷ []));
  kept = λ i m f. more ls b.lists i m h.count h.kept f;
})
  where
    more : (ls : List (Option (List ℕ))) (qs : List (List ℕ)) (i : ℕ) (m : List ℕ) → length ls ≡ length qs →
        ((j : ℕ) → IsIndex (get_or ls j None) (list_at qs j)) → get_or (ls ++ None ∷ []) i None ≡ Some m →
        m ≡ list_at (qs ++ [] ∷ []) i
    more [] [] zero m l g f = absurd (cc)
    more [] [] (suc i) m l g f = absurd (cc)
    more [] (q ∷ qs) i m l g f = absurd (omega (arith, l))
    more (o ∷ os) [] i m l g f = absurd (omega (arith, l))
    more (o ∷ os) (q ∷ qs) zero m l g f = g 0 m f
    more (o ∷ os) (q ∷ qs) (suc i) m l g f = more os qs i m (omega (arith, l)) (λ j. g (suc j)) f

times-empty : (a n x : ℕ) → times (map (λ c. []) (range_with_len a n)) x ≡ 0
times-empty a zero x = refl
times-empty a (suc n) x = omega (arith, times-empty (a + 1) n x)

empty-each : (a : ℕ) (cs : List ℕ) → map {A = ℕ} {B = List ℕ} (λ c. []) (range_with_len a (length cs)) ≡ map (λ c. [])
    cs
empty-each a [] = refl
empty-each a (c ∷ cs) = ap (λ (ls : List (List ℕ)). [] ∷ ls) (empty-each (a + 1) cs)

pub begins : (rules : List Rule) (n : ℕ) (b : Board) → n ≡ length (event_classes rules) → AreRanked rules → length
    rules ≤ MOST_CLASSES →
    b ≡ empty_heads n → IsAgenda [] (no_notices rules) b
begins rules n b h r few e = record {
  read = refl;
  board = e ∙ (ap empty_heads h ∙ ap board_of_lists (empty-each 0 (event_classes rules)));
  sound = rw e (record { once = λ x. omega (arith, times-empty 0 n x); below = λ x l. times-empty 0 n x });
  seats = λ i l. absurd (omega arith);
  seated = λ m l. absurd (cc);
  once = λ m. omega arith;
  few = omega arith;
  pending = tt;
  filed = tt;
  filing = omega arith;
  ranked = r;
  next = omega arith;
  classes = few;
}

-- the notices of the seats of notices
notices-of_seats : (s : AgendaState) (es : List Pending) → AreSeated s.notices es →
    map (λ seat. notice_on s seat) (seats_of s.notices es) ≡ map (λ e. e.notice) es
notices-of_seats s [] h = refl
notices-of_seats s (e ∷ es) h = rw (seat_in-notice s.notices e.notice 0 h.0, notices-of_seats s es h.1) refl

pub by-class : (rows : List Row) (s : AgendaState) (b : Board) → IsAgenda rows s b → (c : ℕ) →
    c < length (event_classes s.rules) → map (λ seat. notice_on s seat) (list_at b.lists c) ≡ map (λ e. e.notice)
    (of_class (slice_index (event_classes s.rules) c) (order s))
by-class rows s b k c l =
    let t = told rows s b k in
    let own = slice_index (event_classes s.rules) c in
    let list = ap (λ (d : Board). list_at d.lists c) k.board ∙ list_at-head (class_seats s) s.rules c l in
    ap (map (λ seat. notice_on s seat)) list ∙ notices-of_seats s (of_class own (order s)) (Each-of_class (λ e. has
    s.notices e.notice ≡ true) own (order s) (Each-order (λ e. has s.notices e.notice ≡ true) s t t.seated))

pub heads-fit : (b : Board) (n : ℕ) → b ≡ empty_heads n → length b.lists ≡ n
heads-fit b n e = rw e (length-map-range_with_len (λ c. []) 0 n)

-- the agenda without notices, on its vectors
pub begins-on : (rows : List Row) (rules : List Rule) (ns : List ℕ) (n : ℕ) (b : Board) → rows ≡ [] → ns ≡ [] →
    n ≡ length (event_classes rules) → AreRanked rules → length rules ≤ MOST_CLASSES → b ≡ empty_heads n →
    IsAgenda rows (record {
      rules = rules;
      agenda = record { pending = notices_from 1 rows; next_filing = 1 };
      notices = ns;
    }) b
begins-on rows rules ns n b e f h r few i = rw (e, f) (begins rules n b h r few i)
