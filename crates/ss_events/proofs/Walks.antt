-- Walks of a list of a board: back from its end to a place, and from its start.
use Rattle.std.proofs.Common.{◌≡◌, ℕ, ◌+◌, ◌<◌, ◌≤◌, ◌++◌, ◌&&◌, Bool, true, false, List, [], ◌∷◌, length, Option, Some}
use Rattle.std.proofs.Common.{None, unwrap_or, refl, sym, ap, ◌∙◌, arith, length-append, append_assoc}
use Rattle.std.specs.Option.{IsSome}
use Rattle.std.specs.List.{list_all}
use Rattle.ss_links.specs.Board.{Board, list_at, list_of, IsSound}
use Rattle.ss_links.specs.Seats.{has, first_of, last_of, prev_in, next_in}
use Rattle.ss_links.proofs.SeatLaws.{has-append, has-last_of, times_in-present, seat_behind-between}
use Rattle.ss_links.proofs.SeatLaws.{seat_before-between}
use Rattle.ss_links.proofs.BoardLaws.{times-list_at, once-list_at, head_of-list_at, head_of-found}
use Rattle.ss_index.specs.Filing.{seats_passed, rest}
use Rattle.ss_index.proofs.FilingLaws.{seats_passed-behind, seats_passed-front, rest-behind, list_all-middle}
use Rattle.ss_events.proofs.Stands.{once-between}

-- a list walked back over some seats, which are after the place, to the seat before them
pub record IsWalked (p : ℕ → Bool) (l : List ℕ) (i : ℕ) (before : Option ℕ) : Type 0 where
  -- the seats that are left
  pub front : List ℕ
  -- those walked over
  pub rear : List ℕ
  pub whole : l ≡ front ++ rear
  pub last : before ≡ last_of front
  pub passed : seats_passed p l ≡ seats_passed p front
  pub divided : list_all p (rest p front) ≡ true
  pub long : length front + i ≡ length l

append-none : (l : List ℕ) → l ≡ l ++ []
append-none [] = refl
append-none (y ∷ ys) = ap (λ (m : List ℕ). y ∷ m) (append-none ys)

pub walked-none : (p : ℕ → Bool) (l : List ℕ) (before : Option ℕ) → before ≡ last_of l →
    list_all p (rest p l) ≡ true → IsWalked p l 0 before
walked-none p l before e d = record {
  front = l;
  rear = [];
  whole = append-none l;
  last = e;
  passed = refl;
  divided = d;
  long = omega arith;
}

-- a list without a last seat is empty
pub last-none : (l : List ℕ) → last_of l ≡ None → l ≡ []
last-none [] h = refl
last-none (y ∷ ys) h = absurd (cc)

-- a list that ends with a seat
record IsEnding (l : List ℕ) (x : ℕ) : Type 0 where
  others : List ℕ
  whole : l ≡ others ++ x ∷ []

ending : (l : List ℕ) (x : ℕ) → last_of l ≡ Some x → IsEnding l x
ending [] x h = absurd (cc)
ending (y ∷ ys) x h = elim (last_of ys)
    as (λ o. last_of ys ≡ o → Some (unwrap_or o y) ≡ Some x → IsEnding (y ∷ ys) x) [
      | None ↦ λ e k. let same : y ≡ x = cc in let none = last-none ys e in record { others = []; whole = rw (none, same) refl }
      | Some z ↦ λ e k. let same : z ≡ x = cc in let r = ending ys x (e ∙ ap (λ (w : ℕ). Some w) same) in record {
        others = y ∷ r.others;
        whole = ap (λ (m : List ℕ). y ∷ m) r.whole;
      }
    ] refl h

-- the seat that a walk came to is in the list
pub walked-has : (p : ℕ → Bool) (l : List ℕ) (i : ℕ) (before : Option ℕ) (x : ℕ) → IsWalked p l i before →
    before ≡ Some x → has l x ≡ true
walked-has p l i before x w e =
    let here = has-last_of w.front x (sym w.last ∙ e) in
    ap (λ (m : List ℕ). has m x) w.whole ∙ (has-append w.front w.rear x ∙ rw here refl)

-- a seat of a list is a seat of the board
pub listed-below : (b : Board) (h x : ℕ) → IsSound b → has (list_at b.lists h) x ≡ true → x < b.seats
listed-below b h x sound e =
    let one = times_in-present (list_at b.lists h) x e in
    let all = times-list_at b.lists h x in
    grind (arith, one, all, sound.below x)

-- the list of a seat of a list is that list
pub listed-list : (b : Board) (h x : ℕ) → IsSound b → has (list_at b.lists h) x ≡ true →
    list_of b.lists x ≡ list_at b.lists h
listed-list b h x sound e =
    (head_of-found b.lists x h (head_of-list_at b.lists h x e (sound.once x))).2

-- the walk goes over one seat more
pub walked-more : (p : ℕ → Bool) (b : Board) (h i x : ℕ) (before prev : Option ℕ) → IsSound b →
    IsWalked p (list_at b.lists h) i before → before ≡ Some x → p x ≡ true →
    prev ≡ prev_in (list_of b.lists x) x → IsWalked p (list_at b.lists h) (i + 1) prev
walked-more p b h i x before prev sound w e behind q =
    let l = list_at b.lists h in
    let r = ending w.front x (sym w.last ∙ e) in
    let whole : l ≡ r.others ++ x ∷ w.rear = w.whole ∙ (ap (λ (m : List ℕ). m ++ w.rear) r.whole ∙
    append_assoc r.others (x ∷ []) w.rear) in
    let apart = once-between r.others w.rear x (rw whole at (once-list_at b sound h x)) in
    let list = listed-list b h x sound (walked-has p l i before x w e) in
    let parts : (list_all p (rest p r.others) && (p x && true)) ≡ true = sym (list_all-middle p (rest p r.others) x []) ∙
    (ap (list_all p) (sym (rest-behind p r.others x [] behind)) ∙
    (ap (λ (m : List ℕ). list_all p (rest p m)) (sym r.whole) ∙ w.divided)) in
    record {
      front = r.others;
      rear = x ∷ w.rear;
      whole = whole;
      last = q ∙ (ap (λ (m : List ℕ). prev_in m x) (list ∙ whole) ∙ seat_before-between r.others w.rear x apart.0
          apart.1);
      passed = w.passed ∙ (ap (seats_passed p) r.whole ∙ seats_passed-behind p r.others x [] behind);
      divided = grind (arith, parts);
      long = omega (arith, w.long, ap length r.whole, length-append r.others (x ∷ []));
    }

-- the walk ends at a seat that is not after the place
pub walked-to : (p : ℕ → Bool) (l : List ℕ) (i x : ℕ) (before : Option ℕ) → IsWalked p l i before →
    before ≡ Some x → p x ≡ false → before ≡ last_of (seats_passed p l)
walked-to p l i x before w e passed =
    let r = ending w.front x (sym w.last ∙ e) in
    let all : seats_passed p w.front ≡ w.front = ap (seats_passed p) r.whole ∙ (seats_passed-front p r.others x [] passed
    (ap (λ (m : List ℕ). list_all p (rest p m)) (sym r.whole) ∙ w.divided) ∙ sym r.whole) in
    w.last ∙ ap last_of (sym (w.passed ∙ all))

-- or before the first seat
pub walked-out : (p : ℕ → Bool) (l : List ℕ) (i : ℕ) (before : Option ℕ) → IsWalked p l i before →
    before ≡ None → None ≡ last_of (seats_passed p l)
walked-out p l i before w e =
    let none = last-none w.front (sym w.last ∙ e) in
    sym (ap last_of (w.passed ∙ ap (seats_passed p) none))

pub walked-all : (p : ℕ → Bool) (l : List ℕ) (i : ℕ) (before : Option ℕ) → IsWalked p l i before →
    length l ≤ i → before ≡ last_of (seats_passed p l)
walked-all p l i before w h = go w.front refl
  where
    go : (f : List ℕ) → w.front ≡ f → before ≡ last_of (seats_passed p l)
    go [] e = w.last ∙ ap last_of (e ∙ sym (w.passed ∙ ap (seats_passed p) e))
    go (y ∷ ys) e = absurd (omega (arith, w.long, h, ap length e))

-- the first seats of a list, and the one after them
pub record IsLaid (l : List ℕ) (i : ℕ) (laid : List ℕ) (next : Option ℕ) : Type 0 where
  -- the seats that are left
  pub rear : List ℕ
  pub whole : l ≡ laid ++ rear
  pub first : next ≡ first_of rear
  pub long : length laid ≡ i

pub laid-none : (l : List ℕ) (next : Option ℕ) (laid : List ℕ) → laid ≡ [] → next ≡ first_of l → IsLaid l 0 laid next
laid-none l next laid n e = record { rear = l; whole = rw n refl; first = e; long = rw n refl }

pub laid-there : (l : List ℕ) (i : ℕ) (laid : List ℕ) (next : Option ℕ) → IsLaid l i laid next → i < length l →
    IsSome next
laid-there l i laid next w h = go w.rear refl
  where
    go : (r : List ℕ) → w.rear ≡ r → IsSome next
    go [] e = absurd (omega (arith, h, w.long, ap length w.whole, ap length e, length-append laid w.rear))
    go (y ∷ ys) e = rw (w.first ∙ ap first_of e) refl

pub laid-has : (l : List ℕ) (i x : ℕ) (laid : List ℕ) (next : Option ℕ) → IsLaid l i laid next → next ≡ Some x →
    has l x ≡ true
laid-has l i x laid next w e = go w.rear refl
  where
    go : (r : List ℕ) → w.rear ≡ r → has l x ≡ true
    go [] f = let none : None ≡ Some x = sym (w.first ∙ ap first_of f) ∙ e in absurd (cc)
    go (y ∷ ys) f =
        let some : Some y ≡ Some x = sym (w.first ∙ ap first_of f) ∙ e in
        let same : y ≡ x = cc in
        ap (λ (m : List ℕ). has m x) (w.whole ∙ ap (λ (m : List ℕ). laid ++ m) f) ∙ (has-append laid (y ∷ ys) x ∙
        grind (arith, same))

pub laid-more : (b : Board) (h i x : ℕ) (laid new : List ℕ) (next after : Option ℕ) → IsSound b →
    IsLaid (list_at b.lists h) i laid next → next ≡ Some x → new ≡ laid ++ x ∷ [] →
    after ≡ next_in (list_of b.lists x) x → IsLaid (list_at b.lists h) (i + 1) new after
laid-more b h i x laid new next after sound w e n q = go w.rear refl
  where
    l : List ℕ
    l = list_at b.lists h

    go : (r : List ℕ) → w.rear ≡ r → IsLaid (list_at b.lists h) (i + 1) new after
    go [] f = let none : None ≡ Some x = sym (w.first ∙ ap first_of f) ∙ e in absurd (cc)
    go (y ∷ ys) f =
        let some : Some y ≡ Some x = sym (w.first ∙ ap first_of f) ∙ e in
        let same : y ≡ x = cc in
        let whole : l ≡ laid ++ x ∷ ys = w.whole ∙ (ap (λ (m : List ℕ). laid ++ m) f ∙ ap (λ (z : ℕ). laid ++ z ∷ ys) same) in
        let apart = once-between laid ys x (rw whole at (once-list_at b sound h x)) in
        let list = listed-list b h x sound (laid-has l i x laid next w e) in
        record {
          rear = ys;
          whole = whole ∙ (sym (append_assoc laid (x ∷ []) ys) ∙ ap (λ (m : List ℕ). m ++ ys) (sym n));
          first = q ∙ (ap (λ (m : List ℕ). next_in m x) (list ∙ whole) ∙ seat_behind-between laid ys x apart.0);
          long = omega (arith, w.long, ap length n, length-append laid (x ∷ []));
        }

pub laid-all : (l : List ℕ) (i : ℕ) (laid : List ℕ) (next : Option ℕ) → IsLaid l i laid next → length l ≤ i → laid ≡ l
laid-all l i laid next w h = go w.rear refl
  where
    go : (r : List ℕ) → w.rear ≡ r → laid ≡ l
    go [] e = append-none laid ∙ sym (w.whole ∙ ap (λ (m : List ℕ). laid ++ m) e)
    go (y ∷ ys) e = absurd (omega (arith, h, w.long, ap length w.whole, ap length e, length-append laid w.rear))
