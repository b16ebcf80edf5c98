-- changes that have the numbers of their steps
use Rattle.std.proofs.Common.{◌≡◌, ℕ, zero, suc, ◌+◌, ◌-◌, ◌<◌, ◌≤◌, List, [], ◌∷◌, ◌++◌, Bool, true, false, refl, ap}
use Rattle.std.proofs.Common.{◌∙◌, sym, subst, arith, All, length}
use Rattle.std.specs.Prelude.{take, drop, reverse, max, nat_le, if◌then◌else◌}
use Rattle.std.proofs.lemmas.List.{take_all, take-append-drop, reverse-append}
use Rattle.std.proofs.lemmas.Bool.{lt-leb, leb-true, leb-false}
use Rattle.std.proofs.lemmas.List.Elements.{All-head, All-tail, All-nil, All-cons, All-append}
use Rattle.ss_byte_journal.specs.declared.sparse_journal.Numbered.{Numbered}
use Rattle.ss_byte_journal.specs.Numbered.{changes_of_step, changes_before, steps_from, AreOrdered}

-- ---- a step after all changes has none

pub none_later : {C : Type 0} (k latest : ℕ) (cs : List (Numbered C)) → AreOrdered latest cs → latest < k →
    changes_of_step k cs ≡ []
none_later k latest [] o h = refl
none_later k latest (c ∷ cs) o h = rw (lt-leb k c.step (omega (arith, o.0, h))) refl

pub all_before : {C : Type 0} (k latest : ℕ) (cs : List (Numbered C)) → AreOrdered latest cs → latest < k →
    changes_before k cs ≡ cs
all_before k latest [] o h = refl
all_before k latest (c ∷ cs) o h = rw (lt-leb k c.step (omega (arith, o.0, h))) refl

-- ---- order

pub ordered_later : {C : Type 0} (m n : ℕ) (cs : List (Numbered C)) → AreOrdered m cs → m ≤ n → AreOrdered n cs
ordered_later m n [] o h = tt
ordered_later m n (c ∷ cs) o h = (omega (arith, o.0, h), o.1)

-- with none in step k all are earlier
pub ordered_earlier : {C : Type 0} (k : ℕ) (cs : List (Numbered C)) → AreOrdered (suc k) cs →
    changes_of_step (suc k) cs ≡ [] → AreOrdered k cs
ordered_earlier k [] o none = tt
ordered_earlier k (c ∷ cs) o none = by (nat_le (suc k) c.step) refl none
  where
    by : (b : Bool) → nat_le (suc k) c.step ≡ b →
        (if b then c.change ∷ changes_of_step (suc k) cs else []) ≡ [] → (c.step ≤ k) × AreOrdered c.step cs
    by true e none = absurd (omega (arith, ap length none))
    by false e none = (omega (arith, leb-false (suc k) c.step e), o.1)

pub before_none : {C : Type 0} (k : ℕ) (cs : List (Numbered C)) → changes_of_step k cs ≡ [] → changes_before k cs ≡ cs
before_none k [] none = refl
before_none k (c ∷ cs) none = by (nat_le k c.step) none
  where
    by : (b : Bool) → (if b then c.change ∷ changes_of_step k cs else []) ≡ [] →
        (if b then changes_before k cs else c ∷ cs) ≡ c ∷ cs
    by true none = absurd (omega (arith, ap length none))
    by false none = refl

-- ---- steps

-- the newest step is the one before the open one
pub newest_step : {C : Type 0} (oldest k : ℕ) (cs : List (Numbered C)) → oldest ≤ k →
    steps_from (k + 1 - oldest) oldest cs
    ≡ changes_of_step k cs ∷ steps_from (k - oldest) oldest (changes_before k cs)
newest_step oldest k cs h =
    let one : k + 1 - oldest ≡ suc (k - oldest) = omega (arith, h) in
    let same : oldest + (k - oldest) ≡ k = omega (arith, h) in
    ap (λ n. steps_from n oldest cs) one
    ∙ ap (λ i. changes_of_step i cs ∷ steps_from (k - oldest) oldest (changes_before i cs)) same

pub steps_length : {C : Type 0} (n oldest : ℕ) (cs : List (Numbered C)) → length (steps_from n oldest cs) ≡ n
steps_length zero oldest cs = refl
steps_length (suc n) oldest cs = omega (arith, steps_length n oldest (changes_before (oldest + n) cs))

pub not_of_open : {C : Type 0} (k : ℕ) (c : Numbered C) (cs : List (Numbered C)) → c.step < k →
    changes_of_step k (c ∷ cs) ≡ []
not_of_open k c cs h = rw (lt-leb k c.step h) refl

-- the step before is opened again
pub opened_order : {C : Type 0} (k : ℕ) (cs : List (Numbered C)) → 0 < k → AreOrdered k cs →
    changes_of_step k cs ≡ [] → AreOrdered (k - 1) cs
opened_order zero cs some o none = absurd (omega (arith, some))
opened_order (suc k) cs some o none =
    let one : k ≡ suc k - 1 = omega arith in
    subst (λ i. AreOrdered i cs) one (ordered_earlier k cs o none)

pub opened_steps : {C : Type 0} (oldest k : ℕ) (cs : List (Numbered C)) → oldest < k → changes_of_step k cs ≡ [] →
    steps_from (k - oldest) oldest (changes_before k cs)
    ≡ changes_of_step (k - 1) cs ∷ steps_from (k - 1 - oldest) oldest (changes_before (k - 1) cs)
opened_steps oldest k cs some none =
    let one : k ≡ k - 1 + 1 = omega (arith, some) in
    ap (steps_from (k - oldest) oldest) (before_none k cs none)
    ∙ ap (λ i. steps_from (i - oldest) oldest cs) one
    ∙ newest_step oldest (k - 1) cs (omega (arith, some))

-- ---- the newest steps

pub newest_steps : {C : Type 0} (k d oldest : ℕ) (cs : List (Numbered C)) →
    take k (steps_from (k + d) oldest cs) ≡ steps_from k (oldest + d) cs
newest_steps zero d oldest cs = refl
newest_steps (suc k) d oldest cs =
    let all : suc k + d ≡ suc (k + d) = omega arith in
    let same : oldest + (k + d) ≡ oldest + d + k = omega arith in
    ap (λ i. take (suc k) (steps_from i oldest cs)) all
    ∙ ap (λ steps. changes_of_step (oldest + (k + d)) cs ∷ steps)
    (newest_steps k d oldest (changes_before (oldest + (k + d)) cs))
    ∙ ap (λ i. changes_of_step i cs ∷ steps_from k (oldest + d) (changes_before i cs)) same

-- the newest n, or all if there are fewer; the list begins at the step that is then the oldest
pub kept_steps : {C : Type 0} (n open_step oldest first : ℕ) (cs : List (Numbered C)) → oldest ≤ open_step →
    first ≡ max (open_step - n) oldest →
    steps_from (open_step - first) first cs ≡ take n (steps_from (open_step - oldest) oldest cs)
kept_steps n open_step oldest first cs within is = by (nat_le n (open_step - oldest)) refl
  where
    by : (b : Bool) → nat_le n (open_step - oldest) ≡ b →
        steps_from (open_step - first) first cs ≡ take n (steps_from (open_step - oldest) oldest cs)
    by true e =
        let few : n ≤ open_step - oldest = leb-true n (open_step - oldest) e in
        let d : ℕ = open_step - oldest - n in
        let all : open_step - oldest ≡ n + d = omega (arith, few) in
        let kept : open_step - first ≡ n = omega (arith, few, within, is) in
        let from : first ≡ oldest + d = omega (arith, few, within, is) in
        ap (λ i. steps_from i first cs) kept ∙ ap (λ i. steps_from n i cs) from
        ∙ sym (newest_steps n d oldest cs) ∙ ap (λ i. take n (steps_from i oldest cs)) (sym all)
    by false e =
        let many : open_step - oldest < n = leb-false n (open_step - oldest) e in
        let from : first ≡ oldest = omega (arith, many, within, is) in
        ap (λ i. steps_from (open_step - i) i cs) from
        ∙ sym (take_all n (steps_from (open_step - oldest) oldest cs)
        (omega (arith, many, steps_length (open_step - oldest) oldest cs)))

-- ---- changes of earlier steps after all others

of_step_by : {C : Type 0} (b : Bool) (x : C) (xs ys : List C) → xs ≡ ys →
    (if b then x ∷ xs else []) ≡ (if b then x ∷ ys else [])
of_step_by true x xs ys e = ap (λ zs. x ∷ zs) e
of_step_by false x xs ys e = refl

-- they are of no later step
pub of_step_without : {C : Type 0} (k : ℕ) (cs past : List (Numbered C)) → All (λ c. c.step < k) past →
    changes_of_step k (cs ++ past) ≡ changes_of_step k cs
of_step_without k [] [] p = refl
of_step_without k [] (c ∷ past) p = not_of_open k c past (All-head (λ c. c.step < k) c past p)
of_step_without k (c ∷ cs) past p =
    of_step_by (nat_le k c.step) c.change (changes_of_step k (cs ++ past)) (changes_of_step k cs)
    (of_step_without k cs past p)

before_by : {C : Type 0} (b : Bool) (c : Numbered C) (xs ys cs past : List (Numbered C)) → xs ≡ ys ++ past →
    (if b then xs else c ∷ (cs ++ past)) ≡ (if b then ys else c ∷ cs) ++ past
before_by true c xs ys cs past e = e
before_by false c xs ys cs past e = refl

-- and before each
pub before_without : {C : Type 0} (k : ℕ) (cs past : List (Numbered C)) → All (λ c. c.step < k) past →
    changes_before k (cs ++ past) ≡ changes_before k cs ++ past
before_without k [] [] p = refl
before_without k [] (c ∷ past) p = rw (lt-leb k c.step (All-head (λ c. c.step < k) c past p)) refl
before_without k (c ∷ cs) past p =
    before_by (nat_le k c.step) c (changes_before k (cs ++ past)) (changes_before k cs) cs past
    (before_without k cs past p)

pub all_later : {C : Type 0} (j k : ℕ) (past : List (Numbered C)) → j ≤ k → All (λ c. c.step < j) past →
    All (λ c. c.step < k) past
all_later j k [] h p = All-nil (λ c. c.step < k)
all_later j k (c ∷ past) h p =
    All-cons (λ c. c.step < k) c past (omega (arith, h, All-head (λ c. c.step < j) c past p))
    (all_later j k past h (All-tail (λ c. c.step < j) c past p))

pub steps_without : {C : Type 0} (n oldest : ℕ) (cs past : List (Numbered C)) → All (λ c. c.step < oldest) past →
    steps_from n oldest (cs ++ past) ≡ steps_from n oldest cs
steps_without zero oldest cs past p = refl
steps_without (suc n) oldest cs past p =
    let later : All (λ c. c.step < oldest + n) past = all_later oldest (oldest + n) past (omega arith) p in
    ap (λ xs. xs ∷ steps_from n oldest (changes_before (oldest + n) (cs ++ past)))
    (of_step_without (oldest + n) cs past later)
    ∙ ap (λ ys. changes_of_step (oldest + n) cs ∷ steps_from n oldest ys) (before_without (oldest + n) cs past later)
    ∙ ap (λ steps. changes_of_step (oldest + n) cs ∷ steps)
    (steps_without n oldest (changes_before (oldest + n) cs) past p)

pub ordered_without : {C : Type 0} (latest : ℕ) (cs past : List (Numbered C)) → AreOrdered latest (cs ++ past) →
    AreOrdered latest cs
ordered_without latest [] past o = tt
ordered_without latest (c ∷ cs) past o = (o.0, ordered_without c.step cs past o.1)

-- ---- the oldest changes

pub all_reversed : {C : Type 0} (k : ℕ) (cs : List (Numbered C)) → All (λ c. c.step < k) cs →
    All (λ c. c.step < k) (reverse cs)
all_reversed k [] p = p
all_reversed k (c ∷ cs) p =
    subst (All (λ c. c.step < k)) (sym (reverse-append (c ∷ []) cs))
    (All-append (λ c. c.step < k) (reverse cs) (c ∷ [])
    (all_reversed k cs (All-tail (λ c. c.step < k) c cs p))
    (All-cons (λ c. c.step < k) c [] (All-head (λ c. c.step < k) c cs p) (All-nil (λ c. c.step < k))))

pub parted : {A : Type 0} (i : ℕ) (xs : List A) → reverse xs ≡ reverse (drop i xs) ++ reverse (take i xs)
parted i xs = ap reverse (sym (take-append-drop i xs)) ∙ reverse-append (take i xs) (drop i xs)
