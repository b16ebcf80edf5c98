-- The refusal of a whole program is that of its preamble, or else that of the sections after it.
use Rattle.std.proofs.Common.{◌≡◌, inl, inr, ℕ, zero, suc, ◌+◌, ◌-◌, ◌≤◌, ◌<◌, true, List, [], ◌∷◌, ◌++◌}
use Rattle.std.proofs.Common.{length, length-append, take, drop, Option, Some, None, Result, Ok, Err, refl, sym, ap}
use Rattle.std.proofs.Common.{subst, ◌∙◌, append_assoc, arith, le-leb}
use Rattle.std.specs.List.{flat_map}
use Rattle.std.proofs.lemmas.List.{append-nil, append_cancel_left, take_at, take-append-drop}
use Rattle.std.proofs.Math.Seq.{drop-nil, take-add}
use Rattle.ss_words.specs.declared.fault.TextRule.{TextRule}
use Rattle.ss_words.specs.declared.fault.TextRule.TheVariants as rule
use Rattle.ss_words.specs.declared.fault.TextFault.{TextFault}
use Rattle.ss_words.specs.declared.fault.TextFault.TheVariants.{Refused, Memory}
use Rattle.ss_words.specs.declared.mark.Mark.TheVariants as m
use Rattle.ss_words.specs.declared.reserved.Reserved.TheVariants as r
use Rattle.ss_words.specs.Words.{WordAt}
use Rattle.ss_words.specs.Plain.{Plain, PlainAt, mark, plains, first}
use Rattle.ss_words.specs.PlainRules.{plain_words_of}
use Rattle.ss_words.specs.Marks.{is}
use Rattle.ss_words.specs.Noting.{line}
use Rattle.ss_words.specs.Farthest.{IsFarthest}
use Rattle.ss_preamble.specs.Tree.{Preamble, Decls}
use Rattle.ss_preamble.specs.Spelling as spelling
use Rattle.ss_preamble.specs.Roles.{Role, roles}
use Rattle.ss_preamble.specs.WordLimits.{AreWithin}
use Rattle.ss_preamble.specs.Laws.{Program, spell_head}
use Rattle.ss_preamble.specs.Laws as preamble_laws
use Rattle.ss_preamble.specs.Refused.{HasPreamble, CountUpTo, AreDecls, lines, words_from, spell_text}
use Rattle.ss_preamble.specs.Refused as preamble
use Rattle.ss_preamble.proofs.Counting.{within_less, none_within}
use Rattle.ss_preamble.proofs.ItemLimits.{words_within}
use Rattle.ss_preamble.proofs.Unique.{one_head, has_preamble, same_count}
use Rattle.ss_preamble.proofs.WordsBehind.{drop_behind}
use Rattle.ss_preamble.proofs.Programs.{farthest_of_program}
use Rattle.ss_preamble.proofs.AnswerByReading as preamble_answer
use Rattle.ss_routines.specs.Places.{Section}
use Rattle.ss_routines.specs.Tree.{Tree, Head, MainHead, RoutineHead, EventHead}
use Rattle.ss_routines.specs.Tree as grammar
use Rattle.ss_routines.specs.Refused as sections
use Rattle.ss_routines.specs.Laws.{IsDefinite}
use Rattle.ss_routines.proofs.AlwaysAnswered.{always}
use Rattle.ss_routines.proofs.Unique.{less, equal, greater, order}
use Rattle.ss_routines.proofs.Whole.{room_less}
use Rattle.ss_session.specs.Refused.{spell, Begins, IsHead, InRoom, PassesLimit, IsUnexpectedWord, IsUnexpectedEnd}
use Rattle.ss_session.specs.Refused.{IsPastLimit, IsRefused}
use Rattle.ss_session.specs.Laws.{IsRefusedInPart, ProgramIsRefusedInPart}

-- ---- lists

shorter : (ws : List Plain) (j k : ℕ) → j ≤ k → take k ws ≡ take j ws ++ take (k - j) (drop j ws)
shorter ws j k le =
    ap (λ (i : ℕ). take i ws) (let h : k ≡ j + (k - j) = omega (arith, le) in h) ∙ take-add j (k - j) ws

front : (ws : List Plain) (k : ℕ) → length (take k ws) ≤ k
front [] zero = omega arith
front [] (suc k) = omega arith
front (w ∷ ws) zero = omega arith
front (w ∷ ws) (suc k) = let h = front ws k in omega (arith, h)

no_words : (k : ℕ) → take k (let us : List Plain = [] in us) ≡ []
no_words zero = refl
no_words (suc k) = refl

all_taken : (ws : List Plain) → take (length ws) ws ≡ ws
all_taken ws = ap (take (length ws)) (sym (append-nil ws)) ∙ take_at ws [] (length ws) refl

length_of : (ws : List PlainAt) → length (plains ws) ≡ length ws
length_of [] = refl
length_of (w ∷ ws) = ap suc (length_of ws)

plains_behind : (k : ℕ) (ws : List PlainAt) → plains (drop k ws) ≡ drop k (plains ws)
plains_behind zero ws = refl
plains_behind (suc k) [] = refl
plains_behind (suc k) (w ∷ ws) = plains_behind k ws

line_behind : (n k : ℕ) (ws : List PlainAt) → n ≤ length ws → line (lines (drop n ws)) k ≡ line (lines ws) (n + k)
line_behind zero k ws le = ap (line (lines ws)) (let h : k ≡ 0 + k = omega arith in h)
line_behind (suc n) k [] le = absurd (omega (arith, le))
line_behind (suc n) k (w ∷ ws) le =
    line_behind n k ws (omega (arith, le))
    ∙ ap (line (lines (w ∷ ws))) (let h : suc (n + k) ≡ suc n + k = omega arith in h)

drop_drop : (n k : ℕ) (ws : List Plain) → drop k (drop n ws) ≡ drop (n + k) ws
drop_drop zero k ws = ap (λ (i : ℕ). drop i ws) (let h : k ≡ 0 + k = omega arith in h)
drop_drop (suc n) k [] = drop-nil k ∙ sym (drop-nil (suc n + k))
drop_drop (suc n) k (w ∷ ws) =
    drop_drop n k ws ∙ ap (λ (i : ℕ). drop i (w ∷ ws)) (let h : suc (n + k) ≡ suc n + k = omega arith in h)

dropped : (n : ℕ) (ws : List Plain) → length (drop n ws) ≡ length ws - n
dropped zero ws = omega arith
dropped (suc n) [] = omega arith
dropped (suc n) (w ∷ ws) = let h = dropped n ws in omega (arith, h)

-- ---- the farthest word of any grammar

module _ {A : Type 0} (sp : A → List Plain) (ws : List Plain) where
  abbrev Start : ℕ → Type 0
  Start k = (t : A) × (x : List Plain) × (sp t ≡ take k ws ++ x)

  start_less : (j k : ℕ) → j ≤ k → Start k → Start j
  start_less j k le (t, x, e) = (
    t,
    take (k - j) (drop j ws) ++ x,
    e ∙ ap (λ (u : List Plain). u ++ x) (shorter ws j k le) ∙ append_assoc (take j ws) (take (k - j) (drop j ws)) x,
  )

  first_of_more : (us x : List Plain) (n : ℕ) → 0 < n → 0 < length us → first (take n us ++ x) ≡ first us
  first_of_more [] x n lt some = absurd (omega (arith, some))
  first_of_more (u ∷ us) x zero lt some = absurd (omega (arith, lt))
  first_of_more (u ∷ us) x (suc n) lt some = refl

  -- nothing begins with more words than the farthest place
  no_more : (k j : ℕ) → IsFarthest sp ws k → k < j → j ≤ length ws → Start j → ⊥
  no_more k j far lt le (t, x, e) =
      let size : length (drop k ws) ≡ length ws - k = dropped k ws in
      far.no_further t (take (j - k) (drop k ws) ++ x)
      (e ∙ ap (λ (u : List Plain). u ++ x) (shorter ws k j (omega (arith, lt)))
      ∙ append_assoc (take k ws) (take (j - k) (drop k ws)) x)
      (first_of_more (drop k ws) x (j - k) (omega (arith, lt)) (omega (arith, lt, le, size)))

  same_place : (k j : ℕ) → IsFarthest sp ws k → IsFarthest sp ws j → k ≡ j
  same_place k j a b = elim (order k j) [
    | less h ↦ absurd (no_more k j a h b.inside b.reached)
    | equal h ↦ h
    | greater h ↦ absurd (no_more j k b h a.inside a.reached)
  ]

  -- words that are spelled are refused nowhere
  spelled : (k : ℕ) (t : A) → ws ≡ sp t → IsFarthest sp ws k → ⊥
  spelled k t e far = far.no_further t (drop k ws) (sym e ∙ sym (take-append-drop k ws)) refl

-- ---- the limits

cut : (rs : List Role) (k : ℕ) → AreWithin rs → AreWithin (take k rs)
cut rs k h = within_less (take k rs) (drop k rs) (subst AreWithin (sym (take-append-drop k rs)) h)

fewer : (rs : List Role) (k j : ℕ) → k ≤ j → AreWithin (take j rs) → AreWithin (take k rs)
fewer rs k j le h =
    within_less (take k rs) (take (j - k) (drop k rs))
    (subst AreWithin (ap (λ (i : ℕ). take i rs) (let h : j ≡ k + (j - k) = omega (arith, le) in h)
    ∙ take-add k (j - k) rs) h)

no_sections : sections.InRoom []
no_sections = inl ([], within, [], refl)
  where
    within : sections.IsWithin []
    within = record {
      parentheses = omega arith;
      ifs = omega arith;
      phrases = omega arith;
      parameters = omega arith;
      sections = omega arith;
    }

-- if no word comes after the preamble's words, the words of the sections are within the limits
none_behind : (k n : ℕ) (us : List Plain) → k ≤ n → sections.InRoom (take (k - n) us)
none_behind k n us le =
    subst (λ (i : ℕ). sections.InRoom (take i us)) (let h : 0 ≡ k - n = omega (arith, le) in h) no_sections

same_head : (ws : List Plain) (n j : ℕ) → IsHead ws n → IsHead ws j → n ≡ j
same_head ws n j (inl a) (inl b) = a.1 ∙ sym b.1
same_head ws n j (inl a) (inr b) = absurd (a.0 b.0)
same_head ws n j (inr a) (inl b) = absurd (b.0 a.0)
same_head ws n j (inr a) (inr b) = same_count ws n j a.1 b.1

fewer_room : (ws : List Plain) (k j : ℕ) → k ≤ j → InRoom ws j → InRoom ws k
fewer_room ws k j le h = record {
  size = h.size;
  head = h.head;
  preamble_within = fewer (roles (take h.size ws)) k j le h.preamble_within;
  behind = room_less (drop h.size ws) (k - h.size) (j - h.size) (omega (arith, le)) h.behind;
}

-- ---- one refusal

same_limit : (ws : List Plain) (k j : ℕ) → PassesLimit ws k → PassesLimit ws j → k ≡ j
same_limit ws k j a b = elim (order k j) [
  | less h ↦ absurd (a.no_room (fewer_room ws (k + 1) j (omega (arith, h)) b.before))
  | equal h ↦ h
  | greater h ↦ absurd (b.no_room (fewer_room ws (j + 1) k (omega (arith, h)) a.before))
]

word_and_end : (ws : List Plain) (k : ℕ) → IsUnexpectedWord ws k → IsUnexpectedEnd ws → ⊥
word_and_end ws k a b =
    let e = same_place spell ws k (length ws) a.farthest b.farthest in let lt = a.is_word in omega (arith, e, lt)

word_and_limit : (ws : List Plain) (k j : ℕ) → IsUnexpectedWord ws k → PassesLimit ws j → ⊥
word_and_limit ws k j a b = elim (order k (j + 1)) [
  | less h ↦ no_more spell ws k (j + 1) a.farthest h (let i = b.is_word in omega (arith, i)) b.with_it
  | equal h ↦ b.no_room (fewer_room ws (j + 1) k (omega (arith, h)) a.in_room)
  | greater h ↦ b.no_room (fewer_room ws (j + 1) k (omega (arith, h)) a.in_room)
]

end_and_limit : (ws : List Plain) (j : ℕ) → IsUnexpectedEnd ws → IsPastLimit ws j → ⊥
end_and_limit ws j a b = elim (order (j + 1) (length ws)) [
  | less h ↦ b.passes.no_room (fewer_room ws (j + 1) (length ws - 1) (omega (arith, h)) a.in_room)
  | equal h ↦ b.goes_on h a.farthest
  | greater h ↦ let i = b.passes.is_word in omega (arith, h, i)
]

abbrev Same : TextRule → ℕ → TextRule → ℕ → Type 0
Same a l b n = (let x : TextFault = Refused a l in x) ≡ Refused b n

pub one_refusal : (ws : List PlainAt) (a b : TextRule) (l n : ℕ) → IsRefused a l ws → IsRefused b n ws → Same a l b n
one_refusal ws rule.UnexpectedWord rule.UnexpectedWord l n (k, x, p) (j, y, q) =
    ap (λ (i : ℕ). let f : TextFault = Refused rule.UnexpectedWord i in f)
    (p ∙ ap (line (lines ws)) (same_place spell (plains ws) k j x.farthest y.farthest) ∙ sym q)
one_refusal ws rule.UnexpectedWord rule.UnexpectedEnd l n (k, x, p) (y, q) = absurd (word_and_end (plains ws) k x y)
one_refusal ws rule.UnexpectedWord rule.PastLimit l n (k, x, p) (j, y, q) =
    absurd (word_and_limit (plains ws) k j x y.passes)
one_refusal ws rule.UnexpectedEnd rule.UnexpectedWord l n (x, p) (j, y, q) = absurd (word_and_end (plains ws) j y x)
one_refusal ws rule.UnexpectedEnd rule.UnexpectedEnd l n (x, p) (y, q) =
    ap (λ (i : ℕ). let f : TextFault = Refused rule.UnexpectedEnd i in f) (p ∙ sym q)
one_refusal ws rule.UnexpectedEnd rule.PastLimit l n (x, p) (j, y, q) = absurd (end_and_limit (plains ws) j x y)
one_refusal ws rule.PastLimit rule.UnexpectedWord l n (k, x, p) (j, y, q) =
    absurd (word_and_limit (plains ws) j k y x.passes)
one_refusal ws rule.PastLimit rule.UnexpectedEnd l n (k, x, p) (y, q) = absurd (end_and_limit (plains ws) k y x)
one_refusal ws rule.PastLimit rule.PastLimit l n (k, x, p) (j, y, q) =
    ap (λ (i : ℕ). let f : TextFault = Refused rule.PastLimit i in f)
    (p ∙ ap (line (lines ws)) (same_limit (plains ws) k j x.passes y.passes) ∙ sym q)
one_refusal ws rule.StrayByte b l n h g = absurd h
one_refusal ws rule.BadNumber b l n h g = absurd h
one_refusal ws rule.LongRun b l n h g = absurd h
one_refusal ws rule.NoPicture b l n h g = absurd h
one_refusal ws rule.LongPictureLine b l n h g = absurd h
one_refusal ws _ rule.StrayByte l n h g = absurd g
one_refusal ws _ rule.BadNumber l n h g = absurd g
one_refusal ws _ rule.LongRun l n h g = absurd g
one_refusal ws _ rule.NoPicture l n h g = absurd g
one_refusal ws _ rule.LongPictureLine l n h g = absurd g

-- ---- words that begin with a preamble, and words that begin with none

-- no sections begin with PREAMBLE
pub none_begins : (s : Tree) → HasPreamble (grammar.spell s) → ⊥
none_begins [] h = absurd cc
none_begins (t ∷ ts) h =
    by_head t.head (flat_map grammar.spell_define t.locals) (grammar.spell_block t.block)
    (mark (m.Reserved r.End) ∷ []) (grammar.spell ts) h
  where
    by_head : (d : Head) (a b c x : List Plain) → HasPreamble (grammar.spell_head d ++ a ++ b ++ c ++ x) → ⊥
    by_head MainHead a b c x h = absurd cc
    by_head (RoutineHead n ps ys) a b c x h = absurd cc
    by_head (EventHead n ps y) a b c x h = absurd cc

-- words that go on as the text does begin with its first word
same_first : (k : ℕ) (ws x : List Plain) → first x ≡ first (drop k ws) → first (take k ws ++ x) ≡ first ws
same_first zero ws x e = e
same_first (suc k) [] x e = e
same_first (suc k) (w ∷ ws) x e = refl

first_taken : (k : ℕ) (ws x : List Plain) → 0 < k → 0 < length ws → first (take k ws ++ x) ≡ first ws
first_taken k ws x lt some = first_of_more spell ws ws x k lt some

begins_as : (us ws : List Plain) → first us ≡ first ws → HasPreamble us → HasPreamble ws
begins_as us ws e h = subst (λ (o : Option Plain). is (m.Reserved r.Preamble) o ≡ true) e h

module _ (ws : List Plain) (begins : HasPreamble ws) where
  -- the farthest word of the preamble is the program's
  far_in_head : (k : ℕ) → IsFarthest spell_text ws k → IsFarthest spell ws k
  far_in_head = (farthest_of_program grammar.spell [] none_begins ws begins).0

  counted_begins : (n : ℕ) → CountUpTo ws n → Begins (take n ws)
  counted_begins n (inl far) = (far_in_head n far).reached
  counted_begins n (inr (items, x, e, at)) = (
    record { preamble = Some items; sections = [] },
    [],
    ap (λ (u : List Plain). u ++ [])
        (sym (ap (λ (i : ℕ). take i ws) at ∙ ap (take (length (spelling.spell items))) e
        ∙ take_at (spelling.spell items) x (length (spelling.spell items)) refl)),
  )

-- the words after the preamble's words are refused as the whole is
record Behind (ws : List Plain) (n : ℕ) : Type 0 where
  pub inside : n ≤ length ws
  pub head : IsHead ws n
  pub preamble_within : AreWithin (roles (take n ws))
  pub far : (k : ℕ) → IsFarthest grammar.spell (drop n ws) k → IsFarthest spell ws (n + k)
  pub back : (k : ℕ) → IsFarthest spell ws (n + k) → IsFarthest grammar.spell (drop n ws) k
  pub begins : (j : ℕ) → sections.Begins (take j (drop n ws)) → Begins (take (n + j) ws)
  pub whole : (t : Tree) → drop n ws ≡ grammar.spell t → (u : Program Tree) × (ws ≡ spell u)

module _ (ws : List Plain) (none : HasPreamble ws → ⊥) where
  spelled_so : (k : ℕ) (o : Option Preamble) (s : Tree) (x : List Plain)
      → spell_head o ++ grammar.spell s ≡ take k ws ++ x
      → first (take k ws ++ x) ≡ first ws → grammar.spell s ≡ take k ws ++ x
  spelled_so k None s x e at = e
  spelled_so k (Some p) s x e at =
      absurd (none (begins_as (spelling.spell p ++ grammar.spell s) ws (ap first e ∙ at) refl))

  far_none : (k : ℕ) → IsFarthest grammar.spell ws k → IsFarthest spell ws k
  far_none k far = record {
    inside = far.inside;
    reached =
        (let (s, x, e) = far.reached in (record { preamble = None; sections = s }, x, e));
    no_further = λ t x e at.
        far.no_further t.sections x (spelled_so k t.preamble t.sections x e (same_first k ws x at)) at;
  }

  back_none : (k : ℕ) → IsFarthest spell ws k → IsFarthest grammar.spell ws k
  back_none k far = record {
    inside = far.inside;
    reached =
        (let (t, x, e) = far.reached in reached k far.inside t.preamble t.sections x e);
    no_further = λ s x e at. far.no_further (record { preamble = None; sections = s }) x e at;
  }
    where
      reached : (k : ℕ) → k ≤ length ws → (o : Option Preamble) (s : Tree) (x : List Plain)
          → spell_head o ++ grammar.spell s ≡ take k ws ++ x
          → (t : Tree) × (y : List Plain) × (grammar.spell t ≡ take k ws ++ y)
      reached zero le o s x e = ([], [], refl)
      reached (suc k) le o s x e =
          (s, x, spelled_so (suc k) o s x e (first_taken (suc k) ws x (omega arith) (omega (arith, le))))

  behind_none : Behind ws 0
  behind_none = record {
    inside = omega arith;
    head = inl (none, refl);
    preamble_within = none_within;
    far = λ k far. subst (IsFarthest spell ws) (let h : k ≡ 0 + k = omega arith in h) (far_none k far);
    back = λ k far. back_none k (subst (IsFarthest spell ws) (let h : 0 + k ≡ k = omega arith in h) far);
    begins = λ j h. (
      record { preamble = None; sections = h.0 },
      h.1,
      h.2 ∙ ap (λ (i : ℕ). take i ws ++ h.1) (let h : j ≡ 0 + j = omega arith in h),
    );
    whole = λ t e. (record { preamble = None; sections = t }, e);
  }

module _ (ws : List Plain) (items : Preamble) (rest : List Plain) (split : ws ≡ spelling.spell items ++ rest) where
  abbrev n : ℕ
  n = length (spelling.spell items)

  starts : HasPreamble ws
  starts = has_preamble ws items rest split

  front_is : take n ws ≡ spelling.spell items
  front_is = ap (take n) split ∙ take_at (spelling.spell items) rest n refl

  rest_is : drop n ws ≡ rest
  rest_is = append_cancel_left (spelling.spell items) (drop n ws) rest
      (ap (λ (u : List Plain). u ++ drop n ws) (sym front_is) ∙ take-append-drop n ws ∙ split)

  taken : (k : ℕ) → take (n + k) ws ≡ spelling.spell items ++ take k (drop n ws)
  taken k = take-add n k ws ∙ ap (λ (u : List Plain). u ++ take k (drop n ws)) front_is

  sections_of : (k : ℕ) → 0 < length (spelling.spell items) → (o : Option Preamble) (s : Tree) (x : List Plain)
      → spell_head o ++ grammar.spell s ≡ take (n + k) ws ++ x → grammar.spell s ≡ take k (drop n ws) ++ x
  sections_of k some None s x e =
      absurd (none_begins s (begins_as ws (grammar.spell s)
      (sym (first_taken (n + k) ws x (omega (arith, some))
      (omega (arith, some, ap length split, length-append (spelling.spell items) rest))) ∙ sym (ap first e)) starts))
  sections_of k some (Some p) s x e =
      (one_head p items (grammar.spell s) (take k (drop n ws) ++ x)
      (e ∙ ap (λ (u : List Plain). u ++ x) (taken k)
      ∙ append_assoc (spelling.spell items) (take k (drop n ws)) x)).1

  whole_of : (k : ℕ) (s : Tree) (x : List Plain) → grammar.spell s ≡ take k (drop n ws) ++ x
      → spelling.spell items ++ grammar.spell s ≡ take (n + k) ws ++ x
  whole_of k s x e =
      ap (λ (u : List Plain). spelling.spell items ++ u) e
      ∙ sym (append_assoc (spelling.spell items) (take k (drop n ws)) x)
      ∙ ap (λ (u : List Plain). u ++ x) (sym (taken k))

  behind_read : AreWithin (roles (spelling.spell items)) → Behind ws n
  behind_read within =
      let some : 0 < length (spelling.spell items) = omega arith in
      let size : length ws ≡ n + length rest = ap length split ∙ length-append (spelling.spell items) rest in
      let left : length (drop n ws) ≡ length ws - n = dropped n ws in
      record {
        inside = omega (arith, size);
        head = inr (starts, inr (items, rest, split, refl));
        preamble_within = subst (λ (u : List Plain). AreWithin (roles u)) (sym front_is) within;
        far = λ k far.
            (farthest_of_program grammar.spell [] none_begins ws starts).1 items rest k split
            (subst (λ (u : List Plain). IsFarthest grammar.spell u k) rest_is far);
        back = λ k far. record {
          inside = (let le = far.inside in omega (arith, le, size, left));
          reached =
              (let (t, x, e) = far.reached in (t.sections, x, sections_of k some t.preamble t.sections x e));
          no_further = λ s x e at.
              far.no_further (record { preamble = Some items; sections = s }) x (whole_of k s x e)
              (at ∙ ap first (drop_drop n k ws));
        };
        begins = λ j h. (record { preamble = Some items; sections = h.0 }, h.1, whole_of j h.0 h.1 h.2);
        whole = λ t e. (
          record { preamble = Some items; sections = t },
          split ∙ ap (λ (u : List Plain). spelling.spell items ++ u) (sym rest_is ∙ e),
        );
      }

-- ---- a refusal in the preamble

in_preamble : (ws : List PlainAt) (rule : TextRule) (l : ℕ) → HasPreamble (plains ws) → preamble.IsRefusedBy rule l ws
    → IsRefused rule l ws
in_preamble ws rule.UnexpectedWord l begins (k, x, p) = (
  k,
  record {
    is_word = x.is_word;
    farthest = far_in_head (plains ws) begins k x.farthest;
    in_room = record {
      size = k;
      head = inr (begins, inl x.farthest);
      preamble_within = cut (roles (take k (plains ws))) k x.in_room;
      behind = none_behind k k (drop k (plains ws)) (omega arith);
    };
  },
  p,
)
in_preamble ws rule.UnexpectedEnd l begins (x, p) = (
  record {
    farthest = far_in_head (plains ws) begins (length (plains ws)) x.farthest;
    in_room = record {
      size = length (plains ws);
      head = inr (begins, inl x.farthest);
      preamble_within = subst (λ (u : List Plain). AreWithin (take (length (plains ws) - 1) (roles u)))
          (sym (all_taken (plains ws))) x.in_room;
      behind = none_behind (length (plains ws) - 1) (length (plains ws)) _ (omega arith);
    };
  },
  p,
)
in_preamble ws rule.PastLimit l begins (k, x, p) =
    let us = plains ws in
    let is_word = x.passes.is_word in
    let size = front us x.last in
    let goes_on = x.goes_on in (
      k,
      record {
        passes = record {
          is_word = omega (arith, goes_on);
          before = record {
            size = x.last;
            head = inr (begins, x.count);
            preamble_within = x.passes.before;
            behind = none_behind k x.last (drop x.last us) (omega (arith, is_word, size));
          };
          with_it = start_less spell us (k + 1) x.last (omega (arith, is_word, size))
              (counted_begins us begins x.last x.count);
          no_room = λ h. x.passes.no_room
              (subst (λ (i : ℕ). AreWithin (take (k + 1) (roles (take i us))))
              (same_head us h.size x.last h.head (inr (begins, x.count))) h.preamble_within);
        };
        goes_on = λ e far. omega (arith, e, goes_on);
      },
      p,
    )
in_preamble ws rule.StrayByte l begins h = absurd h
in_preamble ws rule.BadNumber l begins h = absurd h
in_preamble ws rule.LongRun l begins h = absurd h
in_preamble ws rule.NoPicture l begins h = absurd h
in_preamble ws rule.LongPictureLine l begins h = absurd h

-- ---- a refusal in the sections

module _ (ws : List PlainAt) (n : ℕ) (b : Behind (plains ws) n) where
  abbrev us : List Plain
  us = plains ws

  size : length (drop n us) ≡ length us - n
  size = dropped n us

  room : (k : ℕ) → sections.InRoom (take k (drop n us)) → InRoom us (n + k)
  room k h = record {
    size = n;
    head = b.head;
    preamble_within = cut (roles (take n us)) (n + k) b.preamble_within;
    behind = subst (λ (i : ℕ). sections.InRoom (take i (drop n us))) (let h : k ≡ n + k - n = omega arith in h) h;
  }

  room_back : (k : ℕ) → InRoom us (n + k) → sections.InRoom (take k (drop n us))
  room_back k h =
      let same : h.size ≡ n = same_head us h.size n h.head b.head in
      subst (λ (i : ℕ). sections.InRoom (take i (drop n us))) (let e : n + k - n ≡ k = omega arith in e)
      (subst (λ (j : ℕ). sections.InRoom (take (n + k - j) (drop j us))) same h.behind)

  line_at : (k : ℕ) → line (lines (drop n ws)) k ≡ line (lines ws) (n + k)
  line_at k = line_behind n k ws (let le = b.inside in omega (arith, le, length_of ws))

  -- the words after the preamble's words, as plain words
  plain : (P : List Plain → Type 0) → P (plains (drop n ws)) → P (drop n us)
  plain P h = subst P (plains_behind n ws) h

  in_sections : (rule : TextRule) (l : ℕ) → sections.IsRefused rule l (drop n ws) → IsRefused rule l ws
  in_sections rule.UnexpectedWord l (k, x, p) =
      let y = plain (λ u. sections.IsUnexpectedWord u k) x in
      let lt = y.is_word in (
        n + k,
        record {
          is_word = omega (arith, lt, size);
          farthest = b.far k y.farthest;
          in_room = room k y.in_room;
        },
        p ∙ line_at k,
      )
  in_sections rule.UnexpectedEnd l (x, p) =
      let y = plain sections.IsUnexpectedEnd x in
      let some = some_left y.farthest in
      let inside = b.inside in
      let all : n + length (drop n us) ≡ length us = omega (arith, size, inside) in
      let left : length (drop n ws) ≡ length (drop n us) =
      sym (length_of (drop n ws)) ∙ ap length (plains_behind n ws) in (
        record {
          farthest = subst (IsFarthest spell us) all (b.far (length (drop n us)) y.farthest);
          in_room = subst (InRoom us)
              (let e : n + (length (drop n us) - 1) ≡ length us - 1 = omega (arith, all, some) in e)
              (room (length (drop n us) - 1) y.in_room);
        },
        p ∙ line_at (length (drop n ws) - 1)
            ∙ ap (line (lines ws)) (let e : n + (length (drop n ws) - 1) ≡ length ws - 1 =
            omega (arith, all, some, left, length_of ws) in e),
      )
    where
      -- words are left, since none is a program
      some_left : IsFarthest grammar.spell (drop n us) (length (drop n us)) → 0 < length (drop n us)
      some_left far = at (drop n us) far
        where
          at : (vs : List Plain) → IsFarthest grammar.spell vs (length vs) → 0 < length vs
          at [] far = absurd (spelled grammar.spell [] 0 [] refl far)
          at (v ∷ vs) far = omega arith
  in_sections rule.PastLimit l (k, x, p) =
      let y = plain (λ u. sections.IsPastLimit u k) x in
      let lt = y.passes.is_word in
      let inside = b.inside in
      let next : n + (k + 1) ≡ n + k + 1 = omega arith in (
        n + k,
        record {
          passes = record {
            is_word = omega (arith, lt, size);
            before = room k y.passes.before;
            with_it = subst (λ (i : ℕ). Begins (take i us)) next (b.begins (k + 1) y.passes.with_it);
            no_room = λ h. y.passes.no_room (room_back (k + 1) (subst (InRoom us) (sym next) h));
          };
          goes_on = λ e far. y.goes_on (omega (arith, e, size))
              (b.back (length (drop n us))
              (subst (IsFarthest spell us)
              (let e : length us ≡ n + length (drop n us) = omega (arith, size, inside) in e)
              far));
        },
        p ∙ line_at k,
      )
  in_sections rule.StrayByte l h = absurd h
  in_sections rule.BadNumber l h = absurd h
  in_sections rule.LongRun l h = absurd h
  in_sections rule.NoPicture l h = absurd h
  in_sections rule.LongPictureLine l h = absurd h

  -- sections within the limits after the preamble are refused nowhere
  module _ (t : Tree) (w : sections.IsWithin t) (e : drop n us ≡ grammar.spell t) where
    nowhere : (k : ℕ) → IsFarthest spell us k → ⊥
    nowhere k far = let (u, is_so) = b.whole t e in spelled spell us k u is_so far

    all_in_room : (k : ℕ) → InRoom us k
    all_in_room k = record {
      size = n;
      head = b.head;
      preamble_within = cut (roles (take n us)) k b.preamble_within;
      behind = inl (t, w, drop (k - n) (drop n us), sym e ∙ sym (take-append-drop (k - n) (drop n us)));
    }

    not_refused : (rule : TextRule) (l : ℕ) → IsRefused rule l ws → ⊥
    not_refused rule.UnexpectedWord l (k, x, p) = nowhere k x.farthest
    not_refused rule.UnexpectedEnd l (x, p) = nowhere (length us) x.farthest
    not_refused rule.PastLimit l (k, x, p) = x.passes.no_room (all_in_room (k + 1))
    not_refused rule.StrayByte l h = h
    not_refused rule.BadNumber l h = h
    not_refused rule.LongRun l h = h
    not_refused rule.NoPicture l h = h
    not_refused rule.LongPictureLine l h = h

-- ---- both

from_zero : (ws : List PlainAt) → words_from 0 ws ≡ ws
from_zero [] = refl
from_zero (w ∷ ws) = rw (le-leb 0 w.index (omega arith)) (ap (λ (u : List PlainAt). w ∷ u) (from_zero ws))

module _ (words : List WordAt) where
  abbrev all : List PlainAt
  all = plain_words_of words

  behind : (d : Decls) (number : ℕ) → AreDecls d number all
      → (n : ℕ) × Behind (plains all) n × (words_from number all ≡ drop n all)
  behind d number (inl (none, e, z)) = (
    0,
    behind_none (plains all) none,
    ap (λ (i : ℕ). words_from i all) z ∙ from_zero all,
  )
  behind d number (inr p) = (
    length (spelling.spell p.items),
    behind_read (plains all) p.items p.behind p.words (words_within p.items p.within),
    drop_behind words d number p,
  )

  pub to_one : (r : TextRule) (l : ℕ) → IsRefusedInPart r l all → IsRefused r l all
  to_one r l (inl h) = in_preamble all r l h.begins h.refused
  to_one r l (inr (d, number, a, h)) =
      let (n, b, e) = behind d number a in in_sections all n b r l (subst (sections.IsRefused r l) e h)

  abbrev AreFault : TextFault → Type 0
  AreFault (Refused r l) = IsRefusedInPart r l all
  AreFault Memory = ⊥

  same_one : (r s : TextRule) (l k : ℕ) → IsRefused r l all → IsRefusedInPart s k all → IsRefusedInPart r l all
  same_one r s l k h x = subst AreFault (one_refusal all s r k l (to_one s k x) h) x

  by_sections : (r : TextRule) (l : ℕ) → IsRefused r l all → (d : Decls) (number : ℕ) → AreDecls d number all
      → (a : Result (List Section) TextFault) → IsDefinite a → sections.Answers a (words_from number all)
      → IsRefusedInPart r l all
  by_sections r l h d number x (Ok ss) definite (t, w, e, s) =
      let (n, b, at) = behind d number x in
      absurd (not_refused all n b t w (sym (plains_behind n all) ∙ ap plains (sym at) ∙ e) r l h)
  by_sections r l h d number x (Err (Refused s k)) definite y = same_one r s l k h (inr (d, number, x, y))
  by_sections r l h d number x (Err Memory) definite y = absurd definite

  by_preamble : (r : TextRule) (l : ℕ) → IsRefused r l all → (a : Result (Decls × ℕ) TextFault)
      → preamble_laws.IsDefinite a → preamble.Answers a all → IsRefusedInPart r l all
  by_preamble r l h (Ok (d, number)) definite x =
      let (a, said, y) = always (words_from number all) in by_sections r l h d number x a said y
  by_preamble r l h (Err (Refused s k)) definite x = same_one r s l k h (inl x)
  by_preamble r l h (Err Memory) definite x = absurd definite

  pub to_parts : (r : TextRule) (l : ℕ) → IsRefused r l all → IsRefusedInPart r l all
  to_parts r l h = let (a, definite, x) = preamble_answer.always all in by_preamble r l h a definite x

pub refused_in_part : ProgramIsRefusedInPart
refused_in_part ws r l = (to_one ws r l, to_parts ws r l)
