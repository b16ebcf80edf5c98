-- The laws of the reading of statements that hold no other.
use Rattle.std.proofs.Common.{◌≡◌, ◌⊎◌, ℕ, suc, ◌≤◌, ◌<◌, true, false, List, [], ◌∷◌, ◌++◌, length}
use Rattle.std.proofs.Common.{Option, Some, None, Ok, refl, sym, ap, ◌∙◌, append_assoc, arith}
use mathlib.Core.Logic.{inl, inr}
use Rattle.ss_words.specs.declared.mark.Mark.{Mark}
use Rattle.ss_words.specs.declared.mark.Mark.TheVariants as m
use Rattle.ss_words.specs.declared.word.Sign.TheVariants as s
use Rattle.ss_words.specs.declared.reserved.Reserved.TheVariants as r
use Rattle.ss_words.specs.Plain.{Plain, name, number, mark, picture, first}
use Rattle.ss_words.specs.Lists.{Name, Several, spell_several}
use Rattle.ss_words.specs.Reading.{Reading}
use Rattle.ss_words.specs.Marks.{is}
use Rattle.ss_words.proofs.Laws.{Good, Any, fits_option}
use Rattle.ss_words.proofs.Laws as word
use Rattle.ss_words.proofs.Local.{Rooms, Local}
use Rattle.ss_words.specs.declared.terms.SetEnd.{SetEnd}
use Rattle.ss_words.specs.declared.terms.SetEnd.TheVariants as end
use Rattle.ss_routines.specs.declared.tree.simple.Article.{Article}
use Rattle.ss_routines.specs.declared.tree.simple.Article.TheVariants as article
use Rattle.ss_routines.specs.Combined.{if_open, several}
use Rattle.ss_words.specs.declared.terms.TermSign.TheVariants.{Plus, Minus}
use Rattle.ss_routines.specs.Expr as x
use Rattle.ss_routines.specs.Expr.{Expr, expr, term, digits, applied, within, spell_within, spell_expr, depth_expr}
use Rattle.ss_routines.specs.ExprReading.{sign_of, expr_at, inner_at}
use Rattle.ss_routines.specs.Condition.{Reference, spell_subscript, spell_reference, depth_subscript, depth_reference}
use Rattle.ss_routines.specs.Simple.{Assign, Let, Add, Subtract, Making, Create, CreateEvery, Destroy, FilePlace}
use Rattle.ss_routines.specs.Simple.{ByDiscipline, AtEnd, Before, After, Filing, File, FileAt, RemoveEnd, Remove}
use Rattle.ss_routines.specs.Simple.{Listing, Unwritten, BehindGiven, InParentheses, Transfer, Call, Return, Stop}
use Rattle.ss_routines.specs.Simple.{Details, ValuesFirst, CalledFirst, When, At, Now, In, Timing, Schedule, Cancel}
use Rattle.ss_routines.specs.Simple.{StartSimulation, Exchange, Read, Print, Skip, Simple, Assigns, Makes, Files}
use Rattle.ss_routines.specs.Simple.{Transfers, Times, Exchanges}
use Rattle.ss_routines.specs.SimpleSpelling.{spell_behind, spell_listing, spell_called, spell_assign}
use Rattle.ss_routines.specs.SimpleSpelling.{spell_making, spell_end, spell_file_place, spell_filing, spell_transfer}
use Rattle.ss_routines.specs.SimpleSpelling.{spell_article, spell_details, spell_when, spell_timing, spell_exchange}
use Rattle.ss_routines.specs.SimpleSpelling.{spell_simple, greatest, greatest_of, depth_listing, depth_called}
use Rattle.ss_routines.specs.SimpleSpelling.{depth_assign, depth_making, depth_file_place, depth_filing, depth_transfer}
use Rattle.ss_routines.specs.SimpleSpelling.{depth_details, depth_when, depth_timing, depth_exchange, depth_simple}
use Rattle.ss_routines.specs.SimpleReading.{end_of, name_of, listing_of, list_of, list_behind, listing_with}
use Rattle.ss_routines.specs.SimpleReading.{subscript_at, reference_at, called_at, equation_at, moved_at, assign_at}
use Rattle.ss_routines.specs.SimpleReading.{named_at, making_at, file_place_at, file_at, remove_at, filing_at, call_at}
use Rattle.ss_routines.specs.SimpleReading.{transfer_at, details_at, when_at, an_article, schedule_at, timing_at}
use Rattle.ss_routines.specs.SimpleReading.{print_at, exchange_at, simple_at, assign_of, making_of, file_place_of}
use Rattle.ss_routines.specs.SimpleReading.{filing_of, transfer_of, article_of, details_of, when_of, timing_of}
use Rattle.ss_routines.specs.SimpleReading.{exchange_of, simple_of}
use Rattle.ss_routines.proofs.Tally.{Leaves, Tally, plain_word}
use Rattle.ss_routines.proofs.Form.{Form, Item, Table, name_form, number_form, picture_form, nothing_form}
use Rattle.ss_routines.proofs.Form.{pair_form, behind_form, before_form, made_form, mark_item, option_form, either_form}
use Rattle.ss_routines.proofs.Form.{table_item, word_item}
use Rattle.ss_routines.proofs.Items.{ending, ending_item, and_item, or_item, made_item}
use Rattle.ss_routines.proofs.Law.{Law, form_of, OpenLaw, open_item}
use Rattle.ss_routines.proofs.ExprLaw.{Ends, Wider, EndsList, expr_law, several_law, comma_ends, open_expr}
use Rattle.ss_routines.proofs.ExprLaw.{open_exprs}

-- a text that goes on with no part of a statement
pub record Calm (y : List Plain) : Type 0 where
  pub ends : Ends y
  pub no_comma : is (m.Sign s.Comma) (first y) ≡ false
  pub no_called : is (m.Reserved r.Called) (first y) ≡ false
  pub no_given : is (m.Reserved r.Given) (first y) ≡ false
  pub no_yielding : is (m.Reserved r.Yielding) (first y) ≡ false

-- a word that ends the part before it
pub ends_at : (w : Plain) (y : List Plain) → is (m.Sign s.Open) (Some w) ≡ false → is (m.Sign s.Star) (Some w) ≡ false
    → sign_of (Some w) ≡ None → Ends (w ∷ y)
ends_at w y a b c = record { no_open = a; no_star = b; no_sign = c }

pub calm_at : (w : Plain) (y : List Plain) → Ends (w ∷ y) → is (m.Sign s.Comma) (Some w) ≡ false
    → is (m.Reserved r.Called) (Some w) ≡ false → is (m.Reserved r.Given) (Some w) ≡ false
    → is (m.Reserved r.Yielding) (Some w) ≡ false → Calm (w ∷ y)
calm_at w y e a b c d = record { ends = e; no_comma = a; no_called = b; no_given = c; no_yielding = d }

-- the laws of a part after which nothing of a statement follows
pub record ItemLawOf {A : Type 0} (rooms : Rooms) (n : ℕ) (none : List Plain → Type 0) (fits : A → Type 0)
    (sp : A → List Plain) (p p' : Reading (Option A)) : Type 0 where
  pub good : Good (fits_option fits) (word.spell_option sp) [] p
  pub near : Local rooms p p'
  pub counted : Tally n p
  pub some : (a : A) → 0 < length (sp a)
  pub goes : (a : A) (y : List Plain) → fits a → Calm y → p (sp a ++ y) ≡ (Ok (Some a), y)
  pub stops : (y : List Plain) → none y → p y ≡ (Ok None, y)

-- no statement that holds no other begins there
abbrev pub NoSimple : List Plain → Type 0
NoSimple y =
    ((is (m.Reserved r.Create) (first y) ≡ false) × (is (m.Reserved r.Destroy) (first y) ≡ false))
    × (((is (m.Reserved r.File) (first y) ≡ false) × (is (m.Reserved r.Remove) (first y) ≡ false))
    × (((is (m.Reserved r.Call) (first y) ≡ false) ×
    ((is (m.Reserved r.Return) (first y) ≡ false) × (is (m.Reserved r.Stop) (first y) ≡ false)))
    × (((is (m.Reserved r.Schedule) (first y) ≡ false) ×
    ((is (m.Reserved r.Cancel) (first y) ≡ false) × (is (m.Reserved r.Start) (first y) ≡ false)))
    × (((is (m.Reserved r.Read) (first y) ≡ false) ×
    ((is (m.Reserved r.Print) (first y) ≡ false) × (is (m.Reserved r.Skip) (first y) ≡ false))) ×
    ((is (m.Reserved r.Let) (first y) ≡ false) ×
    ((is (m.Reserved r.Add) (first y) ≡ false) ×
    ((is (m.Reserved r.Subtract) (first y) ≡ false) × (name_of (first y) ≡ None))))))))

-- ---- tables

pub end_there : (w : SetEnd) → end_of (Some (spell_end w)) ≡ Some w
end_there end.First = refl
end_there end.Last = refl

pub end_only : (v : Option Plain) (w : SetEnd) → end_of v ≡ Some w → v ≡ Some (spell_end w)
end_only (Some (mark (m.Reserved r.First))) end.First e = refl
end_only (Some (mark (m.Reserved r.First))) end.Last e = absurd cc
end_only (Some (mark (m.Reserved r.Last))) end.Last e = refl
end_only (Some (mark (m.Reserved r.Last))) end.First e = absurd cc
end_only _ w e = absurd cc

pub end_leaves : (w : SetEnd) → Leaves 0 (spell_end w ∷ [])
end_leaves end.First = plain_word _ refl refl refl
end_leaves end.Last = plain_word _ refl refl refl

abbrev pub end_table : Table SetEnd
end_table = record { of = end_of; word = spell_end; there = end_there; only = end_only; leaves = end_leaves }

pub name_only : (v : Option Plain) (w : Name) → name_of v ≡ Some w → v ≡ Some (name w)
name_only (Some (name k)) w e =
    let same : k ≡ w = cc in ap (λ (j : Name). let o : Option Plain = Some (name j) in o) same
name_only _ w e = absurd cc

pub name_leaves : (w : Name) → Leaves 0 (name w ∷ [])
name_leaves w = plain_word _ refl refl refl

abbrev pub name_table : Table Name
name_table = record { of = name_of; word = name; there = λ w. refl; only = name_only; leaves = name_leaves }

given_leaves : Leaves 0 (mark (m.Reserved r.Given) ∷ [])
given_leaves = plain_word _ refl refl refl

-- ---- lists

module _ {A : Type 0} {rooms : Rooms} {n : ℕ} (d : A → ℕ) (sp : A → List Plain) (ends : List Plain → Type 0)
    (p p' : Reading A) (l : Law rooms n (λ a. d a ≤ n) sp ends p p')
    (c : (y : List Plain) → ends (mark (m.Sign s.Comma) ∷ y)) where
  abbrev pub several_part : Form rooms n (Several A)
  several_part =
      form_of rooms n (λ xs. greatest_of d xs ≤ n) (spell_several sp) (EndsList ends) (several p) (several p')
      (several_law d sp ends p p' l c)

  split_list : List A → Option (Several A)
  split_list [] = None
  split_list (x ∷ xs) = Some (record { first = x; others = xs })

  whole_list : (xs : List A) → list_of (split_list xs) ≡ xs
  unfolding split_list
  whole_list [] = refl
  whole_list (x ∷ xs) = refl

  module _ (k : Mark) (lk : Leaves 0 (mark k ∷ [])) where
    list_spelled : (x : Option (Several A)) → spell_behind k sp
        (list_of x) ≡ (option_form (mark_item k lk several_part)).sp x
    list_spelled None = refl
    list_spelled (Some xs) = refl

    list_there : (x : Option (Several A)) → (option_form (mark_item k lk several_part)).fits x
        → greatest d (list_of x) ≤ n
    list_there None h = omega arith
    list_there (Some xs) h = h

    list_back : (xs : List A) → greatest d xs ≤ n → (option_form (mark_item k lk several_part)).fits (split_list xs)
    unfolding split_list
    list_back [] h = tt
    list_back (x ∷ xs) h = h

    pub list_law : Law rooms n (λ xs. greatest d xs ≤ n) (spell_behind k sp)
        (λ y. EndsList ends y × (is k (first y) ≡ false)) (list_behind k p) (list_behind k p')
    unfolding list_behind
    list_law =
        let f = made_form (option_form (mark_item k lk several_part)) (spell_behind k sp) (λ xs. greatest d xs ≤ n)
        list_of split_list whole_list list_spelled list_there list_back in
        record { good = f.good; near = f.near; counted = f.counted; again = f.again }

  -- in parentheses or after GIVEN
  module _ (j : ℕ) (q q' : Reading A) (lo : OpenLaw rooms n (greatest_of d) (spell_several sp) (if_open n (several q))
      (if_open j (several q'))) where
    abbrev in_parentheses : Form rooms n (Option (Several A))
    in_parentheses =
        option_form (open_item rooms n (greatest_of d) (spell_several sp) (if_open n (several q))
        (if_open j (several q')) lo)

    abbrev EndsListing : List Plain → Type 0
    EndsListing y =
        EndsList ends y × ((is (m.Sign s.Open) (first y) ≡ false) × (is (m.Reserved r.Given) (first y) ≡ false))

    abbrev parentheses_end : Form rooms n (Option (Several A))
    parentheses_end = ending in_parentheses EndsListing (λ y e. (tt, e.1.0))

    not_given : (b : Option (Several A)) (y : List Plain) → EndsListing y
        → is (m.Reserved r.Given) (first (parentheses_end.sp b ++ y)) ≡ false
    not_given None y e = e.1.1
    not_given (Some xs) y e = refl

    abbrev listing_part : Form rooms n (Several A ⊎ Option (Several A))
    listing_part =
        either_form (mark_item (m.Reserved r.Given) given_leaves several_part) parentheses_end
        (λ b y f e. not_given b y e)

    split_listing : Listing A → Several A ⊎ Option (Several A)
    split_listing Unwritten = inr None
    split_listing (BehindGiven xs) = inl xs
    split_listing (InParentheses xs) = inr (Some xs)

    whole_listing : (xs : Listing A) → listing_of (split_listing xs) ≡ xs
    unfolding split_listing
    whole_listing Unwritten = refl
    whole_listing (BehindGiven xs) = refl
    whole_listing (InParentheses xs) = refl

    listing_spelled : (x : Several A ⊎ Option (Several A)) → spell_listing sp (listing_of x) ≡ listing_part.sp x
    listing_spelled (inl xs) = refl
    listing_spelled (inr None) = refl
    listing_spelled (inr (Some xs)) = refl

    listing_there : (x : Several A ⊎ Option (Several A)) → listing_part.fits x → depth_listing d (listing_of x) ≤ n
    listing_there (inl xs) h = h
    listing_there (inr None) h = omega arith
    listing_there (inr (Some xs)) h = h

    listing_back : (xs : Listing A) → depth_listing d xs ≤ n → listing_part.fits (split_listing xs)
    unfolding split_listing
    listing_back Unwritten h = tt
    listing_back (BehindGiven xs) h = h
    listing_back (InParentheses xs) h = h

    pub listing_law : Law rooms n (λ xs. depth_listing d xs ≤ n) (spell_listing sp) EndsListing (listing_with n p q)
        (listing_with j p' q')
    unfolding listing_with
    listing_law =
        let f = made_form listing_part (spell_listing sp) (λ xs. depth_listing d xs ≤ n) listing_of split_listing
        whole_listing listing_spelled listing_there listing_back in
        record { good = f.good; near = f.near; counted = f.counted; again = λ a y h e. f.again a y h (e.0, e) }

-- ---- the statements

module _ (rooms : Rooms) (n k : ℕ) (w : Wider rooms n k) where
  abbrev ItemLaw : {A : Type 0} → (List Plain → Type 0) → (A → Type 0) → (A → List Plain) → Reading (Option A)
      → Reading (Option A) → Type 0
  ItemLaw none fits sp p p' = ItemLawOf rooms n none fits sp p p'

  abbrev of_item : {A : Type 0} (I : Item rooms n A) → ((y : List Plain) → Calm y → I.ends y)
      → ItemLaw I.none I.fits I.sp I.p I.p'
  of_item I h =
      record {
        good = I.good;
        near = I.near;
        counted = I.counted;
        some = I.some;
        goes = λ a y f e. I.goes a y f (h y e);
        stops = I.stops;
      }

  abbrev item_of : {A : Type 0} (none : List Plain → Type 0) (fits : A → Type 0) (sp : A → List Plain)
      (p p' : Reading (Option A)) → ItemLaw none fits sp p p' → Item rooms n A
  item_of none fits sp p p' l =
      record {
        sp = sp;
        fits = fits;
        ends = Calm;
        none = none;
        p = p;
        p' = p';
        good = l.good;
        near = l.near;
        counted = l.counted;
        some = l.some;
        goes = l.goes;
        stops = l.stops;
      }

  abbrev pub an_expr : Form rooms n Expr
  an_expr = form_of rooms n (λ e. depth_expr e ≤ n) spell_expr Ends (expr_at n) (expr_at k) (expr_law rooms n k w)

  abbrev subscript_item : Item rooms n Expr
  subscript_item =
      open_item rooms n depth_expr spell_expr (if_open n (inner_at n)) (if_open k (inner_at k)) (open_expr rooms n k w)

  abbrev EndsName : List Plain → Type 0
  EndsName y = is (m.Sign s.Open) (first y) ≡ false

  abbrev a_subscript : Form rooms n (Option Expr)
  a_subscript = ending (option_form subscript_item) EndsName (λ y e. (tt, e))

  reference_spelled : (x : Name × Option Expr) → spell_reference
      (record { name = x.0; subscript = x.1 }) ≡ (pair_form (name_form rooms n) a_subscript (λ b y f e. tt)).sp x
  reference_spelled (v, None) = refl
  reference_spelled (v, Some e) = refl

  reference_there : (x : Name × Option Expr) → (pair_form (name_form rooms n) a_subscript (λ b y f e. tt)).fits x
      → depth_reference (record { name = x.0; subscript = x.1 }) ≤ n
  reference_there (v, None) h = omega arith
  reference_there (v, Some e) h = h.1

  subscript_fits : (e : Option Expr) → depth_subscript e ≤ n → fits_option (λ e. suc (depth_expr e) ≤ n) e
  subscript_fits None h = tt
  subscript_fits (Some e) h = h

  pub reference_law : Law rooms n (λ v. depth_reference v ≤ n) spell_reference EndsName (reference_at n)
      (reference_at k)
  unfolding reference_at subscript_at
  reference_law =
      let f = made_form (pair_form (name_form rooms n) a_subscript (λ b y f e. tt)) spell_reference
      (λ v. depth_reference v ≤ n) (λ x. record { name = x.0; subscript = x.1 }) (λ v. (v.name, v.subscript))
      (λ v. refl) reference_spelled reference_there (λ v h. (tt, subscript_fits v.subscript h)) in
      record { good = f.good; near = f.near; counted = f.counted; again = f.again }

  abbrev pub a_reference : Form rooms n Reference
  a_reference =
      form_of rooms n (λ v. depth_reference v ≤ n) spell_reference EndsName (reference_at n) (reference_at k)
      reference_law

  -- ---- [CALLED ref]

  called_leaves : Leaves 0 (mark (m.Reserved r.Called) ∷ [])
  called_leaves = plain_word _ refl refl refl

  abbrev EndsCalled : List Plain → Type 0
  EndsCalled y = EndsName y × (is (m.Reserved r.Called) (first y) ≡ false)

  abbrev a_called : Form rooms n (Option Reference)
  a_called = ending (option_form (mark_item (m.Reserved r.Called) called_leaves a_reference)) EndsCalled (λ y e. e)

  called_spelled : (v : Option Reference) → spell_called v ≡ a_called.sp v
  called_spelled None = refl
  called_spelled (Some v) = refl

  called_there : (v : Option Reference) → a_called.fits v → depth_called v ≤ n
  called_there None h = omega arith
  called_there (Some v) h = h

  called_back : (v : Option Reference) → depth_called v ≤ n → a_called.fits v
  called_back None h = tt
  called_back (Some v) h = h

  subscript_spelled : (e : Option Expr) → spell_subscript e ≡ a_subscript.sp e
  subscript_spelled None = refl
  subscript_spelled (Some e) = refl

  subscript_there : (e : Option Expr) → a_subscript.fits e → depth_subscript e ≤ n
  subscript_there None h = omega arith
  subscript_there (Some e) h = h

  subscript_law : Law rooms n a_subscript.fits a_subscript.sp EndsName (subscript_at n) (subscript_at k)
  unfolding subscript_at
  subscript_law = let f = a_subscript in record { good = f.good; near = f.near; counted = f.counted; again = f.again }

  called_law : Law rooms n a_called.fits a_called.sp EndsCalled (called_at n) (called_at k)
  unfolding called_at
  called_law = let f = a_called in record { good = f.good; near = f.near; counted = f.counted; again = f.again }

  -- the parts that the readings name
  abbrev the_subscript : Form rooms n (Option Expr)
  the_subscript =
      form_of rooms n a_subscript.fits a_subscript.sp EndsName (subscript_at n) (subscript_at k) subscript_law

  abbrev the_called : Form rooms n (Option Reference)
  the_called = form_of rooms n a_called.fits a_called.sp EndsCalled (called_at n) (called_at k) called_law

  -- ---- assignments

  equal_leaves : Leaves 0 (mark (m.Sign s.Equal) ∷ [])
  equal_leaves = plain_word _ refl refl refl

  let_leaves : Leaves 0 (mark (m.Reserved r.Let) ∷ [])
  let_leaves = plain_word _ refl refl refl

  add_leaves : Leaves 0 (mark (m.Reserved r.Add) ∷ [])
  add_leaves = plain_word _ refl refl refl

  subtract_leaves : Leaves 0 (mark (m.Reserved r.Subtract) ∷ [])
  subtract_leaves = plain_word _ refl refl refl

  to_leaves : Leaves 0 (mark (m.Reserved r.To) ∷ [])
  to_leaves = plain_word _ refl refl refl

  from_leaves : Leaves 0 (mark (m.Reserved r.From) ∷ [])
  from_leaves = plain_word _ refl refl refl

  in_leaves : Leaves 0 (mark (m.Reserved r.In) ∷ [])
  in_leaves = plain_word _ refl refl refl

  -- ref "=" expr
  abbrev equation : Form rooms n (Reference × Expr)
  equation = pair_form (before_form a_reference (m.Sign s.Equal) equal_leaves (λ y. refl)) an_expr (λ b y f e. tt)

  equation_law : Law rooms n equation.fits equation.sp Ends (equation_at n) (equation_at k)
  unfolding equation_at
  equation_law = let f = equation in record { good = f.good; near = f.near; counted = f.counted; again = f.again }

  abbrev the_equation : Form rooms n (Reference × Expr)
  the_equation = form_of rooms n equation.fits equation.sp Ends (equation_at n) (equation_at k) equation_law

  -- expr k ref
  module _ (j : Mark) (lj : Leaves 0 (mark j ∷ [])) (c : (y : List Plain) → Ends (mark j ∷ y)) where
    abbrev moved : Form rooms n (Expr × Reference)
    moved = pair_form (before_form an_expr j lj c) a_reference (λ b y f e. tt)

    moved_law : Law rooms n moved.fits moved.sp EndsName (moved_at n j) (moved_at k j)
    unfolding moved_at
    moved_law = let f = moved in record { good = f.good; near = f.near; counted = f.counted; again = f.again }

    abbrev the_moved : Form rooms n (Expr × Reference)
    the_moved = form_of rooms n moved.fits moved.sp EndsName (moved_at n j) (moved_at k j) moved_law

  -- after the name of a bare assignment
  abbrev bare : Form rooms n (Option Expr × Expr)
  bare = pair_form (before_form the_subscript (m.Sign s.Equal) equal_leaves (λ y. refl)) an_expr (λ b y f e. tt)

  abbrev bare_item : Item rooms n (Name × (Option Expr × Expr))
  bare_item = ending_item (word_item name_table bare) Calm (λ y e. e.ends)

  abbrev let_item : Item rooms n (Reference × Expr)
  let_item = ending_item (mark_item (m.Reserved r.Let) let_leaves the_equation) Calm (λ y e. e.ends)

  abbrev add_item : Item rooms n (Expr × Reference)
  add_item =
      ending_item (mark_item (m.Reserved r.Add) add_leaves
      (the_moved (m.Reserved r.To) to_leaves (λ y. ends_at _ y refl refl refl))) Calm
      (λ y e. let h = e.ends in h.no_open)

  abbrev subtract_item : Item rooms n (Expr × Reference)
  subtract_item =
      ending_item (mark_item (m.Reserved r.Subtract) subtract_leaves
      (the_moved (m.Reserved r.From) from_leaves (λ y. ends_at _ y refl refl refl))) Calm
      (λ y e. let h = e.ends in h.no_open)

  abbrev assign_2 : Item rooms n ((Expr × Reference) ⊎ (Name × (Option Expr × Expr)))
  assign_2 = or_item subtract_item bare_item (λ b y f e. refl)

  not_add : (b : (Expr × Reference) ⊎ (Name × (Option Expr × Expr))) (y : List Plain)
      → is (m.Reserved r.Add) (first (assign_2.sp b ++ y)) ≡ false
  not_add (inl x) y = refl
  not_add (inr x) y = refl

  abbrev assign_1 : Item rooms n ((Expr × Reference) ⊎ ((Expr × Reference) ⊎ (Name × (Option Expr × Expr))))
  assign_1 = or_item add_item assign_2 (λ b y f e. not_add b y)

  not_let : (b : (Expr × Reference) ⊎ ((Expr × Reference) ⊎ (Name × (Option Expr × Expr)))) (y : List Plain)
      → is (m.Reserved r.Let) (first (assign_1.sp b ++ y)) ≡ false
  not_let (inl x) y = refl
  not_let (inr (inl x)) y = refl
  not_let (inr (inr x)) y = refl

  abbrev AssignParts : Type 0
  AssignParts = (Reference × Expr) ⊎ ((Expr × Reference) ⊎ ((Expr × Reference) ⊎ (Name × (Option Expr × Expr))))

  abbrev assign_0 : Item rooms n AssignParts
  assign_0 = or_item let_item assign_1 (λ b y f e. not_let b y)

  split_assign : Assign → AssignParts
  split_assign (Let true v e) = inl (v, e)
  split_assign (Let false v e) = inr (inr (inr (v.name, (v.subscript, e))))
  split_assign (Add e v) = inr (inl (e, v))
  split_assign (Subtract e v) = inr (inr (inl (e, v)))

  whole_assign : (a : Assign) → assign_of (split_assign a) ≡ a
  unfolding split_assign
  whole_assign (Let true v e) = refl
  whole_assign (Let false v e) = refl
  whole_assign (Add e v) = refl
  whole_assign (Subtract e v) = refl

  assign_spelled : (x : AssignParts) → spell_assign (assign_of x) ≡ assign_0.sp x
  assign_spelled (inl (v, e)) =
      ap (λ (u : List Plain). mark (m.Reserved r.Let) ∷ u)
      (sym (append_assoc (spell_reference v) (mark (m.Sign s.Equal) ∷ []) (spell_expr e)))
  assign_spelled (inr (inl (e, v))) =
      ap (λ (u : List Plain). mark (m.Reserved r.Add) ∷ u)
      (sym (append_assoc (spell_expr e) (mark (m.Reserved r.To) ∷ []) (spell_reference v)))
  assign_spelled (inr (inr (inl (e, v)))) =
      ap (λ (u : List Plain). mark (m.Reserved r.Subtract) ∷ u)
      (sym (append_assoc (spell_expr e) (mark (m.Reserved r.From) ∷ []) (spell_reference v)))
  assign_spelled (inr (inr (inr (v, (None, e))))) = refl
  assign_spelled (inr (inr (inr (v, (Some i, e))))) =
      ap (λ (u : List Plain). name v ∷ u) (sym (append_assoc (spell_within (spell_expr i)) (mark (m.Sign s.Equal) ∷ [])
      (spell_expr e)))

  assign_there : (x : AssignParts) → assign_0.fits x → depth_assign (assign_of x) ≤ n
  assign_there (inl (v, e)) h = let i = h.0 in let j = h.1 in omega (arith, i, j)
  assign_there (inr (inl (e, v))) h = let i = h.0 in let j = h.1 in omega (arith, i, j)
  assign_there (inr (inr (inl (e, v)))) h = let i = h.0 in let j = h.1 in omega (arith, i, j)
  assign_there (inr (inr (inr (v, (None, e))))) h = let j = h.1 in omega (arith, j)
  assign_there (inr (inr (inr (v, (Some i, e))))) h = let a = h.0 in let j = h.1 in omega (arith, a, j)

  assign_back : (a : Assign) → depth_assign a ≤ n → assign_0.fits (split_assign a)
  unfolding split_assign
  assign_back (Let true v e) h = (omega (arith, h), omega (arith, h))
  assign_back (Let false v e) h = (subscript_fits v.subscript (omega (arith, h)), omega (arith, h))
  assign_back (Add e v) h = (omega (arith, h), omega (arith, h))
  assign_back (Subtract e v) h = (omega (arith, h), omega (arith, h))

  assign_law : ItemLaw assign_0.none (λ a. depth_assign a ≤ n) spell_assign (assign_at n) (assign_at k)
  unfolding assign_at subscript_at
  assign_law =
      of_item (made_item assign_0 spell_assign (λ a. depth_assign a ≤ n) assign_of split_assign whole_assign
      assign_spelled assign_there assign_back) (λ y e. (e, (e, (e, e))))

  abbrev assign_item : Item rooms n Assign
  assign_item = item_of assign_0.none (λ a. depth_assign a ≤ n) spell_assign (assign_at n) (assign_at k) assign_law

  create_leaves : Leaves 0 (mark (m.Reserved r.Create) ∷ [])
  create_leaves = plain_word _ refl refl refl

  every_leaves : Leaves 0 (mark (m.Reserved r.Every) ∷ [])
  every_leaves = plain_word _ refl refl refl

  destroy_leaves : Leaves 0 (mark (m.Reserved r.Destroy) ∷ [])
  destroy_leaves = plain_word _ refl refl refl

  file_leaves : Leaves 0 (mark (m.Reserved r.File) ∷ [])
  file_leaves = plain_word _ refl refl refl

  remove_leaves : Leaves 0 (mark (m.Reserved r.Remove) ∷ [])
  remove_leaves = plain_word _ refl refl refl

  before_leaves : Leaves 0 (mark (m.Reserved r.Before) ∷ [])
  before_leaves = plain_word _ refl refl refl

  after_leaves : Leaves 0 (mark (m.Reserved r.After) ∷ [])
  after_leaves = plain_word _ refl refl refl

  call_leaves : Leaves 0 (mark (m.Reserved r.Call) ∷ [])
  call_leaves = plain_word _ refl refl refl

  yielding_leaves : Leaves 0 (mark (m.Reserved r.Yielding) ∷ [])
  yielding_leaves = plain_word _ refl refl refl

  return_leaves : Leaves 0 (mark (m.Reserved r.Return) ∷ [])
  return_leaves = plain_word _ refl refl refl

  stop_leaves : Leaves 0 (mark (m.Reserved r.Stop) ∷ [])
  stop_leaves = plain_word _ refl refl refl

  a_leaves : Leaves 0 (mark (m.Reserved r.A) ∷ [])
  a_leaves = plain_word _ refl refl refl

  the_leaves : Leaves 0 (mark (m.Reserved r.The) ∷ [])
  the_leaves = plain_word _ refl refl refl

  at_leaves : Leaves 0 (mark (m.Reserved r.At) ∷ [])
  at_leaves = plain_word _ refl refl refl

  now_leaves : Leaves 0 (mark (m.Reserved r.Now) ∷ [])
  now_leaves = plain_word _ refl refl refl

  days_leaves : Leaves 0 (mark (m.Reserved r.Days) ∷ [])
  days_leaves = plain_word _ refl refl refl

  schedule_leaves : Leaves 0 (mark (m.Reserved r.Schedule) ∷ [])
  schedule_leaves = plain_word _ refl refl refl

  cancel_leaves : Leaves 0 (mark (m.Reserved r.Cancel) ∷ [])
  cancel_leaves = plain_word _ refl refl refl

  start_leaves : Leaves 0 (mark (m.Reserved r.Start) ∷ [])
  start_leaves = plain_word _ refl refl refl

  simulation_leaves : Leaves 0 (mark (m.Reserved r.Simulation) ∷ [])
  simulation_leaves = plain_word _ refl refl refl

  read_leaves : Leaves 0 (mark (m.Reserved r.Read) ∷ [])
  read_leaves = plain_word _ refl refl refl

  print_leaves : Leaves 0 (mark (m.Reserved r.Print) ∷ [])
  print_leaves = plain_word _ refl refl refl

  lines_leaves : Leaves 0 (mark (m.Reserved r.Lines) ∷ [])
  lines_leaves = plain_word _ refl refl refl

  with_leaves : Leaves 0 (mark (m.Reserved r.With) ∷ [])
  with_leaves = plain_word _ refl refl refl

  thus_leaves : Leaves 0 (mark (m.Reserved r.Thus) ∷ [])
  thus_leaves = plain_word _ refl refl refl

  skip_leaves : Leaves 0 (mark (m.Reserved r.Skip) ∷ [])
  skip_leaves = plain_word _ refl refl refl

  -- a law under the name of its reading
  abbrev OfForm : {A : Type 0} (F : Form rooms n A) → Law rooms n F.fits F.sp F.ends F.p F.p'
  OfForm F = record { good = F.good; near = F.near; counted = F.counted; again = F.again }

  -- ---- CREATE, DESTROY

  abbrev named : Form rooms n (Name × Option Reference)
  named = pair_form (name_form rooms n) the_called (λ b y f e. tt)

  named_law : Law rooms n named.fits named.sp EndsCalled (named_at n) (named_at k)
  unfolding named_at
  named_law = OfForm named

  abbrev the_named : Form rooms n (Name × Option Reference)
  the_named = form_of rooms n named.fits named.sp EndsCalled (named_at n) (named_at k) named_law

  abbrev created : Form rooms n ((Name × Option Expr) ⊎ (Name × Option Reference))
  created =
      either_form (mark_item (m.Reserved r.Every) every_leaves
      (pair_form (name_form rooms n) the_subscript (λ b y f e. tt))) the_named (λ b y f e. refl)

  abbrev MakingParts : Type 0
  MakingParts = ((Name × Option Expr) ⊎ (Name × Option Reference)) ⊎ (Name × Option Reference)

  abbrev making_0 : Item rooms n MakingParts
  making_0 =
      or_item (mark_item (m.Reserved r.Create) create_leaves created)
      (mark_item (m.Reserved r.Destroy) destroy_leaves the_named) (λ b y f e. refl)

  split_making : Making → MakingParts
  split_making (Create c v) = inl (inr (c, v))
  split_making (CreateEvery c e) = inl (inl (c, e))
  split_making (Destroy c v) = inr (c, v)

  whole_making : (a : Making) → making_of (split_making a) ≡ a
  unfolding split_making
  whole_making (Create c v) = refl
  whole_making (CreateEvery c e) = refl
  whole_making (Destroy c v) = refl

  making_spelled : (x : MakingParts) → spell_making (making_of x) ≡ making_0.sp x
  making_spelled (inl (inl (c, None))) = refl
  making_spelled (inl (inl (c, Some e))) = refl
  making_spelled (inl (inr (c, None))) = refl
  making_spelled (inl (inr (c, Some v))) = refl
  making_spelled (inr (c, None)) = refl
  making_spelled (inr (c, Some v)) = refl

  making_there : (x : MakingParts) → making_0.fits x → depth_making (making_of x) ≤ n
  making_there (inl (inl (c, e))) h = subscript_there e h.1
  making_there (inl (inr (c, v))) h = called_there v h.1
  making_there (inr (c, v)) h = called_there v h.1

  making_back : (a : Making) → depth_making a ≤ n → making_0.fits (split_making a)
  unfolding split_making
  making_back (Create c v) h = (tt, called_back v h)
  making_back (CreateEvery c e) h = (tt, subscript_fits e h)
  making_back (Destroy c v) h = (tt, called_back v h)

  calm_open : (y : List Plain) → Calm y → EndsName y
  calm_open y e = let h = e.ends in h.no_open

  calm_called : (y : List Plain) → Calm y → EndsCalled y
  calm_called y e = (calm_open y e, e.no_called)

  making_law : ItemLaw making_0.none (λ a. depth_making a ≤ n) spell_making (making_at n) (making_at k)
  unfolding making_at
  making_law =
      of_item (made_item making_0 spell_making (λ a. depth_making a ≤ n) making_of split_making whole_making
      making_spelled making_there making_back) (λ y e. ((calm_open y e, calm_called y e), calm_called y e))

  abbrev making_item : Item rooms n Making
  making_item = item_of making_0.none (λ a. depth_making a ≤ n) spell_making (making_at n) (making_at k) making_law

  -- ---- FILE, REMOVE

  expr_no_end : (e : Expr) (y : List Plain) → end_of (first (spell_expr e ++ y)) ≡ None
  expr_no_end (expr (Some Plus) t ss) y = refl
  expr_no_end (expr (Some Minus) t ss) y = refl
  expr_no_end (expr None (term (digits i) ps) ss) y = refl
  expr_no_end (expr None (term (x.named i) ps) ss) y = refl
  expr_no_end (expr None (term (applied v e es) ps) ss) y = refl
  expr_no_end (expr None (term (within e) ps) ss) y = refl

  abbrev EndsPlace : List Plain → Type 0
  EndsPlace y =
      Ends y × (is (m.Reserved r.After) (first y) ≡ false) × (is (m.Reserved r.Before) (first y) ≡ false)
      × (end_of (first y) ≡ None)

  abbrev place_2 : Form rooms n (Option Expr)
  place_2 = ending (option_form (mark_item (m.Reserved r.After) after_leaves an_expr)) EndsPlace (λ y e. (e.0, e.1))

  not_before : (b : Option Expr) (y : List Plain) → EndsPlace y
      → is (m.Reserved r.Before) (first (place_2.sp b ++ y)) ≡ false
  not_before None y e = e.2
  not_before (Some x) y e = refl

  abbrev place_1 : Form rooms n (Expr ⊎ Option Expr)
  place_1 =
      ending (either_form (mark_item (m.Reserved r.Before) before_leaves an_expr) place_2 (λ b y f e. not_before b y e))
      EndsPlace (λ y e. (e.0, e))

  not_end : (b : Expr ⊎ Option Expr) (y : List Plain) → EndsPlace y → end_of (first (place_1.sp b ++ y)) ≡ None
  not_end (inl x) y e = refl
  not_end (inr None) y e = e.3
  not_end (inr (Some x)) y e = refl

  abbrev place_0 : Form rooms n (SetEnd ⊎ (Expr ⊎ Option Expr))
  place_0 =
      ending (either_form (table_item rooms n end_table) place_1 (λ b y f e. not_end b y e)) EndsPlace (λ y e. (tt, e))

  split_place : FilePlace → SetEnd ⊎ (Expr ⊎ Option Expr)
  split_place ByDiscipline = inr (inr None)
  split_place (AtEnd b) = inl b
  split_place (Before e) = inr (inl e)
  split_place (After e) = inr (inr (Some e))

  whole_place : (h : FilePlace) → file_place_of (split_place h) ≡ h
  unfolding split_place
  whole_place ByDiscipline = refl
  whole_place (AtEnd b) = refl
  whole_place (Before e) = refl
  whole_place (After e) = refl

  place_spelled : (x : SetEnd ⊎ (Expr ⊎ Option Expr)) → spell_file_place (file_place_of x) ≡ place_0.sp x
  place_spelled (inl b) = refl
  place_spelled (inr (inl e)) = refl
  place_spelled (inr (inr None)) = refl
  place_spelled (inr (inr (Some e))) = refl

  place_there : (x : SetEnd ⊎ (Expr ⊎ Option Expr)) → place_0.fits x → depth_file_place (file_place_of x) ≤ n
  place_there (inl b) h = omega arith
  place_there (inr (inl e)) h = h
  place_there (inr (inr None)) h = omega arith
  place_there (inr (inr (Some e))) h = h

  place_back : (h : FilePlace) → depth_file_place h ≤ n → place_0.fits (split_place h)
  unfolding split_place
  place_back ByDiscipline h = tt
  place_back (AtEnd b) h = tt
  place_back (Before e) h = h
  place_back (After e) h = h

  place_law : Law rooms n (λ h. depth_file_place h ≤ n) spell_file_place EndsPlace (file_place_at n) (file_place_at k)
  unfolding file_place_at
  place_law =
      OfForm (made_form place_0 spell_file_place (λ h. depth_file_place h ≤ n) file_place_of split_place whole_place
      place_spelled place_there place_back)

  abbrev the_place : Form rooms n FilePlace
  the_place =
      form_of rooms n (λ h. depth_file_place h ≤ n) spell_file_place EndsPlace (file_place_at n) (file_place_at k)
      place_law

  abbrev placed : Form rooms n (FilePlace × Reference)
  placed =
      pair_form (before_form the_place (m.Reserved r.In) in_leaves
      (λ y. (ends_at _ y refl refl refl, refl, refl, refl))) a_reference (λ b y f e. tt)

  placed_ends : (h : FilePlace) (z : List Plain) → Ends (spell_file_place h ++ mark (m.Reserved r.In) ∷ z)
  placed_ends ByDiscipline z = ends_at _ z refl refl refl
  placed_ends (AtEnd end.First) z = ends_at _ _ refl refl refl
  placed_ends (AtEnd end.Last) z = ends_at _ _ refl refl refl
  placed_ends (Before e) z = ends_at _ _ refl refl refl
  placed_ends (After e) z = ends_at _ _ refl refl refl

  placed_end : (b : FilePlace × Reference) (y : List Plain) → Ends (placed.sp b ++ y)
  placed_end (h, v) y =
      let same : ((spell_file_place h ++ mark (m.Reserved r.In) ∷ []) ++ spell_reference v) ++ y ≡ spell_file_place h
      ++ mark (m.Reserved r.In) ∷ (spell_reference v ++ y) = simp append_assoc in
      rw same (placed_ends h (spell_reference v ++ y))

  abbrev valued : Form rooms n (Expr × (FilePlace × Reference))
  valued = pair_form an_expr placed (λ b y f e. placed_end b y)

  valued_no_end : (b : Expr × (FilePlace × Reference)) (y : List Plain) → end_of (first (valued.sp b ++ y)) ≡ None
  valued_no_end (e, x) y =
      ap (λ (u : List Plain). end_of (first u)) (append_assoc (spell_expr e) (placed.sp x) y) ∙ expr_no_end e _

  abbrev in_moved : Form rooms n (Expr × Reference)
  in_moved = the_moved (m.Reserved r.In) in_leaves (λ y. ends_at _ y refl refl refl)

  abbrev from_moved : Form rooms n (Expr × Reference)
  from_moved = the_moved (m.Reserved r.From) from_leaves (λ y. ends_at _ y refl refl refl)

  abbrev filed : Form rooms n ((SetEnd × (Expr × Reference)) ⊎ (Expr × (FilePlace × Reference)))
  filed =
      ending (either_form (word_item end_table in_moved) valued (λ b y f e. valued_no_end b y)) EndsName (λ y e. (e, e))

  filed_law : Law rooms n filed.fits filed.sp EndsName (file_at n) (file_at k)
  unfolding file_at
  filed_law = OfForm filed

  abbrev the_filed : Form rooms n ((SetEnd × (Expr × Reference)) ⊎ (Expr × (FilePlace × Reference)))
  the_filed = form_of rooms n filed.fits filed.sp EndsName (file_at n) (file_at k) filed_law

  moved_no_end : (b : Expr × Reference) (y : List Plain) → end_of (first (from_moved.sp b ++ y)) ≡ None
  moved_no_end (e, v) y =
      let same : ((spell_expr e ++ mark (m.Reserved r.From) ∷ []) ++ spell_reference v) ++ y ≡ spell_expr e
      ++ (mark (m.Reserved r.From) ∷ [] ++ spell_reference v ++ y) = simp append_assoc in
      ap (λ (u : List Plain). end_of (first u)) same ∙ expr_no_end e _

  abbrev removed : Form rooms n ((SetEnd × (Reference × Reference)) ⊎ (Expr × Reference))
  removed =
      ending (either_form (word_item end_table (pair_form
      (before_form a_reference (m.Reserved r.From) from_leaves (λ y. refl)) a_reference (λ b y f e. tt))) from_moved
      (λ b y f e. moved_no_end b y)) EndsName (λ y e. (e, e))

  removed_law : Law rooms n removed.fits removed.sp EndsName (remove_at n) (remove_at k)
  unfolding remove_at
  removed_law = OfForm removed

  abbrev the_removed : Form rooms n ((SetEnd × (Reference × Reference)) ⊎ (Expr × Reference))
  the_removed = form_of rooms n removed.fits removed.sp EndsName (remove_at n) (remove_at k) removed_law

  abbrev FilingParts : Type 0
  FilingParts =
      ((SetEnd × (Expr × Reference)) ⊎ (Expr × (FilePlace × Reference)))
      ⊎ ((SetEnd × (Reference × Reference)) ⊎ (Expr × Reference))

  abbrev filing_0 : Item rooms n FilingParts
  filing_0 =
      or_item (mark_item (m.Reserved r.File) file_leaves the_filed)
      (mark_item (m.Reserved r.Remove) remove_leaves the_removed) (λ b y f e. refl)

  split_filing : Filing → FilingParts
  split_filing (File e h v) = inl (inr (e, (h, v)))
  split_filing (FileAt b e v) = inl (inl (b, (e, v)))
  split_filing (RemoveEnd b u v) = inr (inl (b, (u, v)))
  split_filing (Remove e v) = inr (inr (e, v))

  whole_filing : (a : Filing) → filing_of (split_filing a) ≡ a
  unfolding split_filing
  whole_filing (File e h v) = refl
  whole_filing (FileAt b e v) = refl
  whole_filing (RemoveEnd b u v) = refl
  whole_filing (Remove e v) = refl

  filing_spelled : (x : FilingParts) → spell_filing (filing_of x) ≡ filing_0.sp x
  filing_spelled (inl (inl (b, (e, v)))) =
      ap (λ (u : List Plain). mark (m.Reserved r.File) ∷ spell_end b ∷ u)
      (sym (append_assoc (spell_expr e) (mark (m.Reserved r.In) ∷ []) (spell_reference v)))
  filing_spelled (inl (inr (e, (h, v)))) =
      let same : spell_expr e ++ spell_file_place h ++ mark (m.Reserved r.In) ∷ spell_reference v ≡ spell_expr e
      ++ ((spell_file_place h ++ mark (m.Reserved r.In) ∷ []) ++ spell_reference v) = simp append_assoc in
      ap (λ (u : List Plain). mark (m.Reserved r.File) ∷ u) same
  filing_spelled (inr (inl (b, (u, v)))) =
      ap (λ (z : List Plain). mark (m.Reserved r.Remove) ∷ spell_end b ∷ z)
      (sym (append_assoc (spell_reference u) (mark (m.Reserved r.From) ∷ []) (spell_reference v)))
  filing_spelled (inr (inr (e, v))) =
      ap (λ (u : List Plain). mark (m.Reserved r.Remove) ∷ u)
      (sym (append_assoc (spell_expr e) (mark (m.Reserved r.From) ∷ []) (spell_reference v)))

  filing_there : (x : FilingParts) → filing_0.fits x → depth_filing (filing_of x) ≤ n
  filing_there (inl (inl (b, (e, v)))) h = let i = h.0 in let j = h.1 in omega (arith, i, j)
  filing_there (inl (inr (e, (p, v)))) h = let i = h.0 in let j = h.1.0 in let l = h.1.1 in omega (arith, i, j, l)
  filing_there (inr (inl (b, (u, v)))) h = let i = h.0 in let j = h.1 in omega (arith, i, j)
  filing_there (inr (inr (e, v))) h = let i = h.0 in let j = h.1 in omega (arith, i, j)

  filing_back : (a : Filing) → depth_filing a ≤ n → filing_0.fits (split_filing a)
  unfolding split_filing
  filing_back (File e p v) h = (omega (arith, h), (omega (arith, h), omega (arith, h)))
  filing_back (FileAt b e v) h = (omega (arith, h), omega (arith, h))
  filing_back (RemoveEnd b u v) h = (omega (arith, h), omega (arith, h))
  filing_back (Remove e v) h = (omega (arith, h), omega (arith, h))

  filing_law : ItemLaw filing_0.none (λ a. depth_filing a ≤ n) spell_filing (filing_at n) (filing_at k)
  unfolding filing_at
  filing_law =
      of_item (made_item filing_0 spell_filing (λ a. depth_filing a ≤ n) filing_of split_filing whole_filing
      filing_spelled filing_there filing_back) (λ y e. (calm_open y e, calm_open y e))

  abbrev filing_item : Item rooms n Filing
  filing_item = item_of filing_0.none (λ a. depth_filing a ≤ n) spell_filing (filing_at n) (filing_at k) filing_law

  -- ---- CALL, RETURN, STOP

  name_comma : (y : List Plain) → EndsName (mark (m.Sign s.Comma) ∷ y)
  name_comma y = refl

  abbrev EndsValues : List Plain → Type 0
  EndsValues y =
      EndsList Ends y × ((is (m.Sign s.Open) (first y) ≡ false) × (is (m.Reserved r.Given) (first y) ≡ false))

  targets_law : Law rooms n (λ vs. greatest depth_reference vs ≤ n)
      (spell_behind (m.Reserved r.Yielding) spell_reference) Calm (list_behind (m.Reserved r.Yielding) (reference_at n))
      (list_behind (m.Reserved r.Yielding) (reference_at k))
  targets_law =
      let f = list_law depth_reference spell_reference EndsName (reference_at n) (reference_at k) reference_law
      name_comma (m.Reserved r.Yielding) yielding_leaves in
      record {
        good = f.good;
        near = f.near;
        counted = f.counted;
        again = λ a y h e. f.again a y h
            ((calm_open y e, e.no_comma), e.no_yielding);
      }

  values_law : Law rooms n (λ es. depth_listing depth_expr es ≤ n) (spell_listing spell_expr) EndsValues
      (listing_with n (expr_at n) (inner_at n)) (listing_with k (expr_at k) (inner_at k))
  values_law =
      listing_law depth_expr spell_expr Ends (expr_at n) (expr_at k) (expr_law rooms n k w) comma_ends k (inner_at n)
      (inner_at k) (open_exprs rooms n k w)

  abbrev targets : Form rooms n (List Reference)
  targets =
      form_of rooms n (λ vs. greatest depth_reference vs ≤ n) (spell_behind (m.Reserved r.Yielding) spell_reference)
      Calm (list_behind (m.Reserved r.Yielding) (reference_at n)) (list_behind (m.Reserved r.Yielding) (reference_at k))
      targets_law

  abbrev values : Form rooms n (Listing Expr)
  values =
      form_of rooms n (λ es. depth_listing depth_expr es ≤ n) (spell_listing spell_expr) EndsValues
      (listing_with n (expr_at n) (inner_at n)) (listing_with k (expr_at k) (inner_at k)) values_law

  values_end : (b : List Reference) (y : List Plain) → Calm y
      → EndsValues (spell_behind (m.Reserved r.Yielding) spell_reference b ++ y)
  values_end [] y e = let h = e.ends in ((h, e.no_comma), (h.no_open, e.no_given))
  values_end (x ∷ xs) y e = ((ends_at _ _ refl refl refl, refl), (refl, refl))

  abbrev called_part : Form rooms n (Name × (Listing Expr × List Reference))
  called_part = pair_form (name_form rooms n) (pair_form values targets (λ b y f e. values_end b y e)) (λ b y f e. tt)

  call_law : Law rooms n called_part.fits called_part.sp Calm (call_at n) (call_at k)
  unfolding call_at
  call_law = OfForm called_part

  abbrev the_call : Form rooms n (Name × (Listing Expr × List Reference))
  the_call = form_of rooms n called_part.fits called_part.sp Calm (call_at n) (call_at k) call_law

  abbrev TransferParts : Type 0
  TransferParts = (Name × (Listing Expr × List Reference)) ⊎ (Unit {0} ⊎ Unit {0})

  abbrev transfer_1 : Item rooms n (Unit {0} ⊎ Unit {0})
  transfer_1 =
      or_item (mark_item (m.Reserved r.Return) return_leaves (nothing_form rooms n))
      (mark_item (m.Reserved r.Stop) stop_leaves (nothing_form rooms n)) (λ b y f e. refl)

  not_call : (b : Unit {0} ⊎ Unit {0}) (y : List Plain) → is (m.Reserved r.Call) (first (transfer_1.sp b ++ y)) ≡ false
  not_call (inl u) y = refl
  not_call (inr u) y = refl

  abbrev transfer_0 : Item rooms n TransferParts
  transfer_0 = or_item (mark_item (m.Reserved r.Call) call_leaves the_call) transfer_1 (λ b y f e. not_call b y)

  split_transfer : Transfer → TransferParts
  split_transfer (Call v es vs) = inl (v, (es, vs))
  split_transfer Return = inr (inl tt)
  split_transfer Stop = inr (inr tt)

  whole_transfer : (a : Transfer) → transfer_of (split_transfer a) ≡ a
  unfolding split_transfer
  whole_transfer (Call v es vs) = refl
  whole_transfer Return = refl
  whole_transfer Stop = refl

  transfer_spelled : (x : TransferParts) → spell_transfer (transfer_of x) ≡ transfer_0.sp x
  transfer_spelled (inl (v, (es, vs))) = refl
  transfer_spelled (inr (inl u)) = refl
  transfer_spelled (inr (inr u)) = refl

  transfer_there : (x : TransferParts) → transfer_0.fits x → depth_transfer (transfer_of x) ≤ n
  transfer_there (inl (v, (es, vs))) h = let i = h.1.0 in let j = h.1.1 in omega (arith, i, j)
  transfer_there (inr (inl u)) h = omega arith
  transfer_there (inr (inr u)) h = omega arith

  transfer_back : (a : Transfer) → depth_transfer a ≤ n → transfer_0.fits (split_transfer a)
  unfolding split_transfer
  transfer_back (Call v es vs) h = (tt, (omega (arith, h), omega (arith, h)))
  transfer_back Return h = tt
  transfer_back Stop h = tt

  transfer_law : ItemLaw transfer_0.none (λ a. depth_transfer a ≤ n) spell_transfer (transfer_at n) (transfer_at k)
  unfolding transfer_at
  transfer_law =
      of_item (made_item transfer_0 spell_transfer (λ a. depth_transfer a ≤ n) transfer_of split_transfer whole_transfer
      transfer_spelled transfer_there transfer_back) (λ y e. (e, (tt, tt)))

  abbrev transfer_item : Item rooms n Transfer
  transfer_item =
      item_of transfer_0.none (λ a. depth_transfer a ≤ n) spell_transfer (transfer_at n) (transfer_at k) transfer_law

  -- ---- SCHEDULE, CANCEL, START SIMULATION

  abbrev article_part : Form rooms n (Unit {0} ⊎ Unit {0})
  article_part =
      either_form (mark_item (m.Reserved r.A) a_leaves (nothing_form rooms n))
      (behind_form (m.Reserved r.The) the_leaves (nothing_form rooms n)) (λ b y f e. refl)

  split_article : Article → Unit {0} ⊎ Unit {0}
  split_article article.A = inl tt
  split_article article.The = inr tt

  whole_article : (a : Article) → article_of (split_article a) ≡ a
  unfolding split_article
  whole_article article.A = refl
  whole_article article.The = refl

  abbrev spell_an_article : Article → List Plain
  spell_an_article a = spell_article a ∷ []

  article_spelled : (x : Unit {0} ⊎ Unit {0}) → spell_an_article (article_of x) ≡ article_part.sp x
  article_spelled (inl u) = refl
  article_spelled (inr u) = refl

  article_back : (a : Article) → article_part.fits (split_article a)
  unfolding split_article
  article_back article.A = tt
  article_back article.The = tt

  article_law : Law rooms n Any spell_an_article (λ y. Unit {0}) an_article an_article
  unfolding an_article
  article_law =
      let f = made_form article_part spell_an_article Any article_of split_article whole_article article_spelled
      (λ x h. tt) (λ a h. article_back a) in
      record { good = f.good; near = f.near; counted = f.counted; again = λ a y h e. f.again a y h (tt, tt) }

  abbrev the_article : Form rooms n Article
  the_article = form_of rooms n Any spell_an_article (λ y. Unit {0}) an_article an_article article_law

  abbrev EndsDetails : List Plain → Type 0
  EndsDetails y =
      Ends y × (is (m.Sign s.Comma) (first y) ≡ false) × (is (m.Reserved r.Called) (first y) ≡ false)
      × (is (m.Reserved r.Given) (first y) ≡ false)

  given_law : Law rooms n (λ es. greatest depth_expr es ≤ n) (spell_behind (m.Reserved r.Given) spell_expr) EndsDetails
      (list_behind (m.Reserved r.Given) (expr_at n)) (list_behind (m.Reserved r.Given) (expr_at k))
  given_law =
      let f = list_law depth_expr spell_expr Ends (expr_at n) (expr_at k) (expr_law rooms n k w) comma_ends
      (m.Reserved r.Given) given_leaves in
      record { good = f.good; near = f.near; counted = f.counted; again = λ a y h e. f.again a y h ((e.0, e.1), e.3) }

  abbrev given_values : Form rooms n (List Expr)
  given_values =
      form_of rooms n (λ es. greatest depth_expr es ≤ n) (spell_behind (m.Reserved r.Given) spell_expr) EndsDetails
      (list_behind (m.Reserved r.Given) (expr_at n)) (list_behind (m.Reserved r.Given) (expr_at k)) given_law

  given_end : (b : List Expr) (y : List Plain) → EndsDetails y
      → EndsCalled (spell_behind (m.Reserved r.Given) spell_expr b ++ y)
  given_end [] y e = let h = e.0 in (h.no_open, e.2)
  given_end (x ∷ xs) y e = (refl, refl)

  abbrev reference_first : Form rooms n (Option Reference × List Expr)
  reference_first = pair_form the_called given_values (λ b y f e. given_end b y e)

  abbrev open_values : Item rooms n (Several Expr)
  open_values =
      open_item rooms n (greatest_of depth_expr) (spell_several spell_expr) (if_open n (several (inner_at n)))
      (if_open k (several (inner_at k))) (open_exprs rooms n k w)

  abbrev values_first : Item rooms n (Several Expr × Option Reference)
  values_first = and_item open_values the_called (λ b y f e. tt)

  not_open : (b : Option Reference × List Expr) (y : List Plain) → EndsDetails y
      → is (m.Sign s.Open) (first (reference_first.sp b ++ y)) ≡ false
  not_open (None, []) y e = let h = e.0 in h.no_open
  not_open (None, x ∷ xs) y e = refl
  not_open (Some v, es) y e = refl

  abbrev details_part : Form rooms n ((Several Expr × Option Reference) ⊎ (Option Reference × List Expr))
  details_part =
      ending (either_form values_first reference_first (λ b y f e. not_open b y e)) EndsDetails
      (λ y e. ((let h = e.0 in h.no_open, e.2), e))

  split_details : Details → (Several Expr × Option Reference) ⊎ (Option Reference × List Expr)
  split_details (ValuesFirst es v) = inl (es, v)
  split_details (CalledFirst v es) = inr (v, es)

  whole_details : (d : Details) → details_of (split_details d) ≡ d
  unfolding split_details
  whole_details (ValuesFirst es v) = refl
  whole_details (CalledFirst v es) = refl

  details_spelled : (x : (Several Expr × Option Reference) ⊎ (Option Reference × List Expr))
      → spell_details (details_of x) ≡ details_part.sp x
  details_spelled (inl (es, v)) =
      ap (λ (u : List Plain). spell_within (spell_several spell_expr es) ++ u) (called_spelled v)
  details_spelled (inr (v, es)) =
      ap (λ (u : List Plain). u ++ spell_behind (m.Reserved r.Given) spell_expr es) (called_spelled v)

  details_there : (x : (Several Expr × Option Reference) ⊎ (Option Reference × List Expr)) → details_part.fits x
      → depth_details (details_of x) ≤ n
  details_there (inl (es, v)) h = let i = h.0 in let j = called_there v h.1 in omega (arith, i, j)
  details_there (inr (v, es)) h = let i = called_there v h.0 in let j = h.1 in omega (arith, i, j)

  details_back : (d : Details) → depth_details d ≤ n → details_part.fits (split_details d)
  unfolding split_details
  details_back (ValuesFirst es v) h = (omega (arith, h), called_back v (omega (arith, h)))
  details_back (CalledFirst v es) h = (called_back v (omega (arith, h)), omega (arith, h))

  details_law : Law rooms n (λ d. depth_details d ≤ n) spell_details EndsDetails (details_at n) (details_at k)
  unfolding details_at
  details_law =
      OfForm (made_form details_part spell_details (λ d. depth_details d ≤ n) details_of split_details whole_details
      details_spelled details_there details_back)

  abbrev the_details : Form rooms n Details
  the_details =
      form_of rooms n (λ d. depth_details d ≤ n) spell_details EndsDetails (details_at n) (details_at k) details_law

  abbrev delay : Form rooms n Expr
  delay =
      behind_form (m.Reserved r.In) in_leaves (before_form an_expr (m.Reserved r.Days) days_leaves
      (λ y. ends_at _ y refl refl refl))

  abbrev now_or_delay : Form rooms n (Unit {0} ⊎ Expr)
  now_or_delay = either_form (mark_item (m.Reserved r.Now) now_leaves (nothing_form rooms n)) delay (λ b y f e. refl)

  not_at : (b : Unit {0} ⊎ Expr) (y : List Plain) → is (m.Reserved r.At) (first (now_or_delay.sp b ++ y)) ≡ false
  not_at (inl u) y = refl
  not_at (inr e) y = refl

  abbrev when_part : Form rooms n (Expr ⊎ (Unit {0} ⊎ Expr))
  when_part = either_form (mark_item (m.Reserved r.At) at_leaves an_expr) now_or_delay (λ b y f e. not_at b y)

  split_when : When → Expr ⊎ (Unit {0} ⊎ Expr)
  split_when (At e) = inl e
  split_when Now = inr (inl tt)
  split_when (In e) = inr (inr e)

  whole_when : (t : When) → when_of (split_when t) ≡ t
  unfolding split_when
  whole_when (At e) = refl
  whole_when Now = refl
  whole_when (In e) = refl

  when_spelled : (x : Expr ⊎ (Unit {0} ⊎ Expr)) → spell_when (when_of x) ≡ when_part.sp x
  when_spelled (inl e) = refl
  when_spelled (inr (inl u)) = refl
  when_spelled (inr (inr e)) = refl

  when_there : (x : Expr ⊎ (Unit {0} ⊎ Expr)) → when_part.fits x → depth_when (when_of x) ≤ n
  when_there (inl e) h = h
  when_there (inr (inl u)) h = omega arith
  when_there (inr (inr e)) h = h

  when_back : (t : When) → depth_when t ≤ n → when_part.fits (split_when t)
  unfolding split_when
  when_back (At e) h = h
  when_back Now h = tt
  when_back (In e) h = h

  when_law : Law rooms n (λ t. depth_when t ≤ n) spell_when Ends (when_at n) (when_at k)
  unfolding when_at
  when_law =
      let f = made_form when_part spell_when (λ t. depth_when t ≤ n) when_of split_when whole_when when_spelled
      when_there when_back in
      record { good = f.good; near = f.near; counted = f.counted; again = λ a y h e. f.again a y h (e, (tt, tt)) }

  abbrev the_when : Form rooms n When
  the_when = form_of rooms n (λ t. depth_when t ≤ n) spell_when Ends (when_at n) (when_at k) when_law

  when_details : (t : When) (y : List Plain) → EndsDetails (spell_when t ++ y)
  when_details (At e) y = (ends_at _ _ refl refl refl, refl, refl, refl)
  when_details Now y = (ends_at _ _ refl refl refl, refl, refl, refl)
  when_details (In e) y = (ends_at _ _ refl refl refl, refl, refl, refl)

  abbrev scheduled : Form rooms n (Article × (Name × (Details × When)))
  scheduled =
      pair_form the_article (pair_form (name_form rooms n)
      (pair_form the_details the_when (λ b y f e. when_details b y)) (λ b y f e. tt)) (λ b y f e. tt)

  schedule_law : Law rooms n scheduled.fits scheduled.sp Ends (schedule_at n) (schedule_at k)
  unfolding schedule_at
  schedule_law = OfForm scheduled

  abbrev the_schedule : Form rooms n (Article × (Name × (Details × When)))
  the_schedule = form_of rooms n scheduled.fits scheduled.sp Ends (schedule_at n) (schedule_at k) schedule_law

  abbrev timing_1 : Item rooms n ((Name × Option Reference) ⊎ Unit {0})
  timing_1 =
      or_item (mark_item (m.Reserved r.Cancel) cancel_leaves the_named)
      (mark_item (m.Reserved r.Start) start_leaves (behind_form (m.Reserved r.Simulation) simulation_leaves
      (nothing_form rooms n))) (λ b y f e. refl)

  not_schedule : (b : (Name × Option Reference) ⊎ Unit {0}) (y : List Plain)
      → is (m.Reserved r.Schedule) (first (timing_1.sp b ++ y)) ≡ false
  not_schedule (inl x) y = refl
  not_schedule (inr u) y = refl

  abbrev TimingParts : Type 0
  TimingParts = (Article × (Name × (Details × When))) ⊎ ((Name × Option Reference) ⊎ Unit {0})

  abbrev timing_0 : Item rooms n TimingParts
  timing_0 =
      or_item (mark_item (m.Reserved r.Schedule) schedule_leaves the_schedule) timing_1 (λ b y f e. not_schedule b y)

  split_timing : Timing → TimingParts
  split_timing (Schedule a c d t) = inl (a, (c, (d, t)))
  split_timing (Cancel c v) = inr (inl (c, v))
  split_timing StartSimulation = inr (inr tt)

  whole_timing : (a : Timing) → timing_of (split_timing a) ≡ a
  unfolding split_timing
  whole_timing (Schedule a c d t) = refl
  whole_timing (Cancel c v) = refl
  whole_timing StartSimulation = refl

  timing_spelled : (x : TimingParts) → spell_timing (timing_of x) ≡ timing_0.sp x
  timing_spelled (inl (a, (c, (d, t)))) = refl
  timing_spelled (inr (inl (c, None))) = refl
  timing_spelled (inr (inl (c, Some v))) = refl
  timing_spelled (inr (inr u)) = refl

  timing_there : (x : TimingParts) → timing_0.fits x → depth_timing (timing_of x) ≤ n
  timing_there (inl (a, (c, (d, t)))) h = let i = h.1.1.0 in let j = h.1.1.1 in omega (arith, i, j)
  timing_there (inr (inl (c, v))) h = called_there v h.1
  timing_there (inr (inr u)) h = omega arith

  timing_back : (a : Timing) → depth_timing a ≤ n → timing_0.fits (split_timing a)
  unfolding split_timing
  timing_back (Schedule a c d t) h = (tt, (tt, (omega (arith, h), omega (arith, h))))
  timing_back (Cancel c v) h = (tt, called_back v h)
  timing_back StartSimulation h = tt

  timing_law : ItemLaw timing_0.none (λ a. depth_timing a ≤ n) spell_timing (timing_at n) (timing_at k)
  unfolding timing_at
  timing_law =
      of_item (made_item timing_0 spell_timing (λ a. depth_timing a ≤ n) timing_of split_timing whole_timing
      timing_spelled timing_there timing_back) (λ y e. (e.ends, (calm_called y e, tt)))

  abbrev timing_item : Item rooms n Timing
  timing_item = item_of timing_0.none (λ a. depth_timing a ≤ n) spell_timing (timing_at n) (timing_at k) timing_law

  -- ---- READ, PRINT, SKIP

  abbrev read_part : Form rooms n (Several Reference)
  read_part =
      form_of rooms n (λ vs. greatest_of depth_reference vs ≤ n) (spell_several spell_reference) (EndsList EndsName)
      (several (reference_at n)) (several (reference_at k))
      (several_law depth_reference spell_reference EndsName (reference_at n) (reference_at k) reference_law name_comma)

  abbrev with_values : Form rooms n (List Expr)
  with_values =
      form_of rooms n (λ es. greatest depth_expr es ≤ n) (spell_behind (m.Reserved r.With) spell_expr)
      (λ y. EndsList Ends y × (is (m.Reserved r.With) (first y) ≡ false)) (list_behind (m.Reserved r.With) (expr_at n))
      (list_behind (m.Reserved r.With) (expr_at k))
      (list_law depth_expr spell_expr Ends (expr_at n) (expr_at k) (expr_law rooms n k w) comma_ends (m.Reserved r.With)
      with_leaves)

  abbrev printed : Form rooms n (ℕ × (List Expr × List (List ℕ)))
  printed =
      pair_form (before_form (number_form rooms n) (m.Reserved r.Lines) lines_leaves (λ y. tt))
      (pair_form (before_form with_values (m.Reserved r.Thus) thus_leaves
      (λ y. ((ends_at _ y refl refl refl, refl), refl))) (picture_form rooms n) (λ b y f e. tt)) (λ b y f e. tt)

  print_law : Law rooms n printed.fits printed.sp (λ y. Unit {0}) (print_at n) (print_at k)
  unfolding print_at
  print_law = OfForm printed

  abbrev the_print : Form rooms n (ℕ × (List Expr × List (List ℕ)))
  the_print = form_of rooms n printed.fits printed.sp (λ y. Unit {0}) (print_at n) (print_at k) print_law

  abbrev exchange_1 : Item rooms n ((ℕ × (List Expr × List (List ℕ))) ⊎ Expr)
  exchange_1 =
      or_item (mark_item (m.Reserved r.Print) print_leaves the_print)
      (mark_item (m.Reserved r.Skip) skip_leaves (before_form an_expr (m.Reserved r.Lines) lines_leaves
      (λ y. ends_at _ y refl refl refl))) (λ b y f e. refl)

  not_read : (b : (ℕ × (List Expr × List (List ℕ))) ⊎ Expr) (y : List Plain)
      → is (m.Reserved r.Read) (first (exchange_1.sp b ++ y)) ≡ false
  not_read (inl x) y = refl
  not_read (inr e) y = refl

  abbrev ExchangeParts : Type 0
  ExchangeParts = Several Reference ⊎ ((ℕ × (List Expr × List (List ℕ))) ⊎ Expr)

  abbrev exchange_0 : Item rooms n ExchangeParts
  exchange_0 = or_item (mark_item (m.Reserved r.Read) read_leaves read_part) exchange_1 (λ b y f e. not_read b y)

  split_exchange : Exchange → ExchangeParts
  split_exchange (Read vs) = inl vs
  split_exchange (Print i es p) = inr (inl (i, (es, p)))
  split_exchange (Skip e) = inr (inr e)

  whole_exchange : (a : Exchange) → exchange_of (split_exchange a) ≡ a
  unfolding split_exchange
  whole_exchange (Read vs) = refl
  whole_exchange (Print i es p) = refl
  whole_exchange (Skip e) = refl

  exchange_spelled : (x : ExchangeParts) → spell_exchange (exchange_of x) ≡ exchange_0.sp x
  exchange_spelled (inl vs) = refl
  exchange_spelled (inr (inl (i, (es, p)))) =
      ap (λ (u : List Plain). mark (m.Reserved r.Print) ∷ number i ∷ mark (m.Reserved r.Lines) ∷ u)
      (sym (append_assoc (spell_behind (m.Reserved r.With) spell_expr es) (mark (m.Reserved r.Thus) ∷ [])
      (picture p ∷ [])))
  exchange_spelled (inr (inr e)) = refl

  exchange_there : (x : ExchangeParts) → exchange_0.fits x → depth_exchange (exchange_of x) ≤ n
  exchange_there (inl vs) h = h
  exchange_there (inr (inl (i, (es, p)))) h = h.1.0
  exchange_there (inr (inr e)) h = h

  exchange_back : (a : Exchange) → depth_exchange a ≤ n → exchange_0.fits (split_exchange a)
  unfolding split_exchange
  exchange_back (Read vs) h = h
  exchange_back (Print i es p) h = (tt, (h, tt))
  exchange_back (Skip e) h = h

  exchange_law : ItemLaw exchange_0.none (λ a. depth_exchange a ≤ n) spell_exchange (exchange_at n) (exchange_at k)
  unfolding exchange_at
  exchange_law =
      of_item (made_item exchange_0 spell_exchange (λ a. depth_exchange a ≤ n) exchange_of split_exchange whole_exchange
      exchange_spelled exchange_there exchange_back) (λ y e. ((calm_open y e, e.no_comma), (tt, tt)))

  abbrev exchange_item : Item rooms n Exchange
  exchange_item =
      item_of exchange_0.none (λ a. depth_exchange a ≤ n) spell_exchange (exchange_at n) (exchange_at k) exchange_law

  -- ---- a statement that holds no other

  not_exchange : (b : Assign) (y : List Plain) → exchange_0.none ((assign_item).sp b ++ y)
  not_exchange (Let true v e) y = (refl, (refl, refl))
  not_exchange (Let false v e) y = (refl, (refl, refl))
  not_exchange (Add e v) y = (refl, (refl, refl))
  not_exchange (Subtract e v) y = (refl, (refl, refl))

  abbrev simple_4 : Item rooms n (Exchange ⊎ Assign)
  simple_4 = ending_item (or_item exchange_item assign_item (λ b y f e. not_exchange b y)) Calm (λ y e. (e, e))

  not_timing : (b : Exchange ⊎ Assign) (y : List Plain) → timing_0.none ((simple_4).sp b ++ y)
  not_timing (inl (Read vs)) y = (refl, (refl, refl))
  not_timing (inl (Print i es p)) y = (refl, (refl, refl))
  not_timing (inl (Skip e)) y = (refl, (refl, refl))
  not_timing (inr (Let true v e)) y = (refl, (refl, refl))
  not_timing (inr (Let false v e)) y = (refl, (refl, refl))
  not_timing (inr (Add e v)) y = (refl, (refl, refl))
  not_timing (inr (Subtract e v)) y = (refl, (refl, refl))

  abbrev simple_3 : Item rooms n (Timing ⊎ (Exchange ⊎ Assign))
  simple_3 = ending_item (or_item timing_item simple_4 (λ b y f e. not_timing b y)) Calm (λ y e. (e, e))

  not_transfer : (b : Timing ⊎ (Exchange ⊎ Assign)) (y : List Plain) → transfer_0.none ((simple_3).sp b ++ y)
  not_transfer (inl (Schedule a c d t)) y = (refl, (refl, refl))
  not_transfer (inl (Cancel c v)) y = (refl, (refl, refl))
  not_transfer (inl StartSimulation) y = (refl, (refl, refl))
  not_transfer (inr (inl (Read vs))) y = (refl, (refl, refl))
  not_transfer (inr (inl (Print i es p))) y = (refl, (refl, refl))
  not_transfer (inr (inl (Skip e))) y = (refl, (refl, refl))
  not_transfer (inr (inr (Let true v e))) y = (refl, (refl, refl))
  not_transfer (inr (inr (Let false v e))) y = (refl, (refl, refl))
  not_transfer (inr (inr (Add e v))) y = (refl, (refl, refl))
  not_transfer (inr (inr (Subtract e v))) y = (refl, (refl, refl))

  abbrev simple_2 : Item rooms n (Transfer ⊎ (Timing ⊎ (Exchange ⊎ Assign)))
  simple_2 = ending_item (or_item transfer_item simple_3 (λ b y f e. not_transfer b y)) Calm (λ y e. (e, e))

  not_filing : (b : Transfer ⊎ (Timing ⊎ (Exchange ⊎ Assign))) (y : List Plain) → filing_0.none ((simple_2).sp b ++ y)
  not_filing (inl (Call v es vs)) y = (refl, refl)
  not_filing (inl Return) y = (refl, refl)
  not_filing (inl Stop) y = (refl, refl)
  not_filing (inr (inl (Schedule a c d t))) y = (refl, refl)
  not_filing (inr (inl (Cancel c v))) y = (refl, refl)
  not_filing (inr (inl StartSimulation)) y = (refl, refl)
  not_filing (inr (inr (inl (Read vs)))) y = (refl, refl)
  not_filing (inr (inr (inl (Print i es p)))) y = (refl, refl)
  not_filing (inr (inr (inl (Skip e)))) y = (refl, refl)
  not_filing (inr (inr (inr (Let true v e)))) y = (refl, refl)
  not_filing (inr (inr (inr (Let false v e)))) y = (refl, refl)
  not_filing (inr (inr (inr (Add e v)))) y = (refl, refl)
  not_filing (inr (inr (inr (Subtract e v)))) y = (refl, refl)

  abbrev simple_1 : Item rooms n (Filing ⊎ (Transfer ⊎ (Timing ⊎ (Exchange ⊎ Assign))))
  simple_1 = ending_item (or_item filing_item simple_2 (λ b y f e. not_filing b y)) Calm (λ y e. (e, e))

  not_making : (b : Filing ⊎ (Transfer ⊎ (Timing ⊎ (Exchange ⊎ Assign)))) (y : List Plain)
      → making_0.none ((simple_1).sp b ++ y)
  not_making (inl (File e h v)) y = (refl, refl)
  not_making (inl (FileAt b e v)) y = (refl, refl)
  not_making (inl (RemoveEnd b u v)) y = (refl, refl)
  not_making (inl (Remove e v)) y = (refl, refl)
  not_making (inr (inl (Call v es vs))) y = (refl, refl)
  not_making (inr (inl Return)) y = (refl, refl)
  not_making (inr (inl Stop)) y = (refl, refl)
  not_making (inr (inr (inl (Schedule a c d t)))) y = (refl, refl)
  not_making (inr (inr (inl (Cancel c v)))) y = (refl, refl)
  not_making (inr (inr (inl StartSimulation))) y = (refl, refl)
  not_making (inr (inr (inr (inl (Read vs))))) y = (refl, refl)
  not_making (inr (inr (inr (inl (Print i es p))))) y = (refl, refl)
  not_making (inr (inr (inr (inl (Skip e))))) y = (refl, refl)
  not_making (inr (inr (inr (inr (Let true v e))))) y = (refl, refl)
  not_making (inr (inr (inr (inr (Let false v e))))) y = (refl, refl)
  not_making (inr (inr (inr (inr (Add e v))))) y = (refl, refl)
  not_making (inr (inr (inr (inr (Subtract e v))))) y = (refl, refl)

  abbrev simple_0 : Item rooms n (Making ⊎ (Filing ⊎ (Transfer ⊎ (Timing ⊎ (Exchange ⊎ Assign)))))
  simple_0 = ending_item (or_item making_item simple_1 (λ b y f e. not_making b y)) Calm (λ y e. (e, e))

  abbrev SimpleParts : Type 0
  SimpleParts = Making ⊎ (Filing ⊎ (Transfer ⊎ (Timing ⊎ (Exchange ⊎ Assign))))

  split_simple : Simple → SimpleParts
  split_simple (Makes a) = inl a
  split_simple (Files a) = inr (inl a)
  split_simple (Transfers a) = inr (inr (inl a))
  split_simple (Times a) = inr (inr (inr (inl a)))
  split_simple (Exchanges a) = inr (inr (inr (inr (inl a))))
  split_simple (Assigns a) = inr (inr (inr (inr (inr a))))

  whole_simple : (a : Simple) → simple_of (split_simple a) ≡ a
  unfolding split_simple
  whole_simple (Makes a) = refl
  whole_simple (Files a) = refl
  whole_simple (Transfers a) = refl
  whole_simple (Times a) = refl
  whole_simple (Exchanges a) = refl
  whole_simple (Assigns a) = refl

  simple_spelled : (x : SimpleParts) → spell_simple (simple_of x) ≡ simple_0.sp x
  simple_spelled (inl a) = refl
  simple_spelled (inr (inl a)) = refl
  simple_spelled (inr (inr (inl a))) = refl
  simple_spelled (inr (inr (inr (inl a)))) = refl
  simple_spelled (inr (inr (inr (inr (inl a))))) = refl
  simple_spelled (inr (inr (inr (inr (inr a))))) = refl

  simple_there : (x : SimpleParts) → simple_0.fits x → depth_simple (simple_of x) ≤ n
  simple_there (inl a) h = h
  simple_there (inr (inl a)) h = h
  simple_there (inr (inr (inl a))) h = h
  simple_there (inr (inr (inr (inl a)))) h = h
  simple_there (inr (inr (inr (inr (inl a))))) h = h
  simple_there (inr (inr (inr (inr (inr a))))) h = h

  simple_back : (a : Simple) → depth_simple a ≤ n → simple_0.fits (split_simple a)
  unfolding split_simple
  simple_back (Makes a) h = h
  simple_back (Files a) h = h
  simple_back (Transfers a) h = h
  simple_back (Times a) h = h
  simple_back (Exchanges a) h = h
  simple_back (Assigns a) h = h

  pub simple_law : ItemLawOf rooms n NoSimple (λ a. depth_simple a ≤ n) spell_simple (simple_at n) (simple_at k)
  unfolding simple_at
  simple_law =
      of_item (made_item simple_0 spell_simple (λ a. depth_simple a ≤ n) simple_of split_simple whole_simple
      simple_spelled simple_there simple_back) (λ y e. e)
