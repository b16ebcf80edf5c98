-- The laws of the reading of expressions.
use Rattle.std.proofs.Common.{◌≡◌, ◌⊎◌, ℕ, zero, suc, max, ◌≤◌, ◌<◌, false, List, [], ◌∷◌, ◌++◌}
use Rattle.std.proofs.Common.{Option, Some, None, refl, ap, ◌∙◌, append_assoc, arith}
use Rattle.std.specs.List.{flat_map}
use mathlib.Core.Logic.{inl, inr}
use Rattle.ss_words.specs.declared.mark.Mark.TheVariants as m
use Rattle.ss_words.specs.declared.word.Sign.TheVariants as s
use Rattle.ss_words.specs.declared.refusal.Refusal.TheVariants.{PastLimit}
use Rattle.ss_words.specs.Plain.{Plain, name, number, mark, first}
use Rattle.ss_words.specs.Lists.{Name, Several, spell_others, spell_several}
use Rattle.ss_words.specs.Reading.{Reading, refuse}
use Rattle.ss_words.specs.Marks.{is}
use Rattle.ss_words.proofs.Local.{Rooms, same, more}
use Rattle.ss_words.specs.declared.terms.TermSign.{TermSign}
use Rattle.ss_words.specs.declared.terms.TermSign.TheVariants.{Plus, Minus}
use Rattle.ss_routines.specs.Combined.{pair, if_mark, if_word, star, by_table, if_open, several}
use Rattle.ss_routines.specs.Expr.{Expr, expr, Sums, no_sums, sum, Term, term, Products, no_products, product, Factor}
use Rattle.ss_routines.specs.Expr.{digits, named, applied, within, Exprs, no_exprs, exprs, sign, spell_within}
use Rattle.ss_routines.specs.Expr.{spell_expr, spell_sums, spell_term, spell_products, spell_factor, spell_exprs}
use Rattle.ss_routines.specs.Expr.{depth_expr, depth_sums, depth_term, depth_products, depth_factor, depth_exprs}
use Rattle.ss_routines.specs.Expr.{sums_of, products_of, exprs_of}
use Rattle.ss_routines.specs.ExprReading.{sign_of, number_of, factor_of, factor_with, term_with, expr_with}
use Rattle.ss_routines.specs.ExprReading.{expr_at, inner_at, rest_with}
use Rattle.ss_routines.specs.SimpleSpelling.{greatest, greatest_of}
use Rattle.ss_routines.proofs.Tally.{Leaves, plain_word}
use Rattle.ss_routines.proofs.Form.{Form, Each, Table, name_form, pair_form, made_form, mark_item, option_form}
use Rattle.ss_routines.proofs.Form.{either_form, star_form, table_item, word_item}
use Rattle.ss_routines.proofs.Law.{Law, form_of, OpenLaw, open_item, open_law, shut_law, shut_more_law}

-- a text that goes on with no part of an expression
pub record Ends (y : List Plain) : Type 0 where
  pub no_open : is (m.Sign s.Open) (first y) ≡ false
  pub no_star : is (m.Sign s.Star) (first y) ≡ false
  pub no_sign : sign_of (first y) ≡ None

-- ---- one or more with commas between

pub comma_leaves : Leaves 0 (mark (m.Sign s.Comma) ∷ [])
comma_leaves = plain_word _ refl refl refl

-- the same rooms, or more in the second
abbrev pub Wider : Rooms → ℕ → ℕ → Type 0
Wider same n k = n ≡ k
Wider more n k = n < k

-- the greatest depth in a list is within n if each depth is
pub each_greatest : {A : Type 0} (d : A → ℕ) (n : ℕ) (xs : List A) → Each (λ x. d x ≤ n) xs → greatest d xs ≤ n
each_greatest d n [] h = omega arith
each_greatest d n (x ∷ xs) h = let i = each_greatest d n xs h.1 in let j = h.0 in omega (arith, i, j)

pub greatest_each : {A : Type 0} (d : A → ℕ) (n : ℕ) (xs : List A) → greatest d xs ≤ n → Each (λ x. d x ≤ n) xs
greatest_each d n [] h = tt
greatest_each d n (x ∷ xs) h = (omega (arith, h), greatest_each d n xs (omega (arith, h)))

-- no comma is there either
abbrev pub EndsList : (List Plain → Type 0) → List Plain → Type 0
EndsList ends y = ends y × (is (m.Sign s.Comma) (first y) ≡ false)

module _ {A : Type 0} {rooms : Rooms} {n : ℕ} (d : A → ℕ) (sp : A → List Plain) (ends : List Plain → Type 0)
    (p p' : Reading A) (l : Law rooms n (λ a. d a ≤ n) sp ends p p')
    (c : (y : List Plain) → ends (mark (m.Sign s.Comma) ∷ y)) where
  abbrev part : Form rooms n A
  part = form_of rooms n (λ a. d a ≤ n) sp ends p p' l

  others_end : (xs : List A) (y : List Plain) → EndsList ends y → ends (spell_others sp xs ++ y)
  others_end [] y e = e.0
  others_end (x ∷ xs) y e = c ((sp x ++ spell_others sp xs) ++ y)

  abbrev several_form : Form rooms n (Several A)
  several_form =
      made_form (pair_form part (star_form (mark_item (m.Sign s.Comma) comma_leaves part) (λ a y. c (sp a ++ y)))
      (λ xs y f e. others_end xs y e))
      (spell_several sp) (λ xs. greatest_of d xs ≤ n) (λ x. record { first = x.0; others = x.1 })
      (λ xs. (xs.first, xs.others))
      (λ xs. refl) (λ x. refl) (λ x h. let i = each_greatest d n x.1 h.1 in let j = h.0 in omega (arith, i, j))
      (λ xs h. (omega (arith, h), greatest_each d n xs.others (omega (arith, h))))

  pub several_law : Law rooms n (λ xs. greatest_of d xs ≤ n) (spell_several sp) (EndsList ends) (several p) (several p')
  unfolding several
  several_law = let f = several_form in record { good = f.good; near = f.near; counted = f.counted; again = f.again }

-- ---- tables

pub sign_there : (w : TermSign) → sign_of (Some (sign w)) ≡ Some w
sign_there Plus = refl
sign_there Minus = refl

pub sign_only : (v : Option Plain) (w : TermSign) → sign_of v ≡ Some w → v ≡ Some (sign w)
sign_only (Some (mark (m.Sign s.Plus))) Plus e = refl
sign_only (Some (mark (m.Sign s.Plus))) Minus e = absurd cc
sign_only (Some (mark (m.Sign s.Minus))) Minus e = refl
sign_only (Some (mark (m.Sign s.Minus))) Plus e = absurd cc
sign_only _ w e = absurd cc

pub sign_leaves : (w : TermSign) → Leaves 0 (sign w ∷ [])
sign_leaves Plus = plain_word _ refl refl refl
sign_leaves Minus = plain_word _ refl refl refl

abbrev pub sign_table : Table TermSign
sign_table = record { of = sign_of; word = sign; there = sign_there; only = sign_only; leaves = sign_leaves }

pub number_only : (v : Option Plain) (w : ℕ) → number_of v ≡ Some w → v ≡ Some (number w)
number_only (Some (number k)) w e =
    let same : k ≡ w = cc in ap (λ (j : ℕ). let o : Option Plain = Some (number j) in o) same
number_only _ w e = absurd cc

pub number_leaves : (k : ℕ) → Leaves 0 (number k ∷ [])
number_leaves k = plain_word _ refl refl refl

abbrev pub number_table : Table ℕ
number_table = record { of = number_of; word = number; there = λ k. refl; only = number_only; leaves = number_leaves }

-- ---- lists and trees

list_exprs : Exprs → List Expr
list_exprs no_exprs = []
list_exprs (exprs e es) = e ∷ list_exprs es

exprs_list : (es : Exprs) → exprs_of (list_exprs es) ≡ es
unfolding list_exprs
exprs_list no_exprs = refl
exprs_list (exprs e es) = ap (exprs e) (exprs_list es)

spell_exprs_of : (es : List Expr) → spell_exprs (exprs_of es) ≡ spell_others spell_expr es
spell_exprs_of [] = refl
spell_exprs_of (e ∷ es) = ap (λ (u : List Plain). mark (m.Sign s.Comma) ∷ (spell_expr e ++ u)) (spell_exprs_of es)

depth_exprs_of : (es : List Expr) → depth_exprs (exprs_of es) ≡ greatest depth_expr es
depth_exprs_of [] = refl
depth_exprs_of (e ∷ es) = ap (max (depth_expr e)) (depth_exprs_of es)

depth_list : (es : Exprs) → greatest depth_expr (list_exprs es) ≡ depth_exprs es
unfolding list_exprs
depth_list no_exprs = refl
depth_list (exprs e es) = ap (max (depth_expr e)) (depth_list es)

pub list_products : Products → List Factor
list_products no_products = []
list_products (product f ps) = f ∷ list_products ps

pub products_list : (ps : Products) → products_of (list_products ps) ≡ ps
unfolding list_products
products_list no_products = refl
products_list (product f ps) = ap (product f) (products_list ps)

pub spell_products_of : (fs : List Factor) → spell_products (products_of fs) ≡ flat_map
    (λ f. mark (m.Sign s.Star) ∷ spell_factor f) fs
spell_products_of [] = refl
spell_products_of (f ∷ fs) =
    ap (λ (u : List Plain). mark (m.Sign s.Star) ∷ (spell_factor f ++ u)) (spell_products_of fs)

pub list_sums : Sums → List (TermSign × Term)
list_sums no_sums = []
list_sums (sum b t ss) = (b, t) ∷ list_sums ss

pub sums_list : (ss : Sums) → sums_of (list_sums ss) ≡ ss
unfolding list_sums
sums_list no_sums = refl
sums_list (sum b t ss) = ap (sum b t) (sums_list ss)

pub spell_sums_of : (xs : List (TermSign × Term)) → spell_sums (sums_of xs) ≡ flat_map (λ x. sign x.0 ∷ spell_term x.1)
    xs
spell_sums_of [] = refl
spell_sums_of (x ∷ xs) = ap (λ (u : List Plain). sign x.0 ∷ (spell_term x.1 ++ u)) (spell_sums_of xs)

module _ (n : ℕ) where
  pub products_fit : (fs : List Factor) → Each (λ f. depth_factor f ≤ n) fs → depth_products (products_of fs) ≤ n
  products_fit [] h = omega arith
  products_fit (f ∷ fs) h = let i = products_fit fs h.1 in let j = h.0 in omega (arith, i, j)

  pub fit_products : (ps : Products) → depth_products ps ≤ n → Each (λ f. depth_factor f ≤ n) (list_products ps)
  unfolding list_products
  fit_products no_products h = tt
  fit_products (product f ps) h = (omega (arith, h), fit_products ps (omega (arith, h)))

  pub sums_fit : (xs : List (TermSign × Term)) → Each (λ x. depth_term x.1 ≤ n) xs → depth_sums (sums_of xs) ≤ n
  sums_fit [] h = omega arith
  sums_fit (x ∷ xs) h = let i = sums_fit xs h.1 in let j = h.0 in omega (arith, i, j)

  pub fit_sums : (ss : Sums) → depth_sums ss ≤ n → Each (λ x. depth_term x.1 ≤ n) (list_sums ss)
  unfolding list_sums
  fit_sums no_sums h = tt
  fit_sums (sum b t ss) h = (omega (arith, h), fit_sums ss (omega (arith, h)))

-- ---- one level

split_factor : Factor → Expr ⊎ (ℕ ⊎ (Name × Option (Several Expr)))
split_factor (digits k) = inr (inl k)
split_factor (named v) = inr (inr (v, None))
split_factor (applied v e es) = inr (inr (v, Some (record { first = e; others = list_exprs es })))
split_factor (within e) = inl e

whole_factor : (f : Factor) → factor_of (split_factor f) ≡ f
unfolding split_factor
whole_factor (digits k) = refl
whole_factor (named v) = refl
whole_factor (applied v e es) = ap (applied v e) (exprs_list es)
whole_factor (within e) = refl

pub factor_first : (f : Factor) (y : List Plain) → sign_of (first (spell_factor f ++ y)) ≡ None
factor_first (digits n) y = refl
factor_first (named n) y = refl
factor_first (applied n e es) y = refl
factor_first (within e) y = refl

pub term_first : (t : Term) (y : List Plain) → sign_of (first (spell_term t ++ y)) ≡ None
term_first (term f ps) y =
    ap (λ (u : List Plain). sign_of (first u)) (append_assoc (spell_factor f) (spell_products ps) y)
    ∙ factor_first f (spell_products ps ++ y)

-- q reads in one more parenthesis; q' reads there with the rooms of p'
module _ (rooms : Rooms) (n k : ℕ) (q q' : Reading Expr)
    (lw : OpenLaw rooms n depth_expr spell_expr (if_open n q) (if_open k q'))
    (la : OpenLaw rooms n (greatest_of depth_expr) (spell_several spell_expr) (if_open n (several q))
    (if_open k (several q'))) where
  abbrev name_part : Form rooms n (Name × Option (Several Expr))
  name_part =
      pair_form (name_form rooms n) (option_form (open_item rooms n (greatest_of depth_expr) (spell_several spell_expr)
      (if_open n (several q)) (if_open k (several q')) la)) (λ b y f e. tt)

  abbrev plain_part : Form rooms n (ℕ ⊎ (Name × Option (Several Expr)))
  plain_part = either_form (table_item rooms n number_table) name_part (λ b y f e. refl)

  plain_first : (b : ℕ ⊎ (Name × Option (Several Expr))) (y : List Plain)
      → is (m.Sign s.Open) (first (plain_part.sp b ++ y)) ≡ false
  plain_first (inl i) y = refl
  plain_first (inr x) y = refl

  abbrev factor_part : Form rooms n (Expr ⊎ (ℕ ⊎ (Name × Option (Several Expr))))
  factor_part =
      either_form (open_item rooms n depth_expr spell_expr (if_open n q) (if_open k q') lw) plain_part
      (λ b y f e. plain_first b y)

  factor_spelled : (x : Expr ⊎ (ℕ ⊎ (Name × Option (Several Expr)))) → spell_factor (factor_of x) ≡ factor_part.sp x
  factor_spelled (inl e) = refl
  factor_spelled (inr (inl i)) = refl
  factor_spelled (inr (inr (v, None))) = refl
  factor_spelled (inr (inr (v, Some xs))) =
      ap (λ (u : List Plain). name v ∷ spell_within (spell_expr xs.first ++ u)) (spell_exprs_of xs.others)

  factor_there : (x : Expr ⊎ (ℕ ⊎ (Name × Option (Several Expr)))) → factor_part.fits x → depth_factor (factor_of x) ≤ n
  factor_there (inl e) h = omega (arith, h)
  factor_there (inr (inl i)) h = omega arith
  factor_there (inr (inr (v, None))) h = omega arith
  factor_there (inr (inr (v, Some xs))) h = let i = h.1 in omega (arith, i, depth_exprs_of xs.others)

  factor_back : (f : Factor) → depth_factor f ≤ n → factor_part.fits (split_factor f)
  unfolding split_factor
  factor_back (digits i) h = tt
  factor_back (named v) h = (tt, tt)
  factor_back (applied v e es) h = (tt, omega (arith, h, depth_list es))
  factor_back (within e) h = omega (arith, h)

  abbrev EndsFactor : List Plain → Type 0
  EndsFactor y = is (m.Sign s.Open) (first y) ≡ false

  factor_law : Law rooms n (λ f. depth_factor f ≤ n) spell_factor EndsFactor (factor_with n q) (factor_with k q')
  unfolding factor_with
  factor_law =
      let f = made_form factor_part spell_factor (λ f. depth_factor f ≤ n) factor_of split_factor whole_factor
      factor_spelled factor_there factor_back in
      record { good = f.good; near = f.near; counted = f.counted; again = λ a y h e. f.again a y h (tt, (tt, (tt, e))) }

  abbrev a_factor : Form rooms n Factor
  a_factor =
      form_of rooms n (λ f. depth_factor f ≤ n) spell_factor EndsFactor (factor_with n q) (factor_with k q') factor_law

  abbrev EndsTerm : List Plain → Type 0
  EndsTerm y = (is (m.Sign s.Open) (first y) ≡ false) × (is (m.Sign s.Star) (first y) ≡ false)

  star_leaves : Leaves 0 (mark (m.Sign s.Star) ∷ [])
  star_leaves = plain_word _ refl refl refl

  factors_end : (fs : List Factor) (y : List Plain) → EndsTerm y
      → EndsFactor (flat_map (λ f. mark (m.Sign s.Star) ∷ spell_factor f) fs ++ y)
  factors_end [] y e = e.0
  factors_end (f ∷ fs) y e = refl

  whole_term : (t : Term) → (let x : Factor × List Factor = elim t [ term f ps ↦ (f, list_products ps) ] in term x.0
      (products_of x.1)) ≡ t
  whole_term (term f ps) = ap (term f) (products_list ps)

  term_back : (t : Term) → depth_term t ≤ n → (let x : Factor
      × List Factor = elim t [ term f ps ↦ (f, list_products ps) ] in (depth_factor x.0 ≤ n)
      × Each (λ f. depth_factor f ≤ n) x.1)
  term_back (term f ps) h = (omega (arith, h), fit_products n ps (omega (arith, h)))

  term_law : Law rooms n (λ t. depth_term t ≤ n) spell_term EndsTerm (term_with n q) (term_with k q')
  unfolding term_with
  term_law =
      let f = made_form (pair_form a_factor (star_form (mark_item (m.Sign s.Star) star_leaves a_factor) (λ a y. refl))
      (λ fs y h e. factors_end fs y e))
      spell_term (λ t. depth_term t ≤ n) (λ x. term x.0 (products_of x.1))
      (λ t. elim t [ term f ps ↦ (f, list_products ps) ])
      whole_term (λ x. ap (λ (u : List Plain). spell_factor x.0 ++ u) (spell_products_of x.1))
      (λ x h. let i = products_fit n x.1 h.1 in let j = h.0 in omega (arith, i, j)) term_back in
      record { good = f.good; near = f.near; counted = f.counted; again = f.again }

  abbrev a_term : Form rooms n Term
  a_term = form_of rooms n (λ t. depth_term t ≤ n) spell_term EndsTerm (term_with n q) (term_with k q') term_law

  sign_ends : (w : TermSign) (y : List Plain) → EndsTerm (sign w ∷ y)
  sign_ends Plus y = (refl, refl)
  sign_ends Minus y = (refl, refl)

  terms_end : (xs : List (TermSign × Term)) (y : List Plain) → Ends y
      → EndsTerm (flat_map (λ x. sign x.0 ∷ spell_term x.1) xs ++ y)
  terms_end [] y e = (e.no_open, e.no_star)
  terms_end (x ∷ xs) y e = sign_ends x.0 ((spell_term x.1 ++ flat_map (λ x. sign x.0 ∷ spell_term x.1) xs) ++ y)

  abbrev sums_part : Form rooms n (List (TermSign × Term))
  sums_part = star_form (word_item sign_table a_term) (λ a y. sign_ends a.0 (spell_term a.1 ++ y))

  abbrev terms_part : Form rooms n (Term × List (TermSign × Term))
  terms_part =
      pair_form a_term sums_part (λ xs y h e. terms_end xs y
      (record { no_open = e.0.0; no_star = e.0.1; no_sign = e.1 }))

  terms_first : (x : Term × List (TermSign × Term)) (y : List Plain) → sign_of (first (terms_part.sp x ++ y)) ≡ None
  terms_first (t, xs) y =
      ap (λ (u : List Plain). sign_of (first u)) (append_assoc (spell_term t)
      (flat_map (λ x. sign x.0 ∷ spell_term x.1) xs) y) ∙ term_first t _

  abbrev signed_part : Form rooms n (Option TermSign × (Term × List (TermSign × Term)))
  signed_part = pair_form (option_form (table_item rooms n sign_table)) terms_part (λ x y h e. (tt, terms_first x y))

  abbrev split_expr : Expr → Option TermSign × (Term × List (TermSign × Term))
  split_expr e = elim e [ expr l t ss ↦ (l, (t, list_sums ss)) ]

  whole_expr : (e : Expr) → expr (split_expr e).0 (split_expr e).1.0 (sums_of (split_expr e).1.1) ≡ e
  whole_expr (expr l t ss) = ap (expr l t) (sums_list ss)

  expr_spelled : (x : Option TermSign × (Term × List (TermSign × Term)))
      → spell_expr (expr x.0 x.1.0 (sums_of x.1.1)) ≡ signed_part.sp x
  expr_spelled (None, (t, xs)) = ap (λ (u : List Plain). spell_term t ++ u) (spell_sums_of xs)
  expr_spelled (Some b, (t, xs)) = ap (λ (u : List Plain). sign b ∷ (spell_term t ++ u)) (spell_sums_of xs)

  expr_back : (e : Expr) → depth_expr e ≤ n → signed_part.fits (split_expr e)
  expr_back (expr None t ss) h = (tt, (omega (arith, h), fit_sums n ss (omega (arith, h))))
  expr_back (expr (Some b) t ss) h = (tt, (omega (arith, h), fit_sums n ss (omega (arith, h))))

  pub level_law : Law rooms n (λ e. depth_expr e ≤ n) spell_expr Ends (expr_with n q) (expr_with k q')
  unfolding expr_with
  level_law =
      let f = made_form signed_part spell_expr (λ e. depth_expr e ≤ n) (λ x. expr x.0 x.1.0 (sums_of x.1.1)) split_expr
      whole_expr expr_spelled (λ x h. let i = sums_fit n x.1.1 h.1.1 in let j = h.1.0 in omega (arith, i, j))
      expr_back in
      record {
        good = f.good;
        near = f.near;
        counted = f.counted;
        again = λ a y h e. f.again a y h
            ((e.no_open, e.no_star), e.no_sign);
      }

  -- the part after a first factor
  abbrev EndsRest : List Plain → Type 0
  EndsRest y = Ends y

  abbrev rest_part : Form rooms n (List Factor × List (TermSign × Term))
  rest_part =
      pair_form (star_form (mark_item (m.Sign s.Star) star_leaves a_factor) (λ a y. refl)) sums_part
      (λ xs y h e. terms_end xs y (record { no_open = e.0.0; no_star = e.0.1; no_sign = e.1 }))

  abbrev pub rest_sp : List Factor × List (TermSign × Term) → List Plain
  rest_sp x = flat_map (λ f. mark (m.Sign s.Star) ∷ spell_factor f) x.0 ++ flat_map (λ x. sign x.0 ∷ spell_term x.1) x.1

  abbrev pub rest_fits : List Factor × List (TermSign × Term) → Type 0
  rest_fits x = Each (λ f. depth_factor f ≤ n) x.0 × Each (λ y. depth_term y.1 ≤ n) x.1

  pub level_rest : Law rooms n rest_fits rest_sp Ends (pair (star (if_mark (m.Sign s.Star) (factor_with n q)))
      (star (if_word (by_table sign_of) (term_with n q))))
      (pair (star (if_mark (m.Sign s.Star) (factor_with k q'))) (star (if_word (by_table sign_of) (term_with k q'))))
  level_rest =
      let f = rest_part in record {
        good = f.good;
        near = f.near;
        counted = f.counted;
        again = λ a y h e. f.again a y h
            ((e.no_open, e.no_star), e.no_sign);
      }

-- ---- all levels

pub close_ends : (y : List Plain) → Ends (mark (m.Sign s.Close) ∷ y)
close_ends y = record { no_open = refl; no_star = refl; no_sign = refl }

pub comma_ends : (y : List Plain) → Ends (mark (m.Sign s.Comma) ∷ y)
comma_ends y = record { no_open = refl; no_star = refl; no_sign = refl }

abbrev pub ExprLaw : Rooms → ℕ → Reading Expr → Reading Expr → Type 0
ExprLaw rooms n p p' = Law rooms n (λ e. depth_expr e ≤ n) spell_expr Ends p p'

deeper_law : (rooms : Rooms) (n k : ℕ) → ExprLaw rooms n (expr_at n) (expr_at k)
    → ExprLaw rooms (suc n) (expr_with (suc n) (expr_at n)) (expr_with (suc k) (expr_at k))
deeper_law rooms n k l = level_law rooms (suc n) (suc k) (expr_at n) (expr_at k)
    (open_law rooms n k depth_expr spell_expr Ends (expr_at n) (expr_at k) l close_ends)
    (open_law rooms n k (greatest_of depth_expr) (spell_several spell_expr) (EndsList Ends) (several (expr_at n))
    (several (expr_at k))
    (several_law depth_expr spell_expr Ends (expr_at n) (expr_at k) l comma_ends) (λ y. (close_ends y, refl)))

pub same_law : (n : ℕ) → ExprLaw same n (expr_at n) (expr_at n)
unfolding expr_at
same_law zero =
    level_law same 0 0 (refuse PastLimit) (refuse PastLimit) (shut_law depth_expr spell_expr (refuse PastLimit))
    (shut_law (greatest_of depth_expr) (spell_several spell_expr) (several (refuse PastLimit)))
same_law (suc n) = deeper_law same n n (same_law n)

pub expr_law : (rooms : Rooms) (n k : ℕ) → Wider rooms n k → ExprLaw rooms n (expr_at n) (expr_at k)
unfolding expr_at
expr_law same zero zero w = same_law zero
expr_law same zero (suc k) w = absurd (omega arith)
expr_law same (suc n) zero w = absurd (omega arith)
expr_law same (suc n) (suc k) w = deeper_law same n k (expr_law same n k (omega arith))
expr_law more zero zero w = absurd (omega arith)
expr_law more zero (suc k) w = level_law more 0 (suc k) (refuse PastLimit) (expr_at k)
    (shut_more_law depth_expr spell_expr (refuse PastLimit) k (expr_at k) ((same_law k).near))
    (shut_more_law (greatest_of depth_expr) (spell_several spell_expr) (several (refuse PastLimit)) k
    (several (expr_at k))
    ((several_law depth_expr spell_expr Ends (expr_at k) (expr_at k) (same_law k) comma_ends).near))
expr_law more (suc n) zero w = absurd (omega arith)
expr_law more (suc n) (suc k) w = deeper_law more n k (expr_law more n k (omega arith))

-- ---- in parentheses

pub open_expr : (rooms : Rooms) (n k : ℕ) → Wider rooms n k
    → OpenLaw rooms n depth_expr spell_expr (if_open n (inner_at n)) (if_open k (inner_at k))
open_expr same zero zero w = shut_law depth_expr spell_expr (refuse PastLimit)
open_expr same zero (suc k) w = absurd (omega arith)
open_expr same (suc n) zero w = absurd (omega arith)
open_expr same (suc n) (suc k) w =
    open_law same n k depth_expr spell_expr Ends (expr_at n) (expr_at k) (expr_law same n k (omega arith)) close_ends
open_expr more zero zero w = absurd (omega arith)
open_expr more zero (suc k) w = shut_more_law depth_expr spell_expr (refuse PastLimit) k (expr_at k) ((same_law k).near)
open_expr more (suc n) zero w = absurd (omega arith)
open_expr more (suc n) (suc k) w =
    open_law more n k depth_expr spell_expr Ends (expr_at n) (expr_at k) (expr_law more n k (omega arith)) close_ends

abbrev SeveralLaw : Rooms → ℕ → Reading (Several Expr) → Reading (Several Expr) → Type 0
SeveralLaw rooms n p p' =
    Law rooms n (λ xs. greatest_of depth_expr xs ≤ n) (spell_several spell_expr) (EndsList Ends) p p'

pub exprs_law : (rooms : Rooms) (n k : ℕ) → Wider rooms n k
    → SeveralLaw rooms n (several (expr_at n)) (several (expr_at k))
exprs_law rooms n k w = several_law depth_expr spell_expr Ends (expr_at n) (expr_at k) (expr_law rooms n k w) comma_ends

abbrev OpenSeveral : Rooms → ℕ → ℕ → Type 0
OpenSeveral rooms n k =
    OpenLaw rooms n (greatest_of depth_expr) (spell_several spell_expr) (if_open n (several (inner_at n)))
    (if_open k (several (inner_at k)))

pub open_exprs : (rooms : Rooms) (n k : ℕ) → Wider rooms n k → OpenSeveral rooms n k
open_exprs same zero zero w = shut_law (greatest_of depth_expr) (spell_several spell_expr) (several (refuse PastLimit))
open_exprs same zero (suc k) w = absurd (omega arith)
open_exprs same (suc n) zero w = absurd (omega arith)
open_exprs same (suc n) (suc k) w =
    open_law same n k (greatest_of depth_expr) (spell_several spell_expr) (EndsList Ends) (several (expr_at n))
    (several (expr_at k)) (exprs_law same n k (omega arith)) (λ y. (close_ends y, refl))
open_exprs more zero zero w = absurd (omega arith)
open_exprs more zero (suc k) w =
    shut_more_law (greatest_of depth_expr) (spell_several spell_expr) (several (refuse PastLimit)) k
    (several (expr_at k)) ((exprs_law same k k refl).near)
open_exprs more (suc n) zero w = absurd (omega arith)
open_exprs more (suc n) (suc k) w =
    open_law more n k (greatest_of depth_expr) (spell_several spell_expr) (EndsList Ends) (several (expr_at n))
    (several (expr_at k)) (exprs_law more n k (omega arith)) (λ y. (close_ends y, refl))

-- the words after a first factor
abbrev pub RestSpelled : List Factor × List (TermSign × Term) → List Plain
RestSpelled x =
    flat_map (λ f. mark (m.Sign s.Star) ∷ spell_factor f) x.0 ++ flat_map (λ x. sign x.0 ∷ spell_term x.1) x.1

-- within the limit
abbrev pub RestFits : ℕ → List Factor × List (TermSign × Term) → Type 0
RestFits n x = Each (λ f. depth_factor f ≤ n) x.0 × Each (λ y. depth_term y.1 ≤ n) x.1

-- after a first factor, at each level
pub rest_law : (rooms : Rooms) (n k : ℕ) → Wider rooms n k
    → Law rooms n (RestFits n) RestSpelled Ends (rest_with n) (rest_with k)
unfolding rest_with
rest_law rooms n k w = level_rest rooms n k (inner_at n) (inner_at k) (open_expr rooms n k w) (open_exprs rooms n k w)
