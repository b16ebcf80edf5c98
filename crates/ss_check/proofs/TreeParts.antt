-- The parts of a tree resolved one by one.
use Rattle.std.proofs.Common.{◌≡◌, ℕ, ◌+◌, ◌<◌, ◌≤◌, List, [], ◌∷◌, ◌++◌, length, get_or, take, refl, sym, ap, ◌∙◌}
use Rattle.std.specs.Prelude.{map, Result, Ok, Err, IfOk}
use Rattle.std.proofs.lemmas.List.{map-append, map_more, take_all}
use Rattle.ss_words.specs.Lists.{Name}
use Rattle.ss_routines.specs.Expr as e
use Rattle.ss_routines.specs.Condition as c
use Rattle.ss_routines.specs.Condition.{alternatives_of, additions_of}
use Rattle.ss_words.specs.declared.terms.TermSign.{TermSign}
use Rattle.ss_program.specs.ProgramExpr as x
use Rattle.ss_program.specs.ProgramCondition as y
use Rattle.ss_check.specs.Declarations.{Declared}
use Rattle.ss_check.specs.ResolvedNames.{Names}
use Rattle.ss_check.specs.Resolved.{resolved_expr, resolved_sums, resolved_term, resolved_products}
use Rattle.ss_check.specs.Resolved.{resolved_factor, resolved_exprs, resolved_alternatives, resolved_conjunction}
use Rattle.ss_check.specs.Resolved.{resolved_additions, resolved_relation}

-- if a part of a result is this, it is that too if the two are the same
pub along : {A B E : Type 0} (r : Result A E) (f : A → B) (y z : B) → IfOk r (λ a. f a ≡ y) → y ≡ z →
    IfOk r (λ a. f a ≡ z)
along (Ok a) f y z h e = h ∙ e
along (Err a) f y z h e = tt

-- a further term with its sign
abbrev pub resolved_signed : Declared → Names → List Name → TermSign × e.Term → TermSign × x.Term
resolved_signed d v locals s = (s.0, resolved_term d v locals s.1)

pub sums_map : {X : Type 0} (d : Declared) (v : Names) (locals : List Name) (view : X → TermSign × e.Term)
    (xs : List X) →
    x.sums_of (map (λ a. resolved_signed d v locals (view a)) xs) ≡ resolved_sums d v locals (e.sums_of (map view xs))
sums_map d v locals view [] = refl
sums_map d v locals view (a ∷ bs) =
    ap (λ (ss : x.Sums). x.sum (view a).0 (resolved_term d v locals (view a).1) ss)
    (sums_map d v locals view bs)

pub products_map : {X : Type 0} (d : Declared) (v : Names) (locals : List Name) (view : X → e.Factor) (xs : List X) →
    x.products_of (map (λ a. resolved_factor d v locals (view a)) xs)
    ≡ resolved_products d v locals (e.products_of (map view xs))
products_map d v locals view [] = refl
products_map d v locals view (a ∷ bs) =
    ap (λ (fs : x.Products). x.product (resolved_factor d v locals (view a)) fs) (products_map d v locals view bs)

pub exprs_map : {X : Type 0} (d : Declared) (v : Names) (locals : List Name) (view : X → e.Expr) (xs : List X) →
    x.exprs_of (map (λ a. resolved_expr d v locals (view a)) xs) ≡ resolved_exprs d v locals (e.exprs_of (map view xs))
exprs_map d v locals view [] = refl
exprs_map d v locals view (a ∷ bs) =
    ap (λ (es : x.Exprs). x.exprs (resolved_expr d v locals (view a)) es) (exprs_map d v locals view bs)

pub alternatives_map : {X : Type 0} (d : Declared) (v : Names) (locals : List Name) (view : X → c.Conjunction)
    (xs : List X) →
    y.conjunctions_of (map (λ a. resolved_conjunction d v locals (view a)) xs)
    ≡ resolved_alternatives d v locals (alternatives_of (map view xs))
alternatives_map d v locals view [] = refl
alternatives_map d v locals view (a ∷ bs) =
    ap (λ (cs : y.Conjunctions). y.or_else (resolved_conjunction d v locals (view a)) cs)
    (alternatives_map d v locals view bs)

pub additions_map : {X : Type 0} (d : Declared) (v : Names) (locals : List Name) (view : X → c.Relation) (xs : List X) →
    y.relations_of (map (λ a. resolved_relation d v locals (view a)) xs)
    ≡ resolved_additions d v locals (additions_of (map view xs))
additions_map d v locals view [] = refl
additions_map d v locals view (a ∷ bs) =
    ap (λ (rs : y.Relations). y.and_also (resolved_relation d v locals (view a)) rs)
    (additions_map d v locals view bs)

-- ---- elements put at the end of a list, each seen as a function's value of the next

pub shown_put : {X Y A : Type 0} (f : X → A) (g : Y → A) (done : List Y) (y : Y) (xs : List X) (i : ℕ) (x : X) →
    i < length xs → x ≡ get_or xs i x → g y ≡ f x → map g done ≡ map f (take i xs) →
    map g (done ++ y ∷ []) ≡ map f (take (i + 1) xs)
shown_put f g done y xs i x l e same h =
    map-append g done (y ∷ []) ∙ ap (λ z. map g done ++ z ∷ []) (same ∙ ap f e)
    ∙ ap (λ ys. ys ++ f (get_or xs i x) ∷ []) h ∙ sym (map_more f xs i x l)

-- until all are there
pub shown_all : {X Y A : Type 0} (f : X → A) (g : Y → A) (done : List Y) (xs : List X) (i : ℕ) →
    length xs ≤ i → map g done ≡ map f (take i xs) → map g done ≡ map f xs
shown_all f g done xs i l h = h ∙ ap (map f) (take_all i xs l)
