-- The words that statements are built of are in no part of a statement.
use Rattle.std.proofs.Common.{◌≡◌, Bool, true, false, List, [], ◌∷◌, ◌++◌, Option, Some, None, refl, arith}
use Rattle.std.specs.List.{flat_map}
use Rattle.ss_words.specs.declared.mark.Mark.{Mark}
use Rattle.ss_words.specs.declared.mark.Mark.TheVariants as m
use Rattle.ss_words.specs.declared.word.Sign.TheVariants as s
use Rattle.ss_words.specs.declared.reserved.Reserved.TheVariants as r
use Rattle.ss_words.specs.Plain.{Plain, name, mark}
use Rattle.ss_words.specs.Lists.{Name, Several, spell_others, spell_several}
use Rattle.ss_words.specs.declared.terms.TermSign.{TermSign}
use Rattle.ss_words.specs.declared.terms.TermSign.TheVariants.{Plus, Minus}
use Rattle.ss_words.specs.declared.terms.Comparison.{Comparison}
use Rattle.ss_words.specs.declared.terms.Comparison.TheVariants.{Equal, Unequal, Less, Greater, AtMost, AtLeast}
use Rattle.ss_words.specs.declared.terms.Copula.{Copula}
use Rattle.ss_words.specs.declared.terms.Copula.TheVariants.{Is, IsNot}
use Rattle.ss_words.specs.declared.terms.SetEnd.{SetEnd}
use Rattle.ss_words.specs.declared.terms.SetEnd.TheVariants as end
use Rattle.ss_routines.specs.declared.tree.simple.Article.{Article}
use Rattle.ss_routines.specs.declared.tree.simple.Article.TheVariants as article
use Rattle.ss_words.specs.declared.terms.Direction.{Direction}
use Rattle.ss_words.specs.declared.terms.Direction.TheVariants.{Onward, Backward}
use Rattle.ss_words.specs.declared.terms.QualifierWord.{QualifierWord}
use Rattle.ss_words.specs.declared.terms.QualifierWord.TheVariants.{With, Unless, While, Until}
use Rattle.ss_words.specs.declared.terms.Statistic.{Statistic}
use Rattle.ss_words.specs.declared.terms.Statistic.TheVariants.{Number, Sum, Maximum, Minimum}
use Rattle.ss_routines.specs.Expr.{Expr, expr, Sums, no_sums, sum, Term, term, Products, no_products, product, Factor}
use Rattle.ss_routines.specs.Expr.{digits, named, applied, within, Exprs, no_exprs, exprs, sign, spell_lead}
use Rattle.ss_routines.specs.Expr.{spell_within}
use Rattle.ss_routines.specs.Expr.{spell_expr, spell_sums, spell_term, spell_products, spell_factor, spell_exprs}
use Rattle.ss_routines.specs.Condition.{Reference, Condition, condition, Alternatives, no_alternatives, alternative}
use Rattle.ss_routines.specs.Condition.{Conjunction, conjunction, Additions, no_additions, addition, Relation, compared}
use Rattle.ss_routines.specs.Condition.{is_empty, is_in, nested, spell_subscript, spell_reference, spell_comparison}
use Rattle.ss_routines.specs.Condition.{spell_copula, spell_condition, spell_alternatives, spell_conjunction}
use Rattle.ss_routines.specs.Condition.{spell_additions, spell_relation}
use Rattle.ss_routines.specs.Simple.{Assign, Let, Add, Subtract, Making, Create, CreateEvery, Destroy, FilePlace}
use Rattle.ss_routines.specs.Simple.{ByDiscipline, AtEnd, Before, After, Filing, File, FileAt, RemoveEnd, Remove}
use Rattle.ss_routines.specs.Simple.{Listing, Unwritten, BehindGiven, InParentheses, Transfer, Call, Return, Stop}
use Rattle.ss_routines.specs.Simple.{Details, ValuesFirst, CalledFirst, When, At, Now, In, Timing, Schedule, Cancel}
use Rattle.ss_routines.specs.Simple.{StartSimulation, Exchange, Read, Print, Skip, Simple, Assigns, Makes, Files}
use Rattle.ss_routines.specs.Simple.{Transfers, Times, Exchanges}
use Rattle.ss_routines.specs.SimpleSpelling.{spell_behind, spell_option, spell_listing, spell_called, spell_let}
use Rattle.ss_routines.specs.SimpleSpelling.{spell_assign, spell_making, spell_end, spell_file_place, spell_filing}
use Rattle.ss_routines.specs.SimpleSpelling.{spell_transfer, spell_article, spell_details, spell_when, spell_timing}
use Rattle.ss_routines.specs.SimpleSpelling.{spell_exchange, spell_simple}
use Rattle.ss_routines.specs.Loops as loops
use Rattle.ss_routines.specs.Loops.{WalkStart, From, Range, Counting, Each, Walking, Qualifier, Phrase, Computed}
use Rattle.ss_routines.specs.Loops.{Question, Holds, Found, NoneFound, spell_walk_start, spell_direction, spell_order}
use Rattle.ss_routines.specs.Loops.{spell_name, spell_range, spell_qualifier_word, spell_qualifier, spell_statistic}
use Rattle.ss_routines.specs.Loops.{spell_computed, spell_question}
use Rattle.ss_routines.specs.Counts.{count}
use Rattle.ss_routines.proofs.Tally.{count-append}

-- a word that statements or sections are built of
abbrev pub builds : Plain → Bool
builds (mark (m.Reserved r.If)) = true
builds (mark (m.Reserved r.Else)) = true
builds (mark (m.Reserved r.Always)) = true
builds (mark (m.Reserved r.For)) = true
builds (mark (m.Reserved r.Do)) = true
builds (mark (m.Reserved r.Loop)) = true
builds (mark (m.Reserved r.End)) = true
builds _ = false

-- none of them is among these words
pub record Inner (ws : List Plain) : Type 0 where
  pub none : count builds ws ≡ 0

nothing : Inner []
nothing = record { none = refl }

pub also : {ws : List Plain} (w : Plain) → builds w ≡ false → Inner ws → Inner (w ∷ ws)
also w e h = let k = h.none in record { none = rw e (omega (arith, k)) }

alone : (w : Plain) → builds w ≡ false → Inner (w ∷ [])
alone w e = also w e nothing

joined : {a b : List Plain} → Inner a → Inner b → Inner (a ++ b)
joined {a} {b} x y = let h = x.none in let k = y.none in record { none = omega (arith, h, k, count-append builds a b) }

pub front : (a b : List Plain) → Inner (a ++ b) → Inner a
front a b x = let h = x.none in record { none = omega (arith, h, count-append builds a b) }

inside : {a : List Plain} → Inner a → Inner (spell_within a)
inside {a} x = also (mark (m.Sign s.Open)) refl (joined x (alone (mark (m.Sign s.Close)) refl))

-- ---- lists and optional parts

module _ {A : Type 0} (sp : A → List Plain) (h : (a : A) → Inner (sp a)) where
  each : (xs : List A) → Inner (flat_map sp xs)
  each [] = nothing
  each (x ∷ xs) = joined (h x) (each xs)

module _ {A : Type 0} (sp : A → List Plain) (h : (a : A) → Inner (sp a)) where
  others : (xs : List A) → Inner (spell_others sp xs)
  others xs = each (λ x. mark (m.Sign s.Comma) ∷ sp x) (λ x. also (mark (m.Sign s.Comma)) refl (h x)) xs

  several : (xs : Several A) → Inner (spell_several sp xs)
  several xs = joined (h xs.first) (others xs.others)

  behind : (k : Mark) → builds (mark k) ≡ false → (xs : List A) → Inner (spell_behind k sp xs)
  behind k e [] = nothing
  behind k e (x ∷ xs) = also (mark k) e (joined (h x) (others xs))

  option : (k : Mark) → builds (mark k) ≡ false → (x : Option A) → Inner (spell_option k sp x)
  option k e None = nothing
  option k e (Some x) = also (mark k) e (h x)

  listing : (xs : Listing A) → Inner (spell_listing sp xs)
  listing Unwritten = nothing
  listing (BehindGiven xs) = also (mark (m.Reserved r.Given)) refl (several xs)
  listing (InParentheses xs) = inside (several xs)

-- ---- expressions

a_sign : {ws : List Plain} (b : TermSign) → Inner ws → Inner (sign b ∷ ws)
a_sign Plus h = also _ refl h
a_sign Minus h = also _ refl h

lead : (l : Option TermSign) → Inner (spell_lead l)
lead None = nothing
lead (Some b) = a_sign b nothing

mutual
  inner_expr : (e : Expr) → Inner (spell_expr e)
  inner_expr (expr l t ss) = joined (joined (lead l) (inner_term t)) (inner_sums ss)

  inner_sums : (ss : Sums) → Inner (spell_sums ss)
  inner_sums no_sums = nothing
  inner_sums (sum b t ss) = a_sign b (joined (inner_term t) (inner_sums ss))

  inner_term : (t : Term) → Inner (spell_term t)
  inner_term (term f ps) = joined (inner_factor f) (inner_products ps)

  inner_products : (ps : Products) → Inner (spell_products ps)
  inner_products no_products = nothing
  inner_products (product f ps) = also (mark (m.Sign s.Star)) refl (joined (inner_factor f) (inner_products ps))

  inner_factor : (f : Factor) → Inner (spell_factor f)
  inner_factor (digits n) = alone _ refl
  inner_factor (named n) = alone _ refl
  inner_factor (applied n e es) = also (name n) refl (inside (joined (inner_expr e) (inner_exprs es)))
  inner_factor (within e) = inside (inner_expr e)

  inner_exprs : (es : Exprs) → Inner (spell_exprs es)
  inner_exprs no_exprs = nothing
  inner_exprs (exprs e es) = also (mark (m.Sign s.Comma)) refl (joined (inner_expr e) (inner_exprs es))

-- ---- references and conditions

subscript : (e : Option Expr) → Inner (spell_subscript e)
subscript None = nothing
subscript (Some e) = inside (inner_expr e)

reference : (v : Reference) → Inner (spell_reference v)
reference v = also (name v.name) refl (subscript v.subscript)

comparison : {ws : List Plain} (c : Comparison) → Inner ws → Inner (spell_comparison c ∷ ws)
comparison Equal h = also _ refl h
comparison Unequal h = also _ refl h
comparison Less h = also _ refl h
comparison Greater h = also _ refl h
comparison AtMost h = also _ refl h
comparison AtLeast h = also _ refl h

copula : (c : Copula) → Inner (spell_copula c)
copula Is = alone _ refl
copula IsNot = also _ refl (alone _ refl)

mutual
  pub inner_condition : (c : Condition) → Inner (spell_condition c)
  inner_condition (condition c cs) = joined (inner_conjunction c) (inner_alternatives cs)

  inner_alternatives : (cs : Alternatives) → Inner (spell_alternatives cs)
  inner_alternatives no_alternatives = nothing
  inner_alternatives (alternative c cs) =
      also (mark (m.Reserved r.Or)) refl (joined (inner_conjunction c) (inner_alternatives cs))

  inner_conjunction : (c : Conjunction) → Inner (spell_conjunction c)
  inner_conjunction (conjunction q qs) = joined (inner_relation q) (inner_additions qs)

  inner_additions : (qs : Additions) → Inner (spell_additions qs)
  inner_additions no_additions = nothing
  inner_additions (addition q qs) =
      also (mark (m.Reserved r.And)) refl (joined (inner_relation q) (inner_additions qs))

  inner_relation : (q : Relation) → Inner (spell_relation q)
  inner_relation (compared e c f) = joined (inner_expr e) (comparison c (inner_expr f))
  inner_relation (is_empty v c) = joined (joined (reference v) (copula c)) (alone _ refl)
  inner_relation (is_in e c v) = joined (joined (inner_expr e) (copula c)) (also _ refl (reference v))
  inner_relation (nested c) = inside (inner_condition c)

-- ---- statements that hold no other

called : (v : Option Reference) → Inner (spell_called v)
called v = option spell_reference reference (m.Reserved r.Called) refl v

a_let : (b : Bool) → Inner (spell_let b)
a_let true = alone _ refl
a_let false = nothing

assign : (a : Assign) → Inner (spell_assign a)
assign (Let b v e) = joined (joined (a_let b) (reference v)) (also _ refl (inner_expr e))
assign (Add e v) = also _ refl (joined (inner_expr e) (also _ refl (reference v)))
assign (Subtract e v) = also _ refl (joined (inner_expr e) (also _ refl (reference v)))

making : (a : Making) → Inner (spell_making a)
making (Create c v) = also _ refl (also _ refl (called v))
making (CreateEvery c e) = also _ refl (also _ refl (also _ refl (subscript e)))
making (Destroy c v) = also _ refl (also _ refl (called v))

an_end : {ws : List Plain} (b : SetEnd) → Inner ws → Inner (spell_end b ∷ ws)
an_end end.First h = also _ refl h
an_end end.Last h = also _ refl h

file_place : (h : FilePlace) → Inner (spell_file_place h)
file_place ByDiscipline = nothing
file_place (AtEnd b) = an_end b nothing
file_place (Before e) = also _ refl (inner_expr e)
file_place (After e) = also _ refl (inner_expr e)

filing : (a : Filing) → Inner (spell_filing a)
filing (File e h v) = also _ refl (joined (joined (inner_expr e) (file_place h)) (also _ refl (reference v)))
filing (FileAt b e v) = also _ refl (an_end b (joined (inner_expr e) (also _ refl (reference v))))
filing (RemoveEnd b u v) = also _ refl (an_end b (joined (reference u) (also _ refl (reference v))))
filing (Remove e v) = also _ refl (joined (inner_expr e) (also _ refl (reference v)))

transfer : (a : Transfer) → Inner (spell_transfer a)
transfer (Call n es vs) =
    also _ refl (also _ refl (joined (listing spell_expr inner_expr es)
    (behind spell_reference reference (m.Reserved r.Yielding) refl vs)))
transfer Return = alone _ refl
transfer Stop = alone _ refl

an_article : {ws : List Plain} (a : Article) → Inner ws → Inner (spell_article a ∷ ws)
an_article article.A h = also _ refl h
an_article article.The h = also _ refl h

details : (d : Details) → Inner (spell_details d)
details (ValuesFirst es v) = joined (inside (several spell_expr inner_expr es)) (called v)
details (CalledFirst v es) = joined (called v) (behind spell_expr inner_expr (m.Reserved r.Given) refl es)

when : (w : When) → Inner (spell_when w)
when (At e) = also _ refl (inner_expr e)
when Now = alone _ refl
when (In e) = also _ refl (joined (inner_expr e) (alone _ refl))

timing : (a : Timing) → Inner (spell_timing a)
timing (Schedule a c d w) = also _ refl (an_article a (also _ refl (joined (details d) (when w))))
timing (Cancel c v) = also _ refl (also _ refl (called v))
timing StartSimulation = also _ refl (alone _ refl)

exchange : (a : Exchange) → Inner (spell_exchange a)
exchange (Read vs) = also _ refl (several spell_reference reference vs)
exchange (Print n es p) =
    also _ refl (also _ refl (also _ refl (joined (behind spell_expr inner_expr (m.Reserved r.With) refl es)
    (also _ refl (alone _ refl)))))
exchange (Skip e) = also _ refl (joined (inner_expr e) (alone _ refl))

pub inner_simple : (a : Simple) → Inner (spell_simple a)
inner_simple (Assigns a) = assign a
inner_simple (Makes a) = making a
inner_simple (Files a) = filing a
inner_simple (Transfers a) = transfer a
inner_simple (Times a) = timing a
inner_simple (Exchanges a) = exchange a

-- ---- loops

walk_start : (b : WalkStart) → Inner (spell_walk_start b)
walk_start loops.AtEnd = nothing
walk_start (From e) = also _ refl (inner_expr e)
walk_start (loops.After e) = also _ refl (inner_expr e)

direction : (d : Direction) → Inner (spell_direction d)
direction Onward = alone _ refl
direction Backward = also _ refl (alone _ refl)

order : (d : Direction) → Inner (spell_order d)
order Onward = nothing
order Backward = also _ refl (also _ refl (alone _ refl))

a_name : (n : Name) → Inner (spell_name n)
a_name n = alone _ refl

range : (a : Range) → Inner (spell_range a)
range (Counting d n a b c) =
    also _ refl (joined (joined (direction d) (inner_expr a)) (also _ refl (joined (inner_expr b)
    (option spell_expr inner_expr (m.Reserved r.By) refl c))))
range (Each c v) = also _ refl (also _ refl (option spell_name a_name (m.Reserved r.Called) refl v))
range (Walking d n v b) =
    also _ refl (also _ refl (also _ refl (joined (joined (reference v) (walk_start b)) (order d))))

a_qualifier : {ws : List Plain} (q : QualifierWord) → Inner ws → Inner (spell_qualifier_word q ∷ ws)
a_qualifier With h = also _ refl h
a_qualifier Unless h = also _ refl h
a_qualifier While h = also _ refl h
a_qualifier Until h = also _ refl h

qualifier : (q : Qualifier) → Inner (spell_qualifier q)
qualifier q = a_qualifier q.word (inner_condition q.condition)

-- the part after FOR
pub inner_phrase : (f : Phrase) → Inner (spell_range f.range ++ flat_map spell_qualifier f.qualifiers)
inner_phrase f = joined (range f.range) (each spell_qualifier qualifier f.qualifiers)

statistic : (t : Statistic) → Inner (spell_statistic t ∷ [])
statistic Number = alone _ refl
statistic Sum = alone _ refl
statistic Maximum = alone _ refl
statistic Minimum = alone _ refl

computed : (t : Computed) → Inner (spell_computed t)
computed t = joined (reference t.target) (also _ refl (statistic t.statistic))

-- the part after COMPUTE
pub inner_compute : (x : Several Computed × Expr)
    → Inner ((spell_several spell_computed x.0 ++ mark (m.Reserved r.In) ∷ []) ++ spell_expr x.1)
inner_compute x = joined (joined (several spell_computed computed x.0) (alone _ refl)) (inner_expr x.1)

-- the question of an IF
pub inner_question : (q : Question) → Inner (spell_question q)
inner_question (Holds c) = inner_condition c
inner_question Found = alone _ refl
inner_question NoneFound = alone _ refl
