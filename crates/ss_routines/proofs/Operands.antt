-- The words of a phrase leave the open parts as they are, and the last of them may end it; those of
-- a statement that holds no other close the phrases before it.
use Rattle.std.proofs.Common.{◌≡◌, Bool, true, false, List, [], ◌∷◌, ◌++◌, Option, Some, None, refl, ap, ◌∙◌}
use Rattle.std.specs.List.{flat_map}
use Rattle.ss_words.specs.declared.mark.Mark.{Mark}
use Rattle.ss_words.specs.declared.mark.Mark.TheVariants as m
use Rattle.ss_words.specs.declared.word.Sign.TheVariants as s
use Rattle.ss_words.specs.declared.reserved.Reserved.TheVariants as r
use Rattle.ss_words.specs.Plain.{Plain, name, mark}
use Rattle.ss_words.specs.Lists.{Name}
use Rattle.ss_words.specs.declared.terms.TermSign.{TermSign}
use Rattle.ss_words.specs.declared.terms.TermSign.TheVariants.{Plus, Minus}
use Rattle.ss_words.specs.declared.terms.Comparison.{Comparison}
use Rattle.ss_words.specs.declared.terms.Comparison.TheVariants.{Equal, Unequal, Less, Greater, AtMost, AtLeast}
use Rattle.ss_words.specs.declared.terms.Copula.{Copula}
use Rattle.ss_words.specs.declared.terms.Copula.TheVariants.{Is, IsNot}
use Rattle.ss_words.specs.declared.terms.Direction.{Direction}
use Rattle.ss_words.specs.declared.terms.Direction.TheVariants.{Onward, Backward}
use Rattle.ss_words.specs.declared.terms.QualifierWord.{QualifierWord}
use Rattle.ss_words.specs.declared.terms.QualifierWord.TheVariants.{With, Unless, While, Until}
use Rattle.ss_routines.specs.Expr.{Expr, expr, Sums, no_sums, sum, Term, term, Products, no_products, product, Factor}
use Rattle.ss_routines.specs.Expr.{digits, named, applied, within, Exprs, no_exprs, exprs, sign, spell_lead}
use Rattle.ss_routines.specs.Expr.{spell_within}
use Rattle.ss_routines.specs.Expr.{spell_expr, spell_sums, spell_term, spell_products, spell_factor, spell_exprs}
use Rattle.ss_routines.specs.Condition.{Reference, Condition, condition, Alternatives, no_alternatives, alternative}
use Rattle.ss_routines.specs.Condition.{Conjunction, conjunction, Additions, no_additions, addition, Relation, compared}
use Rattle.ss_routines.specs.Condition.{is_empty, is_in, nested, spell_subscript, spell_reference, spell_comparison}
use Rattle.ss_routines.specs.Condition.{spell_copula, spell_condition, spell_alternatives, spell_conjunction}
use Rattle.ss_routines.specs.Condition.{spell_additions, spell_relation}
use Rattle.ss_routines.specs.Simple.{Assign, Let, Add, Subtract, Making, Create, CreateEvery, Destroy, Filing, File}
use Rattle.ss_routines.specs.Simple.{FileAt, RemoveEnd, Remove, Transfer, Call, Return, Stop, Timing, Schedule, Cancel}
use Rattle.ss_routines.specs.Simple.{StartSimulation, Exchange, Read, Print, Skip, Simple, Assigns, Makes, Files}
use Rattle.ss_routines.specs.Simple.{Transfers, Times, Exchanges}
use Rattle.ss_routines.specs.SimpleSpelling.{spell_option, spell_assign, spell_making, spell_filing, spell_transfer}
use Rattle.ss_routines.specs.SimpleSpelling.{spell_timing, spell_exchange, spell_simple}
use Rattle.ss_routines.specs.Loops.{WalkStart, AtEnd, From, After, Range, Counting, Each, Walking, Qualifier, Phrase}
use Rattle.ss_routines.specs.Loops.{spell_walk_start, spell_direction, spell_order, spell_name, spell_range}
use Rattle.ss_routines.specs.Loops.{spell_qualifier_word, spell_qualifier}
use Rattle.ss_routines.specs.OpenPhrases.{Open, without_inner_phrases, may_end, step, open_behind}
use Rattle.ss_routines.proofs.Inner.{Inner, inner_simple}
use Rattle.ss_routines.proofs.OpenWords.{ended_by, behind_both, ended_both, begun}

-- after a word that may end a phrase or may not, as b says, these words leave the open parts as
-- they are, and end in one as c says
pub record Walks (b : Bool) (q : List Plain) (c : Bool) : Type 0 where
  pub stays : (os : List Open) → open_behind b os q ≡ os
  pub ends : ended_by b q ≡ c

-- they begin and end as an operand does
abbrev Operand : List Plain → Type 0
Operand q = Walks false q true

-- they are after an operand
abbrev Tail : List Plain → Type 0
Tail q = Walks true q true

nothing : {b : Bool} → Walks b [] b
nothing = record { stays = λ os. refl; ends = refl }

joined : {b c d : Bool} {x y : List Plain} → Walks b x c → Walks c y d → Walks b (x ++ y) d
joined {b} {c} {d} {x} {y} p q = record {
  stays = λ os. behind_both b os x y
      ∙ ap (λ (o : List Open). open_behind (ended_by b x) o y) (p.stays os)
      ∙ ap (λ (e : Bool). open_behind e os y) p.ends ∙ q.stays os;
  ends = ended_both b x y ∙ ap (λ (e : Bool). ended_by e y) p.ends ∙ q.ends;
}

-- a word before others
word : {b c : Bool} {q : List Plain} (w : Plain) → ((os : List Open) → step b os w ≡ os) → Walks (may_end w) q c
    → Walks b (w ∷ q) c
word {b} {c} {q} w h x = record {
  stays = λ os. ap (λ (o : List Open). open_behind (may_end w) o q) (h os) ∙ x.stays os;
  ends = x.ends;
}

inside : {b : Bool} {a : List Plain} → Operand a → Walks b (spell_within a) true
inside x =
    word (mark (m.Sign s.Open)) (λ os. refl) (joined x (word (mark (m.Sign s.Close)) (λ os. refl) nothing))

option : {A : Type 0} (sp : A → List Plain) → ((a : A) → Operand (sp a)) → (k : Mark)
    → ((os : List Open) → step true os (mark k) ≡ os) → may_end (mark k) ≡ false → (x : Option A)
    → Tail (spell_option k sp x)
option sp h k e n None = nothing
option sp h k e n (Some x) = word (mark k) e (rw n (h x))

-- ---- expressions

a_sign : {b c : Bool} {q : List Plain} (t : TermSign) → Walks false q c → Walks b (sign t ∷ q) c
a_sign Plus h = word _ (λ os. refl) h
a_sign Minus h = word _ (λ os. refl) h

lead : (l : Option TermSign) → Walks false (spell_lead l) false
lead None = nothing
lead (Some t) = a_sign t nothing

mutual
  an_expr : (e : Expr) → Operand (spell_expr e)
  an_expr (expr l t ss) = joined (joined (lead l) (a_term t)) (sums ss)

  sums : (ss : Sums) → Tail (spell_sums ss)
  sums no_sums = nothing
  sums (sum b t ss) = a_sign b (joined (a_term t) (sums ss))

  a_term : (t : Term) → Operand (spell_term t)
  a_term (term f ps) = joined (a_factor f) (products ps)

  products : (ps : Products) → Tail (spell_products ps)
  products no_products = nothing
  products (product f ps) = word (mark (m.Sign s.Star)) (λ os. refl) (joined (a_factor f) (products ps))

  a_factor : (f : Factor) → Operand (spell_factor f)
  a_factor (digits n) = word _ (λ os. refl) nothing
  a_factor (named n) = word _ (λ os. refl) nothing
  a_factor (applied n e es) = word (name n) (λ os. refl) (inside (joined (an_expr e) (some_exprs es)))
  a_factor (within e) = inside (an_expr e)

  some_exprs : (es : Exprs) → Tail (spell_exprs es)
  some_exprs no_exprs = nothing
  some_exprs (exprs e es) = word (mark (m.Sign s.Comma)) (λ os. refl) (joined (an_expr e) (some_exprs es))

-- ---- references and conditions

subscript : (e : Option Expr) → Tail (spell_subscript e)
subscript None = nothing
subscript (Some e) = inside (an_expr e)

reference : (v : Reference) → Operand (spell_reference v)
reference v = word (name v.name) (λ os. refl) (subscript v.subscript)

comparison : {q : List Plain} (c : Comparison) → Operand q → Tail (spell_comparison c ∷ q)
comparison Equal h = word _ (λ os. refl) h
comparison Unequal h = word _ (λ os. refl) h
comparison Less h = word _ (λ os. refl) h
comparison Greater h = word _ (λ os. refl) h
comparison AtMost h = word _ (λ os. refl) h
comparison AtLeast h = word _ (λ os. refl) h

copula : (c : Copula) → Walks true (spell_copula c) false
copula Is = word _ (λ os. refl) nothing
copula IsNot = word _ (λ os. refl) (word _ (λ os. refl) nothing)

mutual
  a_condition : (c : Condition) → Operand (spell_condition c)
  a_condition (condition c cs) = joined (a_conjunction c) (alternatives cs)

  alternatives : (cs : Alternatives) → Tail (spell_alternatives cs)
  alternatives no_alternatives = nothing
  alternatives (alternative c cs) =
      word (mark (m.Reserved r.Or)) (λ os. refl) (joined (a_conjunction c) (alternatives cs))

  a_conjunction : (c : Conjunction) → Operand (spell_conjunction c)
  a_conjunction (conjunction q qs) = joined (a_relation q) (additions qs)

  additions : (qs : Additions) → Tail (spell_additions qs)
  additions no_additions = nothing
  additions (addition q qs) = word (mark (m.Reserved r.And)) (λ os. refl) (joined (a_relation q) (additions qs))

  a_relation : (q : Relation) → Operand (spell_relation q)
  a_relation (compared e c f) = joined (an_expr e) (comparison c (an_expr f))
  a_relation (is_empty v c) = joined (joined (reference v) (copula c)) (word _ (λ os. refl) nothing)
  a_relation (is_in e c v) = joined (joined (an_expr e) (copula c)) (word _ (λ os. refl) (reference v))
  a_relation (nested c) = inside (a_condition c)

-- ---- phrases

walk_start : (b : WalkStart) → Tail (spell_walk_start b)
walk_start AtEnd = nothing
walk_start (From e) = word _ (λ os. refl) (an_expr e)
walk_start (After e) = word _ (λ os. refl) (an_expr e)

direction : (d : Direction) → Walks true (spell_direction d) false
direction Onward = word _ (λ os. refl) nothing
direction Backward = word _ (λ os. refl) (word _ (λ os. refl) nothing)

order : (d : Direction) → Tail (spell_order d)
order Onward = nothing
order Backward = word _ (λ os. refl) (word _ (λ os. refl) (word _ (λ os. refl) nothing))

a_name : (n : Name) → Operand (spell_name n)
a_name n = word _ (λ os. refl) nothing

range : (a : Range) → Operand (spell_range a)
range (Counting d n a b c) =
    word _ (λ os. refl) (joined (joined (direction d) (an_expr a)) (word _ (λ os. refl) (joined (an_expr b)
    (option spell_expr an_expr (m.Reserved r.By) (λ os. refl) refl c))))
range (Each c v) =
    word _ (λ os. refl) (word _ (λ os. refl) (option spell_name a_name (m.Reserved r.Called) (λ os. refl) refl v))
range (Walking d n v b) =
    word _ (λ os. refl) (word _ (λ os. refl) (word _ (λ os. refl) (joined (joined (reference v) (walk_start b))
    (order d))))

a_qualifier : {q : List Plain} (w : QualifierWord) → Operand q → Tail (spell_qualifier_word w ∷ q)
a_qualifier With h = word _ (λ os. refl) h
a_qualifier Unless h = word _ (λ os. refl) h
a_qualifier While h = word _ (λ os. refl) h
a_qualifier Until h = word _ (λ os. refl) h

qualifiers : (qs : List Qualifier) → Tail (flat_map spell_qualifier qs)
qualifiers [] = nothing
qualifiers (q ∷ qs) = joined (a_qualifier q.word (a_condition q.condition)) (qualifiers qs)

-- the part after FOR
pub a_phrase : (f : Phrase) → Operand (spell_range f.range ++ flat_map spell_qualifier f.qualifiers)
a_phrase f = joined (range f.range) (qualifiers f.qualifiers)

-- ---- statements that hold no other

-- after a phrase
abbrev Closes : List Plain → Type 0
Closes q = Inner q → (os : List Open) → open_behind true os q ≡ without_inner_phrases os

assign : (a : Assign) → Closes (spell_assign a)
assign (Let true v e) x = begun _ _ (λ os. refl) x
assign (Let false v e) x = begun _ _ (λ os. refl) x
assign (Add e v) x = begun _ _ (λ os. refl) x
assign (Subtract e v) x = begun _ _ (λ os. refl) x

making : (a : Making) → Closes (spell_making a)
making (Create c v) x = begun _ _ (λ os. refl) x
making (CreateEvery c e) x = begun _ _ (λ os. refl) x
making (Destroy c v) x = begun _ _ (λ os. refl) x

filing : (a : Filing) → Closes (spell_filing a)
filing (File e h v) x = begun _ _ (λ os. refl) x
filing (FileAt b e v) x = begun _ _ (λ os. refl) x
filing (RemoveEnd b u v) x = begun _ _ (λ os. refl) x
filing (Remove e v) x = begun _ _ (λ os. refl) x

transfer : (a : Transfer) → Closes (spell_transfer a)
transfer (Call n es vs) x = begun _ _ (λ os. refl) x
transfer Return x = begun _ _ (λ os. refl) x
transfer Stop x = begun _ _ (λ os. refl) x

timing : (a : Timing) → Closes (spell_timing a)
timing (Schedule a c d w) x = begun _ _ (λ os. refl) x
timing (Cancel c v) x = begun _ _ (λ os. refl) x
timing StartSimulation x = begun _ _ (λ os. refl) x

exchange : (a : Exchange) → Closes (spell_exchange a)
exchange (Read vs) x = begun _ _ (λ os. refl) x
exchange (Print n es p) x = begun _ _ (λ os. refl) x
exchange (Skip e) x = begun _ _ (λ os. refl) x

simple : (a : Simple) → Closes (spell_simple a)
simple (Assigns a) x = assign a x
simple (Makes a) x = making a x
simple (Files a) x = filing a x
simple (Transfers a) x = transfer a x
simple (Times a) x = timing a x
simple (Exchanges a) x = exchange a x

pub begun_simple : (a : Simple) (os : List Open) → open_behind true os (spell_simple a) ≡ without_inner_phrases os
begun_simple a os = simple a (inner_simple a) os
