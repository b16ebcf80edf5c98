-- Small texts, the one tree that each of them spells, and how many phrases are open in some.
use Rattle.std.specs.Prelude.{◌≡◌, ℕ, zero, suc, ◌+◌, true, false, List, [], ◌∷◌, ◌++◌, Some, None}
use Rattle.ss_words.specs.declared.mark.Mark.TheVariants as m
use Rattle.ss_words.specs.declared.word.Sign.TheVariants as s
use Rattle.ss_words.specs.declared.reserved.Reserved.{Reserved}
use Rattle.ss_words.specs.declared.reserved.Reserved.TheVariants as r
use Rattle.ss_words.specs.Lists.{Name, Several}
use Rattle.ss_words.specs.Plain.{Plain, PlainAt, name, number, mark}
use Rattle.ss_words.specs.declared.terms.Comparison.TheVariants.{Equal}
use Rattle.ss_words.specs.declared.terms.Copula.TheVariants.{Is}
use Rattle.ss_words.specs.declared.terms.Statistic.TheVariants.{Sum}
use Rattle.ss_words.specs.declared.terms.TermSign.TheVariants.{Plus}
use Rattle.ss_routines.specs.Expr.{Expr, expr, no_sums, sum, term, no_products, product, Factor, digits, named}
use Rattle.ss_routines.specs.Expr.{within, spell_within}
use Rattle.ss_routines.specs.Condition.{Condition, condition, no_alternatives, alternative}
use Rattle.ss_routines.specs.Condition.{conjunction, no_additions, addition, Relation, compared, is_empty, nested}
use Rattle.ss_routines.specs.Simple.{Stop, Transfers}
use Rattle.ss_routines.specs.Loops.{Computed, Each, Phrase, Holds, Found, NoneFound}
use Rattle.ss_routines.specs.Places.{For, Next, Gather, Compute, Place, Loops, EndOfSection, Spot}
use Rattle.ss_routines.specs.Tree.{Block, no_statements, statement, alone, loop, One, simple, branch, no_else}
use Rattle.ss_routines.specs.Tree.{else_with}
use Rattle.ss_routines.specs.Tree.{further, repeated, single, MainHead, Tree, spell}
use Rattle.ss_routines.specs.OpenPhrases.{open_phrases}
use Rattle.ss_routines.specs.Refused.{AreSections}
use Rattle.ss_routines.specs.Asked.{expression_in, condition_in}

-- the words spell this tree and no other
abbrev pub SpellOnly : List Plain → Tree → Type 0
SpellOnly ws tree = (spell tree ≡ ws) × ((u : Tree) → spell u ≡ ws → u ≡ tree)

-- a reserved word
abbrev pub word : Reserved → Plain
word k = mark (m.Reserved k)

-- a parenthesis that opens
abbrev pub open_sign : Plain
open_sign = mark (m.Sign s.Open)

-- one that closes
abbrev pub close_sign : Plain
close_sign = mark (m.Sign s.Close)

-- an equals sign
abbrev pub equals : Plain
equals = mark (m.Sign s.Equal)

-- the name X
abbrev pub x_name : Name
x_name = 88 ∷ []

-- the name Y
abbrev pub y_name : Name
y_name = 89 ∷ []

-- the name S
abbrev pub s_name : Name
s_name = 83 ∷ []

-- the name T
abbrev pub t_name : Name
t_name = 84 ∷ []

-- words between MAIN and END
abbrev pub main_words : List Plain → List Plain
main_words ws = word r.Main ∷ (ws ++ word r.End ∷ [])

-- a MAIN of statements
abbrev pub main_tree : Block → Tree
main_tree b = record { head = MainHead; locals = []; block = b } ∷ []

-- one statement that is no loop
abbrev pub one_statement : One → Block
one_statement o = statement (alone o) no_statements

-- the expression of one factor
abbrev pub value : Factor → Expr
value factor = expr None (term factor no_products) no_sums

-- a factor = 1
abbrev pub is_one : Factor → Relation
is_one factor = compared (value factor) Equal (value (digits 1))

-- the condition of one relation
abbrev pub alone_holds : Relation → Condition
alone_holds q = condition (conjunction q no_additions) no_alternatives

-- EVERY c, without qualifiers
abbrev pub every : Name → Phrase
every c = record { range = Each c None; qualifiers = [] }

-- its words
abbrev pub for_every : Name → List Plain
for_every c = word r.For ∷ word r.Every ∷ name c ∷ []

-- IF FOUND IF NONE ELSE ALWAYS ALWAYS: the ELSE is of the inner IF
abbrev pub ElseIsOfTheInnerIf : Type 0
ElseIsOfTheInnerIf =
    let inner : One = branch NoneFound no_statements (else_with no_statements) in
    SpellOnly
    (main_words (word r.If ∷ word r.Found ∷ word r.If ∷ word r.NoneFound ∷ word r.Else
    ∷ word r.Always ∷ word r.Always ∷ []))
    (main_tree (one_statement (branch Found (one_statement inner) no_else)))

-- FOR EVERY T FOR EVERY S DO LOOP STOP: one LOOP ends the chain, and STOP is after it
abbrev pub LoopEndsTheChain : Type 0
LoopEndsTheChain =
    SpellOnly (main_words (for_every t_name ++ for_every s_name ++ word r.Do ∷ word r.Loop ∷ word r.Stop ∷ []))
    (main_tree (statement (loop (every t_name) (further (every s_name) (repeated no_statements)))
    (one_statement (simple (Transfers Stop)))))

-- FOR EVERY T IF FOUND ALWAYS STOP: the phrase controls only the IF
abbrev pub ForControlsOneStatement : Type 0
ForControlsOneStatement =
    SpellOnly (main_words (for_every t_name ++ word r.If ∷ word r.Found ∷ word r.Always ∷ word r.Stop ∷ []))
    (main_tree (statement (loop (every t_name) (single (branch Found no_statements no_else)))
    (one_statement (simple (Transfers Stop)))))

-- the words of a condition after IF, and the tree of that IF
abbrev pub AsksOnly : List Plain → Condition → Type 0
AsksOnly ws asked =
    SpellOnly (main_words (word r.If ∷ (ws ++ word r.Always ∷ [])))
    (main_tree (one_statement (branch (Holds asked) no_statements no_else)))

-- X = 1 OR Y = 1 AND S = 1: AND binds more tightly
abbrev pub AndBindsMoreTightly : Type 0
AndBindsMoreTightly =
    AsksOnly
    (name x_name ∷ equals ∷ number 1 ∷ word r.Or ∷ name y_name ∷ equals ∷ number 1
    ∷ word r.And ∷ name s_name ∷ equals ∷ number 1 ∷ [])
    (condition (conjunction (is_one (named x_name)) no_additions)
    (alternative (conjunction (is_one (named y_name)) (addition (is_one (named s_name)) no_additions)) no_alternatives))

-- (X) = 1 has a value in parentheses, (X = 1) a condition
abbrev pub ParenthesesAreTold : Type 0
ParenthesesAreTold =
    AsksOnly (open_sign ∷ name x_name ∷ close_sign ∷ equals ∷ number 1 ∷ [])
    (alone_holds (is_one (within (value (named x_name)))))
    × AsksOnly (open_sign ∷ name x_name ∷ equals ∷ number 1 ∷ close_sign ∷ [])
    (alone_holds (nested (alone_holds (is_one (named x_name)))))

-- each word on a line of its own, from line k on
abbrev pub apart : ℕ → List Plain → List PlainAt
apart k [] = []
apart k (w ∷ ws) = record { line = k; index = k; word = w } ∷ apart (k + 1) ws

-- a place in a line
abbrev pub at_line : ℕ → Place → Spot
at_line l place = record { line = l; place = place }

-- X AS SUM
abbrev pub x_as_sum : Several Computed
x_as_sum = record {
  first = record { target = record { name = x_name; subscript = None }; statistic = Sum };
  others = [];
}

-- MAIN FOR EVERY T DO FOR EVERY S COMPUTE X AS SUM IN Y LOOP END: DO is no place, and COMPUTE is two in its line
abbrev pub ComputeIsTwoPlaces : Type 0
ComputeIsTwoPlaces =
    AreSections (record {
      line = 1;
      head = MainHead;
      locals = [];
      places =
          at_line 2 (Loops (For (every t_name) true))
          ∷ at_line 6 (Loops (For (every s_name) false))
          ∷ at_line 9 (Loops (Gather (value (named y_name))))
          ∷ at_line 9 (Loops (Compute x_as_sum))
          ∷ at_line 15 (Loops Next)
          ∷ at_line 16 EndOfSection
          ∷ [];
    } ∷ [])
    (apart 1
    (main_words (for_every t_name ++ word r.Do ∷ (for_every s_name
    ++ word r.Compute ∷ name x_name ∷ word r.As ∷ word r.Sum ∷ word r.In ∷ name y_name ∷ word r.Loop ∷ []))))

-- X = 1
abbrev pub x_is_one : List Plain
x_is_one = name x_name ∷ equals ∷ number 1 ∷ []

-- FOR EVERY T, n times
abbrev pub every_t : ℕ → List Plain
every_t zero = []
every_t (suc n) = for_every t_name ++ every_t n

-- FOR EVERY T FOR EVERY S: two are open; after X = 1, STOP, FIND FIRST CASE or DO LOOP none is
abbrev pub ChainIsOpen : Type 0
ChainIsOpen =
    let chain : List Plain = for_every t_name ++ for_every s_name in
    (open_phrases chain ≡ 2)
    × (open_phrases (chain ++ x_is_one) ≡ 0)
    × (open_phrases (chain ++ word r.Stop ∷ []) ≡ 0)
    × (open_phrases (chain ++ word r.Find ∷ word r.First ∷ word r.Case ∷ []) ≡ 0)
    × (open_phrases (chain ++ word r.Do ∷ word r.Loop ∷ []) ≡ 0)

-- FOR S = 1 TO 3 X = 1 FOR EVERY T: the first phrase controls only X = 1, and the second is open
abbrev pub AssignmentClosesItsPhrase : Type 0
AssignmentClosesItsPhrase =
    open_phrases (word r.For ∷ name s_name ∷ equals ∷ number 1 ∷ word r.To ∷ number 3 ∷ (x_is_one ++ for_every t_name))
    ≡ 1

-- FOR EVERY T IF FOUND FOR EVERY S: two are open; after STOP the first is, and after ALWAYS none is
abbrev pub IfIsControlled : Type 0
IfIsControlled =
    let within : List Plain = for_every t_name ++ word r.If ∷ word r.Found ∷ for_every s_name in
    (open_phrases within ≡ 2)
    × (open_phrases (within ++ word r.Stop ∷ []) ≡ 1)
    × (open_phrases (within ++ word r.Stop ∷ word r.Always ∷ []) ≡ 0)

-- FOR EVERY T DO FOR EVERY S COMPUTE X AS SUM IN Y: the first is open, and after LOOP none is
abbrev pub LoopsAreNested : Type 0
LoopsAreNested =
    let within : List Plain =
    for_every t_name ++ word r.Do ∷ (for_every s_name
    ++ word r.Compute ∷ name x_name ∷ word r.As ∷ word r.Sum ∷ word r.In ∷ name y_name ∷ []) in
    (open_phrases within ≡ 1) × (open_phrases (within ++ word r.Loop ∷ []) ≡ 0)

-- 16 phrases are open after 16, and 17 after one more
abbrev pub SixteenAreOpen : Type 0
SixteenAreOpen = (open_phrases (every_t 16) ≡ 16) × (open_phrases (every_t 17) ≡ 17)

-- how many phrases are open in these texts
abbrev pub OpenPhrasesAreTold : Type 0
OpenPhrasesAreTold = ChainIsOpen × AssignmentClosesItsPhrase × IfIsControlled × LoopsAreNested × SixteenAreOpen

-- X in n parentheses
abbrev pub enclosed : ℕ → Expr
enclosed zero = value (named x_name)
enclosed (suc n) = value (within (enclosed n))

-- its words
abbrev pub enclosed_words : ℕ → List Plain
enclosed_words zero = name x_name ∷ []
enclosed_words (suc n) = spell_within (enclosed_words n)

-- X + Y * 2 is a sum with a product; X + Y * and X Y are no expression; X may be in 50 parentheses, and not in 51
abbrev pub ExpressionIsAsked : Type 0
ExpressionIsAsked =
    let begun : List Plain = name x_name ∷ mark (m.Sign s.Plus) ∷ name y_name ∷ mark (m.Sign s.Star) ∷ [] in
    (expression_in (begun ++ number 2 ∷ [])
    ≡ Some (expr None (term (named x_name) no_products)
    (sum Plus (term (named y_name) (product (digits 2) no_products)) no_sums)))
    × (expression_in begun ≡ None)
    × (expression_in (name x_name ∷ name y_name ∷ []) ≡ None)
    × (expression_in (enclosed_words 50) ≡ Some (enclosed 50))
    × (expression_in (enclosed_words 51) ≡ None)

-- X = 1 AND S IS EMPTY is two relations; X and X = 1 Y = 1 are no condition
abbrev pub ConditionIsAsked : Type 0
ConditionIsAsked =
    (condition_in (x_is_one ++ word r.And ∷ name s_name ∷ word r.Is ∷ word r.Empty ∷ [])
    ≡ Some (condition (conjunction (is_one (named x_name))
    (addition (is_empty (record { name = s_name; subscript = None }) Is) no_additions)) no_alternatives))
    × (condition_in (name x_name ∷ []) ≡ None)
    × (condition_in (x_is_one ++ name y_name ∷ equals ∷ number 1 ∷ []) ≡ None)
