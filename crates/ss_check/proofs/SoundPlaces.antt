-- The places of a section without a breach name only entries of its tables.
use Rattle.std.proofs.Common.{◌≡◌, ℕ, true, false, not, ◌||◌, ◌==◌, List, [], ◌∷◌, ◌++◌, length, refl, ◌∙◌, Option}
use Rattle.std.proofs.Common.{Some, None}
use Rattle.std.specs.Prelude.{map}
use Rattle.std.specs.List.{flat_map}
use Rattle.std.proofs.lemmas.Bool.{false≢true, or_parts, not-false, eqb-true}
use Rattle.std.proofs.lemmas.List.{length-map}
use Rattle.ss_words.specs.Lists.{Name, all_of}
use Rattle.ss_report.specs.Pictures.{field_count, has_decimal_field}
use Rattle.ss_routines.specs.declared.tree.simple.Article.{Article}
use Rattle.ss_routines.specs.declared.tree.simple.Article.TheVariants.{A, The}
use Rattle.ss_routines.specs.Expr.{Expr, expr, Sums, no_sums, sum, Term, term, Products, no_products, product, Factor}
use Rattle.ss_routines.specs.Expr.{digits, named, applied, within, Exprs, no_exprs, exprs}
use Rattle.ss_routines.specs.Condition.{Reference, Condition, condition, Alternatives, no_alternatives, alternative}
use Rattle.ss_routines.specs.Condition.{Conjunction, conjunction, Additions, no_additions, addition, Relation, compared}
use Rattle.ss_routines.specs.Condition.{is_empty, is_in, nested}
use Rattle.ss_routines.specs.Simple.{Assign, Let, Add, Subtract, Making, Create, CreateEvery, Destroy, FilePlace}
use Rattle.ss_routines.specs.Simple.{ByDiscipline, AtEnd, Before, After, Filing, File, FileAt, RemoveEnd, Remove, Call}
use Rattle.ss_routines.specs.Simple.{Return, Stop, ValuesFirst, CalledFirst, When, At, Now, In, Timing, Schedule}
use Rattle.ss_routines.specs.Simple.{Cancel, StartSimulation, Read, Print, Skip, Simple, Assigns, Makes, Files}
use Rattle.ss_routines.specs.Simple.{Transfers, Times, Exchanges}
use Rattle.ss_routines.specs.Loops as l
use Rattle.ss_routines.specs.Tree.{listing_names}
use Rattle.ss_routines.specs.Places as w
use Rattle.ss_program.specs.ProgramSound.{Scope, IsSoundExpr, IsSoundSums, IsSoundTerm, IsSoundProducts, IsSoundFactor}
use Rattle.ss_program.specs.ProgramSound.{AreSoundArguments, AreSoundExprs, IsSoundOption, IsTarget, AreTargets}
use Rattle.ss_program.specs.ProgramSound.{IsSoundSetRef, IsSoundAssign, IsSoundMaking, IsSoundPosition, IsSoundFiling}
use Rattle.ss_program.specs.ProgramSound.{IsSoundNotice, IsSoundWhen, IsSoundTiming, IsSoundCondition}
use Rattle.ss_program.specs.ProgramSound.{AreSoundConjunctions, IsSoundConjunction, AreSoundRelations, IsSoundRelation}
use Rattle.ss_program.specs.ProgramSound.{IsSoundBranch, AreSoundQualifiers, IsSoundBegin, IsSoundPhrase}
use Rattle.ss_program.specs.ProgramSound.{AreSoundTellings, IsSoundLooping, IsSoundPlace}
use Rattle.ss_check.specs.ClassNeed.{ClassNeed}
use Rattle.ss_check.specs.ClassNeed.{Permanent, Ending, Event}
use Rattle.ss_check.specs.NameKind.{NameKind}
use Rattle.ss_check.specs.NameKind as k
use Rattle.ss_check.specs.Declarations.{Declared}
use Rattle.ss_check.specs.NameKinds.{names_set, names_event, names_ending, serves}
use Rattle.ss_check.specs.Declarations.{kind_of}
use Rattle.ss_check.specs.PlaceRules.{has_wrong_picture}
use Rattle.ss_check.specs.Uses.{Use, LoopVariable, OfClass, uses_expr, uses_sums, uses_term, uses_products, uses_factor}
use Rattle.ss_check.specs.Uses.{uses_exprs, uses_option, uses_target, uses_set, uses_value, uses_called_target}
use Rattle.ss_check.specs.Uses.{uses_called_value, uses_condition, uses_alternatives, uses_conjunction, uses_additions}
use Rattle.ss_check.specs.Uses.{uses_relation, uses_assign, uses_making, uses_file_place, uses_filing, uses_called}
use Rattle.ss_check.specs.Uses.{uses_details, uses_when, uses_timing, uses_simple, uses_start, uses_range, uses_branch}
use Rattle.ss_check.specs.Uses.{uses_loop, uses}
use Rattle.ss_check.specs.ResolvedNames.{Names, number}
use Rattle.ss_check.specs.Resolved.{resolved_expr, resolved_sums, resolved_term, resolved_products, resolved_factor}
use Rattle.ss_check.specs.Resolved.{resolved_exprs, resolved_option, resolved_value, resolved_target, resolved_set}
use Rattle.ss_check.specs.Resolved.{called_target, called_value, resolved_condition, resolved_alternatives}
use Rattle.ss_check.specs.Resolved.{resolved_conjunction, resolved_additions, resolved_relation, resolved_assign}
use Rattle.ss_check.specs.Resolved.{resolved_making, resolved_position, resolved_filing, resolved_notice, resolved_when}
use Rattle.ss_check.specs.Resolved.{resolved_timing, resolved_simple, resolved_begin, resolved_range}
use Rattle.ss_check.specs.Resolved.{resolved_qualifier, resolved_branch, resolved_telling, resolved_loop}
use Rattle.ss_check.specs.Resolved.{resolved_place}
use Rattle.ss_check.proofs.SoundUses.{Scoped, IsGood, AreGood, good_parts, sound_owner, sound_named, sound_applied}
use Rattle.ss_check.proofs.SoundUses.{sound_bare_target, sound_target_at, sound_loop_variable, sound_class_variable}
use Rattle.ss_check.proofs.SoundUses.{sound_permanent_variable}

module _ (d : Declared) (v : Names) (locals : List Name) (sc : Scope) (S : Scoped d v locals sc) where
  parts : (xs ys : List Use) → AreGood d locals (xs ++ ys) → AreGood d locals xs × AreGood d locals ys
  parts = good_parts d locals

  -- ---- expressions

  mutual
    pub sound_expr : (e : Expr) → AreGood d locals (uses_expr e) → IsSoundExpr sc (resolved_expr d v locals e)
    sound_expr (expr s t ts) h = let p = parts (uses_term t) (uses_sums ts) h in (sound_term t p.0, sound_sums ts p.1)

    sound_sums : (ss : Sums) → AreGood d locals (uses_sums ss) → IsSoundSums sc (resolved_sums d v locals ss)
    sound_sums no_sums h = tt
    sound_sums (sum s t ts) h = let p = parts (uses_term t) (uses_sums ts) h in (sound_term t p.0, sound_sums ts p.1)

    sound_term : (t : Term) → AreGood d locals (uses_term t) → IsSoundTerm sc (resolved_term d v locals t)
    sound_term (term f fs) h =
        let p = parts (uses_factor f) (uses_products fs) h in (sound_factor f p.0, sound_products fs p.1)

    sound_products : (ps : Products) → AreGood d locals (uses_products ps) →
        IsSoundProducts sc (resolved_products d v locals ps)
    sound_products no_products h = tt
    sound_products (product f fs) h =
        let p = parts (uses_factor f) (uses_products fs) h in (sound_factor f p.0, sound_products fs p.1)

    sound_factor : (f : Factor) → AreGood d locals (uses_factor f) → IsSoundFactor sc (resolved_factor d v locals f)
    sound_factor (digits n) h = tt
    sound_factor (named n) h =
        let g = h.0 in let c = g.known in sound_named d v locals sc S n (kind_of d n) refl g.usage g.count c.0
    sound_factor (applied n e es) h =
        let g = h.0 in
        let p = parts (uses_expr e) (uses_exprs es) h.1 in
        sound_applied d v locals sc S n (kind_of d n) (resolved_expr d v locals e)
        (resolved_exprs d v locals es) refl g.usage (sound_expr e p.0)
        (sound_arguments es p.1)
    sound_factor (within e) h = sound_expr e h

    sound_arguments : (es : Exprs) → AreGood d locals (uses_exprs es) →
        AreSoundArguments sc (resolved_exprs d v locals es)
    sound_arguments no_exprs h = tt
    sound_arguments (exprs e es) h =
        let p = parts (uses_expr e) (uses_exprs es) h in (sound_expr e p.0, sound_arguments es p.1)

  sound_option : (e : Option Expr) → AreGood d locals (uses_option e) → IsSoundOption sc (resolved_option d v locals e)
  sound_option None h = tt
  sound_option (Some e) h = sound_expr e h

  sound_exprs : (es : List Expr) → AreGood d locals (flat_map uses_expr es) →
      AreSoundExprs sc (map (resolved_expr d v locals) es)
  sound_exprs [] h = tt
  sound_exprs (e ∷ es) h =
      let p = parts (uses_expr e) (flat_map uses_expr es) h in (sound_expr e p.0, sound_exprs es p.1)

  -- ---- references

  -- a factor by itself
  alone : (f : Rattle.ss_program.specs.ProgramExpr.Factor) → IsSoundFactor sc f →
      IsSoundExpr sc (Rattle.ss_check.specs.Resolved.alone f)
  alone f h = ((h, tt), tt)

  sound_value : (n : Name) (e : Option Expr) → AreGood d locals (uses_value n e) →
      IsSoundExpr sc (resolved_value d v locals (record { name = n; subscript = e }))
  sound_value n None h =
      let g = h.0 in let c = g.known in alone _ (sound_named d v locals sc S n (kind_of d n) refl g.usage g.count c.0)
  sound_value n (Some e) h =
      let g = h.0 in
      alone _ (sound_applied d v locals sc S n (kind_of d n)
      (resolved_expr d v locals e) Rattle.ss_program.specs.ProgramExpr.no_exprs refl g.usage
      (sound_expr e h.1) tt)

  target_by : (n : Name) (e : Option Expr) → AreGood d locals (uses_target (record { name = n; subscript = e })) →
      IsTarget sc (resolved_target d v locals (record { name = n; subscript = e }))
  target_by n None h =
      let g = h.0 in let c = g.known in sound_bare_target d v locals sc S n (kind_of d n) refl g.usage g.fixed c.0
  target_by n (Some e) h =
      let g = h.0 in
      sound_target_at d v locals sc S n (kind_of d n) (resolved_expr d v locals e) refl g.usage g.fixed
      (sound_expr e h.1)

  sound_target : (r : Reference) → AreGood d locals (uses_target r) → IsTarget sc (resolved_target d v locals r)
  sound_target r h = target_by r.name r.subscript h

  sound_targets : (rs : List Reference) → AreGood d locals (flat_map uses_target rs) →
      AreTargets sc (map (resolved_target d v locals) rs)
  sound_targets [] h = tt
  sound_targets (r ∷ rs) h =
      let p = parts (uses_target r) (flat_map uses_target rs) h in (sound_target r p.0, sound_targets rs p.1)

  is_set : (n : Name) (j : Option NameKind) → kind_of d n ≡ j → names_set j ≡ true → kind_of d n ≡ Some k.Set
  is_set n (Some k.Set) e h = e
  is_set n None e h = absurd (false≢true h)
  is_set n (Some k.Variable) e h = absurd (false≢true h)
  is_set n (Some k.ClassCount) e h = absurd (false≢true h)
  is_set n (Some (k.Class g)) e h = absurd (false≢true h)
  is_set n (Some (k.Attribute c)) e h = absurd (false≢true h)
  is_set n (Some (k.OwnerKept q s)) e h = absurd (false≢true h)
  is_set n (Some (k.MemberKept q s)) e h = absurd (false≢true h)
  is_set n (Some (k.Function f)) e h = absurd (false≢true h)
  is_set n (Some k.Clock) e h = absurd (false≢true h)
  is_set n (Some k.Routine) e h = absurd (false≢true h)

  sound_set : (r : Reference) → AreGood d locals (uses_set r) → IsSoundSetRef sc (resolved_set d v locals r)
  sound_set r h =
      let g = h.0 in
      let p = or_parts (not (names_set (kind_of d r.name))) _ g.usage in (
        S.set r.name (is_set r.name (kind_of d r.name) refl (not-false (names_set (kind_of d r.name)) p.0)),
        sound_owner d v locals sc S r.name (resolved_option d v locals r.subscript) (sound_option r.subscript h.1),
      )

  -- a class of the kind needed
  served : (need : ClassNeed) (n : Name) → IsGood d locals (OfClass need n) → serves need (kind_of d n) ≡ true
  served need n g = not-false (serves need (kind_of d n)) g.class

  sound_called_target : (n : Name) (r : Option Reference) → names_ending (kind_of d n) ≡ true →
      AreGood d locals (uses_called_target r) →
      IsTarget sc (called_target d v locals n r)
  sound_called_target n None e h = sound_class_variable d v locals sc S n e
  sound_called_target n (Some r) e h = sound_target r h

  sound_called_value : (n : Name) (r : Option Reference) → names_ending (kind_of d n) ≡ true →
      AreGood d locals (uses_called_value r) →
      IsSoundExpr sc (called_value d v locals n r)
  sound_called_value n None e h =
      alone (Rattle.ss_program.specs.ProgramExpr.variable
      (Rattle.ss_program.specs.declared.variable.Variable.TheVariants.Global (number n v.globals)))
      (sound_class_variable d v locals sc S n e)
  sound_called_value n (Some r) e h = sound_value r.name r.subscript h

  -- ---- conditions

  mutual
    pub sound_condition : (c : Condition) → AreGood d locals (uses_condition c) →
        IsSoundCondition sc (resolved_condition d v locals c)
    sound_condition (condition c cs) h =
        let p = parts (uses_conjunction c) (uses_alternatives cs) h in
        (sound_conjunction c p.0, sound_alternatives cs p.1)

    sound_alternatives : (cs : Alternatives) → AreGood d locals (uses_alternatives cs) →
        AreSoundConjunctions sc (resolved_alternatives d v locals cs)
    sound_alternatives no_alternatives h = tt
    sound_alternatives (alternative c cs) h =
        let p = parts (uses_conjunction c) (uses_alternatives cs) h in
        (sound_conjunction c p.0, sound_alternatives cs p.1)

    sound_conjunction : (c : Conjunction) → AreGood d locals (uses_conjunction c) →
        IsSoundConjunction sc (resolved_conjunction d v locals c)
    sound_conjunction (conjunction q qs) h =
        let p = parts (uses_relation q) (uses_additions qs) h in (sound_relation q p.0, sound_additions qs p.1)

    sound_additions : (qs : Additions) → AreGood d locals (uses_additions qs) →
        AreSoundRelations sc (resolved_additions d v locals qs)
    sound_additions no_additions h = tt
    sound_additions (addition q qs) h =
        let p = parts (uses_relation q) (uses_additions qs) h in (sound_relation q p.0, sound_additions qs p.1)

    sound_relation : (q : Relation) → AreGood d locals (uses_relation q) →
        IsSoundRelation sc (resolved_relation d v locals q)
    sound_relation (compared e how f) h =
        let p = parts (uses_expr e) (uses_expr f) h in (sound_expr e p.0, sound_expr f p.1)
    sound_relation (is_empty s how) h = sound_set s h
    sound_relation (is_in e how s) h = let p = parts (uses_expr e) (uses_set s) h in (sound_expr e p.0, sound_set s p.1)
    sound_relation (nested c) h = sound_condition c h

  -- ---- statements that hold no other

  sound_assign : (a : Assign) → AreGood d locals (uses_assign a) → IsSoundAssign sc (resolved_assign d v locals a)
  sound_assign (Let b r e) h = let p = parts (uses_target r) (uses_expr e) h in (sound_target r p.0, sound_expr e p.1)
  sound_assign (Add e r) h = let p = parts (uses_expr e) (uses_target r) h in (sound_target r p.1, sound_expr e p.0)
  sound_assign (Subtract e r) h =
      let p = parts (uses_expr e) (uses_target r) h in (sound_target r p.1, sound_expr e p.0)

  sound_making : (m : Making) → AreGood d locals (uses_making m) → IsSoundMaking sc (resolved_making d v locals m)
  sound_making (Create n r) h =
      let s = served Ending n h.0 in (S.ending n s, sound_called_target n r s h.1)
  sound_making (CreateEvery n e) h =
      let s = served Permanent n h.0 in (S.permanent n s, sound_option e h.1, S.counts n s)
  sound_making (Destroy n r) h =
      let s = served Ending n h.0 in (S.ending n s, sound_called_value n r s h.1)

  sound_position : (f : FilePlace) → AreGood d locals (uses_file_place f) →
      IsSoundPosition sc (resolved_position d v locals f)
  sound_position ByDiscipline h = tt
  sound_position (AtEnd end) h = tt
  sound_position (Before e) h = sound_expr e h
  sound_position (After e) h = sound_expr e h

  sound_filing : (f : Filing) → AreGood d locals (uses_filing f) → IsSoundFiling sc (resolved_filing d v locals f)
  sound_filing (File e how r) h =
      let p = parts (uses_expr e ++ uses_file_place how) (uses_set r) h in
      let q = parts (uses_expr e) (uses_file_place how) p.0 in
      (sound_expr e q.0, sound_position how q.1, sound_set r p.1)
  sound_filing (FileAt end e r) h = let p = parts (uses_expr e) (uses_set r) h in (sound_expr e p.0, sound_set r p.1)
  sound_filing (RemoveEnd end t r) h =
      let p = parts (uses_target t) (uses_set r) h in (sound_target t p.0, sound_set r p.1)
  sound_filing (Remove e r) h = let p = parts (uses_expr e) (uses_set r) h in (sound_expr e p.0, sound_set r p.1)

  event_ends : (j : Option NameKind) → names_event j ≡ true → names_ending j ≡ true
  event_ends None h = absurd (false≢true h)
  event_ends (Some k.Variable) h = absurd (false≢true h)
  event_ends (Some k.ClassCount) h = absurd (false≢true h)
  event_ends (Some (k.Class None)) h = absurd (false≢true h)
  event_ends (Some (k.Class (Some g))) h = by_heading g h
    where
      by_heading : (g : Rattle.ss_preamble.specs.declared.item.Heading.Heading) →
          names_event (Some (k.Class (Some g))) ≡ true →
          names_ending (Some (k.Class (Some g))) ≡ true
      by_heading Rattle.ss_preamble.specs.declared.item.Heading.TheVariants.PermanentEntities h = absurd (false≢true h)
      by_heading Rattle.ss_preamble.specs.declared.item.Heading.TheVariants.TemporaryEntities h = refl
      by_heading Rattle.ss_preamble.specs.declared.item.Heading.TheVariants.EventNotices h = refl
  event_ends (Some (k.Attribute c)) h = absurd (false≢true h)
  event_ends (Some (k.OwnerKept q s)) h = absurd (false≢true h)
  event_ends (Some (k.MemberKept q s)) h = absurd (false≢true h)
  event_ends (Some (k.Function f)) h = absurd (false≢true h)
  event_ends (Some k.Clock) h = absurd (false≢true h)
  event_ends (Some k.Set) h = absurd (false≢true h)
  event_ends (Some k.Routine) h = absurd (false≢true h)

  sound_notice : (a : Article) (n : Name) (r : Option Reference) → names_ending (kind_of d n) ≡ true →
      AreGood d locals (uses_called a r) →
      IsSoundNotice sc (resolved_notice d v locals a n r)
  sound_notice A n r e h = sound_called_target n r e h
  sound_notice The n r e h = sound_called_value n r e h

  sound_when : (t : When) → AreGood d locals (uses_when t) → IsSoundWhen sc (resolved_when d v locals t)
  sound_when (At e) h = sound_expr e h
  sound_when Now h = tt
  sound_when (In e) h = sound_expr e h

  sound_timing : (t : Timing) → AreGood d locals (uses_timing t) → IsSoundTiming sc (resolved_timing d v locals t)
  sound_timing (Schedule a n (ValuesFirst es r) t) h =
      let s = event_ends (kind_of d n) (served Event n h.0) in
      let p = parts (uses_details a (ValuesFirst es r)) (uses_when t) h.1.1 in
      let q = parts (flat_map uses_expr (all_of es)) (uses_called a r) p.0 in
      (S.ending n s, sound_notice a n r s q.1, sound_exprs (all_of es) q.0, sound_when t p.1)
  sound_timing (Schedule a n (CalledFirst r es) t) h =
      let s = event_ends (kind_of d n) (served Event n h.0) in
      let p = parts (uses_details a (CalledFirst r es)) (uses_when t) h.1.1 in
      let q = parts (uses_called a r) (flat_map uses_expr es) p.0 in
      (S.ending n s, sound_notice a n r s q.0, sound_exprs es q.1, sound_when t p.1)
  sound_timing (Cancel n r) h =
      let s = event_ends (kind_of d n) (served Event n h.0) in (S.ending n s, sound_called_value n r s h.1)
  sound_timing StartSimulation h = tt

  as_many : (es : List Expr) (ls : List (List ℕ)) →
      (not (length es == field_count ls) || has_decimal_field ls) ≡ false →
      length (map (resolved_expr d v locals) es) ≡ field_count ls
  as_many es ls h =
      length-map es (resolved_expr d v locals)
      ∙ eqb-true (length es) (field_count ls)
      (not-false (length es == field_count ls)
      (or_parts (not (length es == field_count ls)) (has_decimal_field ls) h).0)

  sound_simple : (s : Simple) → AreGood d locals (uses_simple s) → has_wrong_picture (w.Simply s) ≡ false →
      IsSoundPlace sc (resolved_simple d v locals s)
  sound_simple (Assigns a) h p = sound_assign a h
  sound_simple (Makes m) h p = sound_making m h
  sound_simple (Files f) h p = sound_filing f h
  sound_simple (Transfers (Call n es rs)) h p =
      let q = parts (flat_map uses_expr (listing_names es)) (flat_map uses_target rs) h.1 in
      (sound_exprs (listing_names es) q.0, sound_targets rs q.1)
  sound_simple (Transfers Return) h p = tt
  sound_simple (Transfers Stop) h p = tt
  sound_simple (Times t) h p = sound_timing t h
  sound_simple (Exchanges (Read rs)) h p = sound_targets (all_of rs) h
  sound_simple (Exchanges (Print n es ls)) h p =
      (as_many es ls p, (or_parts (not (length es == field_count ls)) (has_decimal_field ls) p).1, sound_exprs es h)
  sound_simple (Exchanges (Skip e)) h p = sound_expr e h

  -- ---- loops

  sound_variable : (n : Name) → IsGood d locals (LoopVariable n) →
      Rattle.ss_program.specs.ProgramSound.IsSettable sc
      (Rattle.ss_check.specs.ResolvedNames.resolved_variable d v locals n)
  sound_variable n g = let c = g.known in sound_loop_variable d v locals sc S n (kind_of d n) refl g.fixed c.0

  sound_begin : (b : l.WalkStart) → AreGood d locals (uses_start b) → IsSoundBegin sc (resolved_begin d v locals b)
  sound_begin l.AtEnd h = tt
  sound_begin (l.From e) h = sound_expr e h
  sound_begin (l.After e) h = sound_expr e h

  sound_range : (r : l.Range) → AreGood d locals (uses_range r) → IsSoundPhrase sc (resolved_range d v locals r)
  sound_range (l.Counting way n a b step) h =
      let p = parts (uses_expr a ++ uses_expr b) (uses_option step) h.1 in
      let q = parts (uses_expr a) (uses_expr b) p.0 in
      (sound_variable n h.0, sound_expr a q.0, sound_expr b q.1, sound_option step p.1)
  sound_range (l.Each n None) h =
      let s = served Permanent n h.0 in (sound_permanent_variable d v locals sc S n s, S.counts n s)
  sound_range (l.Each n (Some called)) h =
      let s = served Permanent n h.0 in (sound_variable called h.1.0, S.counts n s)
  sound_range (l.Walking way n r start) h =
      let p = parts (uses_set r) (uses_start start) h.1 in
      (sound_variable n h.0, sound_set r p.0, sound_begin start p.1)

  sound_qualifiers : (qs : List l.Qualifier) → AreGood d locals (flat_map (λ q. uses_condition q.condition) qs) →
      AreSoundQualifiers sc (map (resolved_qualifier d v locals) qs)
  sound_qualifiers [] h = tt
  sound_qualifiers (q ∷ qs) h =
      let p = parts (uses_condition q.condition) (flat_map (λ q. uses_condition q.condition) qs) h in
      (sound_condition q.condition p.0, sound_qualifiers qs p.1)

  sound_tellings : (ts : List l.Computed) → AreGood d locals (flat_map (λ t. uses_target t.target) ts) →
      AreSoundTellings sc (map (resolved_telling d v locals) ts)
  sound_tellings [] h = tt
  sound_tellings (t ∷ ts) h =
      let p = parts (uses_target t.target) (flat_map (λ t. uses_target t.target) ts) h in
      (sound_target t.target p.0, sound_tellings ts p.1)

  sound_loop : (x : w.Loop) → AreGood d locals (uses_loop x) → IsSoundLooping sc (resolved_loop d v locals x)
  sound_loop (w.For f has_do) h =
      let p = parts (uses_range f.range) (flat_map (λ q. uses_condition q.condition) f.qualifiers) h in
      (sound_range f.range p.0, sound_qualifiers f.qualifiers p.1)
  sound_loop w.Next h = tt
  sound_loop w.Find h = tt
  sound_loop (w.Gather e) h = sound_expr e h
  sound_loop (w.Compute ts) h = sound_tellings (all_of ts) h

  -- ---- places

  sound_branch : (b : w.Branch) → AreGood d locals (uses_branch b) → IsSoundBranch sc (resolved_branch d v locals b)
  sound_branch (w.If (l.Holds c)) h = sound_condition c h
  sound_branch (w.If l.Found) h = tt
  sound_branch (w.If l.NoneFound) h = tt
  sound_branch w.Else h = tt
  sound_branch w.Always h = tt

  pub sound_place : (p : w.Place) → AreGood d locals (uses p) → has_wrong_picture p ≡ false →
      IsSoundPlace sc (resolved_place d v locals p)
  sound_place (w.Simply s) h e = sound_simple s h e
  sound_place (w.Branches b) h e = sound_branch b h
  sound_place (w.Loops x) h e = sound_loop x h
  sound_place w.EndOfSection h e = tt
