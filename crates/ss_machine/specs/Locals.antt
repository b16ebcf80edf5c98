-- Private: the values of a frame's locals.
use Rattle.std.specs.Prelude.{◌≡◌, ℕ, ℤ, pos, ◌-◌, ◌++◌, ◌≤◌, Bool, true, false, nat_le, List, [], length, take}
use Rattle.std.specs.Prelude.{replicate}
use Rattle.ss_state.specs.State.{FrameState, no_statistics}
use Rattle.ss_machine.specs.declared.state.locals.TheConstants.{MOST_WITHIN}
use Rattle.ss_machine.specs.declared.state.locals.FewValues.{FewValues}
use Rattle.ss_machine.specs.declared.state.frame.SmallFrame.{SmallFrame}

-- a list of `count` values, the first of them given, the others 0
abbrev pub padded : List ℤ → ℕ → List ℤ
padded given count = given ++ replicate (count - length given) (pos 0)

-- the first values of those within the frame, or all those in memory, by whether they are few
abbrev pub values_by : Bool → ℕ → List ℤ → List ℤ → List ℤ
values_by true count few many = take count few
values_by false count few many = many

-- the values of `count` locals
abbrev pub values_of : ℕ → List ℤ → List ℤ → List ℤ
values_of count few many = values_by (nat_le count MOST_WITHIN) count few many

-- memory has `count` values; by whether they are few, which need no memory
abbrev pub HasCountBy : Bool → ℕ → List ℤ → Type 0
HasCountBy true count many = Unit {0}
HasCountBy false count many = length many ≡ count

-- memory has `count` values, unless `count` is small enough to need none
abbrev pub HasCount : ℕ → List ℤ → Type 0
HasCount count many = HasCountBy (nat_le count MOST_WITHIN) count many

-- memory has `count` values: those given, then zeros; by whether they are few, which need none
abbrev pub IsPaddedBy : Bool → List ℤ → ℕ → List ℤ → Type 0
IsPaddedBy true given count many = Unit {0}
IsPaddedBy false given count many = many ≡ padded given count

-- memory has `count` values, those given and then zeros, unless they are few and need none
abbrev pub IsPadded : List ℤ → ℕ → List ℤ → Type 0
IsPadded given count many = IsPaddedBy (nat_le count MOST_WITHIN) given count many

-- the values of few locals
abbrev pub few_values : FewValues → List ℤ
few_values few = take few.count few.values

-- the frame that a small one is: without open loops, and nothing gathered
abbrev pub small_frame : SmallFrame → FrameState
small_frame small = record {
  section = small.section;
  place = small.place;
  locals = few_values small.locals;
  loops = [];
  found = small.found;
  statistics = no_statistics;
}

-- a frame has few locals, no open loops, and nothing gathered
pub record IsSmall (frame : FrameState) : Type 0 where
  -- few locals
  pub locals : length frame.locals ≤ MOST_WITHIN
  -- no open loops
  pub loops : frame.loops ≡ []
  -- nothing gathered
  pub statistics : frame.statistics ≡ no_statistics
