-- Private: the pure data for uses of the code.
use Rattle.ss_check.specs.declared.uses.use_list.Use.{Use as CodeUse}
use Rattle.ss_check.specs.declared.uses.use_list.Use.TheVariants as code
use Rattle.ss_check.specs.KindView.{need_view}
use Rattle.ss_check.specs.Uses.{Use, Value, Target, InSet, LoopVariable, OfClass, Notice, Routine}

-- a use of the code
abbrev pub use_view : CodeUse → Use
use_view (code.Value n k) = Value n.now k
use_view (code.Target n b) = Target n.now b
use_view (code.InSet n b) = InSet n.now b
use_view (code.LoopVariable n) = LoopVariable n.now
use_view (code.OfClass need n) = OfClass (need_view need) n.now
use_view (code.Notice n k) = Notice n.now k
use_view (code.Routine n k l) = Routine n.now k l
