-- The FOR phrases that are open, by one scan over the words.
use Rattle.std.specs.Prelude.{ℕ, suc, Bool, true, false, if◌then◌else◌, List, [], ◌∷◌}
use Rattle.ss_words.specs.declared.mark.Mark.TheVariants as m
use Rattle.ss_words.specs.declared.word.Sign.TheVariants as s
use Rattle.ss_words.specs.declared.reserved.Reserved.TheVariants as r
use Rattle.ss_words.specs.Plain.{Plain, name, number, mark}

-- may be open: FOR, to the end of the part it controls; DO, to its LOOP; IF, to its ALWAYS
pub data Open : Type 0 where
  For Do If : Open

-- the open parts after the innermost phrases close: all phrases close that are before any DO or IF
abbrev pub without_inner_phrases : List Open → List Open
without_inner_phrases (For ∷ os) = without_inner_phrases os
without_inner_phrases os = os

-- open parts after LOOP or ALWAYS: they close the innermost DO or IF and phrases directly before it
abbrev pub without_inner_block : List Open → List Open
without_inner_block [] = []
without_inner_block (o ∷ os) = without_inner_phrases os

-- begins a statement that holds no other, and so no FOR: the phrases before it close here
abbrev pub begins : Plain → Bool
begins (mark (m.Reserved r.Let)) = true
begins (mark (m.Reserved r.Add)) = true
begins (mark (m.Reserved r.Subtract)) = true
begins (mark (m.Reserved r.Create)) = true
begins (mark (m.Reserved r.Destroy)) = true
begins (mark (m.Reserved r.File)) = true
begins (mark (m.Reserved r.Remove)) = true
begins (mark (m.Reserved r.Call)) = true
begins (mark (m.Reserved r.Return)) = true
begins (mark (m.Reserved r.Stop)) = true
begins (mark (m.Reserved r.Schedule)) = true
begins (mark (m.Reserved r.Cancel)) = true
begins (mark (m.Reserved r.Start)) = true
begins (mark (m.Reserved r.Read)) = true
begins (mark (m.Reserved r.Print)) = true
begins (mark (m.Reserved r.Skip)) = true
begins (mark (m.Reserved r.Find)) = true
begins (mark (m.Reserved r.Compute)) = true
begins _ = false

-- a word with which a phrase may end; a name directly after it begins an assignment without LET
abbrev pub may_end : Plain → Bool
may_end (name n) = true
may_end (number n) = true
may_end (mark (m.Sign s.Close)) = true
may_end (mark (m.Reserved r.Empty)) = true
may_end (mark (m.Reserved r.Order)) = true
may_end _ = false

-- the open parts after a word, if os is open before it; b: the word before it may end a phrase
abbrev pub step : Bool → List Open → Plain → List Open
step b os (mark (m.Reserved r.For)) = For ∷ os
step b os (mark (m.Reserved r.Do)) = Do ∷ os
step b os (mark (m.Reserved r.If)) = If ∷ os
step b os (mark (m.Reserved r.Loop)) = without_inner_block os
step b os (mark (m.Reserved r.Always)) = without_inner_block os
step b os (name n) = if b then without_inner_phrases os else os
step b os w = if begins w then without_inner_phrases os else os

-- the open parts after words, the innermost first
abbrev pub open_behind : Bool → List Open → List Plain → List Open
open_behind b os [] = os
open_behind b os (w ∷ ws) = open_behind (may_end w) (step b os w) ws

-- how many of them are phrases
abbrev pub phrases_of : List Open → ℕ
phrases_of [] = 0
phrases_of (For ∷ os) = suc (phrases_of os)
phrases_of (o ∷ os) = phrases_of os

-- how many phrases are open after the words of a text
abbrev pub open_phrases : List Plain → ℕ
open_phrases ws = phrases_of (open_behind false [] ws)
