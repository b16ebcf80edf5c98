use Rattle.ss_prompt.specs.PromptState.{state_at}
use Rattle.ss_prompt.proofs.SameRuns.{stays, listed_stays, left_stays}
use Rattle.ss_prompt.proofs.desk.PromptDesk.obey.Goals as goal

pub returns-clause-input : goal.returns-clause-input
returns-clause-input g c =
    (stays c.advance.result (state_at c.args.debugger.now c.args.self.now)
    (state_at c.advance.new.debugger c.advance.new.self) c.args.command c.advance.ensures.place
    c.advance.ensures.memory).input

pub returns-clause-model : goal.returns-clause-model
returns-clause-model g c =
    (stays c.advance.result (state_at c.args.debugger.now c.args.self.now)
    (state_at c.advance.new.debugger c.advance.new.self) c.args.command c.advance.ensures.place
    c.advance.ensures.memory).model

pub returns-clause-lines : goal.returns-clause-lines
returns-clause-lines g c =
    (stays c.advance.result (state_at c.args.debugger.now c.args.self.now)
    (state_at c.advance.new.debugger c.advance.new.self) c.args.command c.advance.ensures.place
    c.advance.ensures.memory).lines

pub returns-clause-data_text : goal.returns-clause-data_text
returns-clause-data_text g c =
    (stays c.advance.result (state_at c.args.debugger.now c.args.self.now)
    (state_at c.advance.new.debugger c.advance.new.self) c.args.command c.advance.ensures.place
    c.advance.ensures.memory).data_text

pub returns-clause-symbols : goal.returns-clause-symbols
returns-clause-symbols g c =
    (stays c.advance.result (state_at c.args.debugger.now c.args.self.now)
    (state_at c.advance.new.debugger c.advance.new.self) c.args.command c.advance.ensures.place
    c.advance.ensures.memory).symbols

pub returns-clause-listed : goal.returns-clause-listed
returns-clause-listed g c =
    listed_stays c.advance.result (state_at c.args.debugger.now c.args.self.now)
    (state_at c.advance.new.debugger c.advance.new.self) c.args.command c.advance.ensures.memory

pub returns-clause-left : goal.returns-clause-left
returns-clause-left g c =
    left_stays c.advance.result (state_at c.args.debugger.now c.args.self.now)
    (state_at c.advance.new.debugger c.advance.new.self) c.args.command c.advance.ensures.memory
