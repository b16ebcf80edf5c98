use Rattle.ss_prompt.proofs.MissingLaws.{variables, lists, classes, attributes}
use Rattle.ss_prompt.proofs.laws.what_is_missing_is_answered_so.Goals as goal

pub returns-clause-variables : goal.returns-clause-variables
returns-clause-variables c = variables

pub returns-clause-lists : goal.returns-clause-lists
returns-clause-lists c = lists

pub returns-clause-classes : goal.returns-clause-classes
returns-clause-classes c = classes

pub returns-clause-attributes : goal.returns-clause-attributes
returns-clause-attributes c = attributes
