pub mod Unfoldings
pub mod Notings
pub mod AskedUnfoldings
mod Tally
mod Form
mod Law
mod ExprLaw
mod Items
mod SimpleLaw
mod NoReference
mod ConditionLaw
mod LoopLaw
mod Rooms
mod EitherRooms
mod ListLoop
mod AlternativeParts
mod ChoiceAnswers
mod AbsentParts
mod PartAnswers
mod LimitedParts
mod PartingWords
mod BlockLaw
mod BlockLevels
mod AnnouncedParts
mod HeadLaw
mod HeadNear
mod HeadAgain
mod SectionLaw
mod Inner
mod OpenWords
mod Operands
mod Counting
mod BlockCounts
mod HeadCounts
mod SectionCounts
mod HeadNames
pub mod Whole
pub mod Unique
mod LimitWords
pub mod AlwaysAnswered
pub mod AnswerByReading
pub mod AskedWords
mod AskedExamples
pub mod Misfits
mod BlockWrites
mod LevelWrites
mod SectionWrites
mod NotedAnswers
mod PushedPlaces
mod NotingRooms
mod NamesLoop
mod SectionLoop
pub mod EndIsLast
mod Examples
