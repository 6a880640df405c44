mod ByMarks
mod CharacterLaws
mod ClassNameLaws
mod FirstStop
mod FormLoops
mod JoinedNames
mod MarksOf
mod TypeLaws
