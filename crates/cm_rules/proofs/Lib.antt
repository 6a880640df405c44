mod Searches
mod RulesInOrder
mod OneAnswer
mod FirstFault
mod KeptRules
mod Elsewhere
mod WorkedExamples
-- A search for the first item that fails a test, over an iterator; tests of both of two; a class
-- whose parts keep all rules.
pub use Searches.{passes_next, none_left}
pub use KeptRules.{left, right, both, no_fault}
