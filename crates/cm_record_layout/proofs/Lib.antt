-- What crates above may cite of these proofs is what `pub use` passes on; all else is private.
mod Packed
mod Lengths
mod Digits
mod Runs
mod Sections
mod WorkedExamples
-- Runs, word by word.
pub use Packed.{length-packed_into, packed_len, packed_more, word_same, length-bytes_of}
pub use Packed.{word_back}
-- How many words the sections have.
pub use Lengths.{attribute_runs_append, all_attributes_len, all_runs, all_runs_len, all_members_len}
pub use Lengths.{attributes_append, members_append, directory_len, members_len, attributes_len}
pub use Lengths.{lay_len}
-- The numbers of a word are read as they were put there.
pub use Digits.{first-four_numbers, second-four_numbers, third-four_numbers, fourth-four_numbers}
pub use Digits.{four_numbers_parts, first-attribute, upper-attribute, four_numbers_test}
-- A word holds the bytes of a run.
pub use Runs.{bytes_from, front_back, front_word}
-- Where the sections of a class are in its record.
pub use Sections.{tail_joined, attributes_there, attributes_tail_len}
pub use Sections.{runs_there, runs_tail_len, main_there, word_0, word_1, word_2, word_3, word_4}
pub use Sections.{word_5}
pub use Sections.{word_6, word_7, word_8, flags_there, this_there, super_there, interfaces_there}
pub use Sections.{count_there, fields_there, methods_there, own_there, record_long, flags_read}
pub use Sections.{directory_within, lay_short}
