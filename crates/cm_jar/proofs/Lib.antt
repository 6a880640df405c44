mod CrcLaws
mod EntryLaws
mod BitLaws
mod OutputLaws
mod CodeLaws
mod PowerLaws
mod RowLaws
mod DeflateLaws
