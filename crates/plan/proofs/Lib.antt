mod Multiples
pub mod Commons
mod Lines
mod HeadBits
pub mod FirstWrong
pub mod RowLaws
pub mod RowsLaws
pub mod AdmissionLaws
pub mod Encodings
pub mod Passing
pub mod TaskTimes
