mod Computing
mod Admissions
mod Equalities
mod Lateness
mod Periods
mod AllRight
