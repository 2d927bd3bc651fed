pub mod Letters
pub mod Orders
