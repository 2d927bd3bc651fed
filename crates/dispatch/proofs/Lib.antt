pub mod Made
mod Tables
