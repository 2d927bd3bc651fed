pub mod Favourites
pub mod FlatCosts
