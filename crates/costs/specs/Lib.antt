pub mod Coins
pub mod CoinsThenActions
pub mod Counted
pub mod Laws
