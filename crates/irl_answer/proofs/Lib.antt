mod Giving
pub mod Chains
