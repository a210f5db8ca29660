pub mod Chains
pub mod Deciding
pub mod Facts
pub mod Lists
pub mod Numbered
pub mod TestLemmas
