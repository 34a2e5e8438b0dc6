pub mod Among
pub mod ListLemmas
pub mod TextMaps
