pub mod Counting
pub mod RankLemmas
pub mod Rows
pub mod SameDegrees
pub mod Sorting
pub mod TextMaps
