pub mod WebLemmas
pub mod LinkLemmas
