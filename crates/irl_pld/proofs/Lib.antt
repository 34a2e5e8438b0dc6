pub mod CutLemmas
pub mod SetLemmas
pub mod ReadLemmas
pub mod DomainLemmas
