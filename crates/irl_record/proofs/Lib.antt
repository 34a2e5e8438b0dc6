mod GrammarLemmas
mod IndexLemmas
mod ItemLemmas
mod NameLemmas
mod PageUrls
pub mod Playing
mod ReadLemmas
mod RunLemmas
mod SiteLemmas
mod SiteTapes
mod TapeLemmas
mod WireLemmas
