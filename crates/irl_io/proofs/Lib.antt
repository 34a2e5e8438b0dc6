mod FeedLemmas
pub mod LineLemmas
