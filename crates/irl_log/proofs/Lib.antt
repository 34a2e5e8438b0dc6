mod Appended
mod Behind
mod Events
mod Handed
mod Noted
pub mod OneEvent
pub mod OneLog
mod Pieces
mod Runs
mod Spellings
mod Visitors
mod Words
