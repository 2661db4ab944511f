pub mod Spelling
pub mod Text
pub mod Verbs
pub mod Calls
pub mod Refusals
pub mod Replies
