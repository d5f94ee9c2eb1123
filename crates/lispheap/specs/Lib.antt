pub mod Texts
pub mod Streams
pub mod Journals
pub mod Generating
pub mod Answers
pub mod OnThreads
