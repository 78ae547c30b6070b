pub mod Calls
pub mod KnownReads
pub mod FileKey
pub mod NamedFile
pub mod Pack
pub mod Steps
pub mod Told
pub mod View
