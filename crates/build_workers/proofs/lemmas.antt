pub mod FirstDesk
pub mod KnownFiles
pub mod Results
pub mod SentViews
pub mod Weaker
