-- What a stream's listing needs of it.
pub mod Streams
