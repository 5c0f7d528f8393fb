-- Document 02's requests about a link's state, as definitions: over histories, in the request's words, and over the bytes that are lent.
pub mod History
pub mod Health
