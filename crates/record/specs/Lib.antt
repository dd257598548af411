pub mod Patterns
pub mod Accepted
pub mod ReadingOrder
pub mod Bytes
pub mod Writable
pub mod Reading
pub mod RoundTrip
pub mod Together
