pub mod Answer
pub mod Drain
pub mod Line
pub mod Number
pub mod Request
