pub mod Collisions
pub mod Merkle
