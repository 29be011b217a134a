pub mod Measuring
