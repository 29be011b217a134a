mod Common
pub mod Parts
pub mod Chunks
pub mod Wholes
pub use Common.*
pub use Parts.*
pub use Chunks.*
