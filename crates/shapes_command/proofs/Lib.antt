mod Common
mod SumsAlongShapes
mod Ascending
mod Drains
mod Requests
mod Roots
mod Searches
mod SpacedTexts
mod Sums
mod Words
pub use Common.*
pub use Drains.*
pub use Requests.*
pub use Roots.*
pub use Searches.*
pub use SpacedTexts.*
pub use Sums.*
pub use SumsAlongShapes.*
pub use Words.*
