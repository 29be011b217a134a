mod Common
mod ListLookups
mod HistoryBeginnings
mod LatchSteps
mod LatchLearns
mod CountSteps
pub mod CountLearns
mod Standings
mod JobSteps
mod JobSeats
mod WorkerCalls
mod Probes
mod RowPlaces
pub use Common.*
pub use CountLearns.*
pub use CountSteps.*
pub use JobSeats.*
pub use JobSteps.*
pub use LatchLearns.*
pub use LatchSteps.*
pub use Probes.*
pub use RowPlaces.*
pub use Standings.*
pub use WorkerCalls.*
