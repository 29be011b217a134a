pub mod ClimbSteps
pub mod CollidingNodes
pub mod Commitments
pub mod Levels
pub mod Roots
pub mod Siblings
pub mod TreeConstruction
pub mod Trees
