pub mod Filled
pub mod IndexedLinks
pub mod IndexedNodes
pub mod LinkNumbers
pub mod Pushed
pub mod Readers
pub mod Updates
mod Samples
mod ThinNumbers
mod ThinLinks
mod ThinNodes
pub mod ThinLinked
mod ThinSteps
pub mod ThinRuns
