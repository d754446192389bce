-- What follows the code: no public contract cites it.
pub mod Ancestors
pub mod Broken
pub mod Effects
pub mod LinkRules
pub mod OtherKinds
pub mod Parts
pub mod Regions
pub mod RuleView
pub mod Signatures
pub mod Successors
pub mod Tables
