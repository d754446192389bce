pub mod Laws
pub mod Fits
pub mod Samples
pub mod FunctionSamples
