-- What the steps of a call give. The contract of the top call cites none of these.
pub mod Ends
pub mod GraphFault
