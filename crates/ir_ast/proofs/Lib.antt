mod Jumps
mod Coefficients
mod KeysAgain
mod TypedPointers
mod HintsStay
mod Chains
mod KeptNames
mod Marks
