pub mod UnderWay
pub mod ReadServed
pub mod WriteServed
pub mod AllocServed
pub mod SafepointServed
pub mod Endings
pub mod Loops
pub mod Arrivals
