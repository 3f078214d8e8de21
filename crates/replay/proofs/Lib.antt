mod DrawLemmas
pub mod Ends
pub mod Endings
pub mod WorldSteps
pub mod Told
pub mod NamedLemmas
pub mod Lists
pub mod StepsTaken
pub mod StartsLemmas
pub mod Watching
pub mod Drawings
pub mod DrawnNumbers
pub mod DrawnSetups
pub mod Firsts
pub mod SeedsLemmas
pub mod Chunks
pub mod TraceSteps
