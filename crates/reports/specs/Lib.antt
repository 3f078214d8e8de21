pub mod Report
pub mod Files
pub mod Said
pub mod Outcomes
pub mod RunReport
pub mod TraceRuns
