pub mod Heads
pub mod KeptCalls
pub mod LogFiles
pub mod CallLogs
