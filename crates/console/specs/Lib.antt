pub mod Lines
pub mod Cuts
pub mod Commands
pub mod Replies
pub mod Runs
pub mod UnderWay
pub mod Spoken
