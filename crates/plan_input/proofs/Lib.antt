pub mod Lines
pub mod LinesRead
pub mod NothingLost
