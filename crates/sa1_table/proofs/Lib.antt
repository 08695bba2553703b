pub mod BytesLeft
pub mod RunBytes
pub mod Table
pub mod Recording
