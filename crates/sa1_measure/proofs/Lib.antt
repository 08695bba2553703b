pub mod LaidLeft
