pub mod AsWanted
