-- a pass over the blocks on its way
pub mod Passing
-- the cuts that passes keep
pub mod Keeping
-- blocks written one after the other
pub mod Putting
