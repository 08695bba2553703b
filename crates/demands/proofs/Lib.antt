-- The user's three demands, of tables and of plans of shares; that 7 means impossible, and that others do not; that each call's promise
-- leaves one outcome; and cases in which they speak of something.
pub mod Demands
pub mod ShareDemands
pub mod EnginesNeeded
pub mod YetPossible
pub mod CapacityDemands
pub mod OneOutcome
pub mod NotEmpty
