-- The cases P1 to P10 and those of a wanted block length, and what they and code need of the definitions: outcomes and tests, the rotation,
-- what holds a unit, jobs, loads, what a schedule that meets duties takes of its engines, what is asked.
pub mod Outcomes
pub mod Passed
pub mod Rotation
pub mod Holding
pub mod Links
pub mod Jobs
pub mod Loads
pub mod Capacity
pub mod Calls
pub mod CasesHold
pub mod LengthCasesHold
