-- The walk: chains, the units of a duty over the rows of a block, the service of its jobs, and where loads are; and the page of all that,
-- which other rooms cite.
pub mod Chains
pub mod Units
pub mod Service
pub mod Starts
pub mod Page
