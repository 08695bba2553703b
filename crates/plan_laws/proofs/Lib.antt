-- Plans: SA1's runs, each duty's share of them, the line on which they lie, the table that they make; when what is wanted is taken, when it
-- is planned and when refused, what is planned, also in shorter blocks; the periods' common multiple; which numbers and places each call
-- refuses with; and that 7 leaves no schedule.
pub mod Sa1
pub mod Sa1Shares
pub mod Line
pub mod Sa1Table
pub mod TakenWhen
pub mod PlanWhen
pub mod Periods
pub mod Planned
pub mod Shorter
pub mod Listed
pub mod Overload
