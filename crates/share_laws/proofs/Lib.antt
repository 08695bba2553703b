-- plans of shares
-- the need in closed form, and what follows of a job's units and of the most that is allotted
pub mod Steps
-- which of the causes of 23 come up, and that the first block that fails is the first that comes short
pub mod ShortWhen
-- the chosen duties by a cut
pub mod CutFinds
-- a block on the line of SA1, and the schedule read off it
pub mod OnLine
-- the common multiple and its blocks
pub mod Blocks
-- when a block is good, and what 23 finds
pub mod GoodBlocks
-- when there is a plan of shares, and when which refusal
pub mod SharesWhen
-- a plan that is given serves every job, for ever
pub mod Served
-- 7 means that no schedule meets the duties, a plan that one does
pub mod Overload
-- which numbers and places both calls refuse with
pub mod SharesListed
-- 004's table 3, the refusals in their order, and sets against 004's theorems 3.3 and 3.4
pub mod ShareCasesHold
