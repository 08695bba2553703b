pub mod FromBlocks
