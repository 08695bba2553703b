pub mod Cutting
-- the first needs, duty after duty; a block on its way
pub mod Beginning
pub mod Going
