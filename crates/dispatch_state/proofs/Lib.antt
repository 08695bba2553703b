mod SameRows
mod Deciding
