mod Filling
mod AtHand
