mod Bits
mod Touching
mod Counting
mod Ahead
mod Backward
mod Counted
mod Held
mod Grouped
