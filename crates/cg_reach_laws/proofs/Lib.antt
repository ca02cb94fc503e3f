mod Found
mod LedTo
mod LeavesLedTo
