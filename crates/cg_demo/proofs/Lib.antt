pub mod Eaches
