pub mod Spins
