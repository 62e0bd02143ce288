pub mod Relaxings
