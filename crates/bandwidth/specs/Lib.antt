pub mod Bandwidth
