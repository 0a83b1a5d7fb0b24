pub mod Bystander
