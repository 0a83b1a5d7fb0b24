pub mod NonRevertive
