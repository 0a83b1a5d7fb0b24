pub mod OneForwarder
