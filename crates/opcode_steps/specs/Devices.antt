pub mod Opcodes
pub mod Family
