mod Taken
mod Joined
mod Registers
mod Fronts
