mod Firsts
mod Placed
