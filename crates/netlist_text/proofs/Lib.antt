mod Texts
mod Worked
