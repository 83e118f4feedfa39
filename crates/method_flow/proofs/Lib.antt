mod Leading
mod Shaping
mod Walking
mod Tabling
mod Kinding
mod Examples
mod Invoking
