mod Compacting
mod Shaping
mod Gathering
mod Telling
