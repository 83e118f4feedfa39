mod Callers
mod InText
mod Tables
mod Unpricing
