mod Numbers
mod Texts
mod Digits
mod ListingTexts
mod Reading
mod Whole
