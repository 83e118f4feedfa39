pub mod NamesTexts
pub mod NamesPlaces
pub mod NamesClasses
pub mod NamesAreOne
pub mod Escapes
pub mod ReadBack
