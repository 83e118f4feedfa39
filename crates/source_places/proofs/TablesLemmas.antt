pub mod NearLemmas
pub mod FolderLemmas
pub mod LineLemmas
pub mod TableLaws
pub mod PlaceLemmas
