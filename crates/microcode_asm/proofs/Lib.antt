pub mod LabelLemmas
pub mod NameLemmas
pub mod LineLemmas
pub mod SoFarLemmas
pub mod ReadLemmas
mod WordLines
pub mod Numbers
pub mod LineLabels
pub mod Names
pub mod Lines
