pub mod OneAnswer
pub mod OneText
