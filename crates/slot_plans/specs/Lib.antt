pub mod Planning
pub mod Plan
pub mod PlanAnswers
