pub mod InnerMarks
pub mod InnerJudging
