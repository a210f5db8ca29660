pub mod CutAnswers
pub mod FillAnswers
pub mod SolvedPrograms
