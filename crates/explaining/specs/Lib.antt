-- The sentence for each refusal, and the line that explains an answer.
pub mod Lines
pub mod Sentences
pub mod Explanation
