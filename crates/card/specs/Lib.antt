-- The rules of judging; `inner` has words of inner contracts.
pub mod Judge
pub mod inner
pub mod OfClip
pub mod OfWorking
pub mod OfLoading
