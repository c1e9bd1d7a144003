-- The public calls: what each gives back, as a function of what came in. The paper: SetUp, Files, Frame; Answers, the numbers of each call in
-- their order; Wild, states that no run reaches. Means: Handed.
pub mod SetUp
pub mod Files
pub mod Frame
pub mod Handed
pub mod Answers
pub mod Wild
