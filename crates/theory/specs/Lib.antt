-- Tree Caching: first the definitions, in the order in which they build on one another; then how the set to act on may be found, and the
-- executable twin of the step.
pub mod Limits
pub mod Sets
pub mod Tree
pub mod Changes
pub mod State
pub mod Tally
pub mod Sound
pub mod Refusals
pub mod Payment
pub mod Choice
pub mod Act
pub mod Step
pub mod Replies
pub mod History
pub mod Demands
pub mod Search
pub mod Twin
