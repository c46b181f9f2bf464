-- What the columns of a lent state mean.
pub mod Columns
pub mod Parts
