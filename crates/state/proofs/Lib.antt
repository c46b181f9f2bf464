-- Laws about columns, and that each contract allows one result.
pub mod Columns
pub mod Deciding
