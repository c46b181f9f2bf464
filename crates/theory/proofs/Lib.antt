-- Tree Caching: the laws, then the three demands proved, then examples.
pub mod Laws
pub mod Theorems
pub mod Examples
