-- What the tree of a program means, where its actions begin in the rows, what the other side of a protocol is, and
-- what appending does.
pub mod Added
pub mod Marks
pub mod Meaning
pub mod Mirror
