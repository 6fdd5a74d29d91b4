-- what a text's tokens are
pub mod Tokens
pub mod Spacing
pub mod Answers
-- the code's way over the bytes
pub mod Scanning
