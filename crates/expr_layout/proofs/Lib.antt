pub mod Findings
pub mod OneLayout
pub mod Prefixes
pub mod Tokens
