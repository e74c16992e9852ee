pub mod Checked
pub mod JsonLines
pub mod Lines
pub mod Needs
pub mod Reports
pub mod Rules
pub mod Tasks
pub mod Verdicts
