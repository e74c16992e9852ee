pub mod Given
pub mod LineLemmas
pub mod RecordFilterLemmas
pub mod RunEnding
