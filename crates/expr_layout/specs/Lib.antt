pub mod KnownFields
pub mod Layouts
