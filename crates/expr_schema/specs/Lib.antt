pub mod Joins
pub mod KindView
pub mod Kinds
pub mod SchemaView
pub mod Scopes
pub mod Texts
