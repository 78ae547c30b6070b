pub mod Inside
pub mod Outside
pub mod Shapes
pub mod Spans
pub mod Values
