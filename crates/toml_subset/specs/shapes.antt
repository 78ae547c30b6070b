pub mod DeserText
pub mod Kinds
pub mod ShapeViews
pub mod Shaped
pub mod Shapes
