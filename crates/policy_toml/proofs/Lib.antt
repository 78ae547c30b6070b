mod HelperLemmas
mod ListReading
mod ShapedLemmas
