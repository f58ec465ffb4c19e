-- Form   what a line is by itself, where the fields of a well-formed one stand, and the line of a dependency
pub mod Form
