-- What a region covers of a block and what it cuts; what can be drawn; the kinds of columns.
pub mod Cut
pub mod Drawable
pub mod Kind
