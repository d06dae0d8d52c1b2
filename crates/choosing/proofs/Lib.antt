pub mod SameTexts
