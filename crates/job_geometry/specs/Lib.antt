pub mod GeometryText
