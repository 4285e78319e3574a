pub mod Files
pub mod Building
pub mod UnitParts
pub mod Layouts
pub mod Laws
pub mod Moving
