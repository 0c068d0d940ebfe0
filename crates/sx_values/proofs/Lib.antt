pub mod CatalogLaws
pub mod KeyLaws
pub mod ListLaws
pub mod SchemaLaws
pub mod TextLaws
