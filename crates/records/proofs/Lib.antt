-- The laws of tables and of records in words.
pub mod TableLaws
pub mod RecordLaws
