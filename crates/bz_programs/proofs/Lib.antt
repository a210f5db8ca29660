pub mod BuiltRows
