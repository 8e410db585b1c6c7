pub mod Dir
