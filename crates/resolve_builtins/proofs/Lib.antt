pub mod BuiltinLaws
