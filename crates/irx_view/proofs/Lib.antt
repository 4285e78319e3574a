pub mod ModuleLemmas
pub mod ScriptLemmas
pub mod TableLemmas
pub mod TextLemmas
