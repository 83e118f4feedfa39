pub mod TablesLemmas
pub mod MethodsLemmas
