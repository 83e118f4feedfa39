mod KeyLemmas
mod JoinLemmas
mod OrderLemmas
mod SumLemmas
mod OneLemmas
mod TellLemmas
