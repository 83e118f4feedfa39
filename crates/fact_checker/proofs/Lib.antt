mod Indexing
mod Finding
mod Priced
mod Answering
mod Concluding
mod Line
mod Sectioning
mod Keys
