mod Finding
mod Made
mod Moving
