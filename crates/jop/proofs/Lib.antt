mod Many
mod Silent
