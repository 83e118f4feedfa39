mod Examples
mod Supported
mod Quiet
mod Raises
